-- After Stop each started child was killed or has exited.
use Rattle.std.specs.Prelude.{Bool, ◌&&◌, ◌||◌, List}
use Rattle.host_trace.specs.declared.items.Item.{Item}
use Rattle.host_trace.specs.Projections.{started, exited, killed, stopped}
use Rattle.trace_child.specs.Words.{implies}
use Rattle.trace_child.specs.Run.{Run}

abbrev pub stops_child : Run → List Item → Bool
stops_child run items = implies (stopped items && started items run.child) (killed items run.child || exited items run.child)
