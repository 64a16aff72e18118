-- Once a run is decided its input is ended; by another item than the end of its output, it was killed or has exited, and
-- after its exit its output is ended too. (The acts of a step follow from these demands; a reader looks for them here.)
use Rattle.std.specs.Prelude.{Bool, ◌&&◌, ◌||◌, List}
use Rattle.host_trace.specs.declared.items.Item.{Item}
use Rattle.host_trace.specs.Projections.{started, exited, killed, input_ended, output_ended}
use Rattle.trace_child.specs.Words.{implies}
use Rattle.trace_child.specs.Run.{Run}
use Rattle.trace_child.specs.Decided.{is_decided, is_by_other}

abbrev pub handles_decided : Run → List Item → Bool
handles_decided run items =
    implies (started items run.child)
    (implies (is_decided run items) (input_ended items run.child)
    && implies (is_by_other run items) (killed items run.child || exited items run.child)
    && implies (is_by_other run items && exited items run.child) (output_ended items run.child))
