-- In which order the acts of a step come.
use Rattle.std.specs.Prelude.{ℕ, ◌≡◌, true, List}
use Rattle.host_trace.specs.declared.items.Act.{Act}
use Rattle.host_trace.specs.declared.items.Event.{Event}
use Rattle.host_trace.specs.declared.items.Item.{Item}
use Rattle.host_trace.specs.Trace.{step_of}
use Rattle.front_rules.specs.Acts.{order}
use Rattle.scgi_conn.specs.declared.conn.ScgiConn.{ScgiConn}
use Rattle.scgi_conn.specs.Step.{Steps}

-- By their places, whatever came before.
abbrev pub StepsAreOrdered : Type 0
StepsAreOrdered = (old new : ScgiConn) (ev : Event) (n m : ℕ) (acts : List Act) (L : List Item) → Steps old ev n acts new m → order (step_of L ev acts) ≡ true
