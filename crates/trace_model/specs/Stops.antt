-- After Stop a connection is shut. (What becomes of its child is said with the rules on children.)
use Rattle.std.specs.Prelude.{ℕ, Bool, not}
use Rattle.host_trace.specs.Projections.{stopped}
use Rattle.trace_child.specs.Words.{implies}
use Rattle.trace_model.specs.Demands.{is_live}
use Rattle.trace_model.specs.Exchange.{Exchange, all_of}

abbrev pub stops : ℕ → Exchange → Bool
stops c e = implies (stopped (all_of e)) (not (is_live c (all_of e)))
