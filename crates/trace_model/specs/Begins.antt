-- An exchange that can begin has begun.
use Rattle.std.specs.Prelude.{ℕ, Bool}
use Rattle.host_base.specs.declared.site.Site.{Site}
use Rattle.trace_child.specs.Words.{implies}
use Rattle.trace_model.specs.Answer.{stage}
use Rattle.trace_model.specs.Demands.{must_begin, begins_at}
use Rattle.trace_model.specs.Exchange.{Exchange}

abbrev pub begins : Site → ℕ → Exchange → Bool
begins site c e = implies (must_begin site c e) (begins_at site c e (stage site c e))
