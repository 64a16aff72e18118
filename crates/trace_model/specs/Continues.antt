-- 100 Continue stands where it is due (RFC 9110 10.1.1).
use Rattle.std.specs.Prelude.{ℕ, Bool, nat_eq}
use Rattle.std.specs.List.{starts_with}
use Rattle.host_base.specs.declared.site.Site.{Site}
use Rattle.trace_child.specs.Words.{implies}
use Rattle.trace_model.specs.Demands.{must_continue}
use Rattle.trace_model.specs.Exchange.{Exchange, written, continue_text}

abbrev pub continues_then : Site → ℕ → Exchange → Bool
continues_then site c e = implies (must_continue site c e) (starts_with nat_eq (written c e) continue_text)
