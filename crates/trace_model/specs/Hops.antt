-- Where a run led to another hop and is settled, that hop's Start stands. (Where there is no such hop but a cause, the
-- rule on answers says that its reply stands.)
use Rattle.std.specs.Prelude.{ℕ, Bool, not}
use Rattle.host_base.specs.declared.site.Site.{Site}
use Rattle.trace_child.specs.Words.{implies}
use Rattle.trace_model.specs.Answer.{stage}
use Rattle.trace_model.specs.Demands.{must_hop, is_unstarted}
use Rattle.trace_model.specs.Exchange.{Exchange}

abbrev pub hops : Site → ℕ → Exchange → Bool
hops site c e = implies (must_hop site c e) (not (is_unstarted (stage site c e)))
