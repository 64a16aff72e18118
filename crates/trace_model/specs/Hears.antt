-- A client that must be heard is asked. (It follows from the rule on which steps ask it.)
use Rattle.std.specs.Prelude.{ℕ, Bool}
use Rattle.host_base.specs.declared.site.Site.{Site}
use Rattle.host_trace.specs.Projections.{client_wanted}
use Rattle.trace_child.specs.Words.{implies}
use Rattle.trace_model.specs.Demands.{must_hear}
use Rattle.trace_model.specs.Exchange.{Exchange, all_of}

abbrev pub hears : Site → ℕ → Exchange → Bool
hears site c e = implies (must_hear site c e) (client_wanted (all_of e) c)
