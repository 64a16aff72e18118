-- Which steps ask the client: those at whose end this is demanded, where no question is unanswered.
use Rattle.std.specs.Prelude.{ℕ, Bool, not, ◌&&◌, ◌==◌}
use Rattle.host_base.specs.declared.site.Site.{Site}
use Rattle.host_trace.specs.Kinds.{is_want_client}
use Rattle.host_trace.specs.Projections.{client_wanted}
use Rattle.host_trace.specs.Trace.{Step}
use Rattle.trace_child.specs.Words.{given, once}
use Rattle.trace_model.specs.Demands.{must_hear}
use Rattle.trace_model.specs.Steps.{heard_of, goes_on}

abbrev pub wants : Site → ℕ → Step → Bool
wants site c s =
    given (is_want_client c) s.acts == once (must_hear site c (goes_on site c s) && not (client_wanted (heard_of s) c))
