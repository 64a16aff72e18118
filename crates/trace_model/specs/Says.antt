-- All texts that a talk names were said. (It follows from the rule on talks; a reader looks for it here.)
use Rattle.std.specs.Prelude.{ℕ, Bool, bytes_eq}
use Rattle.std.specs.List.{list_all}
use Rattle.host_base.specs.declared.site.Site.{Site}
use Rattle.host_trace.specs.Projections.{said}
use Rattle.host_trace.specs.Decider.{is_websocket}
use Rattle.trace_child.specs.Words.{implies}
use Rattle.trace_model.specs.Exchange.{Exchange, all_of}
use Rattle.trace_model.specs.Legs.{Leg, run_of}
use Rattle.trace_model.specs.Answer.{legs}
use Rattle.trace_model.specs.Demands.{is_live}
use Rattle.trace_model.specs.Sameness.{are_same}
use Rattle.trace_model.specs.Talk.{texts_due}

abbrev pub has_said_all : Site → ℕ → Exchange → Leg → Bool
has_said_all site c e leg =
    implies (is_websocket leg.kind) (are_same bytes_eq (said e.items c) (texts_due (run_of site c e leg) e.items))

abbrev pub says : Site → ℕ → Exchange → Bool
says site c e = implies (is_live c (all_of e)) (list_all (has_said_all site c e) (legs site c e))
