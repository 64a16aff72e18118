-- The rules on a step of a connection.
use Rattle.std.specs.Prelude.{ℕ, Bool, true, not, ◌&&◌, ◌||◌, ◌==◌, nat_eq, List, [], ◌∷◌, Option, Some, None, Result, Ok, Err, if◌then◌else◌, bytes_eq}
use Rattle.std.specs.List.{starts_with}
use Rattle.host_base.specs.declared.cause.Cause.{Cause}
use Rattle.host_base.specs.declared.launch.Launch.{Launch}
use Rattle.host_base.specs.declared.site.Site.{Site}
use Rattle.host_trace.specs.declared.items.Act.{Act}
use Rattle.host_trace.specs.declared.items.Act.TheVariants.{Start}
use Rattle.host_trace.specs.declared.items.Item.{Item}
use Rattle.host_trace.specs.declared.items.Why.TheVariants.{NoMemory}
use Rattle.host_trace.specs.Kinds.{is_want_client}
use Rattle.host_trace.specs.Projections.{client_out, client_wanted, children, shut, shut_for_memory, stopped}
use Rattle.host_trace.specs.Trace.{Step, end_of}
use Rattle.trace_child.specs.Words.{implies, is_filled, given, once}
use Rattle.trace_model.specs.Launches.{is_launch}
use Rattle.trace_model.specs.Shuts.{whys_given, whys_due, are_whys, is_turned_away}
use Rattle.trace_model.specs.Steps.{heard_of}
use Rattle.front_answers.specs.Answer.{text_of_answer}
use Rattle.front_rules.specs.Acts.{each_act}
use Rattle.scgi_model.specs.Request.{reading, launch_of}
use Rattle.scgi_model.specs.Answer.{answer}
use Rattle.scgi_model.specs.Demands.{must_begin, must_hear, why_due}

-- ---- what is written

-- Nothing stands before the step that decides the answer, and from that step's end on the whole answer stands; where
-- memory was wanting, a front of it.
abbrev pub replies : Site → ℕ → List Item → Bool
replies site c L =
    if shut_for_memory L c then starts_with nat_eq (text_of_answer (answer site c L)) (client_out L c)
    else bytes_eq (client_out L c) (text_of_answer (answer site c L))

-- ---- what is started

abbrev pub launch_due : Option (Result Launch Cause) → Option Launch
launch_due (Some (Ok launch)) = Some launch
launch_due (Some (Err cause)) = None
launch_due None = None

-- one child, for the whole request, before Stop and before the connection is shut
abbrev pub is_right_start : Site → ℕ → List Item → Act → Bool
is_right_start site c L (Start k d j hop launch) =
    j == 0 && hop == 0 && is_launch launch (launch_due (launch_of site (reading site c L))) && not (is_filled (children L c))
    && not (stopped L) && not (shut L c)
is_right_start site c L _ = true

abbrev pub launches : Site → ℕ → Step → Bool
launches site c s = each_act (is_right_start site c) s

abbrev pub begins : Site → ℕ → List Item → Bool
begins site c L = implies (must_begin site c L) (is_filled (children L c))

-- ---- its client, and its end

abbrev pub wants : Site → ℕ → Step → Bool
wants site c s = given (is_want_client c) s.acts == once (must_hear site c (end_of s) && not (client_wanted (heard_of s) c))

abbrev pub shuts : Site → ℕ → Step → Bool
shuts site c s =
    let whys = whys_given c s.acts in
    if shut s.before c then are_whys whys []
    else are_whys whys (whys_due (why_due site c (end_of s))) || are_whys whys (NoMemory ∷ []) || is_turned_away s whys
