-- When and why a connection is shut.
use Rattle.std.specs.Prelude.{ℕ, Bool, false, not, ◌&&◌, ◌||◌, ◌==◌, if◌then◌else◌, List, [], ◌∷◌, Option, Some, None, is_some}
use Rattle.std.specs.List.{list_any, flat_map}
use Rattle.host_base.specs.declared.cause.Cause.{Cause}
use Rattle.host_base.specs.declared.site.Site.{Site}
use Rattle.host_trace.specs.declared.items.Act.{Act}
use Rattle.host_trace.specs.declared.items.Act.TheVariants.{Shut}
use Rattle.host_trace.specs.declared.items.Item.{Item}
use Rattle.host_trace.specs.declared.items.Item.TheVariants.{In}
use Rattle.host_trace.specs.declared.items.Why.{Why}
use Rattle.host_trace.specs.declared.items.Why.TheVariants.{Done, Gone, Cut, Idle, Full, Stopped, NoMemory}
use Rattle.host_trace.specs.Kinds.{is_accepted, is_client_gone, is_no_room, is_ws_bad}
use Rattle.host_trace.specs.Projections.{shut, stopped}
use Rattle.host_trace.specs.Trace.{Step}
use Rattle.request_reader.specs.Request.{is_begun}
use Rattle.trace_model.specs.Exchange.{Exchange, all_of, request_bytes, has_begun}
use Rattle.trace_model.specs.Legs.{run_of}
use Rattle.trace_model.specs.Answer.{Stage, welcomed, Answer, cut_off, answer, stage, legs}
use Rattle.trace_model.specs.Breaks.{idled}
use Rattle.trace_model.specs.Closes.{closes}
use Rattle.trace_model.specs.Demands.{client_ended}
use Rattle.trace_model.specs.Standing.{stands_whole}
use Rattle.trace_model.specs.Steps.{goes_on}
use Rattle.trace_model.specs.Talk.{talk_end}
use Rattle.trace_model.specs.Sameness.{are_same, is_same_why}

-- ---- the reasons

abbrev pub is_gone : ℕ → List Item → Bool
is_gone c L = list_any (λ x. is_client_gone c x || is_ws_bad c x) L

-- the cause for which a reply can't be finished
abbrev pub cut_cause : Answer → Option Cause
cut_cause (cut_off cause) = cause
cut_cause _ = None

-- an answer that closes stands whole: that of the exchange that goes on, or of an earlier one
abbrev pub has_closed : Site → ℕ → Exchange → Bool
has_closed site c e = e.closed || stands_whole site c e && closes site c e

-- the client ended its input, no request is begun, and none is answered
abbrev pub is_client_done : Site → ℕ → Exchange → Bool
is_client_done site c e = client_ended c (all_of e) && not (is_begun (request_bytes c e)) && not (has_begun site c e)

abbrev pub is_talk_over_at : Site → ℕ → Exchange → Stage → Bool
is_talk_over_at site c e (welcomed value request mapped) =
    list_any (λ leg. is_some (talk_end (run_of site c e leg) e.items)) (legs site c e)
is_talk_over_at site c e _ = false

abbrev pub is_done : Site → ℕ → Exchange → Bool
is_done site c e = has_closed site c e || is_client_done site c e || is_talk_over_at site c e (stage site c e)

abbrev pub why_of_cut : Option Cause → Option Why
why_of_cut None = None
why_of_cut (Some cause) = Some (Cut cause)

abbrev pub or_why : Option Why → Option Why → Option Why
or_why None other = other
or_why (Some why) other = Some why

-- the first of the reasons that there are for a connection that was accepted; on traces that fit, no two of them come at
-- once
abbrev pub why_due : Site → ℕ → Exchange → Option Why
why_due site c e =
    if not (list_any is_accepted (all_of e)) then None
    else (if stopped (all_of e) then Some Stopped
    else (if is_gone c (all_of e) then Some Gone
    else (if list_any (is_no_room c) (all_of e) then Some NoMemory
    else or_why (why_of_cut (cut_cause (answer site c e)))
    (if is_some (idled site c e) then Some Idle else (if is_done site c e then Some Done else None)))))

-- ---- the rule

abbrev pub whys_of : ℕ → Act → List Why
whys_of c (Shut d why) = if c == d then why ∷ [] else []
whys_of c _ = []

abbrev pub whys_given : ℕ → List Act → List Why
whys_given c acts = flat_map (whys_of c) acts

abbrev pub whys_due : Option Why → List Why
whys_due None = []
whys_due (Some why) = why ∷ []

abbrev pub are_whys : List Why → List Why → Bool
are_whys given due = are_same is_same_why given due

-- as many connections are held as may be: whether that is so is told between the connections
abbrev pub is_turned_away : Step → List Why → Bool
is_turned_away s given = is_accepted (In s.event) && are_whys given (Full ∷ [])

-- It is shut once, in the first step at whose end there is a reason, and for that reason; or it is turned away; or
-- memory was wanting for it.
abbrev pub shuts : Site → ℕ → Step → Bool
shuts site c s =
    let given = whys_given c s.acts in
    if shut s.before c then are_whys given []
    else are_whys given (whys_due (why_due site c (goes_on site c s))) || are_whys given (NoMemory ∷ []) || is_turned_away s given
