-- The rules on a talk, in the words of its leg.
use Rattle.std.proofs.Common.{◌≡◌, ℕ, Bool, true, false, List, [], ◌∷◌, Option, Some, None, refl, sym, ap, ◌∙◌}
use Rattle.std.specs.Prelude.{◌&&◌, ◌||◌, not, if◌then◌else◌, bytes_eq, is_some}
use Rattle.std.specs.List.{list_all, list_any}
use Rattle.std.proofs.lemmas.Bool.{and_from, and_parts}
use Rattle.host_base.specs.declared.site.ScriptKind.TheVariants.{WebSocket}
use Rattle.host_base.specs.declared.site.Site.{Site}
use Rattle.host_trace.specs.declared.items.Item.{Item}
use Rattle.host_trace.specs.declared.items.Why.{Why}
use Rattle.host_trace.specs.declared.items.Why.TheVariants.{Done, Gone, Idle, NoMemory, Stopped}
use Rattle.host_trace.specs.Decider.{is_websocket}
use Rattle.host_trace.specs.Kinds.{is_accepted, is_no_room}
use Rattle.host_trace.specs.Projections.{said, shut_for_memory, stopped}
use Rattle.request_reader.specs.Request.{is_begun}
use Rattle.trace_child.specs.ChildDemands.{takes_text}
use Rattle.trace_child.specs.Run.{Run as TracedRun}
use Rattle.trace_model.specs.Answer.{answer, legs as legs_of, stage}
use Rattle.trace_model.specs.Breaks.{idled}
use Rattle.trace_model.specs.Closes.{closes}
use Rattle.trace_model.specs.Demands.{client_ended, has_room, hears_body, hears_request, hears_text, is_live}
use Rattle.trace_model.specs.Exchange.{Exchange, all_of, reading, request_bytes, up_to}
use Rattle.trace_model.specs.Legs.{Leg, leg_of, offered_at, run_of}
use Rattle.trace_model.specs.Readings.{is_more}
use Rattle.trace_model.specs.Sameness.{are_same}
use Rattle.trace_model.specs.Says.{has_said_all}
use Rattle.trace_model.specs.Shuts.{cut_cause, has_closed, is_client_done, is_done, is_gone, is_talk_over_at, or_why, why_of_cut}
use Rattle.trace_model.specs.Standing.{stands_whole}
use Rattle.trace_model.specs.Talk.{codes_sent, code_due, input_due, pieces_fed, talk_end, texts_due}
use Rattle.trace_model.specs.Talks.{is_right_talk, is_talked, is_talked_in_part, talks_by}
use Rattle.child_core.specs.Calls.{wants_text}
use Rattle.child_core.specs.View.{View as Run}
use Rattle.talk_core.specs.Knows.{run_of as talk_run}
use Rattle.talk_core.specs.Laws.{AreAlike, offered_else}
use Rattle.talk_core.specs.View.{given_up}
use Rattle.talk_core.proofs.AlikeLaws.{inputs_are_alike}
use Rattle.talk_core.proofs.PartLaws.{ends_are_talked, losses_are_known, over_is_exact, parts_are_talked, texts_are_wanted}
use Rattle.child_core.proofs.ActLaws.{and_false}
use Rattle.talk_laws.specs.Rules.{LossesKeepTalks, RestsKeepTalks, TalksSayDemands}
use Rattle.talk_laws.specs.TalkIs.{IsSpoken}
use Rattle.talk_laws.proofs.AcceptLaws.{accepted_answer, accepted_are_welcomed}
use Rattle.talk_laws.proofs.GreetedLaws.{greeted_begun, greeted_unfinished}
use Rattle.talk_laws.proofs.RestLaws.{no_feed}
use Rattle.talk_laws.proofs.ListLaws.{or_false}
use Rattle.talk_laws.proofs.RuleLaws.{implied, stage_now, unasked}

-- ---- the leg

module _ (site : Site) (c : ℕ) (e : Exchange) (legs : List Leg) (continued : Bool) (v : Run) (s : IsSpoken site c e legs continued v.number) (kind : v.kind ≡ WebSocket) where
  abbrev leg : Leg
  leg = leg_of 0 WebSocket s.request v.number

  pub only_leg : legs_of site c e ≡ leg ∷ []
  only_leg = (accepted_are_welcomed site c e s.value s.request s.mapped s.greeted.accepted).one v.number s.at_first

  -- the run by whose texts the talk is known is the leg's, but for what there is for its input
  pub run_same : offered_else (talk_run c site.limits v) (offered_at site c (up_to e []) 0) ≡ run_of site c e leg
  run_same = ap (λ k. record (run_of site c e leg) { kind = k }) kind

  pub alike_now : AreAlike (talk_run c site.limits v) (offered_at site c (up_to e []) 0) e.items
  alike_now = inputs_are_alike (talk_run c site.limits v) (offered_at site c (up_to e []) 0) e.items (ap is_websocket kind) (λ before x later is begun. refl) s.whole_then

  -- what holds of the only leg holds of all
  pub all_legs : (test : Leg → Bool) → test leg ≡ true → list_all test (legs_of site c e) ≡ true
  all_legs test is = ap (list_all test) only_leg ∙ and_from (test leg) true is refl

  pub any_leg : (test : Leg → Bool) → list_any test (legs_of site c e) ≡ test leg
  any_leg test = ap (list_any test) only_leg ∙ or_false (test leg)

  pub talked_by_leg : is_talked (talk_run c site.limits v) e.items ≡ true → is_talked (run_of site c e leg) e.items ≡ true
  talked_by_leg is = ap (λ r. is_talked r e.items) (sym run_same) ∙ alike_now.talked ∙ is

  pub part_by_leg : is_talked_in_part (talk_run c site.limits v) e.items ≡ true → is_talked_in_part (run_of site c e leg) e.items ≡ true
  part_by_leg is = ap (λ r. is_talked_in_part r e.items) (sym run_same) ∙ alike_now.in_part ∙ is

by_memory : (run : TracedRun) (items : List Item) (wanting : Bool) → is_talked run items ≡ true → is_talked_in_part run items ≡ true → talks_by run items wanting ≡ true
by_memory run items true whole part = part
by_memory run items false whole part = whole

all_said : (run : TracedRun) (items : List Item) → is_talked run items ≡ true → are_same bytes_eq (said items run.conn) (texts_due run items) ≡ true
all_said run items is =
    (and_parts _ _ (and_parts (are_same bytes_eq (said items run.conn) (texts_due run items) && are_same bytes_eq (pieces_fed items run.child) (input_due run items))
    (bytes_eq (codes_sent items run.conn) (code_due run items)) is).0).0

pub rests_keep_talks : RestsKeepTalks
rests_keep_talks site c e legs continued t v is rest =
    let l : Leg = leg_of 0 WebSocket is.spoken.request v.number in
    let whole = talked_by_leg site c e legs continued v is.spoken is.kind
    (ends_are_talked false c site.limits t v e.items is.stands rest.texts rest.code (no_feed rest.may v rest.rests)) in
    let part = part_by_leg site c e legs continued v is.spoken is.kind
    (parts_are_talked (talk_run c site.limits v) (given_up t) e.items (losses_are_known c site.limits t v e.items is.stands.talk)) in
    record {
      talks_then = all_legs site c e legs continued v is.spoken is.kind (is_right_talk site c e) (by_memory (run_of site c e l) e.items (shut_for_memory (all_of e) c) whole part);
      says_then =
          implied (is_live c (all_of e)) _
          (all_legs site c e legs continued v is.spoken is.kind (has_said_all site c e) (all_said (run_of site c e l) e.items whole));
    }

pub losses_keep_talks : LossesKeepTalks
losses_keep_talks site c e legs continued early held is dead lost =
    let l : Leg = leg_of 0 WebSocket is.spoken.request is.view.number in
    let part = part_by_leg site c e legs continued is.view is.spoken is.kind (parts_are_talked (talk_run c site.limits is.view) is.talk e.items is.part) in
    record {
      talks_then =
          all_legs site c e legs continued is.view is.spoken is.kind (is_right_talk site c e) (ap (talks_by (run_of site c e l) e.items) lost ∙ part);
      says_then = unasked (is_live c (all_of e)) (list_all (has_said_all site c e) (legs_of site c e)) dead;
    }

-- ---- when the client is asked, and why the connection is shut

none_or : (a b : Bool) → a ≡ false → (a || false || b) ≡ b
none_or a b none = ap (λ d. d || false || b) none

last_why : (o : Option Why) (idle over : Bool) → o ≡ None → idle ≡ false
    → or_why o (if idle then Some Idle else (if over then Some Done else None)) ≡ (if over then Some Done else None)
last_why o idle over none calm = rw (none, calm) refl

pub talks_say_demands : TalksSayDemands
talks_say_demands site c e legs continued t v is =
    let s = is.spoken in
    let l : Leg = leg_of 0 WebSocket s.request v.number in
    let at = stage_now site c e continued s.value s.request s.mapped s.greeted in
    let begun = greeted_begun site c e continued s.value s.request s.mapped s.greeted in
    let no_request : hears_request site c e ≡ false = ap (λ b. not b && is_more (reading site c e) && not (client_ended c (all_of e))) begun in
    let text : hears_text site c e ≡ wants_text v =
    ap (λ b. b && list_any (λ m. takes_text (run_of site c e m) e.items) (legs_of site c e)) s.upgraded_is
    ∙ any_leg site c e legs continued v s is.kind (λ m. takes_text (run_of site c e m) e.items)
    ∙ sym (texts_are_wanted false c site.limits t v e.items is.stands) in
    let over : is_talk_over_at site c e (stage site c e) ≡ t.over =
    ap (is_talk_over_at site c e) at ∙ any_leg site c e legs continued v s is.kind (λ m. is_some (talk_end (run_of site c e m) e.items))
    ∙ ap (λ r. is_some (talk_end r e.items)) (sym (run_same site c e legs continued v s is.kind))
    ∙ ap is_some (alike_now site c e legs continued v s is.kind).ended_by ∙ sym (over_is_exact false c site.limits t v e.items is.stands) in
    let unclosed : has_closed site c e ≡ false =
    ap (λ b. b || stands_whole site c e && closes site c e) s.greeted.unclosed
    ∙ ap (λ b. b && closes site c e) (greeted_unfinished site c e continued s.value s.request s.mapped s.greeted) in
    let waits : is_client_done site c e ≡ false =
    ap (λ b. client_ended c (all_of e) && not (is_begun (request_bytes c e)) && not b) begun ∙ and_false _ in
    let done : is_done site c e ≡ t.over =
    ap (λ b. b || is_client_done site c e || is_talk_over_at site c e (stage site c e)) unclosed
    ∙ ap (λ b. false || b || is_talk_over_at site c e (stage site c e)) waits ∙ over in
    record {
      hears_then =
          ap (λ b. is_live c (all_of e) && has_room c (all_of e) && (hears_request site c e || b || hears_text site c e)) (ap (hears_body site c e) at)
          ∙ ap (λ b. is_live c (all_of e) && has_room c (all_of e) && b) (none_or (hears_request site c e) (hears_text site c e) no_request ∙ text);
      why_then =
          ap (λ w. if not (list_any is_accepted (all_of e)) then None
          else (if stopped (all_of e) then Some Stopped
          else (if is_gone c (all_of e) then Some Gone
          else (if list_any (is_no_room c) (all_of e) then Some NoMemory else w))))
          (last_why (why_of_cut (cut_cause (answer site c e))) (is_some (idled site c e)) (is_done site c e)
          (ap (λ a. why_of_cut (cut_cause a)) (accepted_answer site c e s.value s.request s.mapped s.greeted.accepted)) (ap is_some s.calm)
          ∙ ap (λ (b : Bool). if b then Some Done else None) done);
    }
