-- When the client is to be heard.
use Rattle.std.proofs.Common.{◌≡◌, ◌==◌, Bool, true, false, ◌&&◌, ◌||◌, not, List, ◌∷◌, ◌++◌, [], Option, Some, None, is_some, option_map, refl, sym, ap, ◌∙◌, subst}
use Rattle.std.proofs.lemmas.Bool.{false≢true}
use Rattle.host_base.specs.declared.limits.Limits.{Limits}
use Rattle.host_trace.specs.Decider.{Outcome as Read, derived, failed, unanswered}
use Rattle.request_reader.specs.Request.{read_request}
use Rattle.trace_child.specs.ChildDemands.{is_all_taken}
use Rattle.trace_child.specs.Decided.{outcome_of}
use Rattle.child_core.specs.Calls.{wants_more}
use Rattle.child_core.specs.Knows.{read}
use Rattle.child_core.specs.View.{View}
use Rattle.child_core.specs.declared.ending.Outcome.{Outcome}
use Rattle.trace_model.specs.Demands.{client_ended, has_room as room_then, is_live as live_then, must_hear}
use Rattle.trace_model.specs.Exchange.{Exchange, all_of, reading, request_bytes}
use Rattle.trace_model.specs.Legs.{Leg as Started, run_of}
use Rattle.trace_model.specs.Readings.{is_whole}
use Rattle.exchange_request.specs.Knows.{is_looked_at, is_taken}
use Rattle.conn_laws.specs.Front.{IsHeard}
use Rattle.exchange_request.proofs.KnowsLaws.{knows_whole}
use Rattle.exchange_stage.specs.declared.stage.Leg.{Leg}
use Rattle.exchange_stage.specs.declared.stage.Stage.{Stage}
use Rattle.exchange_stage.specs.declared.stage.Stage.TheVariants as At
use Rattle.exchange_laws.specs.Asks.{AsksAre}
use Rattle.exchange_laws.specs.OfRun.{leg_held}
use Rattle.exchange_laws.specs.Rules.{Rests, RunRests}
use Rattle.exchange_laws.specs.StageIs.{StageIs}
use Rattle.exchange_laws.specs.Walked.{IsLast}
use Rattle.exchange_laws.proofs.AskLaws.{asks_are_staged}
use Rattle.child_laws.specs.Children.{KnowsChildren}
use Rattle.child_laws.specs.Laws.{TellsLast}
use Rattle.child_laws.proofs.KnowLaws.{tells_last}
use Rattle.conn_laws.proofs.FormLaws.{flags_say}
use Rattle.conn_flags.specs.View.{has_room, is_live}
use Rattle.http_conn.specs.HttpConn.{HttpConn}
use Rattle.http_conn.specs.Kept.{is_reading, flags_of, number_of, site_of}
use Rattle.http_conn.specs.Ready.{outcome_of_run}
use Rattle.http_conn.specs.Reasons.{hears_at, takes_more_of}
use Rattle.http_stage_laws.specs.Staged.{MayAsk}
use Rattle.http_stage_laws.proofs.StagedLaws.{no_last, outcome_told}

and_none : (a b : Bool) → (a && b && false) ≡ false
and_none true true = refl
and_none true false = refl
and_none false b = refl

dead : (a b c : Bool) → a ≡ false → (a && b && c) ≡ false
dead true b c e = absurd (false≢true (sym e))
dead false b c e = refl

module _ (conn : HttpConn) (e : Exchange) (legs : List Started) (may : MayAsk conn e legs) where
  asks : (stage : Stage) → conn.stage ≡ stage → AsksAre (site_of conn) (number_of conn) e legs stage
  asks stage at =
      subst (λ (s : Stage). AsksAre (site_of conn) (number_of conn) e legs s) at
      (asks_are_staged (site_of conn) (number_of conn) e legs conn.continued (is_looked_at conn.request) (conn.closing || conn.closes) may.staged.more conn.stage may.staged.is may.rests may.front.http)

  live_same : live_then (number_of conn) (all_of e) ≡ is_live (flags_of conn)
  live_same = sym (flags_say (flags_of conn) (all_of e) may.flags).live

  room_same : room_then (number_of conn) (all_of e) ≡ has_room (flags_of conn)
  room_same = sym (flags_say (flags_of conn) (all_of e) may.flags).room

  same : (h k : Bool) → h ≡ k → (live_then (number_of conn) (all_of e) && room_then (number_of conn) (all_of e) && h) ≡ (is_live (flags_of conn) && has_room (flags_of conn) && k)
  same h k hk =
      ap (λ (b : Bool). b && room_then (number_of conn) (all_of e) && h) live_same
      ∙ (ap (λ (b : Bool). is_live (flags_of conn) && b && h) room_same ∙ ap (λ (b : Bool). is_live (flags_of conn) && has_room (flags_of conn) && b) hk)

  none : must_hear (site_of conn) (number_of conn) e ≡ false → must_hear (site_of conn) (number_of conn) e ≡ (is_live (flags_of conn) && has_room (flags_of conn) && false)
  none f = f ∙ sym (and_none (is_live (flags_of conn)) (has_room (flags_of conn)))

  taken_is : e.closed ≡ false → is_taken conn.request ≡ is_whole (reading (site_of conn) (number_of conn) e)
  taken_is unclosed = knows_whole conn.request (request_bytes (number_of conn) e) h.taken h.knows may.looked ∙ ap (λ (l : Limits). is_whole (read_request l (request_bytes (number_of conn) e))) may.front.limits
    where
      h : IsHeard conn.request (is_reading conn.stage) (request_bytes (number_of conn) e)
      h = may.front.request may.found unclosed

  module _ (held : Leg) (at : conn.stage ≡ At.Running held) where
    abbrev running : StageIs (site_of conn) (number_of conn) e legs conn.continued (is_looked_at conn.request) (conn.closing || conn.closes) may.staged.more (At.Running held)
    running = subst (λ (s : Stage). StageIs (site_of conn) (number_of conn) e legs conn.continued (is_looked_at conn.request) (conn.closing || conn.closes) may.staged.more s) at may.staged.is

    abbrev leg : Started
    leg = leg_held held running.0.child

    abbrev last : IsLast (site_of conn) (number_of conn) e legs leg
    last = running.0.last

    goes_on : (run : Option View) → conn.run ≡ run → outcome_of_run run ≡ None
        → (held.hop == 0 && not (is_whole (reading (site_of conn) (number_of conn) e)) && is_all_taken e.items leg.child) ≡ (held.hop == 0 && not (is_taken conn.request) && takes_more_of run)
    goes_on None is none_yet = absurd (no_last last.before leg (sym (subst (λ (r : Option View). KnowsChildren (site_of conn) (number_of conn) e false may.next legs r) is may.children).runs.0 ∙ last.is))
    goes_on (Some v) is none_yet =
        let known : KnowsChildren (site_of conn) (number_of conn) e false may.next (last.before ++ leg ∷ []) (Some v) =
        subst (λ (ls : List Started). KnowsChildren (site_of conn) (number_of conn) e false may.next ls (Some v)) last.is
        (subst (λ (r : Option View). KnowsChildren (site_of conn) (number_of conn) e false may.next legs r) is may.children) in
        let t : TellsLast (site_of conn) (number_of conn) e last.before leg v = tells_last (site_of conn) (number_of conn) e may.next last.before leg v known in
        let none_at : true ≡ not (is_some v.outcome) = ap (λ (o : Option Outcome). not (is_some o)) (sym none_yet) in
        let takes : is_all_taken e.items leg.child ≡ takes_more_of (Some v) = sym t.taken ∙ ap (λ (b : Bool). b && wants_more v) none_at in
        ap (λ (b : Bool). held.hop == 0 && not b && is_all_taken e.items leg.child) (sym (taken_is running.0.unclosed))
        ∙ ap (λ (b : Bool). held.hop == 0 && not (is_taken conn.request) && b) takes

    by_rest : (o : Option Read) → RunRests (number_of conn) e may.staged.more held o → is_some o ≡ true → live_then (number_of conn) (all_of e) ≡ false
    by_rest None r some = absurd (false≢true some)
    by_rest (Some derived) r some = absurd r
    by_rest (Some unanswered) r some = r
    by_rest (Some (failed cause)) r some = r

    some_read : (o : Option Outcome) → is_some o ≡ true → is_some (option_map read o) ≡ true
    some_read None e = e
    some_read (Some o) e = refl

    rests_at : Rests (site_of conn) (number_of conn) e legs (is_looked_at conn.request) may.staged.more (At.Running held)
    rests_at = subst (λ (s : Stage). Rests (site_of conn) (number_of conn) e legs (is_looked_at conn.request) may.staged.more s) at may.rests

    heard : (o : Option Outcome) → outcome_of_run conn.run ≡ o
        → must_hear (site_of conn) (number_of conn) e ≡ (is_live (flags_of conn) && has_room (flags_of conn) && hears_at conn (At.Running held))
    heard None is =
        (asks (At.Running held) at).runs held leg refl last
        (outcome_told (site_of conn) (number_of conn) e may.next legs conn.run may.children leg last ∙ ap (λ (p : Option Outcome). option_map read p) is)
        ∙ same (held.hop == 0 && not (is_whole (reading (site_of conn) (number_of conn) e)) && is_all_taken e.items leg.child) (hears_at conn (At.Running held)) (goes_on conn.run refl is)
    heard (Some o) is =
        let read_is : outcome_of (run_of (site_of conn) (number_of conn) e leg) e.items ≡ Some (read o) =
        outcome_told (site_of conn) (number_of conn) e may.next legs conn.run may.children leg last ∙ ap (λ (p : Option Outcome). option_map read p) is in
        let over : live_then (number_of conn) (all_of e) ≡ false =
        by_rest (Some (read o)) (subst (λ (p : Option Read). RunRests (number_of conn) e may.staged.more held p) read_is (rests_at.1 leg last)) refl in
        (asks (At.Running held) at).shut over ∙ sym (dead (is_live (flags_of conn)) (has_room (flags_of conn)) (hears_at conn (At.Running held)) (sym live_same ∙ over))

  by_stage : (stage : Stage) → conn.stage ≡ stage
      → must_hear (site_of conn) (number_of conn) e ≡ (is_live (flags_of conn) && has_room (flags_of conn) && hears_at conn stage)
  by_stage At.Reading at =
      (asks At.Reading at).reads refl
      ∙ same (not (client_ended (number_of conn) (all_of e))) (not (flags_of conn).ended) (ap (λ (b : Bool). not b) (sym (flags_say (flags_of conn) (all_of e) may.flags).ended))
  by_stage (At.Running held) at = heard held at (outcome_of_run conn.run) refl
  by_stage (At.Rejected cause bare) at = none ((asks (At.Rejected cause bare) at).others refl)
  by_stage (At.Interrupted cause) at = none ((asks (At.Interrupted cause) at).others refl)
  by_stage (At.Refused cause) at = none ((asks (At.Refused cause) at).others refl)
  by_stage (At.Unstarted hop request) at = none ((asks (At.Unstarted hop request) at).others refl)
  by_stage (At.Starting held launch body whole) at = none ((asks (At.Starting held launch body whole) at).others refl)
  by_stage (At.Finishing text closes) at = none ((asks (At.Finishing text closes) at).others refl)
  by_stage At.Answered at = none ((asks At.Answered at).others refl)
  by_stage At.Silent at = none ((asks At.Silent at).others refl)

pub asks_due : (conn : HttpConn) (e : Exchange) (legs : List Started) → MayAsk conn e legs
    → must_hear (site_of conn) (number_of conn) e ≡ (is_live (flags_of conn) && has_room (flags_of conn) && hears_at conn conn.stage)
asks_due conn e legs may = by_stage conn e legs may conn.stage refl
