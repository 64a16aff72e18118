-- When the client is to be asked, by the stage.
use Rattle.std.proofs.Common.{◌≡◌, ℕ, Bool, true, false, List, [], ◌∷◌, None, refl, sym, ap, subst, ◌∙◌}
use Rattle.std.specs.Prelude.{◌||◌, ◌&&◌, ◌==◌, not}
use Rattle.std.specs.List.{list_any}
use Rattle.std.proofs.lemmas.Bool.{false≢true, and_left, or_left, or_right}
use Rattle.host_base.specs.declared.site.Site.{Site}
use Rattle.host_trace.specs.Projections.{upgraded}
use Rattle.request_reader.specs.Request.{Reading, Whole, More, Bad}
use Rattle.trace_child.specs.ChildDemands.{is_all_taken, takes_text}
use Rattle.trace_child.specs.Decided.{outcome_of}
use Rattle.trace_child.specs.Words.{is_filled}
use Rattle.trace_model.specs.Answer.{Stage as Model, answered, broken_off, interrupted, refused, rejected, running, unready, unstarted, welcomed, answer_at, undecided, stage, legs as legs_of}
use Rattle.trace_model.specs.Demands.{client_ended, has_room, hears_body, hears_request, hears_text, is_live, may_go_on, must_hear}
use Rattle.trace_model.specs.Exchange.{Exchange, all_of, final, has_begun, has_final, has_start, reading}
use Rattle.trace_model.specs.Legs.{Leg, run_of}
use Rattle.trace_model.specs.Readings.{is_more, is_whole}
use Rattle.trace_model.specs.Standing.{stands_whole}
use Rattle.conn_laws.proofs.EndLaws.{not_whole}
use Rattle.exchange_stage.specs.declared.stage.Stage.{Stage}
use Rattle.exchange_stage.specs.declared.stage.Stage.TheVariants as At
use Rattle.exchange_laws.specs.Walked.{HasChildren, IsLast}
use Rattle.exchange_laws.specs.Unanswered.{IsUnready}
use Rattle.exchange_laws.specs.StageIs.{IsReading, StageIs}
use Rattle.exchange_laws.specs.Asks.{AsksAreStaged, may_ask}
use Rattle.exchange_laws.specs.Rules.{Rests}
use Rattle.exchange_laws.proofs.HopStageLaws.{OnWay, at_hop_way, room_alone}
use Rattle.exchange_laws.proofs.RestLaws.{unready_stage}
use Rattle.exchange_laws.proofs.RuleLaws.{refused_way}
use Rattle.exchange_laws.proofs.RunLaws.{last_runs}
use Rattle.exchange_laws.proofs.WalkLaws.{last-start}
use Rattle.exchange_laws.proofs.WholeLaws.{begun_by_starts}
use Rattle.conn_laws.proofs.StartLaws.{outcomes_tell}

-- ---- what is asked

or_none : (b : Bool) → (b || false) ≡ b
or_none true = refl
or_none false = refl

-- no WebSocket
untalked : (site : Site) (c : ℕ) (e : Exchange) → upgraded e.items c ≡ false → hears_text site c e ≡ false
untalked site c e http = and_left (upgraded e.items c) (list_any (λ leg. takes_text (run_of site c e leg) e.items) (legs_of site c e)) http

-- by what of the request and of the body is to be heard
pub hears_by : (site : Site) (c : ℕ) (e : Exchange) (request body : Bool) → upgraded e.items c ≡ false → hears_request site c e ≡ request → hears_body site c e (stage site c e) ≡ body
    → must_hear site c e ≡ (is_live c (all_of e) && has_room c (all_of e) && (request || body))
hears_by site c e request body http first second =
    ap (λ b. is_live c (all_of e) && has_room c (all_of e) && (b || hears_body site c e (stage site c e) || hears_text site c e)) first
    ∙ ap (λ b. is_live c (all_of e) && has_room c (all_of e) && (request || b || hears_text site c e)) second
    ∙ ap (λ b. is_live c (all_of e) && has_room c (all_of e) && (request || body || b)) (untalked site c e http)
    ∙ ap (λ b. is_live c (all_of e) && has_room c (all_of e) && b) (or_none (request || body))

pub shut_asks : (site : Site) (c : ℕ) (e : Exchange) → is_live c (all_of e) ≡ false → must_hear site c e ≡ false
shut_asks site c e dead = ap (λ b. b && has_room c (all_of e) && (hears_request site c e || hears_body site c e (stage site c e) || hears_text site c e)) dead

begun_hears : (site : Site) (c : ℕ) (e : Exchange) → has_begun site c e ≡ true → hears_request site c e ≡ false
begun_hears site c e begun = ap (λ b. not b && is_more (reading site c e) && not (client_ended c (all_of e))) begun

none_heard : (live room : Bool) → (live && room && (false || false)) ≡ false
none_heard true true = refl
none_heard true false = refl
none_heard false room = refl

pub nothing_asked : (site : Site) (c : ℕ) (e : Exchange) → upgraded e.items c ≡ false → has_begun site c e ≡ true → hears_body site c e (stage site c e) ≡ false → must_hear site c e ≡ false
nothing_asked site c e http begun body =
    hears_by site c e false false http (begun_hears site c e begun) body ∙ none_heard (is_live c (all_of e)) (has_room c (all_of e))

-- ---- while the request is read

unready_more : (r : Reading) → IsUnready r → is_more r ≡ true
unready_more (Whole request used due) is = absurd is
unready_more (More request due) is = refl
unready_more (Bad cause bare) is = absurd is

reads_now : (site : Site) (c : ℕ) (e : Exchange) (legs : List Leg) (continued looked : Bool) → IsReading site c e legs continued looked → has_begun site c e ≡ false → looked ≡ true
    → upgraded e.items c ≡ false → must_hear site c e ≡ (is_live c (all_of e) && has_room c (all_of e) && not (client_ended c (all_of e)))
reads_now site c e legs continued looked is unbegun seen http =
    hears_by site c e (not (client_ended c (all_of e))) false http
    (ap (λ b. not b && is_more (reading site c e) && not (client_ended c (all_of e))) unbegun
    ∙ ap (λ b. true && b && not (client_ended c (all_of e))) (unready_more (reading site c e) (is.unready seen)))
    (ap (hears_body site c e) (unready_stage site c e is.unbroken (is.unready seen)))
    ∙ ap (λ b. is_live c (all_of e) && has_room c (all_of e) && b) (or_none (not (client_ended c (all_of e))))

reads_then : (site : Site) (c : ℕ) (e : Exchange) (legs : List Leg) (continued looked : Bool) → IsReading site c e legs continued looked → has_begun site c e ≡ false
    → (is_live c (all_of e) ≡ true → looked ≡ true) → upgraded e.items c ≡ false
    → must_hear site c e ≡ (is_live c (all_of e) && has_room c (all_of e) && not (client_ended c (all_of e)))
reads_then site c e legs continued looked is unbegun seen http = go (is_live c (all_of e)) refl
  where
    go : (b : Bool) → is_live c (all_of e) ≡ b → must_hear site c e ≡ (is_live c (all_of e) && has_room c (all_of e) && not (client_ended c (all_of e)))
    go true live = reads_now site c e legs continued looked is unbegun (seen live) http
    go false dead = shut_asks site c e dead ∙ sym (ap (λ b. b && has_room c (all_of e) && not (client_ended c (all_of e))) dead)

-- ---- elsewhere

way_body : (site : Site) (c : ℕ) (e : Exchange) (legs : List Leg) (s : Model) → OnWay legs s → hears_body site c e s ≡ false
way_body site c e legs (refused cause) w = refl
way_body site c e legs (unstarted hop request mapped) w = refl
way_body site c e legs (welcomed value request mapped) w = refl
way_body site c e legs (rejected cause) w = absurd w
way_body site c e legs (interrupted cause) w = absurd w
way_body site c e legs unready w = absurd w
way_body site c e legs (running leg) w = absurd w
way_body site c e legs (broken_off leg cause stood) w = absurd w
way_body site c e legs (answered leg output) w = absurd w

-- on the way to a script
way_asks : (site : Site) (c : ℕ) (e : Exchange) (legs : List Leg) → HasChildren c e legs → has_begun site c e ≡ is_filled legs
    → (is_live c (all_of e) && may_go_on c e) ≡ false → upgraded e.items c ≡ false → OnWay legs (stage site c e) → must_hear site c e ≡ false
way_asks site c e [] are begun waits http way =
    and_left (is_live c (all_of e) && has_room c (all_of e)) (hears_request site c e || hears_body site c e (stage site c e) || hears_text site c e)
    (ap (λ b. is_live c (all_of e) && b) (sym (room_alone c e are)) ∙ waits)
way_asks site c e (leg ∷ legs) are begun waits http way = nothing_asked site c e http begun (way_body site c e (leg ∷ legs) (stage site c e) way)

decided_body : (site : Site) (c : ℕ) (e : Exchange) (s : Model) → (answer_at s ≡ undecided → ⊥) → hears_body site c e s ≡ false
decided_body site c e (running leg) some = absurd (some refl)
decided_body site c e (refused cause) some = refl
decided_body site c e (unstarted hop request mapped) some = refl
decided_body site c e (welcomed value request mapped) some = refl
decided_body site c e (rejected cause) some = refl
decided_body site c e (interrupted cause) some = refl
decided_body site c e unready some = refl
decided_body site c e (broken_off leg cause stood) some = refl
decided_body site c e (answered leg output) some = refl

pub whole_begun : (site : Site) (c : ℕ) (e : Exchange) → stands_whole site c e ≡ true → has_begun site c e ≡ true
whole_begun site c e whole = or_right (has_start c e) (has_final site c e) (go (final site c e) refl)
  where
    go : (bytes : List ℕ) → final site c e ≡ bytes → has_final site c e ≡ true
    go [] none = absurd (false≢true (sym ((not_whole site c e).unwritten none) ∙ whole))
    go (byte ∷ bytes) some = ap is_filled some

whole_asks : (site : Site) (c : ℕ) (e : Exchange) → stands_whole site c e ≡ true → upgraded e.items c ≡ false → must_hear site c e ≡ false
whole_asks site c e whole http =
    nothing_asked site c e http (whole_begun site c e whole)
    (decided_body site c e (stage site c e) (λ none. absurd (false≢true (sym ((not_whole site c e).waits none) ∙ whole))))

runs_now : (site : Site) (c : ℕ) (e : Exchange) (legs : List Leg) (leg : Leg) → IsLast site c e legs leg → outcome_of (run_of site c e leg) e.items ≡ None → upgraded e.items c ≡ false
    → must_hear site c e ≡ (is_live c (all_of e) && has_room c (all_of e) && (leg.hop == 0 && not (is_whole (reading site c e)) && is_all_taken e.items leg.child))
runs_now site c e legs leg last none http =
    hears_by site c e false (leg.hop == 0 && not (is_whole (reading site c e)) && is_all_taken e.items leg.child) http
    (begun_hears site c e (or_left (has_start c e) (has_final site c e) (last-start site c e legs leg last)))
    (ap (hears_body site c e) (last_runs site c e legs leg last ((outcomes_tell site c e leg).none none)))

-- ---- all stages

not_ask : {X : Type 0} → true ≡ false → X
not_ask is = absurd (false≢true (sym is))

others_asked : (site : Site) (c : ℕ) (e : Exchange) (legs : List Leg) (continued looked closing : Bool) (more : List ℕ) (s : Stage)
    → StageIs site c e legs continued looked closing more s → Rests site c e legs looked more s → upgraded e.items c ≡ false → may_ask s ≡ false → must_hear site c e ≡ false
others_asked site c e legs continued looked closing more At.Reading is rest http other = not_ask other
others_asked site c e legs continued looked closing more (At.Refused cause) is rest http other =
    way_asks site c e legs is.0.last.children_are (begun_by_starts site c e legs continued looked closing more (At.Refused cause) is refl) rest http
    (subst (λ s. OnWay legs s) (sym (refused_way site c e legs continued cause is.0)) tt)
others_asked site c e legs continued looked closing more (At.Unstarted hop request) is rest http other =
    way_asks site c e legs is.0.at_hop.children_are (begun_by_starts site c e legs continued looked closing more (At.Unstarted hop request) is refl) rest http
    (at_hop_way site c e legs is.0.left hop request is.0.at_hop)
others_asked site c e legs continued looked closing more (At.Running held) is rest http other = not_ask other
others_asked site c e legs continued looked closing more At.Answered is rest http other = whole_asks site c e is.whole http
others_asked site c e legs continued looked closing more At.Silent is rest http other = shut_asks site c e rest
others_asked site c e legs continued looked closing more _ is rest http other = absurd rest

pub asks_are_staged : AsksAreStaged
asks_are_staged site c e legs continued looked closing more s is rest http = record {
  reads = λ at.
      let now : StageIs site c e legs continued looked closing more At.Reading = subst (λ t. StageIs site c e legs continued looked closing more t) at is in
      reads_then site c e legs continued looked now.0
      (begun_by_starts site c e legs continued looked closing more At.Reading now refl ∙ ap is_filled now.0.none)
      (subst (λ t. Rests site c e legs looked more t) at rest) http;
  runs = λ held leg at last none. runs_now site c e legs leg last none http;
  others = λ other. others_asked site c e legs continued looked closing more s is rest http other;
  shut = λ dead. shut_asks site c e dead;
}
