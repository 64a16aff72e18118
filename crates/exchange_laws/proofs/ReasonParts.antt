-- Why the connection is to be shut, by where the model's exchange stands.
use Rattle.std.proofs.Common.{◌≡◌, ◌≤◌, ℕ, zero, suc, Bool, true, false, List, [], ◌∷◌, Option, Some, None, Result, Ok, Err, refl, sym, ap, ◌∙◌}
use Rattle.std.specs.Prelude.{◌||◌, ◌&&◌, not, is_some}
use Rattle.std.specs.List.{list_any}
use Rattle.std.proofs.lemmas.Bool.{false≢true, and_right}
use Rattle.host_base.specs.declared.cause.Cause.{Cause}
use Rattle.host_base.specs.declared.cause.Cause.TheVariants.{RedirectLoop}
use Rattle.host_base.specs.declared.request.Request.{Request}
use Rattle.host_base.specs.declared.site.Mapped.{Mapped}
use Rattle.host_base.specs.declared.site.ScriptKind.{ScriptKind}
use Rattle.host_base.specs.declared.site.ScriptKind.TheVariants.{Cgi, Nph, WebSocket}
use Rattle.host_base.specs.declared.site.Site.{Site}
use Rattle.head_reader.specs.declared.step.HeadStep.TheVariants as Step
use Rattle.host_trace.specs.declared.items.Item.{Item}
use Rattle.host_trace.specs.Projections.{children, children_of}
use Rattle.request_reader.specs.Request.{Reading, Whole, More, Bad, is_begun}
use Rattle.request_reader.proofs.ReadingLaws.{reading_at}
use Rattle.request_reader.proofs.RequestLaws.{begun_at}
use Rattle.ws_handshake.specs.Handshake.{handshake}
use Rattle.trace_model.specs.Answer.{Answer, Stage as Model, Walk, answered, broken_off, interrupted, refused, rejected, running, unready, unstarted, welcomed, answer, answer_at, answer_of_failure, at_handshake, at_hop, at_place, at_script, at_start, cut_off, faulted, given_raw, no_answer, replied, request_of_hop, stage, stopped_at, talking, undecided, walk_by, walk_by_break, walk_from, legs as legs_of}
use Rattle.trace_model.specs.Breaks.{broken}
use Rattle.trace_model.specs.Demands.{client_ended}
use Rattle.trace_model.specs.Exchange.{Exchange, all_of, final, has_begun, reading, request_bytes}
use Rattle.trace_model.specs.Legs.{Leg, run_of}
use Rattle.trace_model.specs.Places.{kind_of, origins_of, place_of}
use Rattle.trace_model.specs.Readings.{if_length, startable}
use Rattle.trace_model.specs.Shuts.{cut_cause, has_closed, is_client_done, is_done, is_talk_over_at}
use Rattle.trace_model.specs.Standing.{is_whole_final, spells_answer, stands_whole}
use Rattle.trace_model.specs.Talk.{talk_end}
use Rattle.conn_laws.proofs.EndLaws.{not_whole}
use Rattle.exchange_reply.specs.StepRules.{is_continued}
use Rattle.exchange_laws.proofs.HopStageLaws.{OnWay}
use Rattle.exchange_laws.proofs.LegsLaws.{no_children_of}

-- ---- nothing is cut off

-- the cause for which a reply can't be finished at a stage
abbrev pub cut_at : Model → Option Cause
cut_at s = cut_cause (answer_at s)

module _ (site : Site) (c : ℕ) (e : Exchange) where
  pub uncut_hop : (hop : ℕ) (request : Request) (next : List ℕ → Walk) → children_of e.items c e.number hop ≡ [] → cut_at (at_hop site c e hop request next).stage ≡ None
  uncut_hop hop request next none = by_place (place_of site request)
    where
      by_handshake : (mapped : Mapped) (h : Result (List ℕ) Cause) → cut_at (at_handshake c e hop request mapped h).stage ≡ None
      by_handshake mapped (Err cause) = refl
      by_handshake mapped (Ok value) = refl

      by_kind : (mapped : Mapped) (kind : ScriptKind) → cut_at (at_script site c e hop request mapped next kind).stage ≡ None
      by_kind mapped WebSocket = by_handshake mapped (handshake request (origins_of site mapped))
      by_kind mapped Cgi = ap (λ ks. cut_at (at_start site c e hop request mapped Cgi next ks).stage) none
      by_kind mapped Nph = ap (λ ks. cut_at (at_start site c e hop request mapped Nph next ks).stage) none

      by_place : (p : Result Mapped Cause) → cut_at (at_place site c e hop request next p).stage ≡ None
      by_place (Err cause) = refl
      by_place (Ok mapped) = by_kind mapped (kind_of site mapped)

  pub uncut_from : (left hop : ℕ) (request : Request) → children_of e.items c e.number hop ≡ [] → cut_at (walk_from site c e left hop request).stage ≡ None
  uncut_from zero hop request none = uncut_hop hop request (λ location. stopped_at (refused RedirectLoop)) none
  uncut_from (suc left) hop request none =
      uncut_hop hop request (λ location. walk_from site c e left (suc hop) (request_of_hop request location)) none

  pub childless_uncut : children e.items c ≡ [] → cut_cause (answer site c e) ≡ None
  childless_uncut none = by_reading (reading site c e)
    where
      by_break : (request : Option Request) (o : Option (List Item)) → cut_at (walk_by_break site c e o request).stage ≡ None
      by_break request (Some front) = refl
      by_break None None = refl
      by_break (Some request) None = uncut_from site.limits.redirects 0 request (no_children_of e.items c e.number 0 none)

      by_reading : (r : Reading) → cut_at (walk_by site c e r).stage ≡ None
      by_reading (Bad cause bare) = refl
      by_reading (Whole request used due) = by_break (Some request) (broken site c e)
      by_reading (More request due) = by_break (if_length request) (broken site c e)

  pub way_uncut : (legs : List Leg) (s : Model) → OnWay legs s → cut_at s ≡ None
  way_uncut legs (refused cause) w = refl
  way_uncut legs (unstarted hop request mapped) w = refl
  way_uncut legs (welcomed value request mapped) w = refl
  way_uncut legs (rejected cause) w = absurd w
  way_uncut legs (interrupted cause) w = absurd w
  way_uncut legs unready w = absurd w
  way_uncut legs (running leg) w = absurd w
  way_uncut legs (broken_off leg cause stood) w = absurd w
  way_uncut legs (answered leg output) w = absurd w

  pub whole_uncut : stands_whole site c e ≡ true → cut_cause (answer site c e) ≡ None
  whole_uncut whole = go (answer site c e) refl
    where
      go : (a : Answer) → answer site c e ≡ a → cut_cause a ≡ None
      go (cut_off cause) is = absurd (false≢true (sym ((not_whole site c e).cut cause is) ∙ whole))
      go (replied reply) is = refl
      go (given_raw output) is = refl
      go (faulted cause) is = refl
      go (talking value) is = refl
      go no_answer is = refl
      go undecided is = refl

  pub none_cut : (some : Bool) → cut_cause (answer_of_failure None some) ≡ None
  none_cut true = refl
  none_cut false = refl

-- ---- no talk is over

pub childless_talk : (site : Site) (c : ℕ) (e : Exchange) → legs_of site c e ≡ [] → (s : Model) → is_talk_over_at site c e s ≡ false
childless_talk site c e none (welcomed value request mapped) = ap (list_any (λ leg. is_some (talk_end (run_of site c e leg) e.items))) none
childless_talk site c e none (refused cause) = refl
childless_talk site c e none (unstarted hop request mapped) = refl
childless_talk site c e none (rejected cause) = refl
childless_talk site c e none (interrupted cause) = refl
childless_talk site c e none unready = refl
childless_talk site c e none (running leg) = refl
childless_talk site c e none (broken_off leg cause stood) = refl
childless_talk site c e none (answered leg output) = refl

pub untalked_at : (site : Site) (c : ℕ) (e : Exchange) (s : Model) → ((value : List ℕ) (request : Request) (mapped : Mapped) → s ≡ welcomed value request mapped → ⊥)
    → is_talk_over_at site c e s ≡ false
untalked_at site c e (welcomed value request mapped) never = absurd (never value request mapped refl)
untalked_at site c e (refused cause) never = refl
untalked_at site c e (unstarted hop request mapped) never = refl
untalked_at site c e (rejected cause) never = refl
untalked_at site c e (interrupted cause) never = refl
untalked_at site c e unready never = refl
untalked_at site c e (running leg) never = refl
untalked_at site c e (broken_off leg cause stood) never = refl
untalked_at site c e (answered leg output) never = refl

pub whole_talk : (site : Site) (c : ℕ) (e : Exchange) → stands_whole site c e ≡ true → is_talk_over_at site c e (stage site c e) ≡ false
whole_talk site c e whole =
    untalked_at site c e (stage site c e) (λ value request mapped at. absurd (false≢true (sym (unspelled value request mapped at) ∙ whole)))
  where
    unspelled : (value : List ℕ) (request : Request) (mapped : Mapped) → stage site c e ≡ welcomed value request mapped → stands_whole site c e ≡ false
    unspelled value request mapped at = and_right (is_continued site c e) (is_whole_final site c e (final site c e)) (go (final site c e))
      where
        go : (bytes : List ℕ) → is_whole_final site c e bytes ≡ false
        go [] = refl
        go (byte ∷ bytes) = ap (λ s. spells_answer site c e (byte ∷ bytes) (answer_at s)) at

pub way_talk : (site : Site) (c : ℕ) (e : Exchange) (leg : Leg) (legs : List Leg) (s : Model) → OnWay (leg ∷ legs) s → is_talk_over_at site c e s ≡ false
way_talk site c e leg legs (welcomed value request mapped) w = absurd (cc)
way_talk site c e leg legs (refused cause) w = refl
way_talk site c e leg legs (unstarted hop request mapped) w = refl
way_talk site c e leg legs (rejected cause) w = refl
way_talk site c e leg legs (interrupted cause) w = refl
way_talk site c e leg legs unready w = refl
way_talk site c e leg legs (running leg') w = refl
way_talk site c e leg legs (broken_off leg' cause stood) w = refl
way_talk site c e leg legs (answered leg' output) w = refl

-- ---- the client is done

pub or_false_last : (a b : Bool) → (a || b || false) ≡ (a || b)
or_false_last true b = refl
or_false_last false true = refl
or_false_last false false = refl

pub done_by : (site : Site) (c : ℕ) (e : Exchange) (closing client : Bool) → has_closed site c e ≡ closing → is_client_done site c e ≡ client → is_talk_over_at site c e (stage site c e) ≡ false
    → is_done site c e ≡ (closing || client)
done_by site c e closing client closed done talk =
    ap (λ b. b || is_client_done site c e || is_talk_over_at site c e (stage site c e)) closed
    ∙ ap (λ b. closing || b || is_talk_over_at site c e (stage site c e)) done
    ∙ ap (λ b. closing || client || b) talk ∙ or_false_last closing client

pub no_more : (a b : Bool) → (a && false && b) ≡ false
no_more true b = refl
no_more false b = refl

-- of an exchange that has begun he isn't
pub begun_client : (site : Site) (c : ℕ) (e : Exchange) → has_begun site c e ≡ true → is_client_done site c e ≡ (client_ended c (all_of e) && false && not (is_begun (request_bytes c e)))
begun_client site c e begun =
    ap (λ b. client_ended c (all_of e) && not (is_begun (request_bytes c e)) && not b) begun
    ∙ and_right (client_ended c (all_of e) && not (is_begun (request_bytes c e))) false refl
    ∙ sym (no_more (client_ended c (all_of e)) (not (is_begun (request_bytes c e))))

pub heard_client : (site : Site) (c : ℕ) (e : Exchange) → is_begun (request_bytes c e) ≡ true → is_client_done site c e ≡ (client_ended c (all_of e) && false && not (is_begun (request_bytes c e)))
heard_client site c e begun =
    ap (λ b. client_ended c (all_of e) && not b && not (has_begun site c e)) begun
    ∙ no_more (client_ended c (all_of e)) (not (has_begun site c e))
    ∙ sym (no_more (client_ended c (all_of e)) (not (is_begun (request_bytes c e))))

pub reading_client : (a b : Bool) → (a && b && true) ≡ (a && true && b)
reading_client true true = refl
reading_client true false = refl
reading_client false b = refl

-- a request that a script may be started for has begun
pub startable_begun : (site : Site) (c : ℕ) (e : Exchange) (request : Request) → 2 ≤ site.limits.head → startable (reading site c e) ≡ Some request → is_begun (request_bytes c e) ≡ true
startable_begun site c e request two start =
    sym (begun_at site.limits (request_bytes c e) two (λ more.
    let none : Some request ≡ None = sym start ∙ ap startable (reading_at site.limits (request_bytes c e) Step.More more) in
    absurd (cc)))
