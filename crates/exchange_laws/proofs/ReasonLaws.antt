-- Why the connection is to be shut, by the stage.
use Rattle.std.proofs.Common.{◌≡◌, ◌≤◌, ◌⊎◌, ℕ, Bool, true, false, List, [], ◌∷◌, Option, Some, None, refl, sym, ap, subst, ◌∙◌, inl, inr}
use Rattle.std.specs.Prelude.{◌||◌, ◌&&◌, not}
use Rattle.std.proofs.lemmas.Bool.{false≢true, or_left}
use Rattle.host_base.specs.declared.cause.Cause.{Cause}
use Rattle.host_base.specs.declared.request.Request.{Request}
use Rattle.host_base.specs.declared.site.Site.{Site}
use Rattle.host_trace.specs.Decider.{Outcome, derived, failed, unanswered}
use Rattle.reply_stream.specs.declared.asked.Asked.{Asked}
use Rattle.reply_stream.specs.Writing.{Stood}
use Rattle.request_reader.specs.Request.{is_begun}
use Rattle.trace_child.specs.Decided.{outcome_of}
use Rattle.trace_child.specs.Words.{is_filled}
use Rattle.trace_model.specs.Answer.{answer, answer_of_failure, stage}
use Rattle.trace_model.specs.Demands.{client_ended}
use Rattle.trace_model.specs.Exchange.{Exchange, all_of, final, has_begun, has_final, has_start, reading, request_bytes}
use Rattle.trace_model.specs.Legs.{Leg, run_of}
use Rattle.trace_model.specs.Readings.{startable}
use Rattle.trace_model.specs.Shuts.{cut_cause, has_closed, is_done, is_talk_over_at}
use Rattle.exchange_stage.specs.declared.stage.Stage.{Stage}
use Rattle.exchange_stage.specs.declared.stage.Stage.TheVariants as At
use Rattle.exchange_laws.specs.Walked.{HasChildren, IsLast}
use Rattle.exchange_laws.specs.OfRun.{IsOfRun, is_cut_short, leg_held}
use Rattle.exchange_laws.specs.Moves.{Comes, GoesOn}
use Rattle.exchange_laws.specs.Rules.{IsUnended, Rests, RunRests}
use Rattle.exchange_laws.specs.Asks.{ReasonsAreStaged}
use Rattle.exchange_laws.proofs.AskLaws.{whole_begun}
use Rattle.exchange_laws.proofs.HopStageLaws.{OnWay, at_hop_way}
use Rattle.exchange_laws.proofs.LegsLaws.{no_legs}
use Rattle.exchange_laws.proofs.RuleLaws.{refused_way}
use Rattle.exchange_laws.proofs.StandLaws.{failed_as, goes_on, unanswered_as}
use Rattle.exchange_laws.proofs.WalkLaws.{last-start}
use Rattle.exchange_laws.proofs.WholeLaws.{begun_by_starts, closing_is_known}
use Rattle.exchange_laws.proofs.ReasonParts.{begun_client, childless_talk, childless_uncut, cut_at, done_by, heard_client, none_cut, reading_client, startable_begun, way_talk, way_uncut, whole_talk, whole_uncut}

-- ---- all stages

module _ (site : Site) (c : ℕ) (e : Exchange) (legs : List Leg) (leg : Leg) (l : IsLast site c e legs leg) where
  last_begun : has_begun site c e ≡ true
  last_begun = or_left (has_start c e) (has_final site c e) (last-start site c e legs leg l)

unended_at_rest : (site : Site) (c : ℕ) (e : Exchange) (legs : List Leg) (looked : Bool) (more : List ℕ) (s : Stage) → Rests site c e legs looked more s → IsUnended site c e legs s
unended_at_rest site c e legs looked more (At.Running held) rest = λ leg last comes. subst (λ o. RunRests c e more held o) comes (rest.1 leg last)
unended_at_rest site c e legs looked more (At.Finishing text closes) rest = absurd rest
unended_at_rest site c e legs looked more _ rest = tt

module _ (site : Site) (c : ℕ) (e : Exchange) (legs : List Leg) (leg : Leg) (asked : Asked) (told : List ℕ) (ticked : Bool)
    (stood : Stood) (more : List ℕ) (l : IsLast site c e legs leg) (r : IsOfRun site c e leg asked told ticked stood more) where
  run_uncut : outcome_of (run_of site c e leg) e.items ≡ None → cut_cause (answer site c e) ≡ None
  run_uncut none = ap cut_at (goes_on site c e legs leg asked told ticked stood more l r none)

  unanswered_uncut : outcome_of (run_of site c e leg) e.items ≡ Some unanswered → cut_cause (answer site c e) ≡ None
  unanswered_uncut comes =
      ap cut_at (unanswered_as site c e legs leg asked told ticked stood more l r comes) ∙ none_cut site c e (is_filled (final site c e))

  failed_cut : (cause : Cause) → outcome_of (run_of site c e leg) e.items ≡ Some (failed cause) → is_filled (final site c e) ≡ true → cut_cause (answer site c e) ≡ Some cause
  failed_cut cause comes some =
      ap cut_at (failed_as site c e legs leg asked told ticked stood more l r cause comes) ∙ ap (λ b. cut_cause (answer_of_failure (Some cause) b)) some

  run_talk : (o : Option Outcome) → outcome_of (run_of site c e leg) e.items ≡ o → (o ≡ Some derived → ⊥) → is_talk_over_at site c e (stage site c e) ≡ false
  run_talk None none never = ap (is_talk_over_at site c e) (goes_on site c e legs leg asked told ticked stood more l r none)
  run_talk (Some derived) comes never = absurd (never refl)
  run_talk (Some (failed cause)) comes never = ap (is_talk_over_at site c e) (failed_as site c e legs leg asked told ticked stood more l r cause comes)
  run_talk (Some unanswered) comes never = ap (is_talk_over_at site c e) (unanswered_as site c e legs leg asked told ticked stood more l r comes)

-- where a script was started
begun_reasons : (site : Site) (c : ℕ) (e : Exchange) (closing : Bool) → has_closed site c e ≡ closing → has_begun site c e ≡ true
    → is_talk_over_at site c e (stage site c e) ≡ false
    → is_done site c e ≡ (closing || client_ended c (all_of e) && false && not (is_begun (request_bytes c e)))
begun_reasons site c e closing closed begun talk =
    done_by site c e closing (client_ended c (all_of e) && false && not (is_begun (request_bytes c e))) closed (begun_client site c e begun) talk

unstarted_reasons : (site : Site) (c : ℕ) (e : Exchange) (legs : List Leg) (closing : Bool) (request : Request) → 2 ≤ site.limits.head → HasChildren c e legs
    → has_closed site c e ≡ closing → startable (reading site c e) ≡ Some request → has_begun site c e ≡ is_filled legs → OnWay legs (stage site c e)
    → is_done site c e ≡ (closing || client_ended c (all_of e) && false && not (is_begun (request_bytes c e)))
unstarted_reasons site c e [] closing request two are closed start begun way =
    done_by site c e closing (client_ended c (all_of e) && false && not (is_begun (request_bytes c e))) closed
    (heard_client site c e (startable_begun site c e request two start))
    (childless_talk site c e (no_legs site c e are) (stage site c e))
unstarted_reasons site c e (leg ∷ legs) closing request two are closed start begun way =
    begun_reasons site c e closing closed begun (way_talk site c e leg legs (stage site c e) way)

not_derived : (o : Option Outcome) → is_cut_short o ≡ true → o ≡ Some derived → ⊥
not_derived o cut is = absurd (false≢true (sym (ap (λ x. is_cut_short x) is) ∙ cut))

pub reasons_are_staged : ReasonsAreStaged
reasons_are_staged site c e legs continued looked closing more At.Reading two is rest =
    let closed = closing_is_known site c e legs continued looked closing more At.Reading is tt in
    let unbegun : has_begun site c e ≡ false = begun_by_starts site c e legs continued looked closing more At.Reading is refl ∙ ap is_filled is.0.none in
    record {
      uncut = λ calm. childless_uncut site c e is.0.no_child;
      cut = λ at cause comes. absurd (cc);
      done =
          done_by site c e closing (client_ended c (all_of e) && true && not (is_begun (request_bytes c e))) closed
          (ap (λ b. client_ended c (all_of e) && not (is_begun (request_bytes c e)) && not b) unbegun
          ∙ reading_client (client_ended c (all_of e)) (not (is_begun (request_bytes c e))))
          (childless_talk site c e (no_legs site c e is.0.no_child) (stage site c e));
    }
reasons_are_staged site c e legs continued looked closing more (At.Refused cause) two is rest =
    let closed = closing_is_known site c e legs continued looked closing more (At.Refused cause) is tt in
    let at = refused_way site c e legs continued cause is.0 in
    record {
      uncut = λ calm. ap cut_at at;
      cut = λ silent other comes. absurd (cc);
      done = begun_reasons site c e closing closed (last_begun site c e legs is.0.leg is.0.last) (ap (is_talk_over_at site c e) at);
    }
reasons_are_staged site c e legs continued looked closing more (At.Unstarted hop request) two is rest =
    let closed = closing_is_known site c e legs continued looked closing more (At.Unstarted hop request) is tt in
    let way = at_hop_way site c e legs is.0.left hop request is.0.at_hop in
    record {
      uncut = λ calm. way_uncut site c e legs (stage site c e) way;
      cut = λ silent cause comes. absurd (cc);
      done =
          unstarted_reasons site c e legs closing is.0.at_hop.reached.reaches.first two is.0.at_hop.children_are closed is.0.at_hop.reached.reaches.start
          (begun_by_starts site c e legs continued looked closing more (At.Unstarted hop request) is refl) way;
    }
reasons_are_staged site c e legs continued looked closing more (At.Running held) two is rest =
    let unended = unended_at_rest site c e legs looked more (At.Running held) rest in
    let leg : Leg = leg_held held is.0.child in
    let closed = closing_is_known site c e legs continued looked closing more (At.Running held) is unended in
    record {
      uncut = λ calm. by_calm calm;
      cut = λ silent cause comes. absurd (cc);
      done =
          begun_reasons site c e closing closed (last_begun site c e legs leg is.0.last)
          (run_talk site c e legs leg is.0.asked is.0.told is.0.ticked is.0.stood is.0.untold is.0.last is.0.run (outcome_of (run_of site c e leg) e.items) refl
          (λ comes. unended leg is.0.last comes));
    }
  where
    by_calm : GoesOn site c e legs ⊎ Comes site c e legs unanswered → cut_cause (answer site c e) ≡ None
    by_calm (inl goes) =
        run_uncut site c e legs (leg_held held is.0.child) is.0.asked is.0.told is.0.ticked is.0.stood is.0.untold is.0.last is.0.run (goes (leg_held held is.0.child) is.0.last)
    by_calm (inr comes) =
        unanswered_uncut site c e legs (leg_held held is.0.child) is.0.asked is.0.told is.0.ticked is.0.stood is.0.untold is.0.last is.0.run
        (comes (leg_held held is.0.child) is.0.last)
reasons_are_staged site c e legs continued looked closing more At.Answered two is rest =
    let closed = closing_is_known site c e legs continued looked closing more At.Answered is tt in
    record {
      uncut = λ calm. whole_uncut site c e is.whole;
      cut = λ silent cause comes. absurd (cc);
      done = begun_reasons site c e closing closed (whole_begun site c e is.whole) (whole_talk site c e is.whole);
    }
reasons_are_staged site c e legs continued looked closing more At.Silent two is rest =
    let closed = closing_is_known site c e legs continued looked closing more At.Silent is tt in
    record {
      uncut = λ comes.
          unanswered_uncut site c e legs is.0.leg is.0.asked is.0.told is.0.ticked is.0.stood is.0.more is.0.last is.0.run (comes is.0.leg is.0.last);
      cut = λ at cause comes.
          failed_cut site c e legs is.0.leg is.0.asked is.0.told is.0.ticked is.0.stood is.0.more is.0.last is.0.run cause (comes is.0.leg is.0.last)
          (is.0.begun cause (comes is.0.leg is.0.last));
      done =
          begun_reasons site c e closing closed (last_begun site c e legs is.0.leg is.0.last)
          (run_talk site c e legs is.0.leg is.0.asked is.0.told is.0.ticked is.0.stood is.0.more is.0.last is.0.run (outcome_of (run_of site c e is.0.leg) e.items) refl
          (not_derived (outcome_of (run_of site c e is.0.leg) e.items) is.0.cut));
    }
reasons_are_staged site c e legs continued looked closing more _ two is rest = absurd rest
