-- What waits for its turn is lacked where that has come.
use Rattle.std.proofs.Common.{◌≡◌, ◌⊎◌, ℕ, Bool, true, false, ◌&&◌, ◌||◌, not, List, [], ◌∷◌, refl, sym, ap, ◌∙◌, subst, inl, inr}
use Rattle.std.proofs.lemmas.Bool.{and_from, false≢true, or_left}
use Rattle.host_base.specs.declared.cause.Cause.{Cause}
use Rattle.host_base.specs.declared.request.Request.{Request}
use Rattle.host_base.specs.declared.site.Site.{Site}
use Rattle.trace_child.specs.Words.{is_filled}
use Rattle.trace_model.specs.Answer.{Stage, answer_at, answered, broken_off, interrupted, is_final, legs as legs_of, refused, rejected, running, stage, unready, unstarted, welcomed}
use Rattle.trace_model.specs.Demands.{is_live, is_unstarted, may_go_on, must_answer, must_hop, must_stream, waits_its_turn}
use Rattle.trace_model.specs.Exchange.{Exchange, all_of, has_final}
use Rattle.trace_model.specs.Legs.{Leg}
use Rattle.trace_model.specs.Standing.{stands_whole}
use Rattle.trace_model.specs.TakesNoMemory.{lacks_hop, lacks_reply}
use Rattle.conn_laws.specs.Hops.{SameLegs}
use Rattle.exchange_laws.specs.StageIs.{IsRefused, IsWalked}
use Rattle.exchange_laws.specs.Walked.{AtHop}
use Rattle.exchange_laws.proofs.HopStageLaws.{OnWay, at_hop_way}
use Rattle.exchange_laws.proofs.LegsLaws.{legs_are}
use Rattle.exchange_laws.proofs.RuleLaws.{refused_way}

same_filled : (xs ys : List Leg) → SameLegs xs ys → is_filled xs ≡ true → is_filled ys ≡ true
same_filled [] ys s some = absurd (false≢true some)
same_filled (x ∷ xs) [] s some = absurd s
same_filled (x ∷ xs) (y ∷ ys) s some = refl

module _ (site : Site) (c : ℕ) (e : Exchange) (live : is_live c (all_of e) ≡ true) (may : may_go_on c e ≡ true) (unwhole : stands_whole site c e ≡ false) where
  refused_lacks : (cause : Cause) → stage site c e ≡ refused cause → lacks_reply site c e ≡ true
  refused_lacks cause at =
      or_left (must_answer site c e && not (stands_whole site c e)) (must_stream site c e && not (has_final site c e))
      (and_from (must_answer site c e) (not (stands_whole site c e))
      (and_from (is_live c (all_of e) && is_final (answer_at (stage site c e))) (not (waits_its_turn (stage site c e)) || may_go_on c e)
      (and_from (is_live c (all_of e)) (is_final (answer_at (stage site c e))) live (ap (λ (t : Stage). is_final (answer_at t)) at))
      (ap (λ (t : Stage). not (waits_its_turn t) || may_go_on c e) at ∙ may)) (ap not unwhole))

  unstarted_lacks : is_filled (legs_of site c e) ≡ true → is_unstarted (stage site c e) ≡ true → lacks_hop site c e ≡ true
  unstarted_lacks some at =
      and_from (must_hop site c e) (is_unstarted (stage site c e))
      (and_from (is_live c (all_of e) && is_filled (legs_of site c e)) (may_go_on c e) (and_from (is_live c (all_of e)) (is_filled (legs_of site c e)) live some) may) at

  module _ (legs : List Leg) (some : is_filled legs ≡ true) (walked : IsWalked site c e legs) where
    legs_filled : is_filled (legs_of site c e) ≡ true
    legs_filled = same_filled legs (legs_of site c e) ((legs_are site c e legs).walked walked) some

    by_way : (t : Stage) → stage site c e ≡ t → OnWay legs t → (lacks_reply site c e ≡ true) ⊎ (lacks_hop site c e ≡ true)
    by_way (refused cause) at way = inl (refused_lacks cause at)
    by_way (unstarted hop request mapped) at way = inr (unstarted_lacks legs_filled (ap is_unstarted at))
    by_way (welcomed value request mapped) at way = absurd (false≢true (sym (ap is_filled way) ∙ some))
    by_way (rejected cause) at way = absurd way
    by_way (interrupted cause) at way = absurd way
    by_way unready at way = absurd way
    by_way (running leg) at way = absurd way
    by_way (broken_off leg cause stood) at way = absurd way
    by_way (answered leg output) at way = absurd way

    -- a reply, or the next hop
    pub hop_lacks : (left hop : ℕ) (request : Request) → AtHop site c e legs left hop request → (lacks_reply site c e ≡ true) ⊎ (lacks_hop site c e ≡ true)
    hop_lacks left hop request a = by_way (stage site c e) refl (at_hop_way site c e legs left hop request a)

  pub loop_lacks : (legs : List Leg) (continued : Bool) (cause : Cause) → IsRefused site c e legs continued cause → lacks_reply site c e ≡ true
  loop_lacks legs continued cause is = refused_lacks cause (refused_way site c e legs continued cause is)
