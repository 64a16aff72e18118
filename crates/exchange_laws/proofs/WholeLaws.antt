-- Whether the whole answer stands, and what was begun, by the stage.
use Rattle.std.proofs.Common.{◌≡◌, ℕ, Bool, true, false, List, [], ◌∷◌, ◌++◌, map, Option, Some, None, refl, sym, ap, ◌∙◌}
use Rattle.std.specs.Prelude.{◌||◌, ◌&&◌, not}
use Rattle.std.proofs.lemmas.Bool.{false≢true}
use Rattle.host_base.specs.declared.request.Request.{Request}
use Rattle.host_base.specs.declared.site.Site.{Site}
use Rattle.host_trace.specs.Account.{has_unsettled}
use Rattle.host_trace.specs.Decider.{Outcome, derived, failed, unanswered}
use Rattle.trace_child.specs.Decided.{outcome_of}
use Rattle.trace_child.specs.Words.{is_filled}
use Rattle.trace_model.specs.Closes.{closes as closes_after}
use Rattle.trace_model.specs.Exchange.{Exchange, has_begun, has_start}
use Rattle.trace_model.specs.Exchanges.{ends_by}
use Rattle.trace_model.specs.Legs.{Leg, run_of}
use Rattle.trace_model.specs.Shuts.{has_closed}
use Rattle.trace_model.specs.Standing.{stands_whole}
use Rattle.exchange_reply.specs.StepRules.{is_continued}
use Rattle.exchange_stage.specs.declared.stage.Stage.TheVariants as At
use Rattle.exchange_laws.specs.Walked.{AtHop, HasChildren, IsLast, child_of_leg}
use Rattle.exchange_laws.specs.Unanswered.{IsUnanswered}
use Rattle.exchange_laws.specs.OfRun.{is_cut_short, leg_held}
use Rattle.exchange_laws.specs.StageIs.{IsWalked}
use Rattle.exchange_laws.specs.Rules.{BegunByStarts, ClosingIsKnown, ContinuesComeFirst, ContinuesStand, EndsAreAnswered, StagesAreWalked, WholeIsAnswered, is_answered}
use Rattle.exchange_laws.proofs.UnansweredLaws.{continued_is, unawaited, unanswered_continues, unanswered_not_whole, unanswered_unbegun}
use Rattle.exchange_laws.proofs.SplitLaws.{at_hop_last, last_leg}
use Rattle.exchange_laws.proofs.StandLaws.{cut_unwhole, on_unwhole}

-- ---- whole

pub whole_is_answered : WholeIsAnswered
whole_is_answered site c e legs continued looked closing more At.Reading is unended = unanswered_not_whole site c e continued is.0.unanswered
whole_is_answered site c e legs continued looked closing more (At.Rejected cause bare) is unended = unanswered_not_whole site c e continued is.0.unanswered
whole_is_answered site c e legs continued looked closing more (At.Interrupted cause) is unended = unanswered_not_whole site c e continued is.0.unanswered
whole_is_answered site c e legs continued looked closing more (At.Refused cause) is unended = unanswered_not_whole site c e continued is.0.unanswered
whole_is_answered site c e legs continued looked closing more (At.Unstarted hop request) is unended = unanswered_not_whole site c e continued is.0.unanswered
whole_is_answered site c e legs continued looked closing more (At.Starting held launch body whole) is unended = unanswered_not_whole site c e continued is.0.unanswered
whole_is_answered site c e legs continued looked closing more (At.Running held) is unended = go (outcome_of (run_of site c e leg) e.items) refl
  where
    leg : Leg
    leg = leg_held held is.0.child

    by_cut : is_cut_short (outcome_of (run_of site c e (leg_held held is.0.child)) e.items) ≡ true → stands_whole site c e ≡ false
    by_cut cut = cut_unwhole site c e legs (leg_held held is.0.child) is.0.asked is.0.told is.0.ticked is.0.stood is.0.untold is.0.last is.0.run cut

    go : (o : Option Outcome) → outcome_of (run_of site c e (leg_held held is.0.child)) e.items ≡ o → stands_whole site c e ≡ false
    go None none = on_unwhole site c e legs (leg_held held is.0.child) is.0.asked is.0.told is.0.ticked is.0.stood is.0.untold is.0.last is.0.run none
    go (Some derived) comes = absurd (unended (leg_held held is.0.child) is.0.last comes)
    go (Some (failed cause)) comes = by_cut (ap is_cut_short comes)
    go (Some unanswered) comes = by_cut (ap is_cut_short comes)
whole_is_answered site c e legs continued looked closing more (At.Finishing text closes) is unended = is.0.finishes.no_sooner unended
whole_is_answered site c e legs continued looked closing more At.Answered is unended = is.whole
whole_is_answered site c e legs continued looked closing more At.Silent is unended =
    cut_unwhole site c e legs is.0.leg is.0.asked is.0.told is.0.ticked is.0.stood is.0.more is.0.last is.0.run is.0.cut

ends_then : (site : Site) (c : ℕ) (e : Exchange) (u w : Bool) → stands_whole site c e ≡ w → ends_by site c e u ≡ (not u && w)
ends_then site c e true w is = refl
ends_then site c e false w is = is

pub ends_are_answered : EndsAreAnswered
ends_are_answered site c e legs continued looked closing more s is unended =
    ends_then site c e (has_unsettled e.items c) (is_answered s) (whole_is_answered site c e legs continued looked closing more s is unended)

-- ---- closing

unclosed_by : (site : Site) (c : ℕ) (e : Exchange) (closing : Bool) → stands_whole site c e ≡ false → e.closed ≡ closing → has_closed site c e ≡ closing
unclosed_by site c e closing unwhole is =
    ap (λ w. e.closed || w && closes_after site c e) unwhole ∙ go e.closed ∙ is
  where
    go : (b : Bool) → (b || false) ≡ b
    go true = refl
    go false = refl

pub closing_is_known : ClosingIsKnown
closing_is_known site c e legs continued looked closing more At.Answered is unended =
    ap (λ b. b || stands_whole site c e && closes_after site c e) is.unclosed ∙ ap (λ w. w && closes_after site c e) is.whole ∙ is.closes_is
closing_is_known site c e legs continued looked closing more At.Reading is unended =
    unclosed_by site c e closing (whole_is_answered site c e legs continued looked closing more At.Reading is unended) is.1
closing_is_known site c e legs continued looked closing more (At.Rejected cause bare) is unended =
    unclosed_by site c e closing (whole_is_answered site c e legs continued looked closing more (At.Rejected cause bare) is unended) is.1
closing_is_known site c e legs continued looked closing more (At.Interrupted cause) is unended =
    unclosed_by site c e closing (whole_is_answered site c e legs continued looked closing more (At.Interrupted cause) is unended) is.1
closing_is_known site c e legs continued looked closing more (At.Refused cause) is unended =
    unclosed_by site c e closing (whole_is_answered site c e legs continued looked closing more (At.Refused cause) is unended) is.1
closing_is_known site c e legs continued looked closing more (At.Unstarted hop request) is unended =
    unclosed_by site c e closing (whole_is_answered site c e legs continued looked closing more (At.Unstarted hop request) is unended) is.1
closing_is_known site c e legs continued looked closing more (At.Starting held launch body whole) is unended =
    unclosed_by site c e closing (whole_is_answered site c e legs continued looked closing more (At.Starting held launch body whole) is unended) is.1
closing_is_known site c e legs continued looked closing more (At.Running held) is unended =
    unclosed_by site c e closing (whole_is_answered site c e legs continued looked closing more (At.Running held) is unended) is.1
closing_is_known site c e legs continued looked closing more (At.Finishing text closes) is unended =
    unclosed_by site c e closing (whole_is_answered site c e legs continued looked closing more (At.Finishing text closes) is unended) is.1
closing_is_known site c e legs continued looked closing more At.Silent is unended =
    unclosed_by site c e closing (whole_is_answered site c e legs continued looked closing more At.Silent is unended) is.1

-- ---- what was begun

filled_map : (legs : List Leg) → is_filled (map child_of_leg legs) ≡ is_filled legs
filled_map [] = refl
filled_map (leg ∷ legs) = refl

or_none : (b : Bool) → (b || false) ≡ b
or_none true = refl
or_none false = refl

begun_by : (site : Site) (c : ℕ) (e : Exchange) (legs : List Leg) (continued : Bool) → IsUnanswered site c e continued → HasChildren c e legs
    → has_begun site c e ≡ is_filled legs
begun_by site c e legs continued u are =
    ap (λ b. has_start c e || b) (unanswered_unbegun site c e continued u) ∙ or_none (has_start c e) ∙ ap (λ ks. is_filled ks) are ∙ filled_map legs

no_legs : (site : Site) (c : ℕ) (e : Exchange) (legs : List Leg) → legs ≡ [] → HasChildren c e [] → HasChildren c e legs
no_legs site c e legs is are = are ∙ ap (map child_of_leg) (sym is)

pub begun_by_starts : BegunByStarts
begun_by_starts site c e legs continued looked closing more At.Reading is so = begun_by site c e legs continued is.0.unanswered (no_legs site c e legs is.0.none is.0.no_child)
begun_by_starts site c e legs continued looked closing more (At.Rejected cause bare) is so =
    begun_by site c e legs continued is.0.unanswered (no_legs site c e legs is.0.none is.0.no_child)
begun_by_starts site c e legs continued looked closing more (At.Interrupted cause) is so =
    begun_by site c e legs continued is.0.unanswered (no_legs site c e legs is.0.none is.0.no_child)
begun_by_starts site c e legs continued looked closing more (At.Refused cause) is so = begun_by site c e legs continued is.0.unanswered is.0.last.children_are
begun_by_starts site c e legs continued looked closing more (At.Unstarted hop request) is so =
    begun_by site c e legs continued is.0.unanswered is.0.at_hop.children_are
begun_by_starts site c e legs continued looked closing more (At.Starting held launch body whole) is so = absurd (false≢true so)
begun_by_starts site c e legs continued looked closing more (At.Running held) is so = absurd (false≢true so)
begun_by_starts site c e legs continued looked closing more (At.Finishing text closes) is so = absurd (false≢true so)
begun_by_starts site c e legs continued looked closing more At.Answered is so = absurd (false≢true so)
begun_by_starts site c e legs continued looked closing more At.Silent is so = absurd (false≢true so)

-- ---- 100 Continue

-- the whole answer stands after it
whole_continues : (site : Site) (c : ℕ) (e : Exchange) → stands_whole site c e ≡ true → is_continued site c e ≡ true
whole_continues site c e whole = go (is_continued site c e) _ whole
  where
    go : (a b : Bool) → (a && b) ≡ true → a ≡ true
    go true b is = refl
    go false b is = is

pub continues_stand : ContinuesStand
continues_stand site c e legs continued looked closing more At.Reading is let_on = unanswered_continues site c e continued is.0.unanswered (let_on refl)
continues_stand site c e legs continued looked closing more (At.Rejected cause bare) is let_on = unanswered_continues site c e continued is.0.unanswered (let_on refl)
continues_stand site c e legs continued looked closing more (At.Interrupted cause) is let_on = unanswered_continues site c e continued is.0.unanswered (let_on refl)
continues_stand site c e legs continued looked closing more (At.Refused cause) is let_on = unanswered_continues site c e continued is.0.unanswered (let_on refl)
continues_stand site c e legs continued looked closing more (At.Unstarted hop request) is let_on = unanswered_continues site c e continued is.0.unanswered (let_on refl)
continues_stand site c e legs continued looked closing more (At.Starting held launch body whole) is let_on = is.0.let_on
continues_stand site c e legs continued looked closing more (At.Running held) is let_on = is.0.run.written_by.continued
continues_stand site c e legs continued looked closing more (At.Finishing text closes) is let_on = is.0.let_on
continues_stand site c e legs continued looked closing more At.Answered is let_on = whole_continues site c e is.whole
continues_stand site c e legs continued looked closing more At.Silent is let_on = is.0.run.written_by.continued

-- ---- the scripts that were started

pub walked_by_last : (site : Site) (c : ℕ) (e : Exchange) (legs : List Leg) (leg : Leg) → IsLast site c e legs leg → IsWalked site c e legs
walked_by_last site c e [] leg l = go l.before l.is
  where
    go : (before : List Leg) → [] ≡ before ++ leg ∷ [] → IsWalked site c e []
    go [] is = absurd (cc)
    go (first ∷ before) is = absurd (cc)
walked_by_last site c e (first ∷ legs) leg l = (leg, l)

pub none_walked : (site : Site) (c : ℕ) (e : Exchange) (legs : List Leg) → legs ≡ [] → HasChildren c e [] → IsWalked site c e legs
none_walked site c e [] is are = are
none_walked site c e (first ∷ legs) is are = absurd (cc)

pub hop_walked : (site : Site) (c : ℕ) (e : Exchange) (legs : List Leg) (left hop : ℕ) (request : Request) → AtHop site c e legs left hop request → IsWalked site c e legs
hop_walked site c e [] left hop request a = a.children_are
hop_walked site c e (first ∷ legs) left hop request a =
    let last = last_leg first legs in (last.leg, at_hop_last site c e (first ∷ legs) left hop request last a)

pub stages_are_walked : StagesAreWalked
stages_are_walked site c e legs continued looked closing more At.Reading is = none_walked site c e legs is.0.none is.0.no_child
stages_are_walked site c e legs continued looked closing more (At.Rejected cause bare) is = none_walked site c e legs is.0.none is.0.no_child
stages_are_walked site c e legs continued looked closing more (At.Interrupted cause) is = none_walked site c e legs is.0.none is.0.no_child
stages_are_walked site c e legs continued looked closing more (At.Refused cause) is = walked_by_last site c e legs is.0.leg is.0.last
stages_are_walked site c e legs continued looked closing more (At.Unstarted hop request) is = hop_walked site c e legs is.0.left hop request is.0.at_hop
stages_are_walked site c e legs continued looked closing more (At.Starting held launch body whole) is =
    hop_walked site c e legs is.0.left held.hop held.request is.0.at_hop
stages_are_walked site c e legs continued looked closing more (At.Running held) is = walked_by_last site c e legs (leg_held held is.0.child) is.0.last
stages_are_walked site c e legs continued looked closing more (At.Finishing text closes) is = is.0.walked
stages_are_walked site c e legs continued looked closing more At.Answered is = is.walked
stages_are_walked site c e legs continued looked closing more At.Silent is = walked_by_last site c e legs is.0.leg is.0.last

-- ---- 100 Continue waits for no answer

pub continues_come_first : ContinuesComeFirst
continues_come_first site c e legs looked closing more At.Reading is so = absurd (false≢true (sym so))
continues_come_first site c e legs looked closing more (At.Rejected cause bare) is so = absurd (false≢true (sym so))
continues_come_first site c e legs looked closing more (At.Interrupted cause) is so = absurd (false≢true (sym so))
continues_come_first site c e legs looked closing more (At.Refused cause) is so = absurd (false≢true (sym so))
continues_come_first site c e legs looked closing more (At.Unstarted hop request) is so = absurd (false≢true (sym so))
continues_come_first site c e legs looked closing more (At.Starting held launch body whole) is so =
    unawaited site c e (continued_is site c e false is.0.unanswered is.0.let_on)
continues_come_first site c e legs looked closing more (At.Running held) is so = unawaited site c e is.0.continues_is
continues_come_first site c e legs looked closing more (At.Finishing text closes) is so = unawaited site c e is.0.continues_is
continues_come_first site c e legs looked closing more At.Answered is so = unawaited site c e is.continues_is
continues_come_first site c e legs looked closing more At.Silent is so = unawaited site c e is.0.continues_is
