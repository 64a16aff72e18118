-- No script that was started is a WebSocket's, so no talk goes on.
use Rattle.std.proofs.Common.{◌≡◌, ℕ, Bool, true, false, List, [], ◌∷◌, ◌++◌, Option, Some, None, refl, sym, ap, ◌∙◌, subst}
use Rattle.std.specs.List.{AllByRecursion, list_all}
use Rattle.std.proofs.lemmas.Bool.{and_from}
use Rattle.host_base.specs.declared.site.Site.{Site}
use Rattle.host_trace.specs.Decider.{is_websocket}
use Rattle.child_core.specs.View.{View}
use Rattle.trace_model.specs.Answer.{legs as legs_of}
use Rattle.trace_model.specs.Demands.{is_live}
use Rattle.trace_model.specs.Exchange.{Exchange, all_of}
use Rattle.trace_model.specs.Legs.{Leg}
use Rattle.trace_model.specs.Says.{has_said_all, says}
use Rattle.trace_model.specs.Talks.{is_right_talk, talks}
use Rattle.exchange_laws.proofs.RestLaws.{met, no_demand}
use Rattle.child_laws.specs.Children.{KnowsChildren, KnowsLeg, KnowsRuns, NoMore, SettledLeg}
use Rattle.child_laws.specs.Legs.{SameRuns}
use Rattle.child_laws.proofs.KnowLaws.{legs_are_known}

abbrev ArePlain : List Leg → Type 0
ArePlain [] = Unit {0}
ArePlain (leg ∷ legs) = (is_websocket leg.kind ≡ false) × ArePlain legs

plain_last : (older : List Leg) (leg : Leg) → ArePlain older → is_websocket leg.kind ≡ false → ArePlain (older ++ leg ∷ [])
plain_last [] leg a p = (p, tt)
plain_last (first ∷ older) leg a p = (a.0, plain_last older leg a.1 p)

module _ (site : Site) (c : ℕ) (e : Exchange) where
  plain_leg : (early : Bool) (leg : Leg) (v : View) → KnowsLeg site c e early leg v → is_websocket leg.kind ≡ false
  plain_leg early leg v k = sym (ap is_websocket k.is.kind) ∙ k.plain

  plain_older : (older : List Leg) → AllByRecursion (SettledLeg NoMore site c e) older → ArePlain older
  plain_older [] a = tt
  plain_older (leg ∷ older) a = (plain_leg false leg a.0.view a.0.known, plain_older older a.1)

  plain_runs : (early : Bool) (ls : List Leg) (run : Option View) → KnowsRuns NoMore site c e early ls run → ArePlain ls
  plain_runs early ls None k = subst (λ (l : List Leg). ArePlain l) (sym k.0) tt
  plain_runs early ls (Some v) k = subst (λ (l : List Leg). ArePlain l) (sym k.are) (plain_last k.older k.leg (plain_older k.older k.settled) (plain_leg _ k.leg k.view k.known))

  all_talks : (was now : List Leg) → SameRuns was now → ArePlain was → list_all (is_right_talk site c e) now ≡ true
  all_talks [] [] s p = refl
  all_talks [] (leg ∷ legs) s p = absurd s
  all_talks (leg ∷ legs) [] s p = absurd s
  all_talks (was ∷ older) (now ∷ later) s p =
      and_from _ _ (no_demand (is_websocket now.kind) _ (ap is_websocket s.0.kind ∙ p.0)) (all_talks older later s.1 p.1)

  all_said : (was now : List Leg) → SameRuns was now → ArePlain was → list_all (has_said_all site c e) now ≡ true
  all_said [] [] s p = refl
  all_said [] (leg ∷ legs) s p = absurd s
  all_said (leg ∷ legs) [] s p = absurd s
  all_said (was ∷ older) (now ∷ later) s p =
      and_from _ _ (no_demand (is_websocket now.kind) _ (ap is_websocket s.0.kind ∙ p.0)) (all_said older later s.1 p.1)

  module _ (early : Bool) (next : ℕ) (ls : List Leg) (run : Option View) (k : KnowsChildren site c e early next ls run) where
    pub none_talks : talks site c e ≡ true
    none_talks = all_talks ls (legs_of site c e) (legs_are_known site c e early next ls run k) (plain_runs early ls run k.runs)

    pub none_says : says site c e ≡ true
    none_says = met (is_live c (all_of e)) (list_all (has_said_all site c e) (legs_of site c e)) (all_said ls (legs_of site c e) (legs_are_known site c e early next ls run k) (plain_runs early ls run k.runs))
