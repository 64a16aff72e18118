-- Each act of a good trace keeps the rules on acts where it stands.
use Rattle.std.proofs.Common.{◌≡◌, ℕ, true, Bool, List, [], ◌∷◌, ◌++◌, map, sym, ◌∙◌, ap, subst, append-nil, append_assoc}
use Rattle.std.specs.List.{AllByRecursion}
use Rattle.std.proofs.lemmas.Bool.{and_parts, false≢true}
use Rattle.std.proofs.lemmas.List.{map-append}
use Rattle.host_base.specs.declared.site.Site.{Site}
use Rattle.host_trace.specs.declared.items.Act.{Act}
use Rattle.host_trace.specs.declared.items.Event.{Event}
use Rattle.host_trace.specs.declared.items.Item.{Item}
use Rattle.host_trace.specs.declared.items.Item.TheVariants.{In, Out}
use Rattle.host_trace.specs.Trace.{Step, after_step, step_of, steps_from}
use Rattle.trace_model.specs.Exchange.{Exchange}
use Rattle.trace_model.specs.Exchanges.{current, next_of}
use Rattle.trace_model.specs.Good.{GoodFor, StepGood, begins_with_event}
use Rattle.trace_model.specs.Steps.{each_act, each_act_from}
use Rattle.trace_model.proofs.ExchangeLaws.{current-push}
use Rattle.trace_laws.proofs.ListLaws.{Split, at_end, split, within}

-- a rule that each act of each step keeps
module _ (site : Site) (c : ℕ) (rule : Exchange → Act → Bool) (kept : (s : Step) → StepGood site c s → each_act site c rule s ≡ true) where
  -- each act of these items does where it stands
  abbrev Keep : List Item → Type 0
  Keep L = (p q : List Item) (a : Act) → L ≡ p ++ Out a ∷ q → rule (current site c p) a ≡ true

  keep-event : (L : List Item) (event : Event) → Keep L → Keep (L ++ In event ∷ [])
  keep-event L event r p q a is = go (split L p q (In event) (Out a) is)
    where
      go : Split L p q (In event) (Out a) → rule (current site c p) a ≡ true
      go (within rest inside) = r p rest a inside
      go (at_end all last) = absurd (cc)

  keep-act : (L : List Item) (b : Act) → rule (current site c L) b ≡ true → Keep L → Keep (L ++ Out b ∷ [])
  keep-act L b is_so r p q a is = go (split L p q (Out b) (Out a) is)
    where
      act_same : (b a : Act) → Out b ≡ Out a → b ≡ a
      act_same b a e = cc

      go : Split L p q (Out b) (Out a) → rule (current site c p) a ≡ true
      go (within rest inside) = r p rest a inside
      go (at_end all last) =
          subst (λ x. rule (current site c p) x ≡ true) (act_same b a last) (subst (λ l. rule (current site c l) b ≡ true) all is_so)

  keep-acts : (L : List Item) (acts : List Act) → each_act_from site c rule (current site c L) acts ≡ true → Keep L → Keep (L ++ map Out acts)
  keep-acts L [] each r = subst Keep (sym (append-nil L)) r
  keep-acts L (a ∷ acts) each r =
      let parts = and_parts (rule (current site c L) a) (each_act_from site c rule (next_of site c (current site c L) (Out a)) acts) each in
      subst Keep (append_assoc L (Out a ∷ []) (map Out acts))
      (keep-acts (L ++ Out a ∷ []) acts (ap (λ (e : Exchange). each_act_from site c rule e acts) (current-push site c L (Out a)) ∙ parts.1)
      (keep-act L a parts.0 r))

  keep-step : (before : List Item) (event : Event) (acts : List Act) → StepGood site c (step_of before event acts) → Keep before → Keep (after_step before event acts)
  keep-step before event acts good r =
      subst Keep (append_assoc before (In event ∷ []) (map Out acts))
      (keep-acts (before ++ In event ∷ []) acts (kept (step_of before event acts) good) (keep-event before event r))

  after_step-push : (before : List Item) (event : Event) (acts : List Act) (a : Act) (rest : List Item) →
      after_step before event (acts ++ a ∷ []) ++ rest ≡ after_step before event acts ++ Out a ∷ rest
  after_step-push before event acts a rest = simp (map-append, append_assoc)

  keep-from : (before : List Item) (event : Event) (acts : List Act) (L : List Item) → AllByRecursion (StepGood site c) (steps_from before event acts L) → Keep before
      → Keep (after_step before event acts ++ L)
  keep-from before event acts [] good r = subst Keep (sym (append-nil (after_step before event acts))) (keep-step before event acts good.0 r)
  keep-from before event acts (In e ∷ L) good r =
      subst Keep (append_assoc (after_step before event acts) (In e ∷ []) L)
      (keep-from (after_step before event acts) e [] L good.1 (keep-step before event acts good.0 r))
  keep-from before event acts (Out a ∷ L) good r =
      subst Keep (after_step-push before event acts a L) (keep-from before event (acts ++ a ∷ []) L good r)

  none_keep : Keep []
  none_keep [] q a is = absurd (cc)
  none_keep (x ∷ p) q a is = absurd (cc)

  pub all_keep : (L : List Item) → begins_with_event L ≡ true → GoodFor site c L → Keep L
  all_keep [] begins good = none_keep
  all_keep (In event ∷ L) begins good = keep-from [] event [] L good none_keep
  all_keep (Out a ∷ L) begins good = absurd (false≢true begins)
