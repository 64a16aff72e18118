-- What a claim on steps says of the end of a trace.
use Rattle.std.proofs.Common.{◌≡◌, ℕ, true, List, [], ◌∷◌, ◌++◌, sym, ◌∙◌, subst, append-nil, append_assoc}
use Rattle.std.specs.List.{AllByRecursion}
use Rattle.std.proofs.lemmas.List.{map-append}
use Rattle.host_base.specs.declared.site.Site.{Site}
use Rattle.host_trace.specs.declared.items.Act.{Act}
use Rattle.host_trace.specs.declared.items.Event.{Event}
use Rattle.host_trace.specs.declared.items.Item.{Item}
use Rattle.host_trace.specs.declared.items.Item.TheVariants.{In, Out}
use Rattle.host_trace.specs.Projections.{own}
use Rattle.host_trace.specs.Trace.{Step, step_of, after_step, end_of, steps_from}
use Rattle.own_traces.specs.Between.{Between}
use Rattle.own_traces.proofs.SameLaws.{says}
use Rattle.trace_model.specs.Exchanges.{current}
use Rattle.trace_model.specs.Completed.{IsAnsweredInOrder, IsAnsweredByTrace}
use Rattle.trace_model.specs.Good.{StepGood, GoodFor}
use Rattle.trace_model.specs.Replies.{replies}
use Rattle.trace_model.proofs.CompletedLaws.{answered_in_order}

-- the claim at the last step, whose end is the whole trace
record AtLast (claim : Step → Type 0) (T : List Item) : Type 0 where
  pub step : Step
  pub holds : claim step
  pub ends : end_of step ≡ T

after_step-more : (before : List Item) (event : Event) (acts : List Act) (a : Act) (rest : List Item) →
    after_step before event (acts ++ a ∷ []) ++ rest ≡ after_step before event acts ++ Out a ∷ rest
after_step-more before event acts a rest = simp (map-append, append_assoc)

last_from : (claim : Step → Type 0) (before : List Item) (event : Event) (acts : List Act) (T : List Item) → AllByRecursion claim (steps_from before event acts T)
    → AtLast claim (after_step before event acts ++ T)
last_from claim before event acts [] all = record { step = step_of before event acts; holds = all.0; ends = sym (append-nil (after_step before event acts)) }
last_from claim before event acts (In e ∷ T) all =
    let rest = last_from claim (after_step before event acts) e [] T all.1 in
    record { step = rest.step; holds = rest.holds; ends = rest.ends ∙ append_assoc (after_step before event acts) (In e ∷ []) T }
last_from claim before event acts (Out a ∷ T) all =
    let rest = last_from claim before event (acts ++ a ∷ []) T all in
    record { step = rest.step; holds = rest.holds; ends = rest.ends ∙ after_step-more before event acts a T }

pub stands_at_the_end : (site : Site) (c : ℕ) (event : Event) (items : List Item) → GoodFor site c (In event ∷ items)
    → replies site c (current site c (In event ∷ items)) ≡ true
stands_at_the_end site c event items good =
    let last : AtLast (StepGood site c) (In event ∷ items) = last_from (StepGood site c) [] event [] items good in
    subst (λ L. replies site c (current site c L) ≡ true) last.ends last.holds.good.replies

pub answered_by_trace : (site : Site) (c : ℕ) (T : List Item) → Between T → IsAnsweredByTrace site c T
answered_by_trace site c T between =
    let order : IsAnsweredInOrder site c (own T c) = answered_in_order site c (own T c) in
    record { wrote = sym (says T c between).client_got ∙ order.wrote; each = order.each }
