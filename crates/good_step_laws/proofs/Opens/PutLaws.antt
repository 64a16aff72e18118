-- A step by its moves is good where its acts are right and what stands at its end is.
use Rattle.std.proofs.Common.{◌≡◌, ℕ, true, false, List, [], ◌∷◌, ◌++◌, map, refl, sym, ap, ◌∙◌, subst, append_assoc}
use Rattle.std.specs.List.{list_all}
use Rattle.std.proofs.lemmas.Bool.{and_from}
use Rattle.std.proofs.lemmas.List.Folds.{list_all-append}
use Rattle.host_base.specs.declared.site.Site.{Site}
use Rattle.host_trace.specs.declared.items.Event.{Event}
use Rattle.host_trace.specs.declared.items.Item.{Item}
use Rattle.host_trace.specs.declared.items.Item.TheVariants.{In, Out}
use Rattle.host_trace.specs.Trace.{Step, step_of}
use Rattle.trace_model.specs.Exchange.{Exchange}
use Rattle.trace_model.specs.Exchanges.{current, current_after, ended_after, ended_by, has_ended}
use Rattle.trace_model.specs.Form.{comes_in_form, is_ordered}
use Rattle.trace_model.specs.Good.{StepGood}
use Rattle.trace_model.specs.Replies.{is_silent_once_closed, replies_end}
use Rattle.trace_model.specs.Shuts.{shuts}
use Rattle.trace_model.specs.Steps.{each_act, ended_in, exchanges_in, goes_on}
use Rattle.trace_model.specs.TakesNoMemory.{takes_no_memory}
use Rattle.trace_model.specs.Wants.{wants}
use Rattle.trace_model.proofs.ExchangeLaws.{current-append, ended_after-append}
use Rattle.conn_laws.specs.Moves.{AreInStep, Move, acts_of, moved}
use Rattle.http_step_laws.specs.Standing.{AreRight}
use Rattle.http_step_laws.proofs.ActWords.{EachRight, acts_right, ended_silent, next}
use Rattle.good_step_laws.proofs.Orders.PlaceWords.{AreOrdered, ordered_acts}
use Rattle.good_step_laws.proofs.Opens.GreetWords.{Ends}
use Rattle.good_step_laws.proofs.Opens.StepLaws.{good_step}

-- Behind an event exchange e goes on, or has just ended, and these ended before it in the step.
pub record Behind (site : Site) (c : ℕ) (L : List Item) (ev : Event) (e : Exchange) (over : List Exchange) : Type 0 where
  pub goes_on : current site c (L ++ In ev ∷ []) ≡ next site c e
  pub gone : ended_after site c (current site c L) (In ev ∷ []) ≡ over ++ ended_by e (has_ended site c e)
  pub silent : list_all (is_silent_once_closed c) over ≡ true

-- What is said of the acts of a step beside that they are right and come in form.
pub record ActsFit (site : Site) (c : ℕ) (s : Step) : Type 0 where
  pub asks : wants site c s ≡ true
  pub whys : shuts site c s ≡ true
  pub memory : takes_no_memory site c s ≡ true

module _ (site : Site) (c : ℕ) (L : List Item) (ev : Event) (e : Exchange) (over : List Exchange) (moves : List Move) (last : Exchange) (behind : Behind site c L ev e over)
    (in_step : AreInStep site c e moves) (right : AreRight site c e moves) (ordered : AreOrdered site c e 0 moves) (last_is : moved site c e moves ≡ last)
    (ends : Ends site c L ev (acts_of moves) last) (form : each_act site c comes_in_form (step_of L ev (acts_of moves)) ≡ true) (fit : ActsFit site c (step_of L ev (acts_of moves))) where
  abbrev step : Step
  step = step_of L ev (acts_of moves)

  each : EachRight site c (current site c (L ++ In ev ∷ [])) (acts_of moves)
  each = subst (λ (d : Exchange). EachRight site c d (acts_of moves)) (sym behind.goes_on) (acts_right site c e moves in_step right)

  ended_are : ended_in site c step ≡ over ++ (ended_by e (has_ended site c e) ++ ended_after site c (next site c e) (map Out (acts_of moves)))
  ended_are =
      ended_after-append site c (current site c L) (In ev ∷ []) (map Out (acts_of moves))
      ∙ (ap (λ (es : List Exchange). es ++ ended_after site c (current_after site c (current site c L) (In ev ∷ [])) (map Out (acts_of moves))) behind.gone
      ∙ (ap (λ (d : Exchange). (over ++ ended_by e (has_ended site c e)) ++ ended_after site c d (map Out (acts_of moves))) heard_is
      ∙ append_assoc over (ended_by e (has_ended site c e)) (ended_after site c (next site c e) (map Out (acts_of moves)))))
    where
      heard_is : current_after site c (current site c L) (In ev ∷ []) ≡ next site c e
      heard_is = sym (current-append site c L (In ev ∷ [])) ∙ behind.goes_on

  on : has_ended site c (moved site c e moves) ≡ false
  on = ap (has_ended site c) last_is ∙ ends.unended

  silent : replies_end c (exchanges_in site c step) ≡ true
  silent =
      list_all-append (is_silent_once_closed c) (ended_in site c step) (goes_on site c step ∷ [])
      ∙ and_from _ _
      (ap (λ (es : List Exchange). list_all (is_silent_once_closed c) es) ended_are
      ∙ (list_all-append (is_silent_once_closed c) over (ended_by e (has_ended site c e) ++ ended_after site c (next site c e) (map Out (acts_of moves)))
      ∙ and_from _ _ behind.silent (ended_silent site c e moves in_step right on)))
      (and_from _ _ (ap (is_silent_once_closed c) ends.now ∙ ends.at_end.http.silent) refl)

  pub put_together : StepGood site c step
  put_together = good_step site c step last ends.now ends.at_end (record {
    launches = each.launches;
    talk_acts = each.upgrades;
    turns = each.in_turn;
    form = form;
    ordered = ap (λ (d : Exchange). is_ordered site c d 0 (acts_of moves)) behind.goes_on ∙ ordered_acts site c e 0 moves in_step ordered;
    asks = fit.asks;
    whys = fit.whys;
    memory = fit.memory;
    silent = silent;
    children = ends.children;
  })
