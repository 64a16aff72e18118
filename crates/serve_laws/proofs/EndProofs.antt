-- Loops that heard all there was to hear came to their end.
use Rattle.std.proofs.Common.{◌≡◌, ℕ, ◌<◌, true, List, [], ◌∷◌, refl, sym, ap, ◌∙◌, arith, inl, inr, length}
use Rattle.std.specs.List.{AllByRecursion}
use Rattle.std.proofs.lemmas.Bool.{and_from, false≢true}
use Rattle.host_base.specs.declared.site.Site.{Site}
use Rattle.host_trace.specs.declared.items.Item.{Item}
use Rattle.host_trace.specs.Account.{all_settled}
use Rattle.host_trace.specs.Projections.{stopped}
use Rattle.trace_laws.specs.Promised.{Promised}
use Rattle.trace_laws.proofs.EndLaws.{all_settle}
use Rattle.host_loop.specs.Given.{AreEnded}
use Rattle.host_loop.specs.Loops.{IsAny}
use Rattle.host_loop.specs.Served.{Served, is_over}
use Rattle.host_loop.specs.declared.serve.LoopEnd.{LoopEnd}
use Rattle.host_loop.specs.declared.serve.LoopEnd.TheVariants.{Done, Spent, NoMemory}
use Rattle.serve_laws.specs.EndLaws.{IsHeardOut, LoopsComeToTheirEnd}

over : (site : Site) (T : List Item) → Promised site T → IsHeardOut T → is_over T ≡ true
over site T f h = and_from (stopped T) (all_settled T) h.stop (all_settle site T f h.stop h.answered h.exited)

none_spent : (site : Site) (turns : ℕ) (Ts : List (List Item)) → AllByRecursion (Promised site) Ts → AllByRecursion IsHeardOut Ts → IsAny (Served turns Spent) Ts → ⊥
none_spent site turns [] good heard some = some
none_spent site turns (T ∷ Ts) good heard (inl spent) = false≢true (sym spent.not_over ∙ over site T good.0 heard.0)
none_spent site turns (T ∷ Ts) good heard (inr some) = none_spent site turns Ts good.1 heard.1 some

none_empty : (n : ℕ) (Ts : List (List Item)) → 0 < n → length Ts ≡ n → AllByRecursion IsHeardOut Ts → AllByRecursion (λ T. T ≡ []) Ts → ⊥
none_empty n [] some count heard empty = omega (arith, some, count)
none_empty n (T ∷ Ts) some count heard empty = false≢true (ap stopped (sym empty.0) ∙ heard.0.stop)

by_end : (site : Site) (turns loops : ℕ) (end : LoopEnd) (Ts : List (List Item)) → 0 < loops → length Ts ≡ loops → AllByRecursion (Promised site) Ts → AreEnded turns end Ts
    → AllByRecursion IsHeardOut Ts → end ≡ Done
by_end site turns loops Done Ts some count good ended heard = refl
by_end site turns loops Spent Ts some count good ended heard = absurd (none_spent site turns Ts good heard ended.0)
by_end site turns loops NoMemory Ts some count good ended heard = absurd (none_empty loops Ts some count heard ended)

pub come_to_their_end : LoopsComeToTheirEnd
come_to_their_end site turns loops end before now some gave heard = by_end site turns loops end gave.added some gave.count gave.good gave.ended heard
