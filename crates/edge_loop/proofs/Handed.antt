-- Starts that were handed over, one after another, and what is told then.
use Rattle.std.proofs.Common.{◌≡◌, suc, [], None, inr, refl}
use Rattle.host_trace.specs.declared.items.Event.{Event}
use Rattle.child_edge.specs.Kids.{KidTells}
use Rattle.child_edge.specs.Starts.{Repeats}
use Rattle.edge_loop.specs.Loops.{LoopState, HandsOver, AllHanded, OfStart, IsDue, IsTold}

module _ {K : Type 0} where
  pub none_handed : (tells : K → KidTells) (a : LoopState K) → Repeats (HandsOver tells) a a
  none_handed tells a = record { times = 0; steps = refl }

  pub one_handed : (tells : K → KidTells) (a b d : LoopState K) → Repeats (HandsOver tells) a b → HandsOver tells b d → Repeats (HandsOver tells) a d
  one_handed tells a b d h step = record { times = suc h.times; steps = record { mid = b; before = h.steps; after = step } }

  pub all_handed : (tells : K → KidTells) (a b : LoopState K) → Repeats (HandsOver tells) a b → b.unstarted ≡ None → b.starts ≡ [] → AllHanded tells a b
  all_handed tells a b h u s = record { handed = h; none_due = record { unstarted = u; starts = s } }

  -- what is due before any start is handed over
  pub told_first : (tells : K → KidTells) (e : Event) (a b : LoopState K) → IsDue e a b → IsTold tells e a b
  told_first tells e a b h = record { mid = a; before = none_handed tells a; after = h }

  -- a start that is refused behind others that were handed over
  pub told_behind : (tells : K → KidTells) (e : Event) (a b d : LoopState K) → Repeats (HandsOver tells) a b → OfStart e b d → IsTold tells e a d
  told_behind tells e a b d h start = record { mid = b; before = h; after = inr start }
