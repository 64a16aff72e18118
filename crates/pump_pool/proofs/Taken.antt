-- What an end that was handed over says.
use Rattle.std.proofs.Common.{◌≡◌, ◌++◌, List, [], ◌∷◌, subst, arith}
use Rattle.std.proofs.lemmas.Grind.{common_steps}
use Rattle.pipe_pump.specs.declared.ends.PumpDone.{PumpDone}
use Rattle.pump_pool.specs.declared.hand.Hand.{Hand}
use Rattle.pump_pool.specs.declared.hand.Hand.TheVariants.{Marked, Done}
use Rattle.pump_pool.specs.Hands.{HandAllows, HasMark}

module _ {G P : Type 0} where
  pub done_pumped : (pumped : G → P → PumpDone P → Type 0) (before : List (Hand G P)) (x : Hand G P) (d : PumpDone P)
      → x ≡ Done d → HandAllows pumped before x
      → (ring : G) (pipe : P) → HasMark ring pipe before → pumped ring pipe d
  done_pumped pumped before x d e h ring pipe m = (subst (λ y. HandAllows pumped before y) e h).3 ring pipe m.1 m.2

  pub mark_stays : (before after more : List (Hand G P)) (ring : G) (pipe : P)
      → after ≡ before ++ more → HasMark ring pipe before → HasMark ring pipe after
  mark_stays [] after more ring pipe e m = absurd (omega arith)
  mark_stays (Marked k ∷ rest) after more ring pipe e m = rw e (grind (arith, common_steps), m.1, m.2)
  mark_stays (Done d ∷ rest) after more ring pipe e m = grind arith
