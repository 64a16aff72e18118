-- What is left after a number of ticks.
use Rattle.std.proofs.Common.{◌≡◌, ℕ, zero, suc, ◌+◌, ◌-◌, ap, ◌∙◌, arith}
use Rattle.std.specs.Prelude.{◌==◌, nat_le}
use Rattle.std.proofs.lemmas.Bool.Decides.{nat_tests}
use Rattle.limit_clock.specs.Deadlines.{after_ticks, is_last}

pub after_ticks-is : (ticks limit : ℕ) → after_ticks ticks limit ≡ limit - ticks
after_ticks-is zero limit = omega arith
after_ticks-is (suc ticks) limit = let rest = after_ticks-is ticks limit in omega arith

last_is : (limit ticks : ℕ) → (limit - ticks == 1) ≡ (ticks + 1 == limit)
last_is limit ticks = grind (arith, nat_tests)

over_is : (limit ticks : ℕ) → (limit - ticks == 0) ≡ nat_le limit ticks
over_is limit ticks = grind (arith, nat_tests)

pub met_once : (limit ticks : ℕ) → is_last (after_ticks ticks limit) ≡ (ticks + 1 == limit)
met_once limit ticks = ap is_last (after_ticks-is ticks limit) ∙ last_is limit ticks

pub stay_over : (limit ticks : ℕ) → (after_ticks ticks limit == 0) ≡ nat_le limit ticks
stay_over limit ticks = ap (λ n. n == 0) (after_ticks-is ticks limit) ∙ over_is limit ticks
