-- A limit as the number of ticks that are left until it is met.
use Rattle.std.specs.Prelude.{ℕ, zero, suc, Bool, ◌≡◌, ◌==◌, ◌+◌, ◌-◌, nat_le}

-- the next tick meets it
abbrev pub is_last : ℕ → Bool
is_last left = left == 1

abbrev pub after_tick : ℕ → ℕ
after_tick left = left - 1

-- ---- laws

-- what is left of a limit after so many ticks
abbrev pub after_ticks : ℕ → ℕ → ℕ
after_ticks zero limit = limit
after_ticks (suc ticks) limit = after_tick (after_ticks ticks limit)

-- The tick after so many others meets the limit exactly where it has the limit's number.
abbrev pub AreMetOnce : Type 0
AreMetOnce = (limit ticks : ℕ) → is_last (after_ticks ticks limit) ≡ (ticks + 1 == limit)

-- After so many ticks the limit is over exactly where they are as many as its number.
abbrev pub StayOver : Type 0
StayOver = (limit ticks : ℕ) → (after_ticks ticks limit == 0) ≡ nat_le limit ticks
