-- When a child is asked for its exit.
use Rattle.std.specs.Prelude.{◌≡◌, ℕ, ◌+◌, ◌*◌, min, false, nat_lt, if◌then◌else◌}

pub record PaceState : Type 0 where
  -- how often it is still asked with no distance
  pub soon : ℕ
  -- the distance to the next ask but one, in microseconds
  pub distance : ℕ
  -- what the clock is to show before the next ask, in nanoseconds
  pub next : ℕ

-- a child at work: it is asked at once, and then at the longest distance
abbrev pub at_work : PaceState
at_work = record { soon = 0; distance = 100000; next = 0 }

-- a child that is to leave: it is asked sixty-four times with no distance, and then at growing ones
abbrev pub leaving_now : PaceState
leaving_now = record { soon = 64; distance = 50; next = 0 }

-- the pace after an ask at a time, by a clock whose last time is `most`
abbrev pub asked_at : ℕ → ℕ → PaceState → PaceState
asked_at most now pace =
    if nat_lt now pace.next then pace
    else record pace { next = min (now + pace.distance * 1000) most; distance = min (pace.distance * 2) 100000 }

-- it was asked by a clock that showed no less than the next ask was to wait for
pub record IsAskedByClock (most : ℕ) (old new : PaceState) : Type 0 where
  pub now : ℕ
  pub due : nat_lt now old.next ≡ false
  pub after : new ≡ asked_at most now old
