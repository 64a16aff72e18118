-- What a pump left, by what `pump_out` and `pump_in` say.
use Rattle.std.specs.Prelude.{◌≡◌, ◌≤◌, ℕ, Bool, true, List, Option}
use Rattle.std.specs.Io.KnownBytes.{IsAtEnd}
use Rattle.host_base.specs.Outsides.{Rose}
use Rattle.pipe_pump.specs.declared.ends.PumpDone.{PumpDone}
use Rattle.pipe_pump.specs.declared.ends.PumpEnd.TheVariants.{AtEnd, Broken}
use Rattle.pipe_pump.specs.declared.from_pipe.PumpRing.{PumpRing}
use Rattle.pipe_pump.specs.declared.feed_ring.FeedRing.{FeedRing}
use Rattle.pipe_pump.specs.Moved.{Gives, Takes}
use Rattle.pipe_pump.specs.Rings.{IsEndOf, IsFeedEndOf, IsWholeFeed, put_in, popped}

module _ {P : Type 0} where
  -- of this ring: what stands in it and what came out of it is what the pipe gave
  pub record PumpedOut (left : P → Option (List ℕ)) (faults : P → ℕ) (ring : PumpRing) (pipe : P) (done : PumpDone P) : Type 0 where
    pub of_ring : IsEndOf ring done.ring
    pub moved : Gives done.end (left pipe) (left done.pipe) (put_in done.ring)
    pub at_end : done.end ≡ AtEnd → IsAtEnd (left done.pipe)
    pub count : faults pipe ≤ faults done.pipe
    pub cause : done.end ≡ Broken → Rose (faults pipe) (faults done.pipe)

  -- of this ring: what came out of it the pipe took; where all did, the pipe was closed
  pub record PumpedIn (taken : P → Option (List ℕ)) (faults : P → ℕ) (is_closed : P → Bool) (ring : FeedRing) (pipe : P) (done : PumpDone P) : Type 0 where
    pub of_ring : IsFeedEndOf ring done.ring
    pub moved : Takes done.end (taken pipe) (taken done.pipe) (popped done.ring)
    pub whole : done.end ≡ AtEnd → IsWholeFeed done.ring
    pub closed : done.end ≡ AtEnd → is_closed done.pipe ≡ true
    pub count : faults pipe ≤ faults done.pipe
    pub cause : done.end ≡ Broken → Rose (faults pipe) (faults done.pipe)
