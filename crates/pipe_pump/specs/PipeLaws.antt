-- What holds of pipes and rings, whatever the threads did and in whatever order.
use Rattle.std.specs.Prelude.{◌≡◌, ◌≢◌, ℕ, List, ◌++◌, take, Some}
use Rattle.std.specs.Io.KnownBytes.{IsAtEnd}
use Rattle.pipe_pump.specs.declared.ends.PumpEnd.{PumpEnd}
use Rattle.pipe_pump.specs.declared.ends.PumpEnd.TheVariants.{AtEnd, Broken, Abandoned, LetGo}
use Rattle.pipe_pump.specs.declared.ends.RingEnd.{RingEnd}
use Rattle.pipe_pump.specs.declared.tap.Tap.{Tap}
use Rattle.pipe_pump.specs.Rings.{put_in, popped, handed_up, standing}
use Rattle.pipe_pump.specs.Moved.{Gives, Takes}

-- The pipe keeps its bytes: of the bytes that it had to give, those that were handed up and those that stand in
-- the ring come first, and then those that it still has. Only where the tap was dropped some lie between, which
-- it gave and nobody has.
pub record Pipe (given left : List ℕ) (end : PumpEnd) (handed standing : List ℕ) : Type 0 where
  pub front : (lost : List ℕ) × (given ≡ ((handed ++ standing) ++ lost) ++ left)
  pub all : end ≢ Abandoned → given ≡ (handed ++ standing) ++ left
  pub none_left : end ≡ AtEnd → given ≡ handed ++ standing

-- A pipe that tells its bytes keeps them, by what `pump_out` and then `Tap::finish` ensure.
abbrev pub PipesKeepTheirBytes : Type 0
PipesKeepTheirBytes = (given left : List ℕ) (end : PumpEnd) (ring : RingEnd) (tap : Tap)
    → Gives end (Some given) (Some left) (put_in ring)
    → (end ≡ AtEnd → IsAtEnd (Some left))
    → handed_up tap ++ standing tap ≡ put_in ring
    → Pipe given left end (handed_up tap) (standing tap)

-- What a pipe took, after what it had taken before, is a front of what came out of the ring, in order, and all
-- of that where the pipe didn't fail and wasn't let go.
pub record FedPipe (before now : List ℕ) (end : PumpEnd) (bytes : List ℕ) : Type 0 where
  pub front : (n : ℕ) × (now ≡ before ++ take n bytes)
  pub all : end ≢ Broken → end ≢ LetGo → now ≡ before ++ bytes

-- .. by what `pump_in` ensures.
abbrev pub FeedsArriveInOrder : Type 0
FeedsArriveInOrder = (before now : List ℕ) (end : PumpEnd) (ring : RingEnd)
    → Takes end (Some before) (Some now) (popped ring)
    → FedPipe before now end (popped ring)
