-- What may be handed over after a mark.
use Rattle.std.specs.Prelude.{◌≡◌, ◌<◌, List, [], ◌∷◌, length, Option, Some, None, is_some, true}
use Rattle.pipe_pump.specs.declared.ends.PumpDone.{PumpDone}
use Rattle.pump_pool.specs.declared.hand.Hand.{Hand}
use Rattle.pump_pool.specs.declared.hand.Hand.TheVariants.{Marked, Done}

module _ {G P : Type 0} where
  -- the ring and the pipe whose mark was handed over first
  abbrev pub ring_of : List (Hand G P) → Option G
  ring_of [] = None
  ring_of (Marked m ∷ rest) = Some m.ring.value
  ring_of (Done d ∷ rest) = None

  abbrev pub pipe_of : List (Hand G P) → Option P
  pipe_of [] = None
  pipe_of (Marked m ∷ rest) = Some m.pipe.value
  pipe_of (Done d ∷ rest) = None

  -- the mark of this ring and this pipe was handed over, and no more
  abbrev pub IsMarked : G → P → List (Hand G P) → Type 0
  IsMarked ring pipe before = (length before ≡ 1) × (ring_of before ≡ Some ring) × (pipe_of before ≡ Some pipe)

  -- the mark of this ring and this pipe was handed over, and maybe the end of its pump
  abbrev pub HasMark : G → P → List (Hand G P) → Type 0
  HasMark ring pipe before = (0 < length before) × (ring_of before ≡ Some ring) × (pipe_of before ≡ Some pipe)

  -- a mark alone was handed over, and the end is that of a pump on its ring and its pipe
  abbrev pub IsOfMark : (G → P → PumpDone P → Type 0) → List (Hand G P) → PumpDone P → Type 0
  IsOfMark pumped before done =
      (length before ≡ 1)
      × (is_some (ring_of before) ≡ true)
      × (is_some (pipe_of before) ≡ true)
      × ((ring : G) (pipe : P) → ring_of before ≡ Some ring → pipe_of before ≡ Some pipe → pumped ring pipe done)

  abbrev pub HandAllows : (G → P → PumpDone P → Type 0) → List (Hand G P) → Hand G P → Type 0
  HandAllows pumped before (Marked m) = before ≡ []
  HandAllows pumped before (Done d) = IsOfMark pumped before d
