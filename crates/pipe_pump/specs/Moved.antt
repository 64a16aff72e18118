-- What a pump does to the bytes of its pipe and of its ring.
use Rattle.std.specs.Prelude.{◌≡◌, ◌^◌, ◌<◌, ℕ, List, ◌++◌, length, take, Option, Some, None, ⊤, Bool, true, false}
use Rattle.std.specs.Io.KnownBytes.{Appends, Consumes, IsAtEnd}
use Rattle.std.specs.declared.alloc.Global.{Global}
use Rattle.host_base.specs.Outsides.{Rose}
use Rattle.rtrb.specs.Ring.{sent, known_free}
use Rattle.rtrb.specs.declared.producer.Producer.{Producer}
use Rattle.rtrb.specs.declared.AnyItems.{AnyItems}
use Rattle.pipe_pump.specs.declared.ends.PumpEnd.{PumpEnd}
use Rattle.pipe_pump.specs.declared.ends.PumpEnd.TheVariants.{AtEnd, Broken, Spent, Abandoned, LetGo}

-- ---- from a pipe to a ring

-- the pipe gave these bytes, and at least one more after them
pub record GivesMore (before after : Option (List ℕ)) (bytes : List ℕ) : Type 0 where
  pub rest : List ℕ
  pub some : 0 < length rest
  pub gave : Consumes before after (bytes ++ rest)

-- what was put into the ring is what the pipe gave; where the tap was dropped, a front of it
abbrev pub Gives : PumpEnd → Option (List ℕ) → Option (List ℕ) → List ℕ → Type 0
Gives AtEnd before after bytes = Consumes before after bytes
Gives Broken before after bytes = Consumes before after bytes
Gives Spent before after bytes = Consumes before after bytes
Gives Abandoned before after bytes = GivesMore before after bytes
Gives LetGo before after bytes = Consumes before after bytes

-- a front of the piece was put into the ring, which is then full, and some of it was not
pub record SendsPart (before after : Producer ℕ Global AnyItems) (piece : List ℕ) : Type 0 where
  pub rest : List ℕ
  pub some : 0 < length rest
  pub sent : sent after ++ rest ≡ sent before ++ piece
  pub full : known_free after ≡ 0

-- a piece was put into the ring, or a part of it where the tap was dropped
abbrev pub Sends : Option PumpEnd → Producer ℕ Global AnyItems → Producer ℕ Global AnyItems → List ℕ → Type 0
Sends None before after piece = sent after ≡ sent before ++ piece
Sends (Some AtEnd) before after piece = sent after ≡ sent before ++ piece
Sends (Some Broken) before after piece = sent after ≡ sent before ++ piece
Sends (Some Spent) before after piece = sent after ≡ sent before ++ piece
Sends (Some Abandoned) before after piece = SendsPart before after piece
Sends (Some LetGo) before after piece = sent after ≡ sent before ++ piece

-- how a pump is known to end with a piece: it is the last that it may move, or as the pipe made it end
abbrev pub KnownEnd : Bool → Option (List ℕ) → ℕ → ℕ → Option PumpEnd → Type 0
KnownEnd is_last after before now None = is_last ≡ false
KnownEnd is_last after before now (Some AtEnd) = (is_last ≡ false) × IsAtEnd after
KnownEnd is_last after before now (Some Broken) = (is_last ≡ false) × Rose before now
KnownEnd is_last after before now (Some Spent) = is_last ≡ true
KnownEnd is_last after before now (Some Abandoned) = ⊥
KnownEnd is_last after before now (Some LetGo) = is_last ≡ false

-- .. or the tap was dropped
abbrev pub SendEnds : Bool → Option (List ℕ) → ℕ → ℕ → Option PumpEnd → Type 0
SendEnds is_last after before now None = KnownEnd is_last after before now None
SendEnds is_last after before now (Some AtEnd) = KnownEnd is_last after before now (Some AtEnd)
SendEnds is_last after before now (Some Broken) = KnownEnd is_last after before now (Some Broken)
SendEnds is_last after before now (Some Spent) = KnownEnd is_last after before now (Some Spent)
SendEnds is_last after before now (Some Abandoned) = ⊤
SendEnds is_last after before now (Some LetGo) = KnownEnd is_last after before now (Some LetGo)

-- ---- from a ring to a pipe

-- the pipe took a front of the bytes
pub record TookFront (before after : Option (List ℕ)) (bytes : List ℕ) : Type 0 where
  pub count : ℕ
  pub took : Appends before after (take count bytes)

-- what the pipe took is what was taken out of the ring; where it failed or was let go, a front of it
abbrev pub Takes : PumpEnd → Option (List ℕ) → Option (List ℕ) → List ℕ → Type 0
Takes AtEnd before after bytes = Appends before after bytes
Takes Broken before after bytes = TookFront before after bytes
Takes Spent before after bytes = Appends before after bytes
Takes Abandoned before after bytes = Appends before after bytes
Takes LetGo before after bytes = TookFront before after bytes

-- what was taken out of the ring grew from xs to ys, and the pipe took all of that
pub record Moves (before after : Option (List ℕ)) (xs ys : List ℕ) : Type 0 where
  pub piece : List ℕ
  pub grew : ys ≡ xs ++ piece
  pub took : Appends before after piece

-- .. or a front of it
pub record MovesFront (before after : Option (List ℕ)) (xs ys : List ℕ) : Type 0 where
  pub piece : List ℕ
  pub grew : ys ≡ xs ++ piece
  pub took : TookFront before after piece

-- how a pump to a pipe stops, where what was taken out of the ring grew from xs to ys: `ended` is what has to
-- hold at the end of the feed, and `gone` where the feeder was dropped
abbrev pub Stops : Type 0 → Type 0 → PumpEnd → Option (List ℕ) → Option (List ℕ) → ℕ → ℕ → List ℕ → List ℕ → Type 0
Stops ended gone AtEnd before after faults now xs ys = ended × Moves before after xs ys × (length ys < 2 ^ 62)
Stops ended gone Broken before after faults now xs ys = MovesFront before after xs ys × Rose faults now
Stops ended gone Spent before after faults now xs ys = Moves before after xs ys × (length ys ≡ 2 ^ 62)
Stops ended gone Abandoned before after faults now xs ys = gone × Moves before after xs ys × (length ys < 2 ^ 62)
Stops ended gone LetGo before after faults now xs ys = MovesFront before after xs ys

-- how a pipe is known to have cut a piece off: it failed, or it was let go
abbrev pub Cuts : PumpEnd → ℕ → ℕ → Type 0
Cuts AtEnd faults now = ⊥
Cuts Broken faults now = Rose faults now
Cuts Spent faults now = ⊥
Cuts Abandoned faults now = ⊥
Cuts LetGo faults now = ⊤
