-- Where the reading of an output stands, and what it gives for a piece.
use Rattle.std.specs.Prelude.{◌≡◌, ℕ, Bool, false, true, List, ◌++◌}
use Rattle.line_messages.specs.declared.step.LineStep.{LineStep}
use Rattle.line_messages.specs.declared.step.LineStep.TheVariants.{Texts, TooLong}
use Rattle.line_messages.specs.Lines.{has_long_line, lines_within, open_line}
use Rattle.line_messages.specs.State.{Reading}

-- The reading stands for the bytes of an output so far: it knows whether a line was too long and, where none was,
-- what stands behind the last LF.
pub record StandsFor (reading : Reading) (output : List ℕ) : Type 0 where
  pub over : reading.over ≡ has_long_line reading.limit output
  pub open_line : reading.over ≡ false → reading.rest ≡ open_line output

-- the messages of a step
abbrev pub texts_of : LineStep → List (List ℕ)
texts_of (Texts texts) = texts
texts_of (TooLong before) = before

abbrev pub is_too_long : LineStep → Bool
is_too_long (Texts texts) = false
is_too_long (TooLong before) = true

-- The step for a piece that follows an output: with its messages those given so far are the lines of the joined bytes
-- before one that is too long, and it says whether one is.
pub record IsStep (limit : ℕ) (output piece : List ℕ) (step : LineStep) : Type 0 where
  pub joined : lines_within limit (output ++ piece) ≡ lines_within limit output ++ texts_of step
  pub too_long : is_too_long step ≡ has_long_line limit (output ++ piece)

-- what a reading that knows of no long line makes of a piece, by what stands behind its last LF
pub record Takes (old : Reading) (piece : List ℕ) (step : LineStep) (new : Reading) : Type 0 where
  pub texts : lines_within old.limit (old.rest ++ piece) ≡ texts_of step
  pub too_long : is_too_long step ≡ has_long_line old.limit (old.rest ++ piece)
  pub over : new.over ≡ has_long_line old.limit (old.rest ++ piece)
  pub open_line : new.over ≡ false → new.rest ≡ open_line (old.rest ++ piece)
  pub limit : new.limit ≡ old.limit
  pub ended : new.ended ≡ old.ended

-- Of some bytes the rest is still to be read; the texts before them have become the texts now.
pub record ReadsOn (limit : ℕ) (bytes : List ℕ) (before now : List (List ℕ)) (rest : List ℕ) : Type 0 where
  pub texts : now ++ lines_within limit rest ≡ before ++ lines_within limit bytes
  pub long : has_long_line limit rest ≡ has_long_line limit bytes
  pub behind : open_line rest ≡ open_line bytes
