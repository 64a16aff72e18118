-- What is ordered, as lines of text.
use Rattle.std.specs.Prelude.{ℕ, Bool, ◌==◌, ◌||◌, List, [], ◌∷◌, ◌++◌, Option, Some, None, bytes_eq, if◌then◌else◌, codes}
use Rattle.edge_loop.specs.declared.orders.Order.TheVariants.{Stop, Drain}
use Rattle.net_edge.specs.declared.line.Said.{Said}
use Rattle.net_edge.specs.declared.line.Said.TheVariants as Says

-- a line without its LF says this word; one CR before the LF is dropped
abbrev pub says : List ℕ → List ℕ → Bool
says word line = bytes_eq line word || bytes_eq line (word ++ 13 ∷ [])

abbrev pub said_of : List ℕ → Option Said
said_of line =
    if says (codes "stop") line then Some (Says.Order Stop) else if says (codes "drain") line then Some (Says.Order Drain)
    else if says (codes "log") line then Some Says.Log else None

-- what a byte ends, after the line so far
abbrev pub heard_at : List ℕ → ℕ → Option Said
heard_at line byte = if byte == 10 then said_of line else None

-- the line so far after a byte
abbrev pub line_after : List ℕ → ℕ → List ℕ
line_after line byte = if byte == 10 then [] else line ++ byte ∷ []
