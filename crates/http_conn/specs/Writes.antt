-- What a Write makes of a connection, and which Start is given.
use Rattle.std.specs.Prelude.{ℕ, ◌+◌, Bool, true, false, List, [], ◌∷◌, length}
use Rattle.host_base.specs.declared.launch.Launch.{Launch}
use Rattle.host_trace.specs.declared.items.Act.{Act}
use Rattle.host_trace.specs.declared.items.Act.TheVariants.{Start, Write}
use Rattle.host_trace.specs.declared.items.Item.TheVariants.{Out}
use Rattle.trace_model.specs.Exchange.{continue_text}
use Rattle.conn_flags.specs.View.{View, has_place, noted}
use Rattle.http_state.specs.declared.conn.HttpConn.{HttpConn}
use Rattle.http_state.specs.Moves.{losing}

-- bytes, of which there may be none, were written, or there was no room for them
abbrev pub acts_written : ℕ → List ℕ → Bool → List Act
acts_written c [] found = []
acts_written c (byte ∷ bytes) true = Write c (byte ∷ bytes) ∷ []
acts_written c (byte ∷ bytes) false = []

-- .. bytes of which there are some find a place
abbrev pub have_place : View → List ℕ → Bool
have_place flags [] = true
have_place flags (byte ∷ bytes) = has_place flags (length (byte ∷ bytes))

abbrev pub wrote : List ℕ → Bool → HttpConn → HttpConn
wrote [] found conn = conn
wrote (byte ∷ bytes) true conn = record conn { flags = noted conn.flags (Out (Write conn.flags.c (byte ∷ bytes))) }
wrote (byte ∷ bytes) false conn = losing conn

-- 100 Continue was written, or memory ran out for it
abbrev pub acts_continued : ℕ → Bool → List Act
acts_continued c true = Write c continue_text ∷ []
acts_continued c false = []

abbrev pub continued : Bool → HttpConn → HttpConn
continued true conn = record conn { flags = noted conn.flags (Out (Write conn.flags.c continue_text)); continued = true }
continued false conn = losing conn

-- what the exchange asks for was started as a hop's child, or there was no room for that
abbrev pub acts_started : ℕ → HttpConn → ℕ → Launch → Bool → List Act
acts_started n conn hop launch true = Start n conn.flags.c conn.number hop launch ∷ []
acts_started n conn hop launch false = []

-- the number of the next child then
abbrev pub next_if : Bool → ℕ → ℕ
next_if true n = n + 1
next_if false n = n
