-- What a reply's stream is told, and when its reply must begin: over whole strings, however the output was cut.
use Rattle.std.specs.Prelude.{ℕ, Bool, false, ◌&&◌, ◌||◌, nat_lt, List, [], ◌∷◌, ◌++◌, length}
use Rattle.host_base.specs.declared.site.ScriptKind.{ScriptKind}
use Rattle.reply_kinds.specs.Derived.{is_header_whole, is_streamable}

-- a piece of the output, or a tick of the clock
pub data Told : Type 0 where
  piece : List ℕ → Told
  tick : Told

-- the output so far
abbrev pub output_of : List Told → List ℕ
output_of [] = []
output_of (piece bytes ∷ told) = bytes ++ output_of told
output_of (tick ∷ told) = output_of told

-- after this output, a tick came where the header was whole
abbrev pub is_ticked_after : ScriptKind → List ℕ → List Told → Bool
is_ticked_after kind output [] = false
is_ticked_after kind output (piece bytes ∷ told) = is_ticked_after kind (output ++ bytes) told
is_ticked_after kind output (tick ∷ told) = is_header_whole kind output || is_ticked_after kind output told

-- a tick came after the header
abbrev pub is_ticked : ScriptKind → List Told → Bool
is_ticked kind told = is_ticked_after kind [] told

-- so many bytes of output may wait for its end, or for a tick
abbrev pub most_kept : ℕ
most_kept = 8192

-- more than these bytes were heard, or a tick after the header
abbrev pub is_long_enough : ScriptKind → List Told → Bool
is_long_enough kind told = nat_lt most_kept (length (output_of told)) || is_ticked kind told

-- the reply must have begun, though the output has not ended: it can, and has waited long enough
abbrev pub must_begin : ScriptKind → List Told → Bool
must_begin kind told = is_streamable kind (output_of told) && is_long_enough kind told
