-- What stands of a reply while its output goes on, and once it has ended.
use Rattle.std.specs.Prelude.{ℕ, ◌≡◌, Bool, true, false, if◌then◌else◌, List, [], ◌++◌, Option}
use Rattle.reply_kinds.specs.declared.derived.Derived.{Derived}
use Rattle.reply_kinds.specs.declared.derived.Derived.TheVariants as Output
use Rattle.reply_kinds.specs.Derived.{derived_of}
use Rattle.reply_writer.specs.CutReply.{Cuts, CutsRaw}
use Rattle.reply_writer.specs.Spelling.{whole_content}
use Rattle.reply_writer.specs.WholeReply.{Spells, SpellsRaw, Way}
use Rattle.reply_writer.specs.WholeRules.{known_way}
use Rattle.reply_stream.specs.declared.asked.Asked.{Asked}
use Rattle.reply_stream.specs.declared.stream.Last.{Last}
use Rattle.reply_stream.specs.declared.stream.Last.TheVariants as Ended
use Rattle.reply_stream.specs.Hearing.{Told, output_of, must_begin}

-- the way of a reply that begins before its output has ended
abbrev pub begun_way : Asked → Bool → Option ℕ → Way
begun_way asked close stamp =
    record { version = asked.version; head_only = asked.head_only; close = close; stamp = stamp; known = false }

-- the way of a reply of which nothing was written before its output had ended
abbrev pub whole_way : Asked → Bool → Option ℕ → Way
whole_way asked close stamp = known_way asked.version asked.head_only close stamp

-- nothing is written of the reply; or it has begun, with these bytes so far: whether it closes, the second of its Date,
-- and the bytes
pub data Stood : Type 0 where
  nothing : Stood
  begun : Bool → Option ℕ → List ℕ → Stood

abbrev pub is_begun : Stood → Bool
is_begun nothing = false
is_begun (begun close stamp bytes) = true

-- bytes are the reply or the raw bytes that are derived so far, cut off after all of the body, where there is one
abbrev pub IsPartOf : Way → Derived → List ℕ → Type 0
IsPartOf way (Output.Reply reply) bytes = Cuts bytes way reply (whole_content reply way.head_only)
IsPartOf way (Output.Raw output) bytes = CutsRaw bytes output
IsPartOf way (Output.Hop location) bytes = ⊥
IsPartOf way (Output.Bad cause) bytes = ⊥

-- bytes are the whole of it
abbrev pub IsWholeOf : Way → Derived → List ℕ → Type 0
IsWholeOf way (Output.Reply reply) bytes = Spells bytes way reply
IsWholeOf way (Output.Raw output) bytes = SpellsRaw bytes output
IsWholeOf way (Output.Hop location) bytes = ⊥
IsWholeOf way (Output.Bad cause) bytes = ⊥

-- ---- while the output goes on

-- the reply has begun exactly where it must have, and then this part of it stands
abbrev pub IsSoFar : Asked → List Told → Stood → Type 0
IsSoFar asked told nothing = must_begin asked.kind told ≡ false
IsSoFar asked told (begun close stamp bytes) =
    (must_begin asked.kind told ≡ true) × IsPartOf (begun_way asked close stamp) (derived_of asked.kind (output_of told)) bytes

-- what stands once this was told, and these bytes were written after those that stood
abbrev pub stood_next : Asked → List Told → Bool → Option ℕ → Stood → List ℕ → Stood
stood_next asked told close stamp nothing bytes = if must_begin asked.kind told then begun close stamp bytes else nothing
stood_next asked told close stamp (begun close_then stamp_then before) bytes = begun close_then stamp_then (before ++ bytes)

-- where no reply has begun, no byte is written
abbrev pub IsQuiet : Stood → List ℕ → Type 0
IsQuiet nothing bytes = bytes ≡ []
IsQuiet (begun close stamp before) bytes = Unit {0}

-- ---- at the end of the output

-- where nothing stood: the whole reply, the location of a local redirect, or the cause
abbrev pub IsLastOf : Way → Derived → Last → Type 0
IsLastOf way (Output.Reply reply) (Ended.Written bytes) = Spells bytes way reply
IsLastOf way (Output.Raw output) (Ended.Written bytes) = SpellsRaw bytes output
IsLastOf way (Output.Hop location) (Ended.Hop found) = found ≡ location
IsLastOf way (Output.Bad cause) (Ended.Bad found) = found ≡ cause
IsLastOf way _ _ = ⊥

-- what stood, and after it the rest of the whole
abbrev pub IsRestOf : Way → Derived → List ℕ → Last → Type 0
IsRestOf way derived before (Ended.Written bytes) = IsWholeOf way derived (before ++ bytes)
IsRestOf way derived before (Ended.Hop location) = ⊥
IsRestOf way derived before (Ended.Bad cause) = ⊥

abbrev pub IsLast : Asked → List Told → Bool → Option ℕ → Stood → Last → Type 0
IsLast asked told close stamp nothing last = IsLastOf (whole_way asked close stamp) (derived_of asked.kind (output_of told)) last
IsLast asked told close stamp (begun close_then stamp_then before) last =
    IsRestOf (begun_way asked close_then stamp_then) (derived_of asked.kind (output_of told)) before last
