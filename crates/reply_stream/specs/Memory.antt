-- Where memory can be wanting: at a tick only where the reply is to begin, and at the end of the output, of a reply that
-- has begun, only where its chunks are to be ended. A piece of the output may always find none.
use Rattle.std.specs.Prelude.{◌≡◌, true, List, [], ◌∷◌, ◌++◌}
use Rattle.reply_kinds.specs.declared.derived.Derived.{Derived}
use Rattle.reply_kinds.specs.declared.derived.Derived.TheVariants as Output
use Rattle.reply_kinds.specs.Derived.{derived_of}
use Rattle.reply_writer.specs.declared.shape.Shape.TheVariants.{Chunked}
use Rattle.reply_writer.specs.WholeReply.{Way, shape_of}
use Rattle.reply_stream.specs.declared.asked.Asked.{Asked}
use Rattle.reply_stream.specs.Hearing.{Told, tick, output_of, must_begin}
use Rattle.reply_stream.specs.Writing.{Stood, nothing, begun, begun_way}

-- a reply in chunks
abbrev pub IsChunked : Way → Derived → Type 0
IsChunked way (Output.Reply reply) = shape_of way reply ≡ Chunked
IsChunked way (Output.Raw output) = ⊥
IsChunked way (Output.Hop location) = ⊥
IsChunked way (Output.Bad cause) = ⊥

-- a tick is to begin the reply
abbrev pub NeedsAtTick : Asked → List Told → Stood → Type 0
NeedsAtTick asked told nothing = must_begin asked.kind (told ++ tick ∷ []) ≡ true
NeedsAtTick asked told (begun close stamp bytes) = ⊥

-- nothing was written yet, or the end of the chunks is
abbrev pub NeedsAtEnd : Asked → List Told → Stood → Type 0
NeedsAtEnd asked told nothing = Unit {0}
NeedsAtEnd asked told (begun close stamp bytes) = IsChunked (begun_way asked close stamp) (derived_of asked.kind (output_of told))
