-- What is shown of whole replies and of those cut off.
use Rattle.std.specs.Prelude.{ℕ, ◌≡◌, ◌<◌, ◌^◌, ◌↔◌, Bool, true, IsTrue, List, [], ◌++◌, length, flat_map, Option, Some, None, option_map}
use Rattle.std.specs.List.{AllByRecursion}
use Rattle.host_base.specs.declared.reply.Reply.{Reply}
use Rattle.host_base.specs.declared.request.Version.{Version}
use Rattle.reply_writer.specs.declared.date.TheConstants.{DATES_END}
use Rattle.reply_writer.specs.declared.shape.Shape.{Shape}
use Rattle.reply_writer.specs.declared.shape.Shape.TheVariants.{Bare, Length, Chunked, ToClose}
use Rattle.reply_writer.specs.Chunks.{chunk_text_of, end_mark}
use Rattle.reply_writer.specs.CutReply.{Cuts, CutsRaw, cut_part, raw_cut_part}
use Rattle.reply_writer.specs.Dates.{date_text_of}
use Rattle.reply_writer.specs.ReadBack.{IsPlainReply}
use Rattle.reply_writer.specs.ReadEnd.{LeavesEnd}
use Rattle.reply_writer.specs.Spelling.{dated, head_text_of, whole_text_of}
use Rattle.reply_writer.specs.WholeReply.{SpellsRaw, Spells, Way, is_raw_spelling, is_spelling, shape_of, stamped}

-- ---- the tests agree with the relations

abbrev pub SpellingsAgree : Type 0
SpellingsAgree = (bytes : List ℕ) (way : Way) (reply : Reply) → length reply.body < 2 ^ 64
    → IsTrue (is_spelling bytes way reply) ↔ Spells bytes way reply

abbrev pub CutsAgree : Type 0
CutsAgree = (bytes : List ℕ) (way : Way) (reply : Reply) (part : List ℕ) → length part < 2 ^ 64
    → (cut_part bytes way reply ≡ Some part) ↔ Cuts bytes way reply part

abbrev pub RawsAgree : Type 0
RawsAgree = (bytes output : List ℕ)
    → (IsTrue (is_raw_spelling bytes output) ↔ SpellsRaw bytes output) × ((raw_cut_part bytes ≡ Some output) ↔ CutsRaw bytes output)

-- ---- what is written is what these say

abbrev pub known_way : Version → Bool → Bool → Option ℕ → Way
known_way version head_only close stamp =
    record { version = version; head_only = head_only; close = close; stamp = stamp; known = true }

-- a whole text is the whole of its reply, whatever the version of the request
abbrev pub WholesSpell : Type 0
WholesSpell = (reply : Reply) (version : Version) (head_only close : Bool) (stamp : Option ℕ)
    → Spells (whole_text_of (dated (option_map date_text_of stamp) reply) head_only close)
    (known_way version head_only close stamp) reply

-- A head that frames chunks, then chunks of at least a byte each, are the reply cut off after their content; with the
-- end mark they are the whole of the reply that has this content.
abbrev pub ChunksSpell : Type 0
ChunksSpell = (reply : Reply) (way : Way) (chunks : List (List ℕ)) → shape_of way reply ≡ Chunked
    → AllByRecursion (λ chunk. 0 < length chunk) chunks
    → Cuts (head_text_of (stamped way reply) Chunked way.close ++ flat_map chunk_text_of chunks) way reply
    (flat_map (λ chunk. chunk) chunks)
    × (reply.body ≡ flat_map (λ chunk. chunk) chunks
    → Spells (head_text_of (stamped way reply) Chunked way.close ++ flat_map chunk_text_of chunks ++ end_mark) way reply)

-- ---- the end of a whole reply can be told

-- a head of that shape tells where its body ends
abbrev pub IsDelimited : Shape → Type 0
IsDelimited Bare = ⊥
IsDelimited (Length n) = Unit {0}
IsDelimited Chunked = Unit {0}
IsDelimited ToClose = ⊥

-- of the bytes of a whole reply with a length or in chunks, no fewer are the whole of it
abbrev pub FrontsAreNotWhole : Type 0
FrontsAreNotWhole = (front more : List ℕ) (way : Way) (reply : Reply) → IsDelimited (shape_of way reply)
    → length reply.body < 2 ^ 64 → Spells (front ++ more) way reply → Spells front way reply → more ≡ []

-- a reply cut off in chunks is not the whole of it, whatever its body is
abbrev pub CutsAreNotWhole : Type 0
CutsAreNotWhole = (bytes part : List ℕ) (way : Way) (reply : Reply) → shape_of way reply ≡ Chunked
    → length reply.body < 2 ^ 64 → length part < 2 ^ 64 → Cuts bytes way reply part → ¬ (Spells bytes way reply)

-- the second of the Date is one that has a text
abbrev pub IsStamp : Option ℕ → Type 0
IsStamp None = Unit {0}
IsStamp (Some secs) = secs < DATES_END

-- a reply that is read back, with its end
pub record IsWritable (way : Way) (reply : Reply) : Type 0 where
  pub plain : IsPlainReply reply
  pub ends : LeavesEnd reply
  pub short : length reply.body < 2 ^ 64
  pub stamp : IsStamp way.stamp

-- .. nor are they the whole of any other reply
abbrev pub FrontsAreNoReply : Type 0
FrontsAreNoReply = (front more : List ℕ) (way other_way : Way) (reply other : Reply) → IsDelimited (shape_of way reply)
    → IsWritable way reply → IsWritable other_way other → Spells (front ++ more) way reply → Spells front other_way other
    → more ≡ []
