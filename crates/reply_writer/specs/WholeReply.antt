-- When bytes are the whole of a reply, as a relation and as a test (RFC 9112 2.1, 6, 7.1 and 9.6).
use Rattle.std.specs.Prelude.{ℕ, ◌≡◌, Bool, true, false, ◌&&◌, nat_eq, if◌then◌else◌, List, [], ◌∷◌, ◌++◌, length, drop, bytes_eq, Option, Some, None, option_map}
use Rattle.std.specs.List.{starts_with}
use Rattle.host_base.specs.declared.reply.Reply.{Reply}
use Rattle.host_base.specs.declared.request.Version.{Version}
use Rattle.host_base.specs.declared.request.Version.TheVariants.{V10, V11}
use Rattle.reply_writer.specs.declared.shape.Shape.{Shape}
use Rattle.reply_writer.specs.declared.shape.Shape.TheVariants.{Bare, Length, Chunked, ToClose}
use Rattle.reply_writer.specs.Chunks.{Chunks, AreChunks, chunks_of}
use Rattle.reply_writer.specs.Dates.{date_text_of}
use Rattle.reply_writer.specs.Spelling.{dated, head_text_of, is_head_alone}

-- What a spelling depends on beside the reply: the version of the request; whether its method is HEAD; whether the
-- connection closes after the reply; the second of its Date, if it has one; and whether the whole reply was known
-- before its first byte was written.
pub record Way : Type 0 where
  pub version : Version
  pub head_only : Bool
  pub close : Bool
  pub stamp : Option ℕ
  pub known : Bool

-- how a body is framed whose length isn't known: in chunks, or up to the close for HTTP/1.0, which has no chunks
-- (RFC 9112 6.1 and 6.3)
abbrev pub open_shape : Version → Shape
open_shape V11 = Chunked
open_shape V10 = ToClose

abbrev pub shape_of : Way → Reply → Shape
shape_of way reply =
    if is_head_alone reply way.head_only then Bare
    else (if way.known then Length (length reply.body) else open_shape way.version)

-- the reply with the Date of the stamp
abbrev pub stamped : Way → Reply → Reply
stamped way reply = dated (option_map date_text_of way.stamp) reply

abbrev pub head_of : Way → Reply → List ℕ
head_of way reply = head_text_of (stamped way reply) (shape_of way reply) way.close

-- ---- whole

-- bytes are this body, as a head of that shape frames it. How a body is cut into chunks is not fixed.
abbrev pub IsWholeBody : Shape → List ℕ → List ℕ → Type 0
IsWholeBody Bare body bytes = bytes ≡ []
IsWholeBody (Length n) body bytes = bytes ≡ body
IsWholeBody Chunked body bytes = AreChunks bytes (record { content = body; ended = true })
IsWholeBody ToClose body bytes = bytes ≡ body

-- bytes are the whole of the reply
pub record Spells (bytes : List ℕ) (way : Way) (reply : Reply) : Type 0 where
  pub rest : List ℕ
  pub text : bytes ≡ head_of way reply ++ rest
  pub follows : IsWholeBody (shape_of way reply) reply.body rest

-- the output of a script that writes its own reply is spelled by its own bytes (RFC 3875 5)
abbrev pub SpellsRaw : List ℕ → List ℕ → Type 0
SpellsRaw bytes output = bytes ≡ output

-- ---- the same, computed

abbrev pub is_nothing : List ℕ → Bool
is_nothing [] = true
is_nothing (byte ∷ bytes) = false

abbrev pub are_whole_chunks : List ℕ → Option Chunks → Bool
are_whole_chunks body None = false
are_whole_chunks body (Some found) = found.ended && bytes_eq found.content body

abbrev pub is_whole_body : Shape → List ℕ → List ℕ → Bool
is_whole_body Bare body bytes = is_nothing bytes
is_whole_body (Length n) body bytes = bytes_eq bytes body
is_whole_body Chunked body bytes = are_whole_chunks body (chunks_of bytes)
is_whole_body ToClose body bytes = bytes_eq bytes body

abbrev pub is_spelling : List ℕ → Way → Reply → Bool
is_spelling bytes way reply =
    let head = head_of way reply in
    starts_with nat_eq bytes head && is_whole_body (shape_of way reply) reply.body (drop (length head) bytes)

abbrev pub is_raw_spelling : List ℕ → List ℕ → Bool
is_raw_spelling bytes output = bytes_eq bytes output
