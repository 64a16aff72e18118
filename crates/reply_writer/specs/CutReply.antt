-- When bytes are a reply that was cut off within its body, as a relation and as a test.
use Rattle.std.specs.Prelude.{ℕ, ◌≡◌, false, nat_eq, if◌then◌else◌, List, [], ◌++◌, length, drop, Option, Some, None}
use Rattle.std.specs.List.{starts_with}
use Rattle.host_base.specs.declared.reply.Reply.{Reply}
use Rattle.reply_writer.specs.declared.shape.Shape.{Shape}
use Rattle.reply_writer.specs.declared.shape.Shape.TheVariants.{Bare, Length, Chunked, ToClose}
use Rattle.reply_writer.specs.Chunks.{Chunks, AreChunks, chunks_of}
use Rattle.reply_writer.specs.WholeReply.{Way, head_of, is_nothing, shape_of}

-- bytes are this part of a body, as a head of that shape frames it, without the end mark. A reply whose length is
-- told is never cut off, since it is known as a whole.
abbrev pub IsBodyPart : Shape → List ℕ → List ℕ → Type 0
IsBodyPart Bare part bytes = (bytes ≡ []) × (part ≡ [])
IsBodyPart (Length n) part bytes = ⊥
IsBodyPart Chunked part bytes = AreChunks bytes (record { content = part; ended = false })
IsBodyPart ToClose part bytes = bytes ≡ part

-- bytes are the reply, cut off after this part of its body
pub record Cuts (bytes : List ℕ) (way : Way) (reply : Reply) (part : List ℕ) : Type 0 where
  pub rest : List ℕ
  pub text : bytes ≡ head_of way reply ++ rest
  pub follows : IsBodyPart (shape_of way reply) part rest

-- the output of a script that writes its own reply is cut off after the bytes that were written of it
abbrev pub CutsRaw : List ℕ → List ℕ → Type 0
CutsRaw bytes part = bytes ≡ part

-- ---- the same, computed

-- the content of chunks without an end mark
abbrev pub open_content : Option Chunks → Option (List ℕ)
open_content None = None
open_content (Some found) = if found.ended then None else Some found.content

-- the part of a body that bytes are, if they are one
abbrev pub body_part : Shape → List ℕ → Option (List ℕ)
body_part Bare bytes = if is_nothing bytes then Some [] else None
body_part (Length n) bytes = None
body_part Chunked bytes = open_content (chunks_of bytes)
body_part ToClose bytes = Some bytes

-- the part after which bytes are the reply cut off, if they are that
abbrev pub cut_part : List ℕ → Way → Reply → Option (List ℕ)
cut_part bytes way reply =
    let head = head_of way reply in
    if starts_with nat_eq bytes head then body_part (shape_of way reply) (drop (length head) bytes) else None

abbrev pub raw_cut_part : List ℕ → Option (List ℕ)
raw_cut_part bytes = Some bytes
