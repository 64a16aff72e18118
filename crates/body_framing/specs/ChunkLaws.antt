-- What holds of the reading of bodies in chunks.
use Rattle.std.specs.Prelude.{◌≡◌, ◌≢◌, ◌⊎◌, ◌↔◌, ℕ, ◌+◌, ◌<◌, ◌≤◌, List, ◌++◌, length, take}
use Rattle.host_base.specs.declared.cause.Cause.{Cause}
use Rattle.host_base.specs.declared.cause.Cause.TheVariants.{BadChunk, BodyTooLong}
use Rattle.body_framing.specs.Chunked.{IsChunkedBody, ended, read_chunked, refused, unended}

-- The bytes that were read as a body are one by the grammar, and each body of the grammar is read,
-- whatever follows it.
abbrev pub BodiesAreRead : Type 0
BodiesAreRead = (limit used : ℕ) (bytes decoded : List ℕ)
    → (read_chunked limit bytes ≡ ended decoded used) ↔ ((used ≤ length bytes) × IsChunkedBody limit (take used bytes) decoded)

-- At the front of a text stands one body at most.
abbrev pub BodiesAreUnique : Type 0
BodiesAreUnique = (limit : ℕ) (bytes more bytes' more' decoded decoded' : List ℕ)
    → IsChunkedBody limit bytes decoded → IsChunkedBody limit bytes' decoded' → bytes ++ more ≡ bytes' ++ more' → (bytes ≡ bytes') × (decoded ≡ decoded')

-- bytes may follow that make it a body within the limit
abbrev pub IsOpen : ℕ → List ℕ → Type 0
IsOpen limit bytes = (more : List ℕ) × ((decoded : List ℕ) × IsChunkedBody limit (bytes ++ more) decoded)

-- no front of the bytes, whatever follows them, is a body within the limit
abbrev pub IsNone : ℕ → List ℕ → Type 0
IsNone limit bytes = (more decoded : List ℕ) (used : ℕ) → IsChunkedBody limit (take used (bytes ++ more)) decoded → ⊥

-- The body goes on exactly where it may still come to its end, and what was decoded stays its front.
abbrev pub UnendedGoOn : Type 0
UnendedGoOn = (limit : ℕ) (bytes decoded : List ℕ) → read_chunked limit bytes ≡ unended decoded
    → (more : List ℕ) × ((rest : List ℕ) × IsChunkedBody limit (bytes ++ more) (decoded ++ rest))

-- The first byte that can't stand where it stands: what is before it may go on, and with it nothing may.
pub record IsRefusedAt (limit : ℕ) (bytes : List ℕ) (count : ℕ) : Type 0 where
  pub inside : count < length bytes
  pub goes : IsOpen limit (take count bytes)
  pub stops : IsNone limit (take (count + 1) bytes)

-- The cause of bytes whose last one can't stand there: BodyTooLong where it may for a larger limit, and
-- else BadChunk.
abbrev pub IsCauseOf : Cause → ℕ → List ℕ → Type 0
IsCauseOf cause limit bytes =
    ((cause ≡ BodyTooLong) × ((larger : ℕ) × IsOpen larger bytes))
    ⊎ ((cause ≡ BadChunk) × ((larger : ℕ) → limit ≤ larger → IsNone larger bytes))

-- What is refused is no body whatever follows, for the cause of the first byte that can't stand.
abbrev pub RefusedAreNone : Type 0
RefusedAreNone = (limit : ℕ) (bytes : List ℕ) (cause : Cause) → read_chunked limit bytes ≡ refused cause
    → IsNone limit bytes × ((count : ℕ) × (IsRefusedAt limit bytes count × IsCauseOf cause limit (take (count + 1) bytes)))

-- A body and a fault stay, whatever bytes follow.
abbrev pub ReadingsStay : Type 0
ReadingsStay = (limit : ℕ) (bytes more : List ℕ) → ((decoded : List ℕ) → read_chunked limit bytes ≢ unended decoded)
    → read_chunked limit (bytes ++ more) ≡ read_chunked limit bytes
