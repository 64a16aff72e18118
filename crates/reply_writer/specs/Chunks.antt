-- A body in chunks, of at least a byte each, without extensions and trailers (RFC 9112 7.1).
use Rattle.std.specs.Prelude.{ℕ, zero, suc, ◌≡◌, ◌<◌, ◌+◌, ◌*◌, ◌-◌, Bool, true, false, ◌&&◌, ◌==◌, nat_lt, nat_eq, if◌then◌else◌, List, [], ◌∷◌, ◌++◌, length, take, drop, flat_map, codes, bytes_eq, Option, Some, None, option_map}
use Rattle.std.specs.List.{before_first, fold, starts_with, AllByRecursion}
use Rattle.std.specs.Fmt.{digits}

-- chunk = chunk-size CRLF chunk-data CRLF, the size in lower-case hex without leading zeros
abbrev pub chunk_text_of : List ℕ → List ℕ
chunk_text_of content = digits 16 false (length content) ++ codes "\r\n" ++ content ++ codes "\r\n"

-- last-chunk, no trailer fields, and CRLF: the end of the body
abbrev pub end_mark : List ℕ
end_mark = codes "0\r\n\r\n"

-- what some bytes are as chunks: their content joined, and whether the end mark follows
pub record Chunks : Type 0 where
  pub content : List ℕ
  pub ended : Bool

-- bytes are chunks of at least a byte each, which have this content, and then the end mark or nothing
pub record AreChunks (bytes : List ℕ) (found : Chunks) : Type 0 where
  pub chunks : List (List ℕ)
  pub each : AllByRecursion (λ chunk. 0 < length chunk) chunks
  pub content : found.content ≡ flat_map (λ chunk. chunk) chunks
  pub text : bytes ≡ flat_map chunk_text_of chunks ++ (if found.ended then end_mark else [])

-- ---- the same, computed

abbrev pub is_cr : ℕ → Bool
is_cr byte = byte == 13

-- the value of a digit in lower-case hex
abbrev pub hex_digit_value : ℕ → ℕ
hex_digit_value digit = if nat_lt digit 97 then digit - 48 else digit - 87

abbrev pub hex_value : List ℕ → ℕ
hex_value text = fold (λ (n digit : ℕ). n * 16 + hex_digit_value digit) 0 text

-- the content of the first chunk, if the number that stands in front is its size
abbrev pub first_content : List ℕ → List ℕ
first_content bytes =
    let size = before_first is_cr bytes in take (hex_value size) (drop (length size + 2) bytes)

abbrev pub with_chunk : List ℕ → Chunks → Chunks
with_chunk content found = record found { content = content ++ found.content }

-- the bytes begin with a chunk of this content, and what follows it are the later chunks
abbrev pub after_chunk : List ℕ → List ℕ → Option Chunks → Option Chunks
after_chunk content bytes later =
    if nat_lt 0 (length content) && starts_with nat_eq bytes (chunk_text_of content)
    then option_map (with_chunk content) later else None

-- the chunks that bytes are, of at most so many; None where they are none
abbrev pub chunks_within : ℕ → List ℕ → Option Chunks
chunks_within most [] = Some (record { content = []; ended = false })
chunks_within zero (byte ∷ bytes) = None
chunks_within (suc most) (byte ∷ bytes) =
    let content = first_content (byte ∷ bytes) in
    let later = chunks_within most (drop (length (chunk_text_of content)) (byte ∷ bytes)) in
    if bytes_eq (byte ∷ bytes) end_mark then Some (record { content = []; ended = true })
    else after_chunk content (byte ∷ bytes) later

abbrev pub chunks_of : List ℕ → Option Chunks
chunks_of bytes = chunks_within (length bytes) bytes
