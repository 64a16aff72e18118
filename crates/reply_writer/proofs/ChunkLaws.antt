-- Chunks are found: what is written as chunks is read as these.
use Rattle.std.proofs.Common.{◌≡◌, ◌<◌, ◌≤◌, ℕ, zero, suc, ◌+◌, ◌*◌, ◌/◌, ◌%◌, ◌^◌, Bool, lit≤, Option, sym, true, false, cond, List, [], ◌∷◌, ◌++◌, length, take, drop, Some, None, refl, ap, ◌∙◌, arith, append_assoc}
use Rattle.std.specs.Prelude.{not, ◌&&◌, ◌==◌, nat_lt, nat_eq, if◌then◌else◌, bytes_eq, option_map}
use Rattle.std.specs.List.{flat_map, starts_with, AllByRecursion, fold, before_first, position_or_len, prefix_len}
use Rattle.std.specs.Fmt.{digits, digits_onto, digit_glyph}
use Rattle.std.proofs.lemmas.Bool.{eqb-true, lt-ltb}
use Rattle.std.proofs.lemmas.Bool.Decides.{nat_tests}
use Rattle.std.proofs.lemmas.List.{length-append}
use Rattle.std.proofs.lemmas.Slice.Eq.{bytes_eq-Decides}
use Rattle.std.proofs.Math.Seq.{drop-append_seam, take-append_seam, drop-append-add}
use Rattle.reply_writer.specs.Chunks.{AreChunks, Chunks, after_chunk, chunk_text_of, chunks_of, chunks_within, end_mark, first_content, hex_digit_value, hex_value, is_cr, with_chunk}
use Rattle.reply_writer.proofs.FrontLaws.{front_stands}

-- ---- sizes

abbrev more_hex : ℕ → ℕ → ℕ
more_hex n digit = n * 16 + hex_digit_value digit

glyph_value : (d : ℕ) → d < 16 → hex_digit_value (digit_glyph false d) ≡ d
glyph_value d small = grind (arith, nat_tests)

glyph_no_cr : (d : ℕ) → d < 16 → is_cr (digit_glyph false d) ≡ false
glyph_no_cr d small = grind (arith, nat_tests)

-- the numbers that so many digits hold
abbrev pub hex_bound : ℕ → ℕ
hex_bound zero = 1
hex_bound (suc k) = 16 * hex_bound k

hex_onto : (k n : ℕ) (after : List ℕ) → n < hex_bound k → fold more_hex 0 (digits_onto k 16 false n after) ≡ fold more_hex n after
hex_onto zero n after small = let none : 0 ≡ n = omega arith in ap (λ (m : ℕ). fold more_hex m after) none
hex_onto (suc k) n after small = by_test (hex_onto k (n / 16) (digit_glyph false (n % 16) ∷ after) (omega arith)) (n / 16 == 0) refl
  where
    value : hex_digit_value (digit_glyph false (n % 16)) ≡ n % 16
    value = glyph_value (n % 16) (omega arith)

    by_test : fold more_hex 0 (digits_onto k 16 false (n / 16) (digit_glyph false (n % 16) ∷ after)) ≡ fold more_hex (n / 16) (digit_glyph false (n % 16) ∷ after)
        → (t : Bool) → (n / 16 == 0) ≡ t → fold more_hex 0 (if t then digit_glyph false (n % 16) ∷ after else digits_onto k 16 false (n / 16) (digit_glyph false (n % 16) ∷ after)) ≡ fold more_hex n after
    by_test later true e =
        let none = eqb-true (n / 16) 0 e in
        let same : 0 * 16 + hex_digit_value (digit_glyph false (n % 16)) ≡ n = rw value (omega arith) in
        ap (λ (m : ℕ). fold more_hex m after) same
    by_test later false e =
        let same : n / 16 * 16 + hex_digit_value (digit_glyph false (n % 16)) ≡ n = rw value (omega arith) in
        later ∙ ap (λ (m : ℕ). fold more_hex m after) same

hex_of_digits : (n : ℕ) → n < hex_bound 64 → hex_value (digits 16 false n) ≡ n
unfolding digits
hex_of_digits n small = hex_onto 64 n [] small

abbrev NoCr : List ℕ → Type 0
NoCr [] = Unit {0}
NoCr (byte ∷ bytes) = (is_cr byte ≡ false) × NoCr bytes

no_cr_onto : (k n : ℕ) (after : List ℕ) → NoCr after → NoCr (digits_onto k 16 false n after)
no_cr_onto zero n after all = all
no_cr_onto (suc k) n after all = by_test (no_cr_onto k (n / 16) (digit_glyph false (n % 16) ∷ after) more) (n / 16 == 0)
  where
    more : NoCr (digit_glyph false (n % 16) ∷ after)
    more = (glyph_no_cr (n % 16) (omega arith), all)

    by_test : NoCr (digits_onto k 16 false (n / 16) (digit_glyph false (n % 16) ∷ after)) → (t : Bool)
        → NoCr (if t then digit_glyph false (n % 16) ∷ after else digits_onto k 16 false (n / 16) (digit_glyph false (n % 16) ∷ after))
    by_test later true = more
    by_test later false = later

digits_no_cr : (n : ℕ) → NoCr (digits 16 false n)
unfolding digits
digits_no_cr n = no_cr_onto 64 n [] tt

-- ---- the size in front of a chunk

size_len : (size rest : List ℕ) → NoCr size → position_or_len is_cr (size ++ 13 ∷ rest) ≡ length size
size_len [] rest none = refl
size_len (byte ∷ size) rest none =
    let later = size_len size rest none.1 in
    ap (λ (b : Bool). cond (not b) (1 + prefix_len (λ y. not (is_cr y)) (size ++ 13 ∷ rest)) 0) none.0
    ∙ (let e : 1 + prefix_len (λ y. not (is_cr y)) (size ++ 13 ∷ rest) ≡ suc (length size) = omega (arith, later) in e)

size_is : (size rest : List ℕ) → NoCr size → before_first is_cr (size ++ 13 ∷ rest) ≡ size
size_is size rest none = ap (λ (n : ℕ). take n (size ++ 13 ∷ rest)) (size_len size rest none) ∙ take-append_seam size (13 ∷ rest)

-- a chunk and what follows it, by its size
chunk_is : (content rest : List ℕ) → chunk_text_of content ++ rest ≡ digits 16 false (length content) ++ 13 ∷ 10 ∷ (content ++ 13 ∷ 10 ∷ rest)
chunk_is content rest = simp append_assoc

size_of_chunk : (content rest : List ℕ) → before_first is_cr (chunk_text_of content ++ rest) ≡ digits 16 false (length content)
size_of_chunk content rest =
    ap (λ l. before_first is_cr l) (chunk_is content rest) ∙ size_is (digits 16 false (length content)) (10 ∷ (content ++ 13 ∷ 10 ∷ rest)) (digits_no_cr (length content))

content_at : (content rest size : List ℕ) → before_first is_cr (chunk_text_of content ++ rest) ≡ size → hex_value size ≡ length content → size ≡ digits 16 false (length content)
    → take (hex_value size) (drop (length size + 2) (chunk_text_of content ++ rest)) ≡ content
content_at content rest size at value same =
    ap (λ (n : ℕ). take n (drop (length size + 2) (chunk_text_of content ++ rest))) value
    ∙ (ap (λ l. take (length content) (drop (length l + 2) (chunk_text_of content ++ rest))) same
    ∙ (ap (λ l. take (length content) (drop (length (digits 16 false (length content)) + 2) l)) (chunk_is content rest)
    ∙ (ap (λ l. take (length content) l) (drop-append-add (digits 16 false (length content)) (13 ∷ 10 ∷ (content ++ 13 ∷ 10 ∷ rest)) 2)
    ∙ take-append_seam content (13 ∷ 10 ∷ rest))))

content_is : (content rest : List ℕ) → length content < hex_bound 64 → first_content (chunk_text_of content ++ rest) ≡ content
content_is content rest small =
    let at = size_of_chunk content rest in
    let value : hex_value (before_first is_cr (chunk_text_of content ++ rest)) ≡ length content = ap hex_value at ∙ hex_of_digits (length content) small in
    content_at content rest (before_first is_cr (chunk_text_of content ++ rest)) refl value at

-- a chunk is no end mark
not_end : (content rest : List ℕ) → length content < hex_bound 64 → 0 < length content → bytes_eq (chunk_text_of content ++ rest) end_mark ≡ false
not_end content rest small some = go (bytes_eq (chunk_text_of content ++ rest) end_mark) refl
  where
    go : (b : Bool) → bytes_eq (chunk_text_of content ++ rest) end_mark ≡ b → b ≡ false
    go true is =
        let same : chunk_text_of content ++ rest ≡ end_mark = (bytes_eq-Decides (chunk_text_of content ++ rest) end_mark).0 is in
        let value : hex_value (before_first is_cr (chunk_text_of content ++ rest)) ≡ length content =
        ap hex_value (size_of_chunk content rest) ∙ hex_of_digits (length content) small in
        let none : hex_value (before_first is_cr (chunk_text_of content ++ rest)) ≡ 0 = ap (λ l. hex_value (before_first is_cr l)) same in
        absurd (omega (arith, some, value, none))
    go false is = refl

-- ---- all chunks

chunks_step : (most : ℕ) (text : List ℕ) → 0 < length text → chunks_within (suc most) text
    ≡ (if bytes_eq text end_mark then Some (record { content = []; ended = true })
    else after_chunk (first_content text) text (chunks_within most (drop (length (chunk_text_of (first_content text))) text)))
chunks_step most [] some = absurd (omega arith)
chunks_step most (byte ∷ bytes) some = refl

abbrev pub IsChunk : List ℕ → Type 0
IsChunk content = (0 < length content) × (length content < hex_bound 64)

chunk_len : (content : List ℕ) → 0 < length (chunk_text_of content)
chunk_len content = rw length-append (omega arith)

both_true : (a b : Bool) → a ≡ true → b ≡ true → (a && b) ≡ true
both_true a b left right = rw (left, right) refl

-- a chunk is found, and then what follows it
first_chunk : (most : ℕ) (content rest : List ℕ) → IsChunk content
    → chunks_within (suc most) (chunk_text_of content ++ rest) ≡ option_map (with_chunk content) (chunks_within most rest)
first_chunk most content rest is =
    let longer : 0 < length (chunk_text_of content ++ rest) = let some = chunk_len content in rw length-append (omega (arith, some)) in
    let fits : (nat_lt 0 (length content) && starts_with nat_eq (chunk_text_of content ++ rest) (chunk_text_of content)) ≡ true =
    both_true _ _ (lt-ltb 0 (length content) is.0) (front_stands (chunk_text_of content) rest) in
    chunks_step most (chunk_text_of content ++ rest) longer
    ∙ (ap (λ (b : Bool). if b then Some (record { content = []; ended = true })
    else after_chunk (first_content (chunk_text_of content ++ rest)) (chunk_text_of content ++ rest) (chunks_within most (drop (length (chunk_text_of (first_content (chunk_text_of content ++ rest)))) (chunk_text_of content ++ rest)))) (not_end content rest is.1 is.0)
    ∙ (ap (λ c. after_chunk c (chunk_text_of content ++ rest) (chunks_within most (drop (length (chunk_text_of c)) (chunk_text_of content ++ rest)))) (content_is content rest is.1)
    ∙ (ap (λ r. after_chunk content (chunk_text_of content ++ rest) (chunks_within most r)) (drop-append_seam (chunk_text_of content) rest)
    ∙ ap (λ (b : Bool). if b then option_map (with_chunk content) (chunks_within most rest) else None) fits)))

one_chunk : (most : ℕ) (content rest : List ℕ) (found : Chunks) → IsChunk content → chunks_within most rest ≡ Some found
    → chunks_within (suc most) (chunk_text_of content ++ rest) ≡ Some (with_chunk content found)
one_chunk most content rest found is later = first_chunk most content rest is ∙ ap (option_map (with_chunk content)) later

abbrev tail_of : Bool → List ℕ
tail_of ended = if ended then end_mark else []

chunks_stand : (most : ℕ) (chunks : List (List ℕ)) (ended : Bool) → AllByRecursion IsChunk chunks
    → length (flat_map chunk_text_of chunks ++ tail_of ended) ≤ most
    → chunks_within most (flat_map chunk_text_of chunks ++ tail_of ended) ≡ Some (record { content = flat_map (λ chunk. chunk) chunks; ended = ended })
chunks_stand zero [] false each fits = refl
chunks_stand (suc most) [] false each fits = refl
chunks_stand zero [] true each fits = absurd (omega (arith, fits))
chunks_stand (suc most) [] true each fits = refl
chunks_stand zero (content ∷ chunks) ended each fits =
    let longer = chunk_len content in
    let sum : length ((chunk_text_of content ++ flat_map chunk_text_of chunks) ++ tail_of ended) ≡ length (chunk_text_of content) + length (flat_map chunk_text_of chunks) + length (tail_of ended) = simp length-append in
    absurd (omega (arith, longer, fits, sum))
chunks_stand (suc most) (content ∷ chunks) ended each fits =
    let longer = chunk_len content in
    let sum : length ((chunk_text_of content ++ flat_map chunk_text_of chunks) ++ tail_of ended) ≡ length (chunk_text_of content) + length (flat_map chunk_text_of chunks) + length (tail_of ended) = simp length-append in
    let less : length (flat_map chunk_text_of chunks ++ tail_of ended) ≡ length (flat_map chunk_text_of chunks) + length (tail_of ended) = length-append _ _ in
    let short : length (flat_map chunk_text_of chunks ++ tail_of ended) ≤ most = omega (arith, longer, fits, sum, less) in
    ap (λ l. chunks_within (suc most) l) (append_assoc (chunk_text_of content) (flat_map chunk_text_of chunks) (tail_of ended))
    ∙ one_chunk most content (flat_map chunk_text_of chunks ++ tail_of ended) _ each.0 (chunks_stand most chunks ended each.1 short)

-- what is written as chunks, with the end mark or without, is read as these
pub chunks_read : (chunks : List (List ℕ)) (ended : Bool) → AllByRecursion IsChunk chunks
    → chunks_of (flat_map chunk_text_of chunks ++ (if ended then end_mark else [])) ≡ Some (record { content = flat_map (λ chunk. chunk) chunks; ended = ended })
chunks_read chunks ended each = chunks_stand (length (flat_map chunk_text_of chunks ++ tail_of ended)) chunks ended each (omega arith)

-- ---- chunks of some bytes

-- chunks of a content below 2 ^ 64 have sizes that are read back
sizes_fit : (chunks : List (List ℕ)) → AllByRecursion (λ chunk. 0 < length chunk) chunks
    → length (flat_map (λ chunk. chunk) chunks) < 2 ^ 64 → AllByRecursion IsChunk chunks
sizes_fit [] each small = tt
sizes_fit (chunk ∷ chunks) each small =
    let sum : length (chunk ++ flat_map (λ c. c) chunks) ≡ length chunk + length (flat_map (λ c. c) chunks) = length-append _ _ in
    let wide : 2 ^ 64 ≤ hex_bound 64 = lit≤ tt in
    ((each.0, omega (arith, small, sum, wide)), sizes_fit chunks each.1 (omega (arith, small, sum)))

-- what bytes are as chunks is what is found in them
pub are_chunks_found : (bytes : List ℕ) (found : Chunks) → AreChunks bytes found → length found.content < 2 ^ 64
    → chunks_of bytes ≡ Some found
are_chunks_found bytes found are small =
    let each : AllByRecursion IsChunk are.chunks =
    sizes_fit are.chunks are.each (rw are.content at small) in
    ap chunks_of are.text
    ∙ (chunks_read are.chunks found.ended each ∙ (λ i. Some (record { content = sym are.content i; ended = found.ended })))

-- ---- the end mark is the end

nothing_after_mark : (most : ℕ) (more : List ℕ) (found : Chunks) → chunks_within most (end_mark ++ more) ≡ Some found → more ≡ []
nothing_after_mark zero more found e = absurd (cc)
nothing_after_mark (suc most) [] found e = refl
nothing_after_mark (suc most) (byte ∷ bytes) found e = absurd (cc)

some_later : (content : List ℕ) (later : Option Chunks) (found : Chunks) → option_map (with_chunk content) later ≡ Some found
    → (rest : Chunks) × (later ≡ Some rest)
some_later content None found e = absurd (cc)
some_later content (Some rest) found e = (rest, refl)

no_room : (bytes : List ℕ) (found : Chunks) → 0 < length bytes → chunks_within zero bytes ≡ Some found → ⊥
no_room [] found some e = omega arith
no_room (byte ∷ bytes) found some e = cc

pub nothing_after_end : (most : ℕ) (chunks : List (List ℕ)) (more : List ℕ) (found : Chunks) → AllByRecursion IsChunk chunks
    → chunks_within most (flat_map chunk_text_of chunks ++ (end_mark ++ more)) ≡ Some found → more ≡ []
nothing_after_end most [] more found each e = nothing_after_mark most more found e
nothing_after_end zero (content ∷ chunks) more found each e =
    let longer = chunk_len content in
    let sum : length ((chunk_text_of content ++ flat_map chunk_text_of chunks) ++ (end_mark ++ more)) ≡ length (chunk_text_of content) + length (flat_map chunk_text_of chunks) + length (end_mark ++ more) = simp length-append in
    absurd (no_room ((chunk_text_of content ++ flat_map chunk_text_of chunks) ++ (end_mark ++ more)) found (omega (arith, longer, sum)) e)
nothing_after_end (suc most) (content ∷ chunks) more found each e =
    let rest : List ℕ = flat_map chunk_text_of chunks ++ (end_mark ++ more) in
    let first : option_map (with_chunk content) (chunks_within most rest) ≡ Some found =
    sym (first_chunk most content rest each.0)
    ∙ (ap (λ l. chunks_within (suc most) l) (sym (append_assoc (chunk_text_of content) (flat_map chunk_text_of chunks) (end_mark ++ more))) ∙ e) in
    let later = some_later content (chunks_within most rest) found first in
    nothing_after_end most chunks more later.0 each.1 later.1

-- nothing follows whole chunks in whole chunks
pub whole_chunks_end : (bytes more : List ℕ) (content other : List ℕ) → length content < 2 ^ 64 → length other < 2 ^ 64
    → AreChunks (bytes ++ more) (record { content = content; ended = true }) → AreChunks bytes (record { content = other; ended = true })
    → more ≡ []
whole_chunks_end bytes more content other small other_small longer whole =
    let each : AllByRecursion IsChunk whole.chunks = sizes_fit whole.chunks whole.each (rw whole.content at other_small) in
    let text : bytes ++ more ≡ flat_map chunk_text_of whole.chunks ++ (end_mark ++ more) =
    ap (λ l. l ++ more) whole.text ∙ append_assoc (flat_map chunk_text_of whole.chunks) end_mark more in
    let found : chunks_of (bytes ++ more) ≡ Some (record { content = content; ended = true }) =
    are_chunks_found (bytes ++ more) (record { content = content; ended = true }) longer small in
    nothing_after_end (length (bytes ++ more)) whole.chunks more (record { content = content; ended = true }) each
    (ap (λ l. chunks_within (length (bytes ++ more)) l) (sym text) ∙ found)
