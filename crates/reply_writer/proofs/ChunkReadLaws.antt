-- A chunk is read by the chunk grammar.
use Rattle.std.proofs.Common.{◌≡◌, ℕ, zero, suc, ◌+◌, ◌/◌, ◌%◌, ◌<◌, ◌≤◌, ◌^◌, Bool, true, false, List, [], ◌∷◌, ◌++◌, length, None, refl, arith, append_assoc, codes, lit≤}
use Rattle.std.specs.Prelude.{IsTrue, ◌==◌, if◌then◌else◌}
use Rattle.std.specs.Char.{is_ascii_hexdigit}
use Rattle.std.specs.Fmt.{digits, digits_onto, digit_glyph}
use Rattle.std.specs.Str.Parse.{digits_value}
use Rattle.std.proofs.lemmas.Bool.{eqb-false}
use Rattle.std.proofs.lemmas.Bool.Decides.{nat_tests}
use Rattle.std.proofs.lemmas.Fmt.{digits_is_IsNumeral}
use Rattle.std.proofs.lemmas.List.Elements.{All-cons, All-nil}
use Rattle.httparse.specs.Grammar.{AllPass, ChunkLine, IsChunkLine, is_ows, print_chunk_line}
use Rattle.reply_writer.specs.ChunkRules.{ChunksReadBack, ReadsSize}
use Rattle.reply_writer.specs.Chunks.{end_mark}
use Rattle.reply_writer.proofs.ChunkLaws.{hex_bound}

glyph_is_hex : (d : ℕ) → d < 16 → is_ascii_hexdigit (digit_glyph false d) ≡ true
glyph_is_hex d small = grind (arith, nat_tests)

onto_is_hex : (k n : ℕ) (after : List ℕ) → AllPass is_ascii_hexdigit after → AllPass is_ascii_hexdigit (digits_onto k 16 false n after)
onto_is_hex zero n after all = all
onto_is_hex (suc k) n after all = by_test (onto_is_hex k (n / 16) (digit_glyph false (n % 16) ∷ after) more) (n / 16 == 0)
  where
    more : AllPass is_ascii_hexdigit (digit_glyph false (n % 16) ∷ after)
    more = All-cons (λ b. is_ascii_hexdigit b ≡ true) _ after (glyph_is_hex (n % 16) (omega arith)) all

    by_test : AllPass is_ascii_hexdigit (digits_onto k 16 false (n / 16) (digit_glyph false (n % 16) ∷ after)) → (t : Bool)
        → AllPass is_ascii_hexdigit (if t then digit_glyph false (n % 16) ∷ after else digits_onto k 16 false (n / 16) (digit_glyph false (n % 16) ∷ after))
    by_test later true = more
    by_test later false = later

-- a number below 16 ^ (j + 1) has j + 1 digits at most
onto_is_short : (k j n : ℕ) (after : List ℕ) → n < hex_bound (suc j) → length (digits_onto k 16 false n after) ≤ suc j + length after
onto_is_short zero j n after small = omega arith
onto_is_short (suc k) j n after small =
    by_test (n / 16 == 0) refl (deeper j small (λ i bound. onto_is_short k i (n / 16) (digit_glyph false (n % 16) ∷ after) bound))
  where
    deeper : (i : ℕ) → n < hex_bound (suc i)
        → ((l : ℕ) → n / 16 < hex_bound (suc l)
        → length (digits_onto k 16 false (n / 16) (digit_glyph false (n % 16) ∷ after)) ≤ suc l + length (digit_glyph false (n % 16) ∷ after))
        → (n / 16 ≡ 0 → ⊥)
        → length (digits_onto k 16 false (n / 16) (digit_glyph false (n % 16) ∷ after)) ≤ suc i + length after
    deeper zero bound more some = absurd (some (omega arith))
    deeper (suc i) bound more some = let later = more i (omega (arith, bound)) in omega (arith, later)

    by_test : (t : Bool) → (n / 16 == 0) ≡ t
        → ((n / 16 ≡ 0 → ⊥) → length (digits_onto k 16 false (n / 16) (digit_glyph false (n % 16) ∷ after)) ≤ suc j + length after)
        → length (if t then digit_glyph false (n % 16) ∷ after else digits_onto k 16 false (n / 16) (digit_glyph false (n % 16) ∷ after)) ≤ suc j + length after
    by_test true is later = omega arith
    by_test false is later = later (eqb-false (n / 16) 0 is)

onto_is_filled : (k n : ℕ) (after : List ℕ) → 0 < length (digits_onto (suc k) 16 false n after)
onto_is_filled k n after = by_test k (n / 16 == 0)
  where
    longer : (k n : ℕ) (after : List ℕ) → length after ≤ length (digits_onto k 16 false n after)
    longer zero n after = omega arith
    longer (suc k) n after = by_last (longer k (n / 16) (digit_glyph false (n % 16) ∷ after)) (n / 16 == 0)
      where
        by_last : length (digit_glyph false (n % 16) ∷ after) ≤ length (digits_onto k 16 false (n / 16) (digit_glyph false (n % 16) ∷ after)) → (t : Bool)
            → length after ≤ length (if t then digit_glyph false (n % 16) ∷ after else digits_onto k 16 false (n / 16) (digit_glyph false (n % 16) ∷ after))
        by_last later true = omega arith
        by_last later false = omega (arith, later)

    by_test : (k : ℕ) (t : Bool) → 0 < length (if t then digit_glyph false (n % 16) ∷ after else digits_onto k 16 false (n / 16) (digit_glyph false (n % 16) ∷ after))
    by_test k true = omega arith
    by_test k false = let more = longer k (n / 16) (digit_glyph false (n % 16) ∷ after) in omega (arith, more)

-- the line of a size in hex
abbrev size_line : List ℕ → ChunkLine
size_line size = record { digits = size; pad = []; extension = None }

record IsSize (size : List ℕ) (n : ℕ) : Type 0 where
  some : 0 < length size
  few : length size ≤ 16
  hex : AllPass is_ascii_hexdigit size
  value : digits_value 16 size ≡ n

size_is : (n : ℕ) → n < 2 ^ 64 → IsSize (digits 16 false n) n
unfolding digits
size_is n small = record {
  some = onto_is_filled 63 n [];
  few = onto_is_short 64 15 n [] (let wide : 2 ^ 64 ≤ hex_bound 16 = lit≤ tt in omega (arith, small, wide));
  hex = onto_is_hex 64 n [] (All-nil (λ b. is_ascii_hexdigit b ≡ true));
  value = (digits_is_IsNumeral 16 false (lit≤ tt) (lit≤ tt) n (let wide : 2 ^ 64 ≤ 16 ^ 64 = lit≤ tt in omega (arith, small, wide))).1;
}

line_is : (size : List ℕ) (n : ℕ) → IsSize size n → IsChunkLine (size_line size)
line_is size n is = record { digits = (is.some, is.few, is.hex); pad = All-nil (λ b. IsTrue (is_ows b)); extension = tt }

line_text : (size : List ℕ) → print_chunk_line (size_line size) ≡ size ++ codes "\r\n"
unfolding print_chunk_line
line_text size = simp append_assoc

regroup : (size end content rest : List ℕ) → (size ++ end ++ content ++ end) ++ rest ≡ (size ++ end) ++ (content ++ end ++ rest)
regroup size end content rest = simp append_assoc

chunk_reads : (size content rest : List ℕ) (n : ℕ) → IsSize size n
    → ReadsSize ((size ++ codes "\r\n" ++ content ++ codes "\r\n") ++ rest) n (content ++ codes "\r\n" ++ rest)
chunk_reads size content rest n is = record {
  line = size_line size;
  reads = (line_is size n is, rw line_text (regroup size (codes "\r\n") content rest));
  value = is.value;
  pad = refl;
  extension = refl;
}

no_size : IsSize (codes "0") 0
no_size = record { some = lit≤ tt; few = lit≤ tt; hex = All-cons (λ b. is_ascii_hexdigit b ≡ true) 48 [] refl (All-nil (λ b. is_ascii_hexdigit b ≡ true)); value = refl }

mark_reads : (rest : List ℕ) → ReadsSize (end_mark ++ rest) 0 (codes "\r\n" ++ rest)
unfolding print_chunk_line
mark_reads rest = record {
  line = size_line (codes "0");
  reads = (line_is (codes "0") 0 no_size, refl);
  value = refl;
  pad = refl;
  extension = refl;
}

pub chunks_read_back : ChunksReadBack
chunks_read_back = record {
  chunk = λ content rest small. chunk_reads (digits 16 false (length content)) content rest (length content) (size_is (length content) small);
  mark = mark_reads;
}
