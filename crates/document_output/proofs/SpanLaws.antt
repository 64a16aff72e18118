-- Why spans join, and why the last bytes are an end.
use Rattle.std.proofs.Common.{◌≡◌, ℕ, ◌+◌, ◌-◌, ◌<◌, ◌≤◌, min, Bool, true, ◌&&◌, cond, List, ◌++◌, length, take, drop, Option, Some, None, refl, sym, ap, ◌∙◌, arith, nat_lt, nat_le}
use Rattle.std.proofs.lemmas.Bool.{lt-ltb, le-leb, and_from, cond-true}
use Rattle.std.proofs.lemmas.List.{take-append-drop, length-drop}
use Rattle.std.proofs.Math.Seq.{take-length}
use Rattle.document_output.specs.declared.range.RangeSpec.TheVariants.{From, Between, Suffix}
use Rattle.document_output.specs.declared.range.Span.{Span}
use Rattle.document_output.specs.Output.{bytes_in}
use Rattle.document_output.specs.Ranges.{span_of}
use Rattle.document_output.specs.Rules.{AreJoined, SpansJoin, IsEnd, SuffixesAreEnds}

span_at : ℕ → ℕ → Span
span_at a b = record { first = a; last = b }

-- so many bytes as are left are all of them
all_left : (n : ℕ) (xs : List ℕ) → n ≡ length xs → take n xs ≡ xs
all_left n xs is = ap (λ (k : ℕ). take k xs) is ∙ take-length xs

front_bytes : (file : List ℕ) (a : ℕ) → a + 1 < length file → bytes_in (record { first = 0; last = min a (length file - 1) }) file ≡ take (a + 1) file
front_bytes file a within =
    let n : min a (length file - 1) - 0 + 1 ≡ a + 1 = omega arith in
    ap (λ (k : ℕ). take k (drop 0 file)) n

rest_bytes : (file : List ℕ) (a : ℕ) → a < length file → bytes_in (record { first = a; last = length file - 1 }) file ≡ drop a file
rest_bytes file a within =
    let left : length (drop a file) ≡ length file - a = length-drop a file in
    all_left (length file - 1 - a + 1) (drop a file) (omega arith)

pub spans_join : SpansJoin
spans_join file a within = record {
  front = record { first = 0; last = min a (length file - 1) };
  rest = record { first = a + 1; last = length file - 1 };
  is_front = cond-true _ _ _ (and_from (nat_lt 0 (length file)) (nat_le 0 a) (lt-ltb 0 (length file) (omega arith)) (le-leb 0 a (omega arith)));
  is_rest = cond-true _ _ _ (lt-ltb (a + 1) (length file) within);
  joined =
      ap (λ (l : List ℕ). l ++ bytes_in (record { first = a + 1; last = length file - 1 }) file) (front_bytes file a within)
      ∙ ap (λ (l : List ℕ). take (a + 1) file ++ l) (rest_bytes file (a + 1) within)
      ∙ take-append-drop (a + 1) file;
}

pub suffixes_are_ends : SuffixesAreEnds
suffixes_are_ends file n some filled =
    let at : length file - min n (length file) ≡ length file - n = omega arith in
    record {
      span = record { first = length file - min n (length file); last = length file - 1 };
      is = cond-true _ _ _ (and_from (nat_lt 0 n) (nat_lt 0 (length file)) (lt-ltb 0 n some) (lt-ltb 0 (length file) filled));
      bytes = rest_bytes file (length file - min n (length file)) (omega arith) ∙ ap (λ (k : ℕ). drop k file) at;
    }
