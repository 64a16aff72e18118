-- Every output is lines and what stands behind them, and reads as these.
use Rattle.std.proofs.Common.{◌≡◌, ℕ, Bool, true, false, ◌||◌, List, [], ◌∷◌, ◌++◌, flat_map, refl, ap, ◌∙◌, inl, inr, append_assoc}
use Rattle.std.specs.List.{All, list_any, slice_split}
use Rattle.std.proofs.lemmas.List.Elements.{All-nil, All-cons, All-head, All-tail}
use Rattle.std.proofs.lemmas.List.Folds.{list_any-append}
use Rattle.std.proofs.lemmas.List.Splits.{slice_split_at, slice_split_none}
use Rattle.std.proofs.lemmas.Bool.{cases_Bool, eqb-true}
use Rattle.head_lines.specs.Lines.{HasNoLf, is_lf, with_lf}
use Rattle.line_messages.specs.Lines.{ended_lines, front_parts, has_long_line, is_long, last_part, open_line}
use Rattle.line_messages.specs.LineLaws.{HasLines}

-- a byte before lines
byte_before : (x : ℕ) (xs : List ℕ) (parts : List (List ℕ)) (rest : List ℕ) → is_lf x ≡ false → xs ≡ flat_map with_lf parts ++ rest
    → All HasNoLf parts → HasNoLf rest → HasLines (x ∷ xs)
byte_before x xs [] rest other text each no_lf = record {
  ended = [];
  behind = x ∷ rest;
  output_is = ap (λ (l : List ℕ). x ∷ l) text;
  each = each;
  no_lf = All-cons (λ n. is_lf n ≡ false) x rest other no_lf;
}
byte_before x xs (p ∷ ps) rest other text each no_lf = record {
  ended = (x ∷ p) ∷ ps;
  behind = rest;
  output_is = ap (λ (l : List ℕ). x ∷ l) text;
  each = All-cons HasNoLf (x ∷ p) ps (All-cons (λ n. is_lf n ≡ false) x p other (All-head HasNoLf p ps each)) (All-tail HasNoLf p ps each);
  no_lf = no_lf;
}

pub lines_of : (output : List ℕ) → HasLines output
lines_of [] = record { ended = []; behind = []; output_is = refl; each = All-nil HasNoLf; no_lf = All-nil (λ n. is_lf n ≡ false) }
lines_of (x ∷ xs) =
    let later = lines_of xs in
    elim (cases_Bool (is_lf x)) [
      | inl lf ↦ record {
        ended = [] ∷ later.ended;
        behind = later.behind;
        output_is = ap (λ (n : ℕ). n ∷ xs) (eqb-true x 10 lf) ∙ ap (λ (l : List ℕ). 10 ∷ l) later.output_is;
        each = All-cons HasNoLf [] later.ended (All-nil (λ n. is_lf n ≡ false)) later.each;
        no_lf = later.no_lf;
      }
      | inr other ↦ byte_before x xs later.ended later.behind other later.output_is later.each later.no_lf
    ]

pub line_before : (p rest : List ℕ) (ps : List (List ℕ)) → flat_map with_lf (p ∷ ps) ++ rest ≡ p ++ 10 ∷ (flat_map with_lf ps ++ rest)
line_before p rest ps = append_assoc (with_lf p) (flat_map with_lf ps) rest ∙ append_assoc p (10 ∷ []) (flat_map with_lf ps ++ rest)

split-lines : (parts : List (List ℕ)) (rest : List ℕ) → All HasNoLf parts → HasNoLf rest
    → slice_split is_lf (flat_map with_lf parts ++ rest) ≡ parts ++ rest ∷ []
split-lines [] rest each no_lf = slice_split_none is_lf rest no_lf
split-lines (p ∷ ps) rest each no_lf =
    ap (slice_split is_lf) (line_before p rest ps)
    ∙ slice_split_at is_lf p 10 (flat_map with_lf ps ++ rest) (All-head HasNoLf p ps each) refl
    ∙ ap (λ (l : List (List ℕ)). p ∷ l) (split-lines ps rest (All-tail HasNoLf p ps each) no_lf)

front_parts-push : (parts : List (List ℕ)) (rest : List ℕ) → front_parts (parts ++ rest ∷ []) ≡ parts
front_parts-push [] rest = refl
front_parts-push (p ∷ []) rest = refl
front_parts-push (p ∷ q ∷ ps) rest = ap (λ (l : List (List ℕ)). p ∷ l) (front_parts-push (q ∷ ps) rest)

last_part-push : (parts : List (List ℕ)) (rest : List ℕ) → last_part (parts ++ rest ∷ []) ≡ rest
last_part-push [] rest = refl
last_part-push (p ∷ []) rest = refl
last_part-push (p ∷ q ∷ ps) rest = last_part-push (q ∷ ps) rest

-- what is read of lines and a rest
pub ended_lines-lines : (parts : List (List ℕ)) (rest : List ℕ) → All HasNoLf parts → HasNoLf rest → ended_lines (flat_map with_lf parts ++ rest) ≡ parts
unfolding ended_lines
ended_lines-lines parts rest each no_lf = ap front_parts (split-lines parts rest each no_lf) ∙ front_parts-push parts rest

pub open_line-lines : (parts : List (List ℕ)) (rest : List ℕ) → All HasNoLf parts → HasNoLf rest → open_line (flat_map with_lf parts ++ rest) ≡ rest
unfolding open_line
open_line-lines parts rest each no_lf = ap last_part (split-lines parts rest each no_lf) ∙ last_part-push parts rest

or-false : (b : Bool) → (b || false) ≡ b
or-false true = refl
or-false false = refl

list_any-push : (test : List ℕ → Bool) (parts : List (List ℕ)) (rest : List ℕ) → list_any test (parts ++ rest ∷ []) ≡ (list_any test parts || test rest)
list_any-push test parts rest =
    list_any-append test parts (rest ∷ []) ∙ ap (λ (b : Bool). list_any test parts || b) (or-false (test rest))

pub has_long_line-lines : (limit : ℕ) (parts : List (List ℕ)) (rest : List ℕ) → All HasNoLf parts → HasNoLf rest
    → has_long_line limit (flat_map with_lf parts ++ rest) ≡ (list_any (is_long limit) parts || is_long limit rest)
unfolding has_long_line
has_long_line-lines limit parts rest each no_lf =
    ap (list_any (is_long limit)) (split-lines parts rest each no_lf) ∙ list_any-push (is_long limit) parts rest
