-- What the loops over lines need.
use Rattle.std.proofs.Common.{◌≡◌, ◌≢◌, ℕ, zero, suc, ◌+◌, ◌-◌, ◌<◌, ◌≤◌, false, List, [], ◌∷◌, ◌++◌, length, take, drop, get_or, slice_range, refl, sym, ap, ◌∙◌, subst, arith, eqb, append_assoc, append-nil, length-append, length-drop, length-take, get_or-drop, get_or-take, take-append-drop, Option, Some, None, option_map, flat_map, inl, inr, count_by}
use Rattle.std.specs.List.{All, slice_split}
use Rattle.std.proofs.lemmas.List.{length-map, drop_more, nil_from_length, length-take-le, take-append-le, get_or_append_left, flat_map_more, take_at}
use Rattle.std.proofs.lemmas.List.Elements.{All-nil, All-push, All-from_get_or, All-head, All-tail}
use Rattle.std.proofs.lemmas.List.Folds.{drop_split}
use Rattle.std.proofs.lemmas.List.Splits.{slice_split_at, slice_split_none, length-slice_split}
use Rattle.std.proofs.lemmas.Bool.{cond-true, cond-false, eq-eqb, ne_eqb, cases_lt}
use Rattle.head_lines.specs.Lines.{is_lf, without_cr, with_line, Front, front_of, front_of_parts, front_len, IsSearched, HasNoLf, with_lf, IsFilled}
use Rattle.head_lines.proofs.FrontLaws.{front_alone, front_shape, front_part, front_filled, front_empty}

-- ---- the CR at a line's end

pub without_cr_yes : (part : List ℕ) (n : ℕ) → n + 1 ≡ length part → get_or part n 0 ≡ 13 → without_cr part ≡ take n part
without_cr_yes [] n len here = absurd (omega arith)
without_cr_yes (b ∷ []) zero len here = cond-true (eqb b 13) [] (b ∷ []) (eq-eqb b 13 here)
without_cr_yes (b ∷ []) (suc n) len here = absurd (omega arith)
without_cr_yes (b ∷ c ∷ bs) zero len here = absurd (omega arith)
without_cr_yes (b ∷ c ∷ bs) (suc n) len here = ap (λ (l : List ℕ). b ∷ l) (without_cr_yes (c ∷ bs) n (omega arith) here)

pub without_cr_no : (part : List ℕ) (n : ℕ) → n + 1 ≡ length part → get_or part n 0 ≢ 13 → without_cr part ≡ part
without_cr_no [] n len other = refl
without_cr_no (b ∷ []) zero len other = cond-false (eqb b 13) [] (b ∷ []) (ne_eqb b 13 other)
without_cr_no (b ∷ []) (suc n) len other = absurd (omega arith)
without_cr_no (b ∷ c ∷ bs) zero len other = absurd (omega arith)
without_cr_no (b ∷ c ∷ bs) (suc n) len other = ap (λ (l : List ℕ). b ∷ l) (without_cr_no (c ∷ bs) n (omega arith) other)

pub without_cr_nil : (part : List ℕ) → length part ≡ 0 → without_cr part ≡ part
without_cr_nil [] none = refl
without_cr_nil (b ∷ bs) none = absurd (omega arith)

-- ---- the loop for the empty line

pub no_lf_between : (text : List ℕ) (start i : ℕ) → start ≤ i → i ≤ length text
    → ((k : ℕ) → start ≤ k → k < i → is_lf (get_or text k 0) ≡ false) → HasNoLf (slice_range text start i)
no_lf_between text start i ordered fits none =
    All-from_get_or (λ b. is_lf b ≡ false) (slice_range text start i) 0 λ k below.
    let inside : k < i - start = omega (arith, length-take (i - start) (drop start text), length-drop start text) in
    rw (get_or-take, get_or-drop) (none (start + k) (omega arith) (omega arith))

line_at : (text : List ℕ) (start i : ℕ) → start ≤ i → i < length text → get_or text i 0 ≡ 10
    → drop start text ≡ with_lf (slice_range text start i) ++ drop (i + 1) text
line_at text start i ordered inside lf =
    drop_split text start i ordered
    ∙ ap (λ (l : List ℕ). slice_range text start i ++ l) (drop_more text i 0 inside ∙ ap (λ (b : ℕ). b ∷ drop (i + 1) text) lf)
    ∙ sym (append_assoc (slice_range text start i) (10 ∷ []) (drop (i + 1) text))

length_line : (text : List ℕ) (start i : ℕ) → start ≤ i → i ≤ length text → length (slice_range text start i) ≡ i - start
length_line text start i ordered fits = omega (arith, length-take (i - start) (drop start text), length-drop start text)

len_of_filled : (line : List ℕ) (n : ℕ) (o : Option Front)
    → option_map (λ (f : Front). f.len) (option_map (with_line line n) o) ≡ option_map (λ (m : ℕ). n + m) (option_map (λ (f : Front). f.len) o)
len_of_filled line n None = refl
len_of_filled line n (Some f) = refl

shifted_twice : (a b c : ℕ) (o : Option ℕ) → a + b ≡ c
    → option_map (λ (m : ℕ). a + m) (option_map (λ (m : ℕ). b + m) o) ≡ option_map (λ (m : ℕ). c + m) o
shifted_twice a b c None e = refl
shifted_twice a b c (Some m) e = ap (λ (k : ℕ). Some k) (omega arith)

-- at an empty line it is found
pub front_len_here : (text : List ℕ) (start i : ℕ) → start ≤ i → i < length text
    → ((k : ℕ) → start ≤ k → k < i → is_lf (get_or text k 0) ≡ false) → get_or text i 0 ≡ 10
    → without_cr (slice_range text start i) ≡ []
    → front_len text ≡ option_map (λ (n : ℕ). start + n) (front_len (drop start text))
    → front_len text ≡ Some (i + 1)
front_len_here text start i ordered inside none lf nil before =
    let part = slice_range text start i in
    let own = no_lf_between text start i ordered (omega arith) none in
    before
    ∙ ap (λ (t : List ℕ). option_map (λ (n : ℕ). start + n) (front_len t)) (line_at text start i ordered inside lf)
    ∙ ap (λ (o : Option Front). option_map (λ (n : ℕ). start + n) (option_map (λ (f : Front). f.len) o))
    (front_part part (drop (i + 1) text) own ∙ front_empty part (drop (i + 1) text) nil)
    ∙ ap (λ (k : ℕ). Some k) (omega (arith, length_line text start i ordered (omega arith)))

-- with no LF left there is none
pub front_len_none : (text : List ℕ) (start : ℕ) → start ≤ length text
    → ((k : ℕ) → start ≤ k → k < length text → is_lf (get_or text k 0) ≡ false)
    → front_len text ≡ option_map (λ (n : ℕ). start + n) (front_len (drop start text))
    → front_len text ≡ None
front_len_none text start ordered none before =
    let own : HasNoLf (drop start text) =
    All-from_get_or (λ b. is_lf b ≡ false) (drop start text) 0 λ k below.
    rw get_or-drop (none (start + k) (omega arith) (omega (arith, length-drop start text))) in
    before
    ∙ ap (λ (ps : List (List ℕ)). option_map (λ (n : ℕ). start + n) (option_map (λ (f : Front). f.len) (front_of_parts ps)))
    (slice_split_none is_lf (drop start text) own)
    ∙ ap (λ (o : Option Front). option_map (λ (n : ℕ). start + n) (option_map (λ (f : Front). f.len) o)) (front_alone (drop start text))

-- ---- the number of lines

split_shape : (parts : List (List ℕ)) (last : List ℕ) → All IsFilled parts → HasNoLf last
    → length (slice_split is_lf (flat_map with_lf parts ++ (with_lf last ++ []))) ≡ length parts + 2
split_shape [] last each no_lf =
    ap (λ (t : List ℕ). length (slice_split is_lf t)) (append-nil (with_lf last))
    ∙ ap (λ (ps : List (List ℕ)). length ps) (slice_split_at is_lf last 10 [] no_lf refl)
split_shape (part ∷ parts) last each no_lf =
    let rest = flat_map with_lf parts ++ (with_lf last ++ []) in
    let later = split_shape parts last (All-tail IsFilled part parts each) no_lf in
    ap (λ (t : List ℕ). length (slice_split is_lf t))
    (append_assoc (with_lf part) (flat_map with_lf parts) (with_lf last ++ []) ∙ append_assoc part (10 ∷ []) rest)
    ∙ ap (λ (ps : List (List ℕ)). length ps) (slice_split_at is_lf part 10 rest (All-head IsFilled part parts each).no_lf refl)
    ∙ omega arith

pub line_count_is : (bytes : List ℕ) (f : Front) → front_of bytes ≡ Some f → f.len ≡ length bytes → count_by is_lf bytes ≡ length f.lines + 1
line_count_is bytes f e whole =
    let shape = front_shape bytes f e in
    let none : length shape.rest ≡ 0 =
    omega (
      arith,
      ap length shape.text_is,
      shape.len_is,
      length-append (flat_map with_lf shape.parts) (with_lf shape.last ++ shape.rest),
      length-append (with_lf shape.last) shape.rest,
      length-append shape.last (10 ∷ []),
    ) in
    let text : bytes ≡ flat_map with_lf shape.parts ++ (with_lf shape.last ++ []) =
    shape.text_is ∙ ap (λ (r : List ℕ). flat_map with_lf shape.parts ++ (with_lf shape.last ++ r)) (nil_from_length shape.rest none) in
    let parts = ap (λ (t : List ℕ). length (slice_split is_lf t)) text ∙ split_shape shape.parts shape.last shape.each shape.ends.no_lf in
    omega (arith, length-slice_split is_lf bytes, parts, ap length shape.lines_are, length-map shape.parts without_cr)

-- ---- the search for the empty line

pub searched_first : (text : List ℕ) → IsSearched text 0 0
searched_first text = record {
  lines = [];
  before = refl;
  filled = All-nil IsFilled;
  ordered = omega arith;
  inside = omega arith;
  none = λ k low high. absurd (omega arith);
}

-- More bytes change nothing of where a search stands.
pub searched-append : (text more : List ℕ) (start seen : ℕ) → IsSearched text start seen → IsSearched (text ++ more) start seen
searched-append text more start seen s = record {
  lines = s.lines;
  before = take-append-le start text more (omega (arith, s.ordered, s.inside)) ∙ s.before;
  filled = s.filled;
  ordered = s.ordered;
  inside = omega (arith, s.inside, length-append text more);
  none = λ k low high. ap (λ (b : ℕ). is_lf b) (get_or_append_left text more 0 k (omega (arith, s.inside))) ∙ s.none k low high;
}

-- Lines that are not empty come before the front of the rest.
front_len_skip : (lines : List (List ℕ)) (rest : List ℕ) → All IsFilled lines
    → front_len (flat_map with_lf lines ++ rest) ≡ option_map (λ (n : ℕ). length (flat_map with_lf lines) + n) (front_len rest)
front_len_skip [] rest filled = unshifted (front_len rest)
  where
    unshifted : (o : Option ℕ) → o ≡ option_map (λ (n : ℕ). 0 + n) o
    unshifted None = refl
    unshifted (Some n) = ap (λ (k : ℕ). Some k) (omega arith)
front_len_skip (line ∷ lines) rest filled =
    let first = All-head IsFilled line lines filled in
    ap front_len (append_assoc (with_lf line) (flat_map with_lf lines) rest)
    ∙ ap (option_map (λ (f : Front). f.len)) (front_part line (flat_map with_lf lines ++ rest) first.no_lf ∙ front_filled line (flat_map with_lf lines ++ rest) first.some)
    ∙ len_of_filled (without_cr line) (length line + 1) (front_of (flat_map with_lf lines ++ rest))
    ∙ ap (option_map (λ (n : ℕ). length line + 1 + n)) (front_len_skip lines rest (All-tail IsFilled line lines filled))
    ∙ shifted_twice (length line + 1) (length (flat_map with_lf lines)) (length (with_lf line ++ flat_map with_lf lines)) (front_len rest)
    (omega (arith, length-append (with_lf line) (flat_map with_lf lines), length-append line (10 ∷ [])))

pub searched_rest : (text : List ℕ) (start seen : ℕ) → IsSearched text start seen
    → front_len text ≡ option_map (λ (n : ℕ). start + n) (front_len (drop start text))
searched_rest text start seen s =
    let len : length (flat_map with_lf s.lines) ≡ start =
    ap (λ (l : List ℕ). length l) (sym s.before) ∙ length-take-le start text (omega (arith, s.ordered, s.inside)) in
    ap front_len (sym (take-append-drop start text) ∙ ap (λ (l : List ℕ). l ++ drop start text) s.before)
    ∙ front_len_skip s.lines (drop start text) s.filled
    ∙ ap (λ (m : ℕ). option_map (λ (n : ℕ). m + n) (front_len (drop start text))) len

pub searched_line : (text : List ℕ) (start i next : ℕ) → IsSearched text start i → i < length text → get_or text i 0 ≡ 10
    → without_cr (slice_range text start i) ≢ [] → next ≡ i + 1 → IsSearched text next (i + 1)
searched_line text start i next s inside lf other is =
    let some : 0 < length (without_cr (slice_range text start i)) =
    elim (cases_lt 0 (length (without_cr (slice_range text start i)))) [
      | inl more ↦ more
      | inr few ↦ absurd (other (nil_from_length _ (omega arith)))
    ] in
    let own = no_lf_between text start i s.ordered (omega arith) s.none in
    let line = slice_range text start i in
    let whole : text ≡ (take start text ++ with_lf line) ++ drop (i + 1) text =
    sym (take-append-drop start text)
    ∙ ap (λ (l : List ℕ). take start text ++ l) (line_at text start i s.ordered inside lf)
    ∙ sym (append_assoc (take start text) (with_lf line) (drop (i + 1) text)) in
    let len : length (take start text ++ with_lf line) ≡ i + 1 =
    omega (
      arith,
      s.ordered,
      length-append (take start text) (with_lf line),
      length-append line (10 ∷ []),
      length-take-le start text (omega (arith, s.ordered)),
      length_line text start i s.ordered (omega arith),
    ) in
    subst (λ (n : ℕ). IsSearched text n (i + 1)) (sym is) (record {
      lines = s.lines ++ line ∷ [];
      before =
          ap (take (i + 1)) whole ∙ take_at (take start text ++ with_lf line) (drop (i + 1) text) (i + 1) len
          ∙ ap (λ (l : List ℕ). l ++ with_lf line) s.before ∙ flat_map_more with_lf [] s.lines line;
      filled = All-push IsFilled s.lines line s.filled (record { no_lf = own; some = some });
      ordered = omega arith;
      inside = omega arith;
      none = λ k low high. absurd (omega arith);
    })

pub searched_byte : (text : List ℕ) (start i next : ℕ) → IsSearched text start i → i < length text → get_or text i 0 ≢ 10 → next ≡ start
    → IsSearched text next (i + 1)
searched_byte text start i next s inside other is =
    subst (λ (n : ℕ). IsSearched text n (i + 1)) (sym is) (record {
      lines = s.lines;
      before = s.before;
      filled = s.filled;
      ordered = omega (arith, s.ordered);
      inside = omega arith;
      none = λ k low high.
          elim (cases_lt k i) [
            | inl below ↦ s.none k low below
            | inr at ↦ let same : k ≡ i = omega arith in ne_eqb (get_or text k 0) 10 (λ e. other (sym (ap (λ (n : ℕ). get_or text n 0) same) ∙ e))
          ];
    })

pub searched_end : (text : List ℕ) (start i : ℕ) → IsSearched text start i → i < length text → get_or text i 0 ≡ 10
    → without_cr (slice_range text start i) ≡ [] → front_len text ≡ Some (i + 1)
searched_end text start i s inside lf nil = front_len_here text start i s.ordered inside s.none lf nil (searched_rest text start i s)

pub searched_none : (text : List ℕ) (start i : ℕ) → IsSearched text start i → length text ≤ i → front_len text ≡ None
searched_none text start i s past =
    front_len_none text start (omega (arith, s.ordered, s.inside)) (λ k low high. s.none k low (omega arith)) (searched_rest text start i s)
