-- The front of a text: its shape in both directions, and what more bytes change.
use Rattle.std.proofs.Common.{◌≡◌, ℕ, ◌+◌, ◌<◌, ◌≤◌, Bool, false, List, [], ◌∷◌, ◌++◌, length, take, drop, map, refl, sym, ap, ◌∙◌, subst, arith, eqb, ◌≢◌, append_assoc, length-append, take-append-drop, Option, Some, None, option_map, flat_map, inl, inr}
use Rattle.std.specs.List.{slice_split, onto_first, join_with_byte, All, position_or_len}
use Rattle.std.proofs.lemmas.List.{nil_from_length, take_at, take-append-le}
use Rattle.std.proofs.lemmas.List.Elements.{All-head, All-tail, All-cons, All-nil, All-from_get_or}
use Rattle.std.proofs.lemmas.List.Splits.{slice_split_at, slice_split_none, slice_split_first, slice_split-cons_yes, slice_split-cons_no, join_with_byte-slice_split}
use Rattle.std.proofs.lemmas.List.Sums.{fails_before_first}
use Rattle.std.proofs.lemmas.Bool.{cond-true, cond-false, cases_Bool, eqb-true, eqb-false, ne_eqb, cases_lt}
use Rattle.head_lines.specs.Lines.{is_lf, without_cr, Front, with_line, front_of_parts, front_of, with_lf, HasNoLf, IsFilled, first_of, first_line}
use Rattle.head_lines.specs.LineLaws.{IsEmpty, HasFront, FrontsAreLines, FrontsStay, FrontsStandAlone}

pub parts_some : (p : ℕ → Bool) (xs : List ℕ) → (y : List ℕ) × (ys : List (List ℕ)) × (slice_split p xs ≡ y ∷ ys)
parts_some p [] = ([], [], refl)
parts_some p (x ∷ xs) =
    let later = parts_some p xs in
    elim (cases_Bool (p x)) [
      | inl here ↦ ([], slice_split p xs, slice_split-cons_yes p x xs here)
      | inr other ↦ (x ∷ later.0, later.1, slice_split-cons_no p x xs other ∙ ap (onto_first x) later.2)
    ]

-- no LF ends the last part
pub front_alone : (rest : List ℕ) → front_of_parts (rest ∷ []) ≡ None
unfolding front_of_parts
front_alone rest = refl

-- one line off the front
pub front_filled : (part : List ℕ) (rest : List ℕ) → 0 < length (without_cr part)
    → front_of_parts (part ∷ slice_split is_lf rest)
    ≡ option_map (with_line (without_cr part) (length part + 1)) (front_of rest)
unfolding front_of_parts
front_filled part rest some =
    let more = parts_some is_lf rest in
    let test = ne_eqb (length (without_cr part)) 0 (λ e. omega arith) in
    rw (more.2, test)

pub front_empty : (part : List ℕ) (rest : List ℕ) → without_cr part ≡ []
    → front_of_parts (part ∷ slice_split is_lf rest) ≡ Some (record { lines = []; len = length part + 1 })
unfolding front_of_parts
front_empty part rest none =
    let more = parts_some is_lf rest in
    rw (more.2, none)

pub front_part : (part rest : List ℕ) → HasNoLf part
    → front_of (with_lf part ++ rest) ≡ front_of_parts (part ∷ slice_split is_lf rest)
front_part part rest no_lf =
    ap front_of (append_assoc part (10 ∷ []) rest)
    ∙ ap front_of_parts (slice_split_at is_lf part 10 rest no_lf refl)

-- the record, with another length
same_front : (lines : List (List ℕ)) (m n : ℕ) → m ≡ n
    → ◌≡◌ {A = Option Front} (Some (record { lines = lines; len = m })) (Some (record { lines = lines; len = n }))
same_front lines m n e = ap (λ (k : ℕ). Some (record { lines = lines; len = k })) e

-- A text of that shape has that front.
pub front_from_shape : (parts : List (List ℕ)) (last rest : List ℕ) → All IsFilled parts → IsEmpty last
    → front_of (flat_map with_lf parts ++ (with_lf last ++ rest))
    ≡ Some (record { lines = map without_cr parts; len = length (flat_map with_lf parts) + (length last + 1) })
front_from_shape [] last rest each ends =
    front_part last rest ends.no_lf ∙ front_empty last rest ends.none
    ∙ same_front [] _ _ (omega arith)
front_from_shape (part ∷ parts) last rest each ends =
    let first = All-head IsFilled part parts each in
    let later = front_from_shape parts last rest (All-tail IsFilled part parts each) ends in
    ap front_of (append_assoc (with_lf part) (flat_map with_lf parts) (with_lf last ++ rest))
    ∙ front_part part (flat_map with_lf parts ++ (with_lf last ++ rest)) first.no_lf
    ∙ front_filled part (flat_map with_lf parts ++ (with_lf last ++ rest)) first.some
    ∙ ap (option_map (with_line (without_cr part) (length part + 1))) later
    ∙ same_front _ _ _
    (omega (arith, length-append (with_lf part) (flat_map with_lf parts), length-append part (10 ∷ [])))

pub front_from_HasFront : (text : List ℕ) (f : Front) → HasFront text f → front_of text ≡ Some f
front_from_HasFront text f shape =
    ap front_of shape.text_is ∙ front_from_shape shape.parts shape.last shape.rest shape.each shape.ends
    ∙ (λ i. Some (record { lines = sym shape.lines_are i; len = sym shape.len_is i }))

-- the parts that a split gives have no LF
pub parts_no_lf : (text : List ℕ) → All HasNoLf (slice_split is_lf text)
parts_no_lf [] = All-cons HasNoLf [] [] (All-nil (λ b. is_lf b ≡ false)) (All-nil HasNoLf)
parts_no_lf (x ∷ xs) =
    let later = parts_no_lf xs in
    let shape = parts_some is_lf xs in
    elim (cases_Bool (is_lf x)) [
      | inl here ↦ subst (All HasNoLf) (sym (slice_split-cons_yes is_lf x xs here))
          (All-cons HasNoLf [] (slice_split is_lf xs) (All-nil (λ b. is_lf b ≡ false)) later)
      | inr other ↦
          let split : All HasNoLf (shape.0 ∷ shape.1) = subst (All HasNoLf) shape.2 later in
          subst (All HasNoLf) (sym (slice_split-cons_no is_lf x xs other ∙ ap (onto_first x) shape.2))
          (All-cons HasNoLf (x ∷ shape.0) shape.1
          (All-cons (λ b. is_lf b ≡ false) x shape.0 other (All-head HasNoLf shape.0 shape.1 split))
          (All-tail HasNoLf shape.0 shape.1 split))
    ]

joined : (text : List ℕ) → join_with_byte 10 (slice_split is_lf text) ≡ text
joined text = join_with_byte-slice_split 10 text

pub map_some : {A B : Type 0} (g : A → B) (o : Option A) (y : B) → option_map g o ≡ Some y
    → (x : A) × (o ≡ Some x) × (g x ≡ y)
map_some g None y e = absurd (cc)
map_some g (Some x) y e = (x, refl, cc)

one_more : (part text : List ℕ) (g f : Front) → HasNoLf part → eqb (length (without_cr part)) 0 ≡ false
    → with_line (without_cr part) (length part + 1) g ≡ f → HasFront text g → HasFront (part ++ 10 ∷ text) f
one_more part text g f first other e shape =
    let ne : length (without_cr part) ≢ 0 = eqb-false _ _ other in
    record {
      parts = part ∷ shape.parts;
      last = shape.last;
      rest = shape.rest;
      text_is =
          ap (λ (t : List ℕ). part ++ 10 ∷ t) shape.text_is ∙ sym (append_assoc part (10 ∷ []) _)
          ∙ sym (append_assoc (with_lf part) (flat_map with_lf shape.parts) (with_lf shape.last ++ shape.rest));
      lines_are = sym (ap (λ (k : Front). k.lines) e) ∙ ap (λ (ls : List (List ℕ)). without_cr part ∷ ls) shape.lines_are;
      len_is =
          let len : length part + 1 + g.len ≡ f.len = ap (λ (k : Front). k.len) e in
          omega (arith, shape.len_is, length-append (with_lf part) (flat_map with_lf shape.parts), length-append part (10 ∷ []));
      each = All-cons IsFilled part shape.parts (record { no_lf = first; some = omega arith }) shape.each;
      ends = shape.ends;
    }

-- a front comes of that shape alone
shape_of_parts : (parts : List (List ℕ)) (f : Front) → All HasNoLf parts → front_of_parts parts ≡ Some f
    → HasFront (join_with_byte 10 parts) f
unfolding front_of_parts
shape_of_parts [] f each e = absurd (cc)
shape_of_parts (rest ∷ []) f each e = absurd (cc)
shape_of_parts (part ∷ next ∷ parts) f each e =
    let first = All-head HasNoLf part (next ∷ parts) each in
    elim (cases_Bool (eqb (length (without_cr part)) 0)) [
      | inl here ↦
          let is : Some (record { lines = []; len = length part + 1 }) ≡ Some f = sym (cond-true _ _ _ here) ∙ e in
          let nil : without_cr part ≡ [] = nil_from_length _ (eqb-true _ _ here) in
          record {
            parts = [];
            last = part;
            rest = join_with_byte 10 (next ∷ parts);
            text_is = sym (append_assoc part (10 ∷ []) (join_with_byte 10 (next ∷ parts)));
            lines_are = cc;
            len_is = let same : length part + 1 ≡ f.len = cc in omega arith;
            each = All-nil IsFilled;
            ends = record { no_lf = first; none = nil };
          }
      | inr other ↦
          let back = map_some (with_line (without_cr part) (length part + 1)) (front_of_parts (next ∷ parts)) f
          (sym (cond-false _ _ _ other) ∙ e) in
          let later = shape_of_parts (next ∷ parts) back.0 (All-tail HasNoLf part (next ∷ parts) each) back.1 in
          one_more part _ back.0 f first other back.2 later
    ]

pub front_shape : (text : List ℕ) (f : Front) → front_of text ≡ Some f → HasFront text f
front_shape text f e =
    subst (λ (t : List ℕ). HasFront t f) (joined text) (shape_of_parts (slice_split is_lf text) f (parts_no_lf text) e)

-- What follows a front changes nothing.
pub front-append : (text more : List ℕ) (f : Front) → front_of text ≡ Some f → front_of (text ++ more) ≡ Some f
front-append text more f e =
    let shape = front_shape text f e in
    front_from_HasFront (text ++ more) f (record {
      parts = shape.parts;
      last = shape.last;
      rest = shape.rest ++ more;
      text_is =
          ap (λ (t : List ℕ). t ++ more) shape.text_is
          ∙ append_assoc (flat_map with_lf shape.parts) (with_lf shape.last ++ shape.rest) more
          ∙ ap (λ (t : List ℕ). flat_map with_lf shape.parts ++ t) (append_assoc (with_lf shape.last) shape.rest more);
      lines_are = shape.lines_are;
      len_is = shape.len_is;
      each = shape.each;
      ends = shape.ends;
    })

regroup : (a b r : List ℕ) → a ++ (b ++ r) ≡ (a ++ (b ++ [])) ++ r
regroup a b r = simp append_assoc

-- The bytes of the front alone have it.
pub front-take : (text : List ℕ) (f : Front) → front_of text ≡ Some f → (f.len ≤ length text) × (front_of (take f.len text) ≡ Some f)
front-take text f e =
    let shape = front_shape text f e in
    let own = flat_map with_lf shape.parts ++ (with_lf shape.last ++ []) in
    let whole : text ≡ own ++ shape.rest =
    shape.text_is ∙ regroup (flat_map with_lf shape.parts) (with_lf shape.last) shape.rest in
    let len : length own ≡ f.len =
    omega (
      arith,
      shape.len_is,
      length-append (flat_map with_lf shape.parts) (with_lf shape.last ++ []),
      length-append (with_lf shape.last) [],
      length-append shape.last (10 ∷ []),
    ) in (
      omega (arith, ap length whole, length-append own shape.rest),
      ap front_of (ap (take f.len) whole ∙ take_at own shape.rest f.len len)
          ∙ front_from_HasFront own f (record {
            parts = shape.parts;
            last = shape.last;
            rest = [];
            text_is = refl;
            lines_are = shape.lines_are;
            len_is = shape.len_is;
            each = shape.each;
            ends = shape.ends;
          }),
    )

-- Where no empty line ends in a text, one that ends in more of it ends after it.
pub front_after : (text more : List ℕ) (f : Front) → front_of text ≡ None → front_of (text ++ more) ≡ Some f → length text < f.len
front_after text more f none e =
    elim (cases_lt (length text) f.len) [
      | inl after ↦ after
      | inr before ↦
          let cut = front-take (text ++ more) f e in
          let same : take f.len (text ++ more) ≡ take f.len text = take-append-le f.len text more before in
          let own : front_of (take f.len text) ≡ Some f = ap front_of (sym same) ∙ cut.1 in
          let again : front_of text ≡ Some f =
          ap front_of (sym (take-append-drop f.len text)) ∙ front-append (take f.len text) (drop f.len text) f own in
          absurd (cc)
    ]

pub fronts_are_lines : FrontsAreLines
fronts_are_lines text front = (front_shape text front, front_from_HasFront text front)

pub fronts_stay : FrontsStay
fronts_stay = front-append

pub fronts_stand_alone : FrontsStandAlone
fronts_stand_alone = front-take

-- the first line of a front is that of the text
pub first_of_front : (text : List ℕ) (f : Front) → front_of text ≡ Some f → first_of f.lines ≡ first_line text
first_of_front text f e =
    let n = position_or_len is_lf text in
    elim (cases_lt n (length text)) [
      | inl inside ↦ first_back (take n text) (drop (n + 1) text) f (ap front_of_parts (sym (slice_split_first is_lf text 0 inside)) ∙ e)
      | inr past ↦
          let alone : slice_split is_lf text ≡ text ∷ [] =
          slice_split_none is_lf text (All-from_get_or (λ b. is_lf b ≡ false) text 0 λ k below. fails_before_first is_lf text k 0 (omega arith)) in
          let none : front_of text ≡ None = ap front_of_parts alone ∙ front_alone text in
          absurd (cc)
    ]
  where
    first_back : (part rest : List ℕ) (f : Front) → front_of_parts (part ∷ slice_split is_lf rest) ≡ Some f → first_of f.lines ≡ without_cr part
    first_back part rest f e =
        elim (cases_lt 0 (length (without_cr part))) [
          | inl some ↦
              let back = map_some (with_line (without_cr part) (length part + 1)) (front_of rest) f (sym (front_filled part rest some) ∙ e) in
              ap (λ (k : Front). first_of k.lines) (sym back.2)
          | inr few ↦
              let nil : without_cr part ≡ [] = nil_from_length _ (omega arith) in
              let is : ◌≡◌ {A = Option Front} (Some (record { lines = []; len = length part + 1 })) (Some f) = sym (front_empty part rest nil) ∙ e in
              let lines : f.lines ≡ [] = cc in
              ap first_of lines ∙ sym nil
        ]
