-- Which headers are taken: those whose own fields stand once at most, with a status in Status.
use Rattle.std.proofs.Common.{◌≡◌, ℕ, ◌+◌, ◌≤◌, Bool, true, false, List, [], ◌∷◌, ◌++◌, filter, count_by, refl, sym, ap, ◌∙◌, subst, arith, cond, append_assoc, append-nil, Option, Some, None, inl, inr}
use Rattle.std.specs.Prelude.{All, is_some, is_none, ◌&&◌, ◌||◌, codes}
use Rattle.std.specs.Option.{option_or}
use Rattle.std.specs.List.{list_any, cons_option, filter_map}
use Rattle.std.specs.Str.{bytes_eq, str_to_ascii_lowercase}
use Rattle.std.proofs.lemmas.Bool.{cond-true, cond-false, cases_Bool, and_parts, or_parts, or_cases, or_left, or_right}
use Rattle.std.proofs.lemmas.List.Elements.{All-push, All-head, All-tail, filter_map-append, filter-append}
use Rattle.std.proofs.lemmas.List.Sums.{sum_by-append}
use Rattle.std.proofs.lemmas.Slice.Eq.{bytes_eq-Decides}
use Rattle.host_base.specs.declared.cause.Cause.{Cause}
use Rattle.host_base.specs.declared.fields.Field.{Field}
use Rattle.host_base.specs.FieldLists.{is_named}
use Rattle.host_base.proofs.SplitLaws.{chosen}
use Rattle.head_reader.specs.RequestHead.{field_of, fields_of}
use Rattle.head_reader.proofs.HeadLaws.{then_some}
use Rattle.head_lines.proofs.FrontLaws.{map_some}
use Rattle.cgi_header.specs.ScriptHeader.{has_value, is_status, is_cgi_field, is_repeated, status_of, fields_of_lines, sent_fields, fault_of, fault_of_field, fault_of_line, first_fault}
use Rattle.cgi_header.specs.HeaderRules.{AreTaken}
use Rattle.cgi_header.proofs.HeaderLaws.{fields-more}

-- ---- how often a name stands

count-append : (p : Field → Bool) (xs ys : List Field) → count_by p (xs ++ ys) ≡ count_by p xs + count_by p ys
count-append p xs ys = sum_by-append (λ x. cond (p x) 1 0) xs ys

count-one : (p : Field → Bool) (x : Field) (t : Bool) → p x ≡ t → count_by p (x ∷ []) ≡ cond t 1 0
count-one p x true is = rw is refl
count-one p x false is = rw is refl

none_counted : (p : Field → Bool) (xs : List Field) → list_any p xs ≡ false → count_by p xs ≡ 0
none_counted p [] none = refl
none_counted p (x ∷ xs) none =
    let parts = or_parts (p x) (list_any p xs) none in
    omega (arith, count-append p (x ∷ []) xs, count-one p x false parts.0, none_counted p xs parts.1)

some_counted : (p : Field → Bool) (xs : List Field) → list_any p xs ≡ true → 1 ≤ count_by p xs
some_counted p [] some = absurd (cc some)
some_counted p (x ∷ xs) some =
    let whole = count-append p (x ∷ []) xs in
    elim (or_cases (p x) (list_any p xs) some) [
      | inl here ↦ omega (arith, count-one p x true here)
      | inr later ↦ omega (arith, some_counted p xs later)
    ]

-- a field that has a name stands for it in a comparison
same_name : (name : List ℕ) (f : Field) → is_named name f ≡ true → (fields : List Field)
    → list_any (is_named f.name) fields ≡ list_any (is_named name) fields
same_name name f named fields =
    let same = (bytes_eq-Decides (str_to_ascii_lowercase name) (str_to_ascii_lowercase f.name)).0 named in
    ap (λ (lower : List ℕ). list_any (λ g. bytes_eq lower (str_to_ascii_lowercase g.name)) fields) (sym same)

-- ---- a field more

once_more : (name : List ℕ) (before : List Field) (f : Field) → count_by (is_named name) before ≤ 1
    → (is_named name f ≡ true → list_any (is_named f.name) before ≡ false) → count_by (is_named name) (before ++ f ∷ []) ≤ 1
once_more name before f once alone =
    let whole = count-append (is_named name) before (f ∷ []) in
    elim (cases_Bool (is_named name f)) [
      | inl named ↦
          let none = none_counted (is_named name) before (sym (same_name name f named before) ∙ alone named) in
          omega (arith, count-one (is_named name) f true named)
      | inr other ↦
          omega (arith, count-one (is_named name) f false other)
    ]

other_part : (x y : Bool) → (x && y) ≡ false → x ≡ true → y ≡ false
other_part true y fails holds = fails
other_part false y fails holds = absurd (cc holds)

some_by_not_none : {A : Type 0} (o : Option A) → is_none o ≡ false → is_some o ≡ true
some_by_not_none None none = absurd (cc none)
some_by_not_none (Some x) none = refl

none_by_some : {A : Type 0} (o : Option A) → is_some o ≡ true → is_none o ≡ false
none_by_some None some = absurd (cc some)
none_by_some (Some x) some = refl

-- what a field that is not refused is
record IsSound (before : List Field) (f : Field) : Type 0 where
  alone : is_repeated before f ≡ false
  final : is_status f ≡ true → is_some (status_of f.value) ≡ true

sound_from : (before : List Field) (f : Field) → fault_of_field before f ≡ None → IsSound before f
sound_from before f none =
    elim (chosen (is_repeated before f) _ _ _ none) [
      | inl repeated ↦ absurd (cc repeated.1)
      | inr once ↦
          elim (chosen (is_status f && is_none (status_of f.value)) _ _ _ once.1) [
            | inl bad ↦ absurd (cc bad.1)
            | inr good ↦
                record {
                  alone = once.0;
                  final = λ status. some_by_not_none (status_of f.value) (other_part (is_status f) (is_none (status_of f.value)) good.0 status);
                }
          ]
    ]

taken_more : (before : List Field) (f : Field) → AreTaken before → fault_of_field before f ≡ None → AreTaken (before ++ f ∷ [])
taken_more before f taken none =
    let sound = sound_from before f none in
    let types = is_named (codes "Content-Type") f in
    let locations = is_named (codes "Location") f in
    record {
      types = once_more (codes "Content-Type") before f taken.types
          (λ named. other_part (is_cgi_field f) _ sound.alone (or_left (types || locations) (is_status f) (or_left types locations named)));
      locations = once_more (codes "Location") before f taken.locations
          (λ named. other_part (is_cgi_field f) _ sound.alone (or_left (types || locations) (is_status f) (or_right types locations named)));
      statuses = once_more (codes "Status") before f taken.statuses
          (λ named. other_part (is_cgi_field f) _ sound.alone (or_right (types || locations) (is_status f) named));
      final = All-push (λ g. is_status g ≡ true → is_some (status_of g.value) ≡ true) before f taken.final sound.final;
    }

-- ---- where no line is refused

pub taken_lines : (before lines : List (List ℕ)) → AreTaken (fields_of_lines before) → first_fault before lines ≡ None
    → AreTaken (fields_of_lines (before ++ lines))
taken_lines before [] taken none = subst (λ (ls : List (List ℕ)). AreTaken (fields_of_lines ls)) (sym (append-nil before)) taken
taken_lines before (line ∷ lines) taken none =
    subst (λ (ls : List (List ℕ)). AreTaken (fields_of_lines ls)) (append_assoc before (line ∷ []) lines)
    (go (fault_of_line before line) refl none (taken_lines (before ++ line ∷ []) lines))
  where
    by_value : (f : Field) (t : Bool) → has_value f ≡ t → fault_of (fields_of_lines before) (Some f) ≡ None
        → AreTaken (fields_of_lines before ++ sent_fields (Some f))
    by_value f true valued sound =
        subst (λ (fs : List Field). AreTaken (fields_of_lines before ++ fs)) (sym (cond-true _ _ _ valued))
        (taken_more (fields_of_lines before) f taken (sym (cond-true _ _ _ valued) ∙ sound))
    by_value f false empty sound =
        subst (λ (fs : List Field). AreTaken (fields_of_lines before ++ fs)) (sym (cond-false _ _ _ empty))
        (subst AreTaken (sym (append-nil (fields_of_lines before))) taken)

    by_field : (o : Option Field) → fault_of (fields_of_lines before) o ≡ None → AreTaken (fields_of_lines before ++ sent_fields o)
    by_field None refused = absurd (cc refused)
    by_field (Some f) sound = by_value f (has_value f) refl sound

    go : (fault : Option Cause) → fault_of_line before line ≡ fault → option_or fault (first_fault (before ++ line ∷ []) lines) ≡ None
        → (AreTaken (fields_of_lines (before ++ line ∷ [])) → first_fault (before ++ line ∷ []) lines ≡ None
        → AreTaken (fields_of_lines ((before ++ line ∷ []) ++ lines)))
        → AreTaken (fields_of_lines ((before ++ line ∷ []) ++ lines))
    go (Some cause) at none later = absurd (cc none)
    go None at none later = later (subst AreTaken (sym (fields-more before line)) (by_field (field_of line) at)) none

-- ---- and back

twice : (name : List ℕ) (before rest : List Field) (f : Field) → is_named name f ≡ true → list_any (is_named f.name) before ≡ true
    → count_by (is_named name) (before ++ f ∷ rest) ≤ 1 → ⊥
twice name before rest f named stands once =
    let whole = count-append (is_named name) before (f ∷ rest) in
    let one = some_counted (is_named name) before (sym (same_name name f named before) ∙ stands) in
    let own = count-append (is_named name) (f ∷ []) rest in
    omega (arith, count-one (is_named name) f true named)

All-at : (P : Field → Type 0) (before rest : List Field) (f : Field) → All P (before ++ f ∷ rest) → P f
All-at P [] rest f all = All-head P f rest all
All-at P (g ∷ before) rest f all = All-at P before rest f (All-tail P g (before ++ f ∷ rest) all)

not_repeated : (before rest : List Field) (f : Field) → AreTaken (before ++ f ∷ rest) → is_repeated before f ≡ false
not_repeated before rest f taken =
    elim (cases_Bool (is_repeated before f)) [
      | inr once ↦ once
      | inl repeated ↦
          let both = and_parts (is_cgi_field f) (list_any (is_named f.name) before) repeated in
          elim (or_cases (is_named (codes "Content-Type") f || is_named (codes "Location") f) (is_status f) both.0) [
            | inr status ↦ absurd (twice (codes "Status") before rest f status both.1 taken.statuses)
            | inl other ↦
                elim (or_cases (is_named (codes "Content-Type") f) (is_named (codes "Location") f) other) [
                  | inl type ↦ absurd (twice (codes "Content-Type") before rest f type both.1 taken.types)
                  | inr location ↦ absurd (twice (codes "Location") before rest f location both.1 taken.locations)
                ]
          ]
    ]

no_fault : (before rest : List Field) (f : Field) → AreTaken (before ++ f ∷ rest) → fault_of_field before f ≡ None
no_fault before rest f taken =
    let final = All-at (λ g. is_status g ≡ true → is_some (status_of g.value) ≡ true) before rest f taken.final in
    cond-false _ _ _ (not_repeated before rest f taken) ∙ cond-false _ _ _ (good final (is_status f) refl)
  where
    good : (is_status f ≡ true → is_some (status_of f.value) ≡ true) → (t : Bool) → is_status f ≡ t → (t && is_none (status_of f.value)) ≡ false
    good final true status = none_by_some (status_of f.value) (final status)
    good final false other = refl

fields-append : (xs ys : List (List ℕ)) → fields_of_lines (xs ++ ys) ≡ fields_of_lines xs ++ fields_of_lines ys
fields-append xs ys =
    ap (filter has_value) (filter_map-append field_of xs ys) ∙ filter-append has_value (filter_map field_of xs) (filter_map field_of ys)

fields_at : (before : List (List ℕ)) (line : List ℕ) (lines : List (List ℕ)) (f : Field) → field_of line ≡ Some f → has_value f ≡ true
    → fields_of_lines (before ++ line ∷ lines) ≡ fields_of_lines before ++ f ∷ fields_of_lines lines
fields_at before line lines f is valued =
    fields-append before (line ∷ lines)
    ∙ ap (λ (fs : List Field). fields_of_lines before ++ fs)
    (ap (λ (o : Option Field). filter has_value (cons_option o (filter_map field_of lines))) is ∙ cond-true _ _ _ valued)

pub lines_taken : (before lines : List (List ℕ)) (fields : List Field) → fields_of lines ≡ Some fields → AreTaken (fields_of_lines (before ++ lines))
    → first_fault before lines ≡ None
lines_taken before [] fields are taken = refl
lines_taken before (line ∷ lines) fields are taken =
    let first = then_some _ (field_of line) fields are in
    let rest = map_some (λ (fs : List Field). first.0 ∷ fs) (fields_of lines) fields first.2 in
    let whole : AreTaken (fields_of_lines ((before ++ line ∷ []) ++ lines)) =
    subst (λ (ls : List (List ℕ)). AreTaken (fields_of_lines ls)) (sym (append_assoc before (line ∷ []) lines)) taken in
    ap (λ (o : Option Cause). option_or o (first_fault (before ++ line ∷ []) lines)) (own first.0 first.1)
    ∙ lines_taken (before ++ line ∷ []) lines rest.0 rest.1 whole
  where
    own : (f : Field) → field_of line ≡ Some f → fault_of_line before line ≡ None
    own f is = ap (fault_of (fields_of_lines before)) is ∙ by_value (has_value f) refl
      where
        by_value : (t : Bool) → has_value f ≡ t → fault_of (fields_of_lines before) (Some f) ≡ None
        by_value false empty = cond-false _ _ _ empty
        by_value true valued = cond-true _ _ _ valued ∙ no_fault (fields_of_lines before) (fields_of_lines lines) f (subst AreTaken (fields_at before line lines f is valued) taken)
