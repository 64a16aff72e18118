-- Paths as their segments.
use Rattle.std.proofs.Common.{◌≡◌, ℕ, ◌-◌, true, false, not, List, [], ◌∷◌, ◌++◌, length, take, drop, reverse, fold, flat_map, refl, sym, ap, ◌∙◌, subst, arith, inl, inr, append_assoc, append-nil, length-append}
use Rattle.std.specs.List.{slice_split, onto_first, All, before_last, suffix_len, prefix_len}
use Rattle.std.proofs.lemmas.List.{take_at, reverse-append, length-reverse}
use Rattle.std.proofs.lemmas.List.Elements.{All-head, All-tail, All-cons, All-nil, All-push, All-take}
use Rattle.std.proofs.lemmas.List.Concat.{flat_map-append}
use Rattle.std.proofs.lemmas.List.Splits.{slice_split-cons_yes, slice_split-cons_no}
use Rattle.std.proofs.lemmas.Bool.{cond-true, cond-false, cases_Bool}
use Rattle.script_map.specs.DotSegments.{is_slash, is_dot, is_dot_dot, is_dot_segment, segments_of, with_end, with_segment, with_slash, without_dot_segments, HasNoSlash}

-- ---- the segments of a path

pub parts_some : (xs : List ℕ) → (y : List ℕ) × (ys : List (List ℕ)) × (slice_split is_slash xs ≡ y ∷ ys)
parts_some [] = ([], [], refl)
parts_some (x ∷ xs) =
    let later = parts_some xs in
    elim (cases_Bool (is_slash x)) [
      | inl here ↦ ([], slice_split is_slash xs, slice_split-cons_yes is_slash x xs here)
      | inr other ↦ (x ∷ later.0, later.1, slice_split-cons_no is_slash x xs other ∙ ap (onto_first x) later.2)
    ]

-- no slash stands in a segment
pub parts_plain : (xs : List ℕ) → All HasNoSlash (slice_split is_slash xs)
parts_plain [] = All-cons HasNoSlash [] [] (All-nil (λ byte. is_slash byte ≡ false)) (All-nil HasNoSlash)
parts_plain (x ∷ xs) =
    let later = parts_plain xs in
    let some = parts_some xs in
    elim (cases_Bool (is_slash x)) [
      | inl here ↦
          subst (All HasNoSlash) (sym (slice_split-cons_yes is_slash x xs here))
          (All-cons HasNoSlash [] (slice_split is_slash xs) (All-nil (λ byte. is_slash byte ≡ false)) later)
      | inr other ↦
          let own : All HasNoSlash (some.0 ∷ some.1) = subst (All HasNoSlash) some.2 later in
          subst (All HasNoSlash) (sym (slice_split-cons_no is_slash x xs other ∙ ap (onto_first x) some.2))
          (All-cons HasNoSlash (x ∷ some.0) some.1
          (All-cons (λ byte. is_slash byte ≡ false) x some.0 other (All-head HasNoSlash some.0 some.1 own))
          (All-tail HasNoSlash some.0 some.1 own))
    ]

-- the end of a list of segments is found behind the first
pub with_end-cons : (segment more : List ℕ) → with_end (segment ∷ slice_split is_slash more) ≡ segment ∷ with_end (slice_split is_slash more)
with_end-cons segment more =
    let some = parts_some more in
    ap (λ ps. with_end (segment ∷ ps)) some.2 ∙ ap (λ ps. segment ∷ with_end ps) (sym some.2)

-- ---- the last segment

pub last_of : {X : Type 0} (x : X) (xs : List X) → (front : List X) × (last : X) × (x ∷ xs ≡ front ++ last ∷ [])
last_of x [] = ([], x, refl)
last_of x (y ∷ ys) = let later = last_of y ys in (x ∷ later.0, later.1, ap (λ l. x ∷ l) later.2)

stops : (segment more : List ℕ) → HasNoSlash segment → prefix_len (λ byte. not (is_slash byte)) (segment ++ 47 ∷ more) ≡ length segment
stops [] more plain = refl
stops (b ∷ segment) more plain =
    let first = All-head (λ byte. is_slash byte ≡ false) b segment plain in
    let later = stops segment more (All-tail (λ byte. is_slash byte ≡ false) b segment plain) in
    rw first (omega arith)

All-reverse : (P : ℕ → Type 0) (xs : List ℕ) → All P xs → All P (reverse xs)
All-reverse P [] all = All-nil P
All-reverse P (x ∷ xs) all =
    subst (All P) (sym (reverse-append (x ∷ []) xs))
    (All-push P (reverse xs) x (All-reverse P xs (All-tail P x xs all)) (All-head P x xs all))

pub before_last-segment : (front segment : List ℕ) → HasNoSlash segment → before_last is_slash (front ++ 47 ∷ segment) ≡ front
before_last-segment front segment plain =
    let turned : reverse (front ++ 47 ∷ segment) ≡ reverse segment ++ 47 ∷ reverse front =
    reverse-append front (47 ∷ segment) ∙ ap (λ (l : List ℕ). l ++ reverse front) (reverse-append (47 ∷ []) segment)
    ∙ append_assoc (reverse segment) (47 ∷ []) (reverse front) in
    let suffix : suffix_len (λ byte. not (is_slash byte)) (front ++ 47 ∷ segment) ≡ length segment =
    ap (prefix_len (λ byte. not (is_slash byte))) turned
    ∙ stops (reverse segment) (reverse front) (All-reverse (λ byte. is_slash byte ≡ false) segment plain) ∙ length-reverse segment in
    take_at front (47 ∷ segment) _ (omega (arith, suffix, length-append front (47 ∷ segment)))

pub flat_map-last : (front : List (List ℕ)) (last : List ℕ) → flat_map with_slash (front ++ last ∷ []) ≡ flat_map with_slash front ++ 47 ∷ last
flat_map-last front last =
    flat_map-append with_slash front (last ∷ []) ∙ ap (λ (l : List ℕ). flat_map with_slash front ++ l) (append-nil (47 ∷ last))

-- without the last segment
pub before_last-segments : (segments : List (List ℕ)) → All HasNoSlash segments
    → before_last is_slash (flat_map with_slash segments) ≡ flat_map with_slash (take (length segments - 1) segments)
before_last-segments [] plain = refl
before_last-segments (first ∷ more) plain =
    let parts = last_of first more in
    let own : All HasNoSlash (parts.0 ++ parts.1 ∷ []) = subst (All HasNoSlash) parts.2 plain in
    let last : HasNoSlash parts.1 = All-at_end HasNoSlash parts.0 parts.1 own in
    let front : take (length (first ∷ more) - 1) (first ∷ more) ≡ parts.0 =
    ap (take (length (first ∷ more) - 1)) parts.2
    ∙ take_at parts.0 (parts.1 ∷ []) _ (omega (arith, ap (λ (l : List (List ℕ)). length l) parts.2, length-append parts.0 (parts.1 ∷ []))) in
    ap (λ (l : List (List ℕ)). before_last is_slash (flat_map with_slash l)) parts.2
    ∙ ap (before_last is_slash) (flat_map-last parts.0 parts.1)
    ∙ before_last-segment (flat_map with_slash parts.0) parts.1 last
    ∙ ap (flat_map with_slash) (sym front)
  where
    All-at_end : (P : List ℕ → Type 0) (xs : List (List ℕ)) (x : List ℕ) → All P (xs ++ x ∷ []) → P x
    All-at_end P [] x all = All-head P x [] all
    All-at_end P (y ∷ xs) x all = All-at_end P xs x (All-tail P y (xs ++ x ∷ []) all)

-- ---- one more segment

pub with_segment_dot : (kept : List (List ℕ)) (segment : List ℕ) → is_dot segment ≡ true → with_segment kept segment ≡ kept
with_segment_dot kept segment dot = cond-true (is_dot segment) _ _ dot

pub with_segment_dot_dot : (kept : List (List ℕ)) (segment : List ℕ) → is_dot segment ≡ false → is_dot_dot segment ≡ true
    → with_segment kept segment ≡ take (length kept - 1) kept
with_segment_dot_dot kept segment other here = cond-false (is_dot segment) _ _ other ∙ cond-true (is_dot_dot segment) _ _ here

pub with_segment_other : (kept : List (List ℕ)) (segment : List ℕ) → is_dot segment ≡ false → is_dot_dot segment ≡ false
    → with_segment kept segment ≡ kept ++ segment ∷ []
with_segment_other kept segment one two = cond-false (is_dot segment) _ _ one ∙ cond-false (is_dot_dot segment) _ _ two

pub with_segment-All : (P : List ℕ → Type 0) (kept : List (List ℕ)) (segment : List ℕ) → All P kept → (is_dot segment ≡ false → is_dot_dot segment ≡ false → P segment)
    → All P (with_segment kept segment)
with_segment-All P kept segment all here =
    elim (cases_Bool (is_dot segment)) [
      | inl dot ↦ subst (All P) (sym (with_segment_dot kept segment dot)) all
      | inr one ↦
          elim (cases_Bool (is_dot_dot segment)) [
            | inl dots ↦ subst (All P) (sym (with_segment_dot_dot kept segment one dots)) (All-take P (length kept - 1) kept all)
            | inr two ↦ subst (All P) (sym (with_segment_other kept segment one two)) (All-push P kept segment all (here one two))
          ]
    ]

pub drop_is : (kept : List ℕ) (segments : List (List ℕ)) (segment : List ℕ) → All HasNoSlash segments → kept ≡ flat_map with_slash segments
    → is_dot segment ≡ false → is_dot_dot segment ≡ true
    → before_last is_slash kept ≡ flat_map with_slash (with_segment segments segment)
drop_is kept segments segment plain is one two =
    ap (before_last is_slash) is ∙ before_last-segments segments plain ∙ ap (flat_map with_slash) (sym (with_segment_dot_dot segments segment one two))

-- ---- what the loop keeps

pub record IsResolved (path kept rest : List ℕ) : Type 0 where
  pub segments : List (List ℕ)
  pub plain : All HasNoSlash segments
  pub bytes : kept ≡ flat_map with_slash segments
  pub goes : fold with_segment segments (with_end (slice_split is_slash rest)) ≡ fold with_segment [] (with_end (segments_of path))

pub resolved_first : (path kept rest : List ℕ) → kept ≡ [] → rest ≡ drop 1 path → IsResolved path kept rest
resolved_first path kept rest none is = record {
  segments = [];
  plain = All-nil HasNoSlash;
  bytes = none;
  goes = ap (λ (l : List ℕ). fold with_segment [] (with_end (slice_split is_slash l))) is;
}

pub resolved_next : (path kept rest : List ℕ) (before : IsResolved path kept rest) (now segment more : List ℕ)
    → slice_split is_slash rest ≡ segment ∷ slice_split is_slash more
    → now ≡ flat_map with_slash (with_segment before.segments segment) → IsResolved path now more
resolved_next path kept rest before now segment more parts is =
    let own : HasNoSlash segment = All-head HasNoSlash segment (slice_split is_slash more) (subst (All HasNoSlash) parts (parts_plain rest)) in
    record {
      segments = with_segment before.segments segment;
      plain = with_segment-All HasNoSlash before.segments segment before.plain (λ _ _. own);
      bytes = is;
      goes =
          sym (ap (λ (ps : List (List ℕ)). fold with_segment before.segments (with_end ps)) parts
          ∙ ap (fold with_segment before.segments) (with_end-cons segment more))
          ∙ before.goes;
    }

end_dots : (last : List ℕ) → is_dot_segment last ≡ true → with_end (last ∷ []) ≡ last ∷ [] ∷ []
end_dots last dots = cond-true (is_dot_segment last) _ _ dots

end_other : (last : List ℕ) → is_dot_segment last ≡ false → with_end (last ∷ []) ≡ last ∷ []
end_other last other = cond-false (is_dot_segment last) _ _ other

pub resolved_dots : (path kept rest : List ℕ) (before : IsResolved path kept rest) (now : List ℕ) → slice_split is_slash rest ≡ rest ∷ []
    → now ≡ flat_map with_slash (with_segment before.segments rest) → is_dot_segment rest ≡ true
    → now ++ 47 ∷ [] ≡ without_dot_segments path
unfolding without_dot_segments
resolved_dots path kept rest before now alone is dots =
    ap (λ (l : List ℕ). l ++ 47 ∷ []) is
    ∙ sym (flat_map-last (with_segment before.segments rest) [])
    ∙ ap (flat_map with_slash) (sym (ap (fold with_segment before.segments) (ap with_end alone ∙ end_dots rest dots)) ∙ before.goes)

pub resolved_other : (path kept rest : List ℕ) (before : IsResolved path kept rest) (now : List ℕ) → slice_split is_slash rest ≡ rest ∷ []
    → now ≡ flat_map with_slash (with_segment before.segments rest) → is_dot_segment rest ≡ false
    → now ≡ without_dot_segments path
unfolding without_dot_segments
resolved_other path kept rest before now alone is other =
    is ∙ ap (flat_map with_slash) (sym (ap (fold with_segment before.segments) (ap with_end alone ∙ end_other rest other)) ∙ before.goes)
