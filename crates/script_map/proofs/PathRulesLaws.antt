-- Why paths without dot segments are what RFC 3986 5.2.4 says.
use Rattle.std.proofs.Common.{◌≡◌, ℕ, ◌<◌, Bool, true, false, cond, ◌||◌, ◌⊎◌, List, [], ◌∷◌, ◌++◌, length, drop, fold, flat_map, refl, sym, ap, ◌∙◌, subst, arith, inl, inr, append_assoc, append-nil, length-append}
use Rattle.std.specs.List.{slice_split, onto_first, join_with_byte, All}
use Rattle.std.proofs.lemmas.List.{take_at}
use Rattle.std.proofs.lemmas.List.Elements.{All-head, All-tail, All-cons, All-nil, All-push}
use Rattle.std.proofs.lemmas.List.Splits.{slice_split_at, slice_split_none, slice_split-cons_yes, slice_split-cons_no, join_with_byte-slice_split}
use Rattle.std.proofs.lemmas.Bool.{cond-true, cond-false, cases_Bool}
use Rattle.std.proofs.lemmas.Slice.Eq.{bytes_eq-Decides}
use Rattle.script_map.specs.DotSegments.{is_slash, is_dot, is_dot_dot, is_dot_segment, segments_of, with_end, with_segment, with_slash, without_dot_segments, HasNoSlash, HasNoDotSegment, IsRooted}
use Rattle.script_map.specs.PathRules.{LeavesNoDotSegment, KeepsOtherPaths, DropsDots, DropsPairs, DropsAtRoot, EndsWithSlash}
use Rattle.script_map.proofs.ListLaws.{neither}
use Rattle.script_map.proofs.PathLaws.{parts_some, parts_plain, with_end-cons, with_segment-All, with_segment_other}

abbrev pub IsOther : List ℕ → Type 0
IsOther segment = is_dot_segment segment ≡ false

other_from : (a b : Bool) → a ≡ false → b ≡ false → (a || b) ≡ false
other_from a b one two = (λ i. one i || two i)

-- ---- no dot segment is left

folded_plain : (segments kept : List (List ℕ)) → All HasNoSlash segments → All HasNoSlash kept → All HasNoSlash (fold with_segment kept segments)
folded_plain [] kept all own = own
folded_plain (s ∷ segments) kept all own =
    folded_plain segments (with_segment kept s) (All-tail HasNoSlash s segments all)
    (with_segment-All HasNoSlash kept s own (λ _ _. All-head HasNoSlash s segments all))

folded_other : (segments kept : List (List ℕ)) → All IsOther kept → All IsOther (fold with_segment kept segments)
folded_other [] kept own = own
folded_other (s ∷ segments) kept own =
    folded_other segments (with_segment kept s) (with_segment-All IsOther kept s own (λ one two. other_from (is_dot s) (is_dot_dot s) one two))

end_plain : (segments : List (List ℕ)) → All HasNoSlash segments → All HasNoSlash (with_end segments)
end_plain [] all = all
end_plain (last ∷ []) all =
    elim (is_dot_segment last) as (λ b. All HasNoSlash (cond b (last ∷ [] ∷ []) (last ∷ []))) [
      | true ↦ All-push HasNoSlash (last ∷ []) [] all (All-nil (λ byte. is_slash byte ≡ false))
      | false ↦ all
    ]
end_plain (s ∷ next ∷ more) all =
    All-cons HasNoSlash s (with_end (next ∷ more)) (All-head HasNoSlash s (next ∷ more) all) (end_plain (next ∷ more) (All-tail HasNoSlash s (next ∷ more) all))

pushed_some : (kept : List (List ℕ)) (s : List ℕ) → 0 < length (kept ++ s ∷ [])
pushed_some kept s = omega (arith, length-append kept (s ∷ []))

end_some : (s : List ℕ) (more kept : List (List ℕ)) → 0 < length (fold with_segment kept (with_end (s ∷ more)))
end_some last [] kept =
    elim (cases_Bool (is_dot_segment last)) [
      | inl dots ↦
          subst (λ (segments : List (List ℕ)). 0 < length (fold with_segment kept segments)) (sym (cond-true (is_dot_segment last) (last ∷ [] ∷ []) (last ∷ []) dots))
          (pushed_some (with_segment kept last) [])
      | inr other ↦
          let each = neither (is_dot last) (is_dot_dot last) other in
          subst (λ (segments : List (List ℕ)). 0 < length (fold with_segment kept segments)) (sym (cond-false (is_dot_segment last) (last ∷ [] ∷ []) (last ∷ []) other))
          (subst (λ (l : List (List ℕ)). 0 < length l) (sym (with_segment_other kept last each.0 each.1)) (pushed_some kept last))
    ]
end_some s (next ∷ more) kept = end_some next more (with_segment kept s)

-- the segments of a path that is made of them
split-with_slash : (s : List ℕ) (more : List (List ℕ)) → All HasNoSlash (s ∷ more) → slice_split is_slash (s ++ flat_map with_slash more) ≡ s ∷ more
split-with_slash s [] plain =
    ap (slice_split is_slash) (append-nil s) ∙ slice_split_none is_slash s (All-head HasNoSlash s [] plain)
split-with_slash s (next ∷ more) plain =
    slice_split_at is_slash s 47 (next ++ flat_map with_slash more) (All-head HasNoSlash s (next ∷ more) plain) refl
    ∙ ap (λ (ps : List (List ℕ)). s ∷ ps) (split-with_slash next more (All-tail HasNoSlash s (next ∷ more) plain))

made_of : (segments : List (List ℕ)) → 0 < length segments → All HasNoSlash segments → All IsOther segments
    → IsRooted (flat_map with_slash segments) × HasNoDotSegment (flat_map with_slash segments)
made_of [] some plain other = absurd (omega arith)
made_of (s ∷ more) some plain other = (refl, subst (All IsOther) (sym (split-with_slash s more plain)) other)

pub leaves_no_dot_segment : LeavesNoDotSegment
unfolding without_dot_segments
leaves_no_dot_segment path =
    let parts = parts_some (drop 1 path) in
    let some : 0 < length (fold with_segment [] (with_end (segments_of path))) =
    subst (λ (ps : List (List ℕ)). 0 < length (fold with_segment [] (with_end ps))) (sym parts.2) (end_some parts.0 parts.1 []) in
    made_of (fold with_segment [] (with_end (segments_of path))) some
    (folded_plain (with_end (segments_of path)) [] (end_plain (segments_of path) (parts_plain (drop 1 path))) (All-nil HasNoSlash))
    (folded_other (with_end (segments_of path)) [] (All-nil IsOther))

-- ---- a path with none stays

folded_same : (segments kept : List (List ℕ)) → All IsOther segments → fold with_segment kept segments ≡ kept ++ segments
folded_same [] kept other = sym (append-nil kept)
folded_same (s ∷ segments) kept other =
    let each = neither (is_dot s) (is_dot_dot s) (All-head IsOther s segments other) in
    ap (λ (l : List (List ℕ)). fold with_segment l segments) (with_segment_other kept s each.0 each.1)
    ∙ folded_same segments (kept ++ s ∷ []) (All-tail IsOther s segments other)
    ∙ append_assoc kept (s ∷ []) segments

end_same : (segments : List (List ℕ)) → All IsOther segments → with_end segments ≡ segments
end_same [] other = refl
end_same (last ∷ []) other = cond-false (is_dot_segment last) (last ∷ [] ∷ []) (last ∷ []) (All-head IsOther last [] other)
end_same (s ∷ next ∷ more) other = ap (λ (ps : List (List ℕ)). s ∷ ps) (end_same (next ∷ more) (All-tail IsOther s (next ∷ more) other))

joined : (s : List ℕ) (more : List (List ℕ)) → flat_map with_slash (s ∷ more) ≡ 47 ∷ join_with_byte 47 (s ∷ more)
joined s [] = append-nil (47 ∷ s)
joined s (next ∷ more) = ap (λ (l : List ℕ). 47 ∷ (s ++ l)) (joined next more)

rooted : (path : List ℕ) → IsRooted path → path ≡ 47 ∷ drop 1 path
rooted [] none = absurd (cc)
rooted (b ∷ path) first = let same : b ≡ 47 = cc in ap (λ (x : ℕ). x ∷ path) same

pub keeps_other_paths : KeepsOtherPaths
unfolding without_dot_segments
keeps_other_paths path root other =
    let parts = parts_some (drop 1 path) in
    ap (λ (ps : List (List ℕ)). flat_map with_slash (fold with_segment [] ps)) (end_same (segments_of path) other)
    ∙ ap (flat_map with_slash) (folded_same (segments_of path) [] other)
    ∙ ap (flat_map with_slash) parts.2
    ∙ joined parts.0 parts.1
    ∙ ap (λ (ps : List (List ℕ)). 47 ∷ join_with_byte 47 ps) (sym parts.2)
    ∙ ap (λ (l : List ℕ). 47 ∷ l) (join_with_byte-slice_split 47 (drop 1 path))
    ∙ sym (rooted path root)

-- ---- the rules of the removal

split-append : (front rest : List ℕ) → slice_split is_slash (front ++ 47 ∷ rest) ≡ slice_split is_slash front ++ slice_split is_slash rest
split-append [] rest = refl
split-append (b ∷ front) rest =
    let later = split-append front rest in
    let parts = parts_some front in
    elim (cases_Bool (is_slash b)) [
      | inl here ↦
          slice_split-cons_yes is_slash b (front ++ 47 ∷ rest) here ∙ ap (λ (ps : List (List ℕ)). [] ∷ ps) later
          ∙ ap (λ (ps : List (List ℕ)). ps ++ slice_split is_slash rest) (sym (slice_split-cons_yes is_slash b front here))
      | inr other ↦
          slice_split-cons_no is_slash b (front ++ 47 ∷ rest) other ∙ ap (onto_first b) (later ∙ ap (λ (ps : List (List ℕ)). ps ++ slice_split is_slash rest) parts.2)
          ∙ ap (λ (ps : List (List ℕ)). ps ++ slice_split is_slash rest) (sym (slice_split-cons_no is_slash b front other ∙ ap (onto_first b) parts.2))
    ]

with_end-append : (front : List (List ℕ)) (s : List ℕ) (more : List (List ℕ)) → with_end (front ++ s ∷ more) ≡ front ++ with_end (s ∷ more)
with_end-append [] s more = refl
with_end-append (x ∷ []) s more = refl
with_end-append (x ∷ y ∷ front) s more = ap (λ (ps : List (List ℕ)). x ∷ ps) (with_end-append (y ∷ front) s more)

fold-append : (xs ys kept : List (List ℕ)) → fold with_segment kept (xs ++ ys) ≡ fold with_segment (fold with_segment kept xs) ys
fold-append [] ys kept = refl
fold-append (x ∷ xs) ys kept = fold-append xs ys (with_segment kept x)

-- the segments that are left of a path's rest, after those that its front leaves
abbrev pub left_after : List (List ℕ) → List ℕ → List ℕ
left_after kept rest = flat_map with_slash (fold with_segment kept (with_end (slice_split is_slash rest)))

abbrev pub ResumesAt : List ℕ → Type 0
ResumesAt front = (kept : List (List ℕ)) × ((rest : List ℕ) → without_dot_segments (front ++ 47 ∷ rest) ≡ left_after kept rest)

resumed : (front : List ℕ) → ResumesAt front
unfolding without_dot_segments
resumed [] = ([], λ rest. refl)
resumed (b ∷ front) = (
  fold with_segment [] (slice_split is_slash front),
  λ rest.
      let parts = parts_some rest in
      ap (λ (ps : List (List ℕ)). flat_map with_slash (fold with_segment [] (with_end ps)))
      (split-append front rest ∙ ap (λ (ps : List (List ℕ)). slice_split is_slash front ++ ps) parts.2)
      ∙ ap (λ (ps : List (List ℕ)). flat_map with_slash (fold with_segment [] ps)) (with_end-append (slice_split is_slash front) parts.0 parts.1)
      ∙ ap (flat_map with_slash) (fold-append (slice_split is_slash front) (with_end (parts.0 ∷ parts.1)) [])
      ∙ ap (λ (ps : List (List ℕ)). flat_map with_slash (fold with_segment (fold with_segment [] (slice_split is_slash front)) (with_end ps))) (sym parts.2),
)

pub drops_dots : DropsDots
drops_dots front rest =
    let at = resumed front in
    at.1 (46 ∷ 47 ∷ rest)
    ∙ ap (λ (ps : List (List ℕ)). flat_map with_slash (fold with_segment at.0 ps)) (with_end-cons (46 ∷ []) rest)
    ∙ sym (at.1 rest)

taken_away : (kept : List (List ℕ)) (s : List ℕ) → IsOther s → with_segment (with_segment kept s) (46 ∷ 46 ∷ []) ≡ kept
taken_away kept s other =
    let each = neither (is_dot s) (is_dot_dot s) other in
    ap (λ (l : List (List ℕ)). with_segment l (46 ∷ 46 ∷ [])) (with_segment_other kept s each.0 each.1)
    ∙ take_at kept (s ∷ []) _ (omega (arith, length-append kept (s ∷ [])))

pub drops_pairs : DropsPairs
drops_pairs front segment rest plain other =
    let at = resumed front in
    let after = 46 ∷ 46 ∷ 47 ∷ rest in
    at.1 (segment ++ 47 ∷ after)
    ∙ ap (λ (ps : List (List ℕ)). flat_map with_slash (fold with_segment at.0 (with_end ps))) (slice_split_at is_slash segment 47 after plain refl)
    ∙ ap (λ (ps : List (List ℕ)). flat_map with_slash (fold with_segment (with_segment at.0 segment) ps)) (with_end-cons (46 ∷ 46 ∷ []) rest)
    ∙ ap (λ (kept : List (List ℕ)). left_after kept rest) (taken_away at.0 segment other)
    ∙ sym (at.1 rest)

pub drops_at_root : DropsAtRoot
unfolding without_dot_segments
drops_at_root rest =
    ap (λ (ps : List (List ℕ)). flat_map with_slash (fold with_segment [] ps)) (with_end-cons (46 ∷ 46 ∷ []) rest)

either_dots : (segment : List ℕ) → is_dot_segment segment ≡ true → (segment ≡ 46 ∷ []) ⊎ (segment ≡ 46 ∷ 46 ∷ [])
either_dots segment dots =
    elim (cases_Bool (is_dot segment)) [
      | inl one ↦ inl ((bytes_eq-Decides segment (46 ∷ [])).0 one)
      | inr other ↦ inr ((bytes_eq-Decides segment (46 ∷ 46 ∷ [])).0 (sym (ap (λ (b : Bool). b || is_dot_dot segment) other) ∙ dots))
    ]

pub ends_with_slash : EndsWithSlash
ends_with_slash front segment dots =
    let at = resumed front in
    let same : left_after at.0 segment ≡ left_after at.0 (segment ++ 47 ∷ []) =
    elim (either_dots segment dots) [
      | inl one ↦ ap (λ (s : List ℕ). left_after at.0 s) one ∙ ap (λ (s : List ℕ). left_after at.0 (s ++ 47 ∷ [])) (sym one)
      | inr two ↦ ap (λ (s : List ℕ). left_after at.0 s) two ∙ ap (λ (s : List ℕ). left_after at.0 (s ++ 47 ∷ [])) (sym two)
    ] in
    at.1 segment ∙ same ∙ sym (at.1 (segment ++ 47 ∷ []))
