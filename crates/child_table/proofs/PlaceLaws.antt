-- What is found among places by rising number, and what an edit of them does.
use Rattle.std.proofs.Common.{◌≡◌, ◌≢◌, ◌==◌, ℕ, Option, zero, suc, ◌+◌, ◌-◌, ◌<◌, ◌≤◌, List, [], ◌∷◌, length, get_or, set, if◌then◌else◌, Some, None, Result, Ok, Err, IfOk, IfErr, refl, sym, ap, ◌∙◌, subst, arith, is_ok, true, OnErr}
use Rattle.std.specs.List.{insert, remove}
use Rattle.std.specs.List.Sorted.{IsSearchInRange, IsBinarySearchResult, IsNonDecreasingBy}
use Rattle.std.specs.Ordering.{nat_cmp, ordering_index}
use Rattle.std.proofs.lemmas.Cmp.{ranked}
use Rattle.std.proofs.lemmas.List.Sorted.{IsNonDecreasingBy-from_default}
use Rattle.std.proofs.lemmas.List.Edits.{length-insert, length-remove, get_or-insert_below, get_or-insert_at, get_or-insert_above, get_or-remove_below, get_or-remove_above}
use Rattle.std.proofs.lemmas.Bool.Decides.{nat_tests}
use Rattle.std.proofs.lemmas.Grind.{common_steps}
use Rattle.child_table.specs.declared.places.Place.{Place}
use Rattle.child_table.specs.Places.{IsRising, number_at, no_place, IsAtPlace, IsGapForPlace}
use Rattle.std.proofs.lemmas.List.{get_or_default}
use Rattle.child_table.specs.Rows.{key_in}

abbrev pub key_of_place : Place → ℕ
key_of_place p = p.key

-- the new places have this key at k, and at every other number what the old ones have
abbrev pub SetsKeys : List Place → List Place → ℕ → Option ℕ → Type 0
SetsKeys old new k key = (j : ℕ) → key_in new j ≡ (if k == j then key else key_in old j)

abbrev pub NoneBefore : List Place → ℕ → ℕ → Type 0
NoneBefore l k i = (j : ℕ) → j < i → number_at l j ≢ k

none_before_tail : (x : Place) (l : List Place) (k i : ℕ) → NoneBefore (x ∷ l) k (suc i) → NoneBefore l k i
none_before_tail x l k i none j lt = none (suc j) (omega arith)

is_at_tail : (x : Place) (l : List Place) (k i : ℕ) → IsAtPlace (x ∷ l) k (suc i) → IsAtPlace l k i
is_at_tail x l k i at = record { in_range = omega (arith, at.in_range); has_number = at.has_number }

key_absent : (l : List Place) (k : ℕ) → NoneBefore l k (length l) → key_in l k ≡ None
key_absent [] k none = refl
key_absent (x ∷ l) k none = grind (arith, nat_tests, none 0 (omega arith), key_absent l k (none_before_tail x l k _ none))

key_present : (l : List Place) (k i : ℕ) → IsAtPlace l k i → NoneBefore l k i → key_in l k ≡ Some (key_of_place (get_or l i no_place))
key_present [] k i at none = absurd (omega (arith, at.in_range))
key_present (x ∷ l) k zero at none = grind (arith, nat_tests, at.has_number)
key_present (x ∷ l) k (suc i) at none = grind (arith, nat_tests, none 0 (omega arith), key_present l k i (is_at_tail x l k i at) (none_before_tail x l k i none))

key-set : (l : List Place) (k i : ℕ) (place : Place) → place.number ≡ k → IsAtPlace l k i → NoneBefore l k i → SetsKeys l (set l i place) k (Some place.key)
key-set [] k i place is at none q = absurd (omega (arith, at.in_range))
key-set (x ∷ l) k zero place is at none q = grind (arith, nat_tests, at.has_number, is)
key-set (x ∷ l) k (suc i) place is at none q = grind (arith, nat_tests, none 0 (omega arith), key-set l k i place is (is_at_tail x l k i at) (none_before_tail x l k i none) q)

key-insert : (l : List Place) (k i : ℕ) (place : Place) → place.number ≡ k → NoneBefore l k i → SetsKeys l (insert l i place) k (Some place.key)
key-insert l k zero place is none q = grind (arith, nat_tests, is)
key-insert [] k (suc i) place is none q = grind (arith, nat_tests, is)
key-insert (x ∷ l) k (suc i) place is none q = grind (arith, nat_tests, none 0 (omega arith), key-insert l k i place is (none_before_tail x l k i none) q)

-- places from i on have other numbers
abbrev NoneFrom : List Place → ℕ → ℕ → Type 0
NoneFrom l k i = (j : ℕ) → i ≤ j → j < length l → number_at l j ≢ k

key-remove : (l : List Place) (k i : ℕ) → IsAtPlace l k i → NoneBefore l k i → NoneFrom l k (i + 1) → SetsKeys l (remove l i) k None
key-remove [] k i at none later q = absurd (omega (arith, at.in_range))
key-remove (x ∷ l) k zero at none later q =
    let rest : key_in l k ≡ None = key_absent l k (λ j lt. later (suc j) (omega arith) (omega arith)) in
    grind (arith, nat_tests, at.has_number, rest)
key-remove (x ∷ l) k (suc i) at none later q = grind (arith, nat_tests, none 0 (omega arith), key-remove l k i (is_at_tail x l k i at) (none_before_tail x l k i none) (λ j le lt. later (suc j) (omega arith) (omega arith)) q)

module _ (l : List Place) (sorted : IsRising l) (k : ℕ) where
  comparisons_rise : IsNonDecreasingBy (λ place. ordering_index (nat_cmp place.number k)) l
  comparisons_rise = IsNonDecreasingBy-from_default (λ place. ordering_index (nat_cmp place.number k)) l no_place (λ i j le in_range.
      let rise : number_at l i ≤ number_at l j = grind (arith, sorted i j, λ (same : i ≡ j). ap (number_at l) same) in
      grind (arith, nat_tests))

  pub searched : (r : Result ℕ ℕ) → IsSearchInRange r (length l) → IsBinarySearchResult (λ place. nat_cmp place.number k) l r → record { found : IfOk r (IsAtPlace l k); absent : IfErr r (IsGapForPlace l k) }
  searched (Ok at) in_range equal = record { found = record { in_range = in_range; has_number = ranked _ k _ (sym (equal no_place)) }; absent = tt }
  searched (Err at) in_range parted = record {
    found = tt;
    absent = record {
      in_range = in_range;
      smaller_before = λ j lt. ranked _ k _ (sym ((parted comparisons_rise).0 j no_place (omega arith) lt));
      greater_after = λ j le lt. ranked _ k _ (sym ((parted comparisons_rise).1 j no_place le lt));
    };
  }

module _ (l : List Place) (sorted : IsRising l) (k at : ℕ) (is_at : IsAtPlace l k at) where
  none_before : NoneBefore l k at
  none_before j lt same = omega (arith, sorted j at lt is_at.in_range, is_at.has_number)

  pub key_at : key_in l k ≡ Some (key_of_place (get_or l at no_place))
  key_at = key_present l k at is_at none_before

  pub sets_set : (place : Place) → place.number ≡ k → SetsKeys l (set l at place) k (Some place.key)
  sets_set place is = key-set l k at place is is_at none_before

  pub rising_set : (place : Place) → place.number ≡ k → IsRising (set l at place)
  rising_set place is i j lt in_range = grind (arith, common_steps, sorted i j, sorted i at, sorted at j, is_at.in_range, is_at.has_number)

  pub sets_remove : SetsKeys l (remove l at) k None
  sets_remove = key-remove l k at is_at none_before (λ j le lt same. omega (arith, sorted at j (omega arith) lt, is_at.has_number))

  pub rising_remove : IsRising (remove l at)
  rising_remove i j lt in_range =
      let new = remove l at in
      let key = λ (x : Place). x.number in
      let len = length-remove l at is_at.in_range in
      let key_below : (i : ℕ) → i < at → number_at new i ≡ number_at l i = λ i below. ap key (get_or-remove_below l at no_place i below is_at.in_range) in
      let key_above : (i : ℕ) → at ≤ i → number_at new i ≡ number_at l (i + 1) = λ i above. ap key (get_or-remove_above l at no_place i above is_at.in_range) in
      grind (arith, key_below i, key_above i, key_below j, key_above j, sorted i j, sorted i (j + 1), sorted (i + 1) (j + 1))

module _ (l : List Place) (k at : ℕ) (gap : IsGapForPlace l k at) where
  pub key_in_gap : key_in l k ≡ None
  key_in_gap = key_absent l k (λ j lt same. grind (arith, gap.smaller_before j, gap.greater_after j))

  pub sets_insert : (place : Place) → place.number ≡ k → SetsKeys l (insert l at place) k (Some place.key)
  sets_insert place is = key-insert l k at place is (λ j lt same. omega (arith, gap.smaller_before j lt))

  pub rising_insert : (place : Place) → place.number ≡ k → IsRising l → IsRising (insert l at place)
  rising_insert place is sorted i j lt in_range =
      let new = insert l at place in
      let key = λ (x : Place). x.number in
      let length_new = length-insert l at place gap.in_range in
      let key_below : (i : ℕ) → i < at → number_at new i ≡ number_at l i = λ i below. ap key (get_or-insert_below l at place no_place i below gap.in_range) in
      let key_here : (i : ℕ) → i ≡ at → number_at new i ≡ k = λ i here. rw here (ap key (get_or-insert_at l at place no_place gap.in_range) ∙ is) in
      let key_above : (i : ℕ) → at < i → number_at new i ≡ number_at l (i - 1) = λ i above. subst (λ q. number_at new q ≡ number_at l (i - 1)) {x = i - 1 + 1} (omega arith) (ap key (get_or-insert_above l at place no_place (i - 1) (omega arith) gap.in_range)) in
      grind (arith, key_below i, key_here i, key_above i, key_below j, key_here j, key_above j, sorted i j, sorted i (j - 1), sorted (i - 1) (j - 1), gap.smaller_before i, gap.greater_after (j - 1))

-- ---- what a call reads

read-place : (l : List Place) (k at : ℕ) (x : Place) → IsAtPlace l k at → x ≡ get_or l at x → get_or l at no_place ≡ x
read-place l k at x f e = get_or_default l at no_place x f.in_range ∙ sym e

pub found-place : (l : List Place) → IsRising l → (k at : ℕ) (x : Place) → IsAtPlace l k at → x ≡ get_or l at x → key_in l k ≡ Some x.key
found-place l s k at x f e = key_at l s k at f ∙ ap (λ (p : Place). Some p.key) (read-place l k at x f e)

pub done_for_room : {A B : Type 0} (r : Result A B) (cap len : ℕ) → OnErr r (cap ≤ len) → len < cap → is_ok r ≡ true
done_for_room (Ok x) cap len full lt = refl
done_for_room (Err e) cap len full lt = absurd (omega (arith, full))

pub key_found : (l : List Place) → IsRising l → (k at : ℕ) → IsAtPlace l k at → key_in l k ≡ Some (key_of_place (get_or l at no_place))
key_found l s k at f = key_at l s k at f
