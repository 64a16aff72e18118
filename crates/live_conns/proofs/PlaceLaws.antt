-- What is found among places by rising number, and what one more and one less leave.
use Rattle.std.proofs.Common.{◌≡◌, ◌≢◌, ℕ, zero, suc, ◌+◌, ◌<◌, ◌≤◌, List, [], ◌∷◌, ◌++◌, map, length, get_or, Result, Ok, Err, IfOk, IfErr, refl, sym, ap, arith, inl, inr, OnErr, is_ok, true}
use Rattle.std.specs.List.{remove, All}
use Rattle.std.specs.List.Sorted.{IsSearchInRange, IsBinarySearchResult, IsNonDecreasingBy}
use Rattle.std.specs.Ordering.{nat_cmp, ordering_index}
use Rattle.std.proofs.lemmas.Cmp.{ranked}
use Rattle.std.proofs.lemmas.Bool.{or_from, ne_eqb, cases_lt}
use Rattle.std.proofs.lemmas.Bool.Decides.{nat_tests}
use Rattle.std.proofs.lemmas.List.Edits.{length-remove, get_or-remove_below, get_or-remove_above}
use Rattle.std.proofs.lemmas.List.Quantifiers.{all_pairs_push}
use Rattle.live_conns.specs.declared.place.Place.{Place}
use Rattle.live_conns.specs.Places.{IsAtNumber, IsRising, LacksNumber, number_in}

none_numbered : (places : List Place) (c : ℕ) → ((j : ℕ) (d : Place) → j < length places → number_in (get_or places j d) ≢ c) → LacksNumber places c
none_numbered [] c other = refl
none_numbered (x ∷ places) c other = or_from _ _ (ne_eqb (number_in x) c (other 0 x (omega arith))) (none_numbered places c (λ j d lt. other (suc j) d (omega (arith, lt))))

number_le : (places : List Place) (i j : ℕ) (d : Place) → IsRising places → i ≤ j → j < length places → number_in (get_or places i d) ≤ number_in (get_or places j d)
number_le places i j d rising le lt = grind (arith, rising i j d, λ (same : i ≡ j). ap (λ k. number_in (get_or places k d)) same)

module _ (places : List Place) (rising : IsRising places) (c : ℕ) where
  comparisons_rise : IsNonDecreasingBy (λ y. ordering_index (nat_cmp (number_in y) c)) places
  comparisons_rise i j d le lt =
      let rise : number_in (get_or places i d) ≤ number_in (get_or places j d) = number_le places i j d rising le lt in
      grind (arith, nat_tests)

  pub searched : (r : Result ℕ ℕ) → IsSearchInRange r (length places) → IsBinarySearchResult (λ y. nat_cmp (number_in y) c) places r →
      record { found : IfOk r (IsAtNumber places c); absent : IfErr r (λ i. LacksNumber places c) }
  searched (Ok at) in_range equal = record { found = record { within = in_range; is = λ d. ranked _ c _ (sym (equal d)) }; absent = tt }
  searched (Err at) in_range parted = record {
    found = tt;
    absent = none_numbered places c (λ j d lt same. elim (cases_lt j at) [
      | inl before ↦ (let h = ranked _ c _ (sym ((parted comparisons_rise).0 j d (omega arith) before)) in absurd (omega (arith, h, same)))
      | inr after ↦ (let h = ranked _ c _ (sym ((parted comparisons_rise).1 j d after lt)) in absurd (omega (arith, h, same)))
    ]);
  }

-- ---- edits

pub rising_push : (places : List Place) (last : Place) → IsRising places → All (λ x. number_in x < number_in last) places → IsRising (places ++ last ∷ [])
rising_push places last rising below = all_pairs_push (λ a b. number_in a < number_in b) places last rising below

pub rising_less : (places : List Place) (at : ℕ) → IsRising places → at < length places → IsRising (remove places at)
rising_less places at rising lt i j d less in_range =
    let new = remove places at in
    let len = length-remove places at lt in
    let number = λ (x : Place). number_in x in
    let below : (k : ℕ) → k < at → number_in (get_or new k d) ≡ number_in (get_or places k d) = λ k b. ap number (get_or-remove_below places at d k b lt) in
    let above : (k : ℕ) → at ≤ k → number_in (get_or new k d) ≡ number_in (get_or places (k + 1) d) = λ k a. ap number (get_or-remove_above places at d k a lt) in
    grind (arith, below i, above i, below j, above j, rising i j d, rising i (j + 1) d, rising (i + 1) (j + 1) d)

-- ---- numbers and keys

pub map_less : {A B : Type 0} (f : A → B) (l : List A) (i : ℕ) → map f (remove l i) ≡ remove (map f l) i
map_less f [] zero = refl
map_less f [] (suc i) = refl
map_less f (x ∷ l) zero = refl
map_less f (x ∷ l) (suc i) = ap (λ r. f x ∷ r) (map_less f l i)

pub map_push : {A B : Type 0} (f : A → B) (l : List A) (x : A) → map f (l ++ x ∷ []) ≡ map f l ++ f x ∷ []
map_push f [] x = refl
map_push f (y ∷ l) x = ap (λ r. f y ∷ r) (map_push f l x)

pub map_at : {A B : Type 0} (f : A → B) (l : List A) (i : ℕ) (d : A) (e : B) → i < length l → get_or (map f l) i e ≡ f (get_or l i d)
map_at f [] i d e lt = absurd (omega (arith, lt))
map_at f (x ∷ l) zero d e lt = refl
map_at f (x ∷ l) (suc i) d e lt = map_at f l i d e (omega (arith, lt))

-- ---- room

pub done_for_room : {A B : Type 0} (r : Result A B) (cap len : ℕ) → OnErr r (cap ≤ len) → len < cap → is_ok r ≡ true
done_for_room (Ok x) cap len full lt = refl
done_for_room (Err e) cap len full lt = absurd (omega (arith, full))
