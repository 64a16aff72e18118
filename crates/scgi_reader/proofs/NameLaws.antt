-- Names that were seen.
use Rattle.std.proofs.Common.{◌≡◌, ℕ, Bool, true, false, List, [], ◌∷◌, refl, sym, ap, ◌∙◌, nat_cmp, Ordering, Less, Equal, Greater, inl, inr}
use Rattle.std.specs.Prelude.{◌||◌, ◌&&◌, not}
use Rattle.std.specs.Ordering.{match_ordering}
use Rattle.std.specs.List.{list_any}
use Rattle.std.specs.Cmp.Lexicographic.{slice_cmp}
use Rattle.std.specs.Global.{Vec}
use Rattle.std.specs.BTreeMap.{is_at}
use Rattle.std.specs.BTreeSet.{BTreeSet, insert_key}
use Rattle.std.specs.Str.{bytes_eq}
use Rattle.std.proofs.lemmas.Bool.{cases_Bool, true≢false}
use Rattle.std.proofs.lemmas.Slice.Eq.{bytes_eq-Decides}
use Rattle.std.proofs.lemmas.Map.Text.{is_eq-slice_cmp}
use Rattle.std.proofs.lemmas.Map.Lookups.{exact_bytes}
use Rattle.host_base.specs.declared.fields.Field.{Field}
use Rattle.scgi_reader.specs.Names.{are_new, was_seen}
use Rattle.scgi_reader.specs.Pairs.{differ}

abbrev pub by_items : Vec ℕ → Vec ℕ → Ordering
by_items k y = slice_cmp nat_cmp k.items y.items

pub same_test : (k : Vec ℕ) (ks : List (Vec ℕ)) → list_any (is_at (by_items k)) ks ≡ list_any (λ y. bytes_eq k.items y.items) ks
same_test k [] = refl
same_test k (y ∷ ys) = ap (λ b. b || list_any (is_at (by_items k)) ys) (is_eq-slice_cmp k.items y.items) ∙ ap (λ b. bytes_eq k.items y.items || b) (same_test k ys)

twice : (b c : Bool) → (b || c) ≡ (b || (b || c))
twice true c = refl
twice false c = refl

turned : (a b c : Bool) → (a || (b || c)) ≡ (b || (a || c))
turned true true c = refl
turned true false c = refl
turned false b c = refl

module _ (k : Vec ℕ) (other : List ℕ) where
  abbrev pub test : Vec ℕ → Bool
  test y = bytes_eq other y.items

  by_order : (x : Vec ℕ) (xs : List (Vec ℕ)) (o : Ordering) → o ≡ by_items k x
      → list_any test (insert_key by_items xs k) ≡ (test k || list_any test xs)
      → list_any test (match_ordering o (k ∷ x ∷ xs) (x ∷ xs) (x ∷ insert_key by_items xs k)) ≡ (test k || (test x || list_any test xs))
  by_order x xs Less is more = refl
  by_order x xs Equal is more =
      ap (λ b. b || list_any test xs) (ap (bytes_eq other) (sym (exact_bytes k.items x.items (sym is))))
      ∙ twice (test k) (list_any test xs) ∙ ap (λ b. test k || (b || list_any test xs)) (ap (bytes_eq other) (exact_bytes k.items x.items (sym is)))
  by_order x xs Greater is more = ap (λ b. test x || b) more ∙ turned (test x) (test k) (list_any test xs)

  pub insert_seen : (ks : List (Vec ℕ)) → list_any test (insert_key by_items ks k) ≡ (test k || list_any test ks)
  insert_seen [] = refl
  insert_seen (x ∷ xs) = by_order x xs (by_items k x) refl (insert_seen xs)

-- ---- the names that are left

same_turned : (a b : List ℕ) → bytes_eq a b ≡ bytes_eq b a
same_turned a b = elim (cases_Bool (bytes_eq a b)) [
  | inl same ↦ same ∙ sym ((bytes_eq-Decides b a).1 (sym ((bytes_eq-Decides a b).0 same)))
  | inr other ↦ other ∙ sym (elim (cases_Bool (bytes_eq b a)) [
    | inl same ↦ absurd (true≢false (sym ((bytes_eq-Decides a b).1 (sym ((bytes_eq-Decides b a).0 same))) ∙ other))
    | inr none ↦ none
  ])
]

parted : (a b c d : Bool) → (not (a || b) && (c && not d)) ≡ ((not b && c) && not (a || d))
parted true true true true = refl
parted true true true false = refl
parted true true false d = refl
parted true false true d = refl
parted true false false d = refl
parted false true c d = refl
parted false false true d = refl
parted false false false d = refl

module _ (old new : BTreeSet (Vec ℕ)) (f : Field) (more : (other : List ℕ) → was_seen new other ≡ (bytes_eq other f.name || was_seen old other)) where
  new_with : (fields : List Field) → are_new new fields ≡ (are_new old fields && not (list_any (λ g. bytes_eq f.name g.name) fields))
  new_with [] = refl
  new_with (g ∷ fields) =
      ap (λ b. not b && are_new new fields) (more g.name ∙ ap (λ b. b || was_seen old g.name) (same_turned g.name f.name))
      ∙ ap (λ b. not (bytes_eq f.name g.name || was_seen old g.name) && b) (new_with fields)
      ∙ parted (bytes_eq f.name g.name) (was_seen old g.name) (are_new old fields) (list_any (λ h. bytes_eq f.name h.name) fields)

  joined : (a b c : Bool) → (a && (not b && c)) ≡ ((a && not b) && c)
  joined true b c = refl
  joined false b c = refl

  -- a name that was not seen is noted
  pub one_more : (fields : List Field) → not (was_seen old f.name) ≡ true
      → (are_new old (f ∷ fields) && differ (f ∷ fields)) ≡ (are_new new fields && differ fields)
  one_more fields unseen =
      ap (λ b. (b && are_new old fields) && differ (f ∷ fields)) unseen
      ∙ joined (are_new old fields) (list_any (λ g. bytes_eq f.name g.name) fields) (differ fields)
      ∙ ap (λ b. b && differ fields) (sym (new_with fields))

-- nothing was seen
pub none_seen : (names : BTreeSet (Vec ℕ)) (fields : List Field) → names.keys ≡ [] → are_new names fields ≡ true
none_seen names [] empty = refl
none_seen names (f ∷ fields) empty =
    ap (λ (ks : List (Vec ℕ)). not (list_any (λ seen. bytes_eq f.name seen.items) ks) && are_new names fields) empty ∙ none_seen names fields empty

-- a name that was seen
pub seen_again : (names : BTreeSet (Vec ℕ)) (f : Field) (fields : List Field) → not (was_seen names f.name) ≡ false → are_new names (f ∷ fields) ≡ false
seen_again names f fields again = ap (λ b. b && are_new names fields) again
