-- What the places and the slab say of the connections, and what the calls leave.
use Rattle.std.proofs.Common.{◌≡◌, ℕ, zero, suc, ◌<◌, true, List, [], ◌∷◌, ◌++◌, length, Option, Some, None, refl, sym, ap, ◌∙◌, subst, arith, get_or, set, false}
use Rattle.std.specs.Prelude.{Bool, IsSome, OnSome, is_some, if◌then◌else◌}
use Rattle.std.specs.List.{All, remove}
use Rattle.std.proofs.lemmas.List.{length-map}
use Rattle.std.proofs.lemmas.Bool.{false≢true}
use Rattle.own_traces.specs.Whose.{has}
use Rattle.slab.specs.Slab.{Slab, get, ContainsKey, Updates, slab_len, with_value}
use Rattle.slab.proofs.SlabLemmas.{ContainsKey-within}
use Rattle.std.proofs.lemmas.List.Sums.{sum_by-set}
use Rattle.live_conns.specs.declared.place.Place.{Place}
use Rattle.live_conns.specs.Places.{AreKeys, AreNumbers, IsAtNumber, in_order, key_in, keys_in, number_in, numbers_in}
use Rattle.many_conns.specs.Kind.{Kind}
use Rattle.many_conns.specs.Lists.{IsAtPlace, numbers}
use Rattle.live_conns.proofs.OrderLaws.{are_keys, keyed, long, pushed, pushed_keys, taken, taken_keys, value_at, written, written_keys}
use Rattle.live_conns.proofs.PlaceLaws.{map_at, map_less, map_push}

pub some_same : {A : Type 0} {a b : A} → Some a ≡ Some b → a ≡ b
some_same e = cc

module _ {C : Type 0} (K : Kind C) where
  no_place : Place
  no_place = record { number = 0; key = 0 }

  contains : (rows : Slab C) (key : ℕ) (x : C) → get rows key ≡ Some x → ContainsKey rows key
  contains rows key x e = ap is_some e

  pub numbers_set : (conns : List C) (i : ℕ) (x d : C) → i < length conns → K.number_of x ≡ K.number_of (get_or conns i d) → numbers K (set conns i x) ≡ numbers K conns
  numbers_set [] i x d lt e = absurd (omega (arith, lt))
  numbers_set (y ∷ conns) zero x d lt e = ap (λ n. n ∷ numbers K conns) e
  numbers_set (y ∷ conns) (suc i) x d lt e = ap (λ ns. K.number_of y ∷ ns) (numbers_set conns i x d (omega (arith, lt)) e)

  module _ (places : List Place) (rows : Slab C) (keys : AreKeys rows (keys_in places)) where
    pub count : length (in_order rows (keys_in places)) ≡ length places
    count = long rows (keys_in places) (keyed rows (keys_in places) keys) ∙ length-map places key_in

    within_keys : (i : ℕ) → i < length (in_order rows (keys_in places)) → i < length (keys_in places)
    within_keys i lt = subst (λ n. i < n) (long rows (keys_in places) (keyed rows (keys_in places) keys)) lt

    pub within : (i : ℕ) → i < length (in_order rows (keys_in places)) → i < length places
    within i lt = subst (λ n. i < n) count lt

    -- the key at a place
    key_is : (i : ℕ) (p : Place) → i < length places → p ≡ get_or places i p → get_or (keys_in places) i 0 ≡ key_in p
    key_is i p lt at = map_at key_in places i p 0 lt ∙ ap key_in (sym at)

    pub found : (i : ℕ) (p : Place) (d : C) → i < length (in_order rows (keys_in places)) → p ≡ get_or places i p → get rows (key_in p) ≡ Some (get_or (in_order rows (keys_in places)) i d)
    found i p d lt at =
        ap (get rows) (sym (key_is i p (within i lt) at)) ∙ value_at rows (keys_in places) i 0 d (keyed rows (keys_in places) keys) (within_keys i lt)

    value_is : (i : ℕ) (p : Place) → i < length (in_order rows (keys_in places)) → p ≡ get_or places i p → (x : C) × (get rows (key_in p) ≡ Some x)
    value_is i p lt at = by (get rows (key_in p)) refl
        (subst (λ (key : ℕ). is_some (get rows key) ≡ true) (key_is i p (within i lt) at) (keys.held i 0 (within_keys i lt)))
      where
        by : (o : Option C) → get rows (key_in p) ≡ o → is_some (get rows (key_in p)) ≡ true → (x : C) × (get rows (key_in p) ≡ Some x)
        by None read some = absurd (false≢true (sym (ap is_some read) ∙ some))
        by (Some x) read some = (x, read)

    pub held : (i : ℕ) (p : Place) → i < length (in_order rows (keys_in places)) → p ≡ get_or places i p → ContainsKey rows (key_in p)
    held i p lt at =
        let read = value_is i p lt at in
        contains rows (key_in p) read.0 read.1

    -- the same under the key of the place
    at_key : {new : Slab C} {o : Option C} (i : ℕ) (p : Place) → i < length (in_order rows (keys_in places)) → p ≡ get_or places i p → Updates rows new (key_in p) o
        → Updates rows new (get_or (keys_in places) i 0) o
    at_key {new} {o} i p lt at u = subst (λ (key : ℕ). Updates rows new key o) (sym (key_is i p (within i lt) at)) u

    -- ---- a step

    module _ (new : Slab C) (i : ℕ) (p : Place) (x : C) (lt : i < length (in_order rows (keys_in places))) (at : p ≡ get_or places i p) (u : Updates rows new (key_in p) (Some x)) where
      pub step_conns : in_order new (keys_in places) ≡ set (in_order rows (keys_in places)) i x
      step_conns = written rows new (keys_in places) i 0 x (keyed rows (keys_in places) keys) (within_keys i lt) (at_key i p lt at u)

      pub step_keys : AreKeys new (keys_in places)
      step_keys = are_keys new (keys_in places) (written_keys rows new (keys_in places) i 0 x (keyed rows (keys_in places) keys) (within_keys i lt) (at_key i p lt at u))

      pub step_numbers : (was : C) → get rows (key_in p) ≡ Some was → K.number_of x ≡ K.number_of was → AreNumbers K places rows → AreNumbers K places new
      step_numbers was read same n =
          let is : Some was ≡ Some (get_or (in_order rows (keys_in places)) i was) = sym read ∙ found i p was lt at in
          let one : was ≡ get_or (in_order rows (keys_in places)) i was = some_same is in
          n ∙ (sym (numbers_set (in_order rows (keys_in places)) i x was lt (same ∙ ap K.number_of one)) ∙ ap (numbers K) (sym step_conns))

    -- ---- one less

    module _ (new : Slab C) (i : ℕ) (p : Place) (lt : i < length (in_order rows (keys_in places))) (at : p ≡ get_or places i p) (u : Updates rows new (key_in p) None) where
      pub less_conns : in_order new (keys_in (remove places i)) ≡ remove (in_order rows (keys_in places)) i
      less_conns =
          ap (in_order new) (map_less key_in places i)
          ∙ taken rows new (keys_in places) i 0 (keyed rows (keys_in places) keys) (within_keys i lt) (at_key i p lt at u)

      pub less_keys : AreKeys new (keys_in (remove places i))
      less_keys =
          subst (λ ks. AreKeys new ks) (sym (map_less key_in places i))
          (are_keys new (remove (keys_in places) i) (taken_keys rows new (keys_in places) i 0 (keyed rows (keys_in places) keys) (within_keys i lt) (at_key i p lt at u)))

      pub less_numbers : AreNumbers K places rows → AreNumbers K (remove places i) new
      less_numbers n =
          map_less number_in places i
          ∙ (ap (λ (ns : List ℕ). remove ns i) n ∙ (sym (map_less K.number_of (in_order rows (keys_in places)) i) ∙ ap (numbers K) (sym less_conns)))

    -- ---- one more

    module _ (new : Slab C) (p : Place) (x : C) (free : get rows (key_in p) ≡ None) (u : Updates rows new (key_in p) (Some x)) where
      pub more_conns : in_order new (keys_in (places ++ p ∷ [])) ≡ in_order rows (keys_in places) ++ x ∷ []
      more_conns =
          ap (in_order new) (map_push key_in places p)
          ∙ pushed rows new (keys_in places) (key_in p) x (keyed rows (keys_in places) keys) free u

      pub more_keys : AreKeys new (keys_in (places ++ p ∷ []))
      more_keys =
          subst (λ ks. AreKeys new ks) (sym (map_push key_in places p))
          (are_keys new (keys_in places ++ key_in p ∷ []) (pushed_keys rows new (keys_in places) (key_in p) x (keyed rows (keys_in places) keys) free u))

      pub more_numbers : number_in p ≡ K.number_of x → AreNumbers K places rows → AreNumbers K (places ++ p ∷ []) new
      more_numbers is n =
          map_push number_in places p
          ∙ ((λ i. n i ++ is i ∷ []) ∙ (sym (map_push K.number_of (in_order rows (keys_in places)) x) ∙ ap (numbers K) (sym more_conns)))

  -- a number above those of the connections is above those of the places
  pub below : (places : List Place) (rows : Slab C) → AreKeys rows (keys_in places) → AreNumbers K places rows → (n : ℕ)
      → All (λ (x : C). K.number_of x < n) (in_order rows (keys_in places)) → All (λ p. number_in p < n) places
  below places rows keys numbered n all i d lt =
      let long : i < length (in_order rows (keys_in places)) = subst (λ m. i < m) (sym (count places rows keys)) lt in
      by (in_order rows (keys_in places)) refl long
    where
      by : (l : List C) → in_order rows (keys_in places) ≡ l → i < length (in_order rows (keys_in places)) → number_in (get_or places i d) < n
      by [] is long = absurd (let e = ap length is in omega (arith, e, long))
      by (x ∷ l) is long =
          let same : number_in (get_or places i d) ≡ K.number_of (get_or (in_order rows (keys_in places)) i x) =
          sym (map_at number_in places i d 0 lt) ∙ (ap (λ (ns : List ℕ). get_or ns i 0) numbered ∙ map_at K.number_of (in_order rows (keys_in places)) i x 0 long) in
          subst (λ m. m < n) (sym same) (all i x long)

  -- ---- by number

  pub at_number : (places : List Place) (rows : Slab C) → AreKeys rows (keys_in places) → AreNumbers K places rows → (c i : ℕ) → IsAtNumber places c i
      → IsAtPlace K (in_order rows (keys_in places)) c i
  at_number places rows keys n c i is =
      let lt : i < length (in_order rows (keys_in places)) = subst (λ m. i < m) (sym (count places rows keys)) is.within in
      record {
        within = lt;
        is = λ d.
            sym (map_at K.number_of (in_order rows (keys_in places)) i d 0 lt)
            ∙ (ap (λ (l : List ℕ). get_or l i 0) (sym n) ∙ (map_at number_in places i no_place 0 is.within ∙ is.is no_place));
      }

  pub number_is : (places : List Place) (rows : Slab C) → AreKeys rows (keys_in places) → AreNumbers K places rows → (i : ℕ) (p : Place) (d : C)
      → i < length (in_order rows (keys_in places)) → p ≡ get_or places i p → number_in p ≡ K.number_of (get_or (in_order rows (keys_in places)) i d)
  number_is places rows keys n i p d lt at =
      let shorter : i < length places = within places rows keys i lt in
      ap number_in at
      ∙ (sym (map_at number_in places i p 0 shorter) ∙ (ap (λ (l : List ℕ). get_or l i 0) n ∙ map_at K.number_of (in_order rows (keys_in places)) i d 0 lt))

  pub lacks : (places : List Place) (rows : Slab C) → AreNumbers K places rows → (c : ℕ) → has (numbers_in places) c ≡ false → has (numbers K (in_order rows (keys_in places))) c ≡ false
  lacks places rows n c none = ap (λ (l : List ℕ). has l c) (sym n) ∙ none

  -- what K.needs where something was taken out
  pub on_some : {P : Type 0} (places : List Place) (rows : Slab C) (keys : AreKeys rows (keys_in places)) (i : ℕ) (p : Place) → i < length (in_order rows (keys_in places)) → p ≡ get_or places i p
      → (o : Option C) → o ≡ get rows (key_in p) → OnSome o P → P
  on_some places rows keys i p lt at None read h = absurd (nothing (held places rows keys i p lt at) read)
    where
      nothing : IsSome (get rows (key_in p)) → None ≡ get rows (key_in p) → ⊥
      nothing some none = false≢true (subst (λ (o : Option C). is_some o ≡ true) (sym none) some)
  on_some places rows keys i p lt at (Some x) read h = h

  abbrev one_if : Bool → ℕ
  one_if b = if b then 1 else 0

  abbrev some_count : Option C → ℕ
  some_count o = one_if (is_some o)

  -- a value written in place of another
  pub same_count : (rows : Slab C) (key : ℕ) (x : C) → ContainsKey rows key → slab_len (with_value rows key x) ≡ slab_len rows
  same_count rows key x some =
      let e = sum_by-set some_count rows.slots key (Some x) None (ContainsKey-within rows key some) in
      let one : some_count (get_or rows.slots key None) ≡ 1 = ap one_if some in
      omega (arith, e, one)
