-- What an edit of the places and of the rows does to the children that are held.
use Rattle.std.proofs.Common.{◌≡◌, ◌≢◌, ℕ, eqb, List, if◌then◌else◌, Option, Some, None, refl, sym, ap, ◌∙◌, inl, inr, true, false}
use Rattle.std.specs.Prelude.{is_some, IsSome, option_and_then, option_map}
use Rattle.std.proofs.lemmas.Bool.{cases_Bool, eqb-true, cond-true, cond-false, eq-eqb, false≢true}
use Rattle.slab.specs.Slab.{Slab, get}
use Rattle.child_table.specs.declared.places.Place.{Place}
use Rattle.child_table.specs.declared.row.Row.{Row}
use Rattle.child_table.specs.Rows.{key_in, row_in, AreHeld, AreApart}
use Rattle.child_table.specs.Held.{SetsRow}
use Rattle.child_table.proofs.PlaceLaws.{SetsKeys}

no_some : {X : Type 0} (x : X) → None ≡ Some x → ⊥
no_some x e = cc

-- a key under which a row lies is none under which no row lies
other_key : (rows : Slab Row) (key free : ℕ) → is_some (get rows key) ≡ true → get rows free ≡ None → key ≢ free
other_key rows key free held none same = false≢true (sym (ap is_some (ap (get rows) same ∙ none)) ∙ held)

module _ (places : List Place) (rows : Slab Row) (held : AreHeld places rows) (apart : AreApart places) (k : ℕ) where
  absent_key : row_in places rows k ≡ None → key_in places k ≡ None
  absent_key none = go (key_in places k) refl none
    where
      go : (o : Option ℕ) → key_in places k ≡ o → option_and_then (get rows) o ≡ None → key_in places k ≡ None
      go None at e = at
      go (Some key) at e = absurd (false≢true (sym (ap is_some e) ∙ held k key at))

  pub key_absent : row_in places rows k ≡ None → key_in places k ≡ None
  key_absent = absent_key

  -- ---- a child more, under a key that was free

  module _ (places' : List Place) (rows' : Slab Row) (key : ℕ) (row : Row) (keys : SetsKeys places places' k (Some key))
      (free : get rows key ≡ None) (changed : get rows' key ≡ Some row) (others : (j : ℕ) → j ≢ key → get rows' j ≡ get rows j) where
    kept : (j q : ℕ) → key_in places j ≡ Some q → get rows' q ≡ get rows q
    kept j q at = others q (other_key rows q key (held j q at) free)

    pub sets_more : SetsRow places rows places' rows' k (Some row)
    sets_more j = elim (cases_Bool (eqb k j)) [
      | inl is ↦
          ap (option_and_then (get rows')) (keys j ∙ cond-true (eqb k j) (Some key) (key_in places j) is)
          ∙ (changed ∙ sym (cond-true (eqb k j) (Some row) (row_in places rows j) is))
      | inr isnt ↦
          ap (option_and_then (get rows')) (keys j ∙ cond-false (eqb k j) (Some key) (key_in places j) isnt)
          ∙ (go (key_in places j) refl ∙ sym (cond-false (eqb k j) (Some row) (row_in places rows j) isnt))
    ]
      where
        go : (o : Option ℕ) → key_in places j ≡ o → option_and_then (get rows') o ≡ option_and_then (get rows) o
        go None at = refl
        go (Some q) at = kept j q at

    new_key : (j q : ℕ) → eqb k j ≡ true → key_in places' j ≡ Some q → key ≡ q
    new_key j q is at = let e : Some key ≡ Some q = sym (keys j ∙ cond-true (eqb k j) (Some key) (key_in places j) is) ∙ at in cc

    old_key : (j q : ℕ) → eqb k j ≡ false → key_in places' j ≡ Some q → key_in places j ≡ Some q
    old_key j q isnt at = sym (keys j ∙ cond-false (eqb k j) (Some key) (key_in places j) isnt) ∙ at

    pub held_more : AreHeld places' rows'
    held_more j q at = elim (cases_Bool (eqb k j)) [
      | inl is ↦ ap (λ n. is_some (get rows' n)) (sym (new_key j q is at)) ∙ ap is_some changed
      | inr isnt ↦ ap is_some (kept j q (old_key j q isnt at)) ∙ held j q (old_key j q isnt at)
    ]

    apart_new : (i q : ℕ) → key_in places i ≡ Some q → key ≡ q → ⊥
    apart_new i q at same = other_key rows q key (held i q at) free (sym same)

    pub apart_more : AreApart places'
    apart_more i j q ati atj = elim (cases_Bool (eqb k i)) [
      | inl isi ↦ elim (cases_Bool (eqb k j)) [
        | inl isj ↦ sym (eqb-true k i isi) ∙ eqb-true k j isj
        | inr notj ↦ absurd (apart_new j q (old_key j q notj atj) (new_key i q isi ati))
      ]
      | inr noti ↦ elim (cases_Bool (eqb k j)) [
        | inl isj ↦ absurd (apart_new i q (old_key i q noti ati) (new_key j q isj atj))
        | inr notj ↦ apart i j q (old_key i q noti ati) (old_key j q notj atj)
      ]
    ]

  -- ---- another row under a child's key

  module _ (rows' : Slab Row) (key : ℕ) (at : key_in places k ≡ Some key) (others : (j : ℕ) → j ≢ key → get rows' j ≡ get rows j) where
    differ : (j q : ℕ) → eqb k j ≡ false → key_in places j ≡ Some q → q ≢ key
    differ j q isnt atj same =
        let is : k ≡ j = apart k j key at (atj ∙ ap Some same) in
        false≢true (sym isnt ∙ eq-eqb k j is)

    pub sets_row : (row : Row) → get rows' key ≡ Some row → SetsRow places rows places rows' k (Some row)
    sets_row row changed j = elim (cases_Bool (eqb k j)) [
      | inl is ↦
          ap (λ i. option_and_then (get rows') (key_in places i)) (sym (eqb-true k j is))
          ∙ (ap (option_and_then (get rows')) at ∙ (changed ∙ sym (cond-true (eqb k j) (Some row) (row_in places rows j) is)))
      | inr isnt ↦ go isnt (key_in places j) refl ∙ sym (cond-false (eqb k j) (Some row) (row_in places rows j) isnt)
    ]
      where
        go : eqb k j ≡ false → (o : Option ℕ) → key_in places j ≡ o → option_and_then (get rows') (key_in places j) ≡ option_and_then (get rows) (key_in places j)
        go isnt None e = ap (option_and_then (get rows')) e ∙ sym (ap (option_and_then (get rows)) e)
        go isnt (Some q) e = ap (option_and_then (get rows')) e ∙ (others q (differ j q isnt e) ∙ sym (ap (option_and_then (get rows)) e))

    pub held_row : is_some (get rows' key) ≡ true → AreHeld places rows'
    held_row is j q atj = elim (cases_Bool (eqb k j)) [
      | inl same ↦
          let e : Some key ≡ Some q = sym at ∙ (ap (key_in places) (eqb-true k j same) ∙ atj) in
          let f : key ≡ q = cc in
          ap (λ n. is_some (get rows' n)) (sym f) ∙ is
      | inr isnt ↦ ap is_some (others q (differ j q isnt atj)) ∙ held j q atj
    ]

    -- .. that is made of the child's row
    pub sets_mapped : (f : Row → Row) → ((row : Row) → get rows key ≡ Some row → get rows' key ≡ Some (f row)) → SetsRow places rows places rows' k (option_map f (row_in places rows k))
    sets_mapped f changed j = go (get rows key) refl (held k key at)
      where
        go : (o : Option Row) → get rows key ≡ o → is_some o ≡ true → row_in places rows' j ≡ (if eqb k j then option_map f (row_in places rows k) else row_in places rows j)
        go None e is = absurd (false≢true is)
        go (Some row) e is =
            let whole : row_in places rows k ≡ Some row = ap (option_and_then (get rows)) at ∙ e in
            sets_row (f row) (changed row e) j ∙ ap (λ r. if eqb k j then r else row_in places rows j) (sym (ap (option_map f) whole))

    pub held_mapped : (f : Row → Row) → ((row : Row) → get rows key ≡ Some row → get rows' key ≡ Some (f row)) → AreHeld places rows'
    held_mapped f changed = go (get rows key) refl (held k key at)
      where
        go : (o : Option Row) → get rows key ≡ o → is_some o ≡ true → AreHeld places rows'
        go None e is = absurd (false≢true is)
        go (Some row) e is = held_row (ap is_some (changed row e))

    -- ---- a child less

    module _ (places' : List Place) (keys : SetsKeys places places' k None) where
      left_key : (j q : ℕ) → key_in places' j ≡ Some q → (eqb k j ≡ false) × (key_in places j ≡ Some q)
      left_key j q atj = elim (cases_Bool (eqb k j)) [
        | inl is ↦ absurd (no_some q (sym (keys j ∙ cond-true (eqb k j) None (key_in places j) is) ∙ atj))
        | inr isnt ↦ (isnt, sym (keys j ∙ cond-false (eqb k j) None (key_in places j) isnt) ∙ atj)
      ]

      pub sets_less : SetsRow places rows places' rows' k None
      sets_less j = elim (cases_Bool (eqb k j)) [
        | inl is ↦
            ap (option_and_then (get rows')) (keys j ∙ cond-true (eqb k j) None (key_in places j) is)
            ∙ sym (cond-true (eqb k j) None (row_in places rows j) is)
        | inr isnt ↦
            ap (option_and_then (get rows')) (keys j ∙ cond-false (eqb k j) None (key_in places j) isnt)
            ∙ (go isnt (key_in places j) refl ∙ sym (cond-false (eqb k j) None (row_in places rows j) isnt))
      ]
        where
          go : eqb k j ≡ false → (o : Option ℕ) → key_in places j ≡ o → option_and_then (get rows') o ≡ option_and_then (get rows) o
          go isnt None e = refl
          go isnt (Some q) e = others q (differ j q isnt e)

      pub held_less : AreHeld places' rows'
      held_less j q atj =
          let l = left_key j q atj in
          ap is_some (others q (differ j q l.0 l.1)) ∙ held j q l.1

      pub apart_less : AreApart places'
      apart_less i j q ati atj = apart i j q (left_key i q ati).1 (left_key j q atj).1

-- nothing is kept of a child without a place
pub sets_none : (places : List Place) (rows : Slab Row) (k : ℕ) → key_in places k ≡ None → SetsRow places rows places rows k None
sets_none places rows k none j = elim (cases_Bool (eqb k j)) [
  | inl is ↦
      ap (λ i. row_in places rows i) (sym (eqb-true k j is))
      ∙ (ap (option_and_then (get rows)) none ∙ sym (cond-true (eqb k j) None (row_in places rows j) is))
  | inr isnt ↦ sym (cond-false (eqb k j) None (row_in places rows j) isnt)
]

-- of a child that is kept there is a place
pub row_gone : (places : List Place) (rows : Slab Row) (k : ℕ) → key_in places k ≡ None → is_some (row_in places rows k) ≡ true → ⊥
row_gone places rows k none is = false≢true (sym (ap (λ (o : Option ℕ). is_some (option_and_then (get rows) o)) none) ∙ is)

-- of one that isn't kept there is none
pub row_there : (places : List Place) (rows : Slab Row) (k key : ℕ) → AreHeld places rows → key_in places k ≡ Some key → row_in places rows k ≡ None → ⊥
row_there places rows k key held at none = false≢true (sym (ap is_some (sym (ap (option_and_then (get rows)) at) ∙ none)) ∙ held k key at)

pub held_key : {X : Type 0} (o : Option X) → is_some o ≡ true → IsSome o
held_key None is = absurd (false≢true is)
held_key (Some x) is = is

pub sets_unmarked : (places : List Place) (rows : Slab Row) (k : ℕ) (f : Row → Row) → key_in places k ≡ None → SetsRow places rows places rows k (option_map f (row_in places rows k))
sets_unmarked places rows k f none j =
    sets_none places rows k none j ∙ ap (λ r. if eqb k j then r else row_in places rows j) (sym (ap (λ o. option_map f (option_and_then (get rows) o)) none))
