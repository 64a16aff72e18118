-- Which connection has which child, after a step, an Accepted, and a slot given back.
use Rattle.std.proofs.Common.{◌≡◌, ℕ, suc, zero, ◌<◌, true, false, List, [], ◌∷◌, Option, Some, None, refl, sym, ◌∙◌, ap, subst, arith, inl, inr, length, get_or, set}
use Rattle.std.proofs.lemmas.Bool.{cases_Bool, cond-true, cond-false}
use Rattle.many_conns.specs.Kept.{is_child, kept}
use Rattle.many_conns.specs.Apart.{owner_by}
use Rattle.many_conns.specs.Kind.{Kind, Laws}

module _ {C : Type 0} (K : Kind C) (laws : Laws K) where
  some_not : {A : Type 0} (x : A) → Some x ≡ None → ⊥
  some_not x e = cc

  -- no two have one child, as `f` has it
  abbrev pub AreApartBy : (C → Option ℕ) → List C → Type 0
  AreApartBy f [] = Unit {0}
  AreApartBy f (x ∷ xs) = ((k : ℕ) → is_child (f x) k ≡ true → owner_by K f xs k ≡ None) × AreApartBy f xs

  pub kept_none : (c k : ℕ) (a b : Option ℕ) (old : Option ℕ) → is_child b k ≡ false → is_child a k ≡ false → kept c b a k old ≡ old
  kept_none c k a b old e f = cond-false (is_child b k) _ _ e ∙ cond-false (is_child a k) (Some c) old f

  pub record HasIt (f : C → Option ℕ) (conns : List C) (k c : ℕ) : Type 0 where
    pub place : ℕ
    pub within : place < length conns
    pub child : (d : C) → is_child (f (get_or conns place d)) k ≡ true
    pub number : (d : C) → K.number_of (get_or conns place d) ≡ c

  module _ (f : C → Option ℕ) where
    -- the owner of a child of one of them
    pub owner_at : (conns : List C) (i k : ℕ) (d : C) → AreApartBy f conns → i < length conns → is_child (f (get_or conns i d)) k ≡ true →
        owner_by K f conns k ≡ Some (K.number_of (get_or conns i d))
    owner_at [] i k d a lt h = absurd (omega arith)
    owner_at (x ∷ conns) zero k d a lt h = cond-true (is_child (f x) k) (Some (K.number_of x)) (owner_by K f conns k) h
    owner_at (x ∷ conns) (suc i) k d a lt h =
        let later = owner_at conns i k d a.1 (omega arith) h in
        elim (cases_Bool (is_child (f x) k)) [
          | inl e ↦ absurd (some_not _ (sym later ∙ a.0 k e))
          | inr e ↦ cond-false (is_child (f x) k) (Some (K.number_of x)) (owner_by K f conns k) e ∙ later
        ]

    -- where none of them has it there is none
    pub none_owned : (conns : List C) (k : ℕ) → ((j : ℕ) (d : C) → j < length conns → is_child (f (get_or conns j d)) k ≡ false) → owner_by K f conns k ≡ None
    none_owned [] k none = refl
    none_owned (x ∷ conns) k none =
        cond-false (is_child (f x) k) (Some (K.number_of x)) (owner_by K f conns k) (none 0 x (omega arith)) ∙ none_owned conns k (λ j d lt. none (suc j) d (omega (arith, lt)))

    -- .. and the other way round
    pub none_has : (conns : List C) (i k : ℕ) (d : C) → owner_by K f conns k ≡ None → i < length conns → is_child (f (get_or conns i d)) k ≡ false
    none_has [] i k d e lt = absurd (omega arith)
    none_has (x ∷ conns) zero k d e lt = elim (cases_Bool (is_child (f x) k)) [
      | inl h ↦ absurd (some_not (K.number_of x) (sym (cond-true (is_child (f x) k) (Some (K.number_of x)) (owner_by K f conns k) h) ∙ e))
      | inr h ↦ h
    ]
    none_has (x ∷ conns) (suc i) k d e lt = elim (cases_Bool (is_child (f x) k)) [
      | inl h ↦ absurd (some_not (K.number_of x) (sym (cond-true (is_child (f x) k) (Some (K.number_of x)) (owner_by K f conns k) h) ∙ e))
      | inr h ↦ none_has conns i k d (sym (cond-false (is_child (f x) k) (Some (K.number_of x)) (owner_by K f conns k) h) ∙ e) (omega arith)
    ]

    -- where there is one, one of them has it
    pub one_has : (conns : List C) (k c : ℕ) → owner_by K f conns k ≡ Some c → HasIt f conns k c
    one_has [] k c e = absurd (cc)
    one_has (x ∷ conns) k c e = elim (cases_Bool (is_child (f x) k)) [
      | inl h ↦
          let same : Some (K.number_of x) ≡ Some c = sym (cond-true (is_child (f x) k) (Some (K.number_of x)) (owner_by K f conns k) h) ∙ e in
          record { place = 0; within = omega arith; child = λ d. h; number = λ d. cc }
      | inr h ↦
          let r = one_has conns k c (sym (cond-false (is_child (f x) k) (Some (K.number_of x)) (owner_by K f conns k) h) ∙ e) in
          record { place = suc r.place; within = omega (arith, r.within); child = r.child; number = r.number }
    ]

    -- ---- one of them makes its step

    pub owner_set : (conns : List C) (i k : ℕ) (x new : C) → AreApartBy f conns → i < length conns → x ≡ get_or conns i x → (K.number_of new) ≡ (K.number_of x) →
        (is_child (f new) k ≡ true → is_child (f x) k ≡ false → owner_by K f conns k ≡ None) →
        owner_by K f (set conns i new) k ≡ kept (K.number_of x) (f x) (f new) k (owner_by K f conns k)
    owner_set [] i k x new a lt at same fresh = absurd (omega arith)
    owner_set (y ∷ conns) zero k x new a lt at same fresh =
        elim (cases_Bool (is_child (f x) k)) [
          | inl b ↦
              let by : is_child (f y) k ≡ true = subst (λ z. is_child (f z) k ≡ true) at b in
              elim (cases_Bool (is_child (f new) k)) [
                | inl n ↦
                    cond-true _ (Some (K.number_of new)) (owner_by K f conns k) n
                    ∙ (ap Some (same ∙ ap (λ z. (K.number_of z)) at)
                    ∙ (sym (cond-true _ (Some (K.number_of y)) (owner_by K f conns k) by)
                    ∙ (sym (cond-true _ (owner_by K f (y ∷ conns) k) None n) ∙ sym (cond-true _ _ _ b))))
                | inr n ↦
                    cond-false _ (Some (K.number_of new)) (owner_by K f conns k) n
                    ∙ (a.0 k by ∙ (sym (cond-false _ (owner_by K f (y ∷ conns) k) None n) ∙ sym (cond-true _ _ _ b)))
              ]
          | inr b ↦
              let by : is_child (f y) k ≡ false = subst (λ z. is_child (f z) k ≡ false) at b in
              elim (cases_Bool (is_child (f new) k)) [
                | inl n ↦
                    cond-true _ (Some (K.number_of new)) (owner_by K f conns k) n
                    ∙ (ap Some same ∙ (sym (cond-true _ (Some (K.number_of x)) (owner_by K f (y ∷ conns) k) n) ∙ sym (cond-false _ _ _ b)))
                | inr n ↦
                    cond-false _ (Some (K.number_of new)) (owner_by K f conns k) n
                    ∙ (sym (cond-false _ (Some (K.number_of y)) (owner_by K f conns k) by) ∙ sym (kept_none (K.number_of x) k (f new) (f x) (owner_by K f (y ∷ conns) k) b n))
              ]
        ]
    owner_set (y ∷ conns) (suc i) k x new a lt at same fresh =
        elim (cases_Bool (is_child (f y) k)) [
          | inl h ↦
              let is : owner_by K f (y ∷ conns) k ≡ Some (K.number_of y) = cond-true _ (Some (K.number_of y)) (owner_by K f conns k) h in
              let b : is_child (f x) k ≡ false =
              subst (λ z. is_child (f z) k ≡ false) (sym at) (none_has conns i k x (a.0 k h) (omega arith)) in
              let n : is_child (f new) k ≡ false = elim (cases_Bool (is_child (f new) k)) [
                | inl given ↦ absurd (some_not _ (sym is ∙ fresh given b))
                | inr none ↦ none
              ] in
              cond-true _ (Some (K.number_of y)) (owner_by K f (set conns i new) k) h ∙ (sym is ∙ sym (kept_none (K.number_of x) k (f new) (f x) (owner_by K f (y ∷ conns) k) b n))
          | inr h ↦
              let is : owner_by K f (y ∷ conns) k ≡ owner_by K f conns k = cond-false _ (Some (K.number_of y)) (owner_by K f conns k) h in
              cond-false _ (Some (K.number_of y)) (owner_by K f (set conns i new) k) h
              ∙ (owner_set conns i k x new a.1 (omega arith) at same (λ given none. sym is ∙ fresh given none)
              ∙ ap (λ o. kept (K.number_of x) (f x) (f new) k o) (sym is))
        ]

    pub apart_set : (conns : List C) (i : ℕ) (x new : C) → AreApartBy f conns → i < length conns → x ≡ get_or conns i x → (K.number_of new) ≡ (K.number_of x) →
        ((k : ℕ) → is_child (f new) k ≡ true → is_child (f x) k ≡ false → owner_by K f conns k ≡ None) →
        AreApartBy f (set conns i new)
    apart_set [] i x new a lt at same fresh = absurd (omega arith)
    apart_set (y ∷ conns) zero x new a lt at same fresh = (
      λ k n. elim (cases_Bool (is_child (f x) k)) [
        | inl b ↦ a.0 k (subst (λ z. is_child (f z) k ≡ true) at b)
        | inr b ↦ sym (cond-false _ (Some (K.number_of y)) (owner_by K f conns k) (subst (λ z. is_child (f z) k ≡ false) at b)) ∙ fresh k n b
      ],
      a.1,
    )
    apart_set (y ∷ conns) (suc i) x new a lt at same fresh =
        let fresh' : (k : ℕ) → is_child (f new) k ≡ true → is_child (f x) k ≡ false → owner_by K f conns k ≡ None =
        λ k n b. elim (cases_Bool (is_child (f y) k)) [
          | inl h ↦ absurd (some_not (K.number_of y) (sym (cond-true _ (Some (K.number_of y)) (owner_by K f conns k) h) ∙ fresh k n b))
          | inr h ↦ sym (cond-false _ (Some (K.number_of y)) (owner_by K f conns k) h) ∙ fresh k n b
        ] in (
          λ k h.
              let b : is_child (f x) k ≡ false =
              subst (λ z. is_child (f z) k ≡ false) (sym at) (none_has conns i k x (a.0 k h) (omega arith)) in
              let n : is_child (f new) k ≡ false = elim (cases_Bool (is_child (f new) k)) [
                | inl given ↦ absurd (some_not (K.number_of y) (sym (cond-true _ (Some (K.number_of y)) (owner_by K f conns k) h) ∙ fresh k given b))
                | inr none ↦ none
              ] in
              owner_set conns i k x new a.1 (omega arith) at same (λ given none. fresh' k given none)
              ∙ (kept_none (K.number_of x) k (f new) (f x) (owner_by K f conns k) b n ∙ a.0 k h),
          apart_set conns i x new a.1 (omega arith) at same fresh',
        )
