-- All children are settled exactly where the table is empty.
use Rattle.std.proofs.Common.{◌≡◌, ◌≢◌, ℕ, suc, zero, ◌<◌, ◌≤◌, Bool, true, false, List, [], ◌∷◌, Option, Some, None, refl, sym, ◌∙◌, ap, subst, arith, inl, inr, length, get_or, eqb}
use Rattle.std.specs.Prelude.{◌==◌, not, filter, is_some, sum_by}
use Rattle.std.specs.List.{list_all}
use Rattle.std.specs.Option.{option_to_list}
use Rattle.std.proofs.lemmas.Bool.{cases_Bool, or_cases, or_left, and_parts, and_from, eqb-true, eq-eqb, false≢true, false_from_ne_true, cond-true, cond-false, not-true, not-false}
use Rattle.std.proofs.lemmas.List.Folds.{list_all-append}
use Rattle.std.proofs.lemmas.List.Sums.{sum_by-cons, get_or-le-sum_by}
use Rattle.host_base.specs.declared.site.Site.{Site}
use Rattle.host_trace.specs.declared.items.Item.{Item}
use Rattle.host_trace.specs.Projections.{own, children, start_count}
use Rattle.host_trace.specs.Account.{settled, all_settled}
use Rattle.own_traces.specs.Whose.{has, numbers_below}
use Rattle.own_traces.proofs.SameLaws.{children-own, settled-own}
use Rattle.many_conns.specs.Kept.{is_child}
use Rattle.many_conns.specs.Kept.{one_if}
use Rattle.many_conns.specs.Lists.{Lists, numbers}
use Rattle.many_conns.specs.Apart.{kid_count}
use Rattle.many_conns.proofs.ChildLaws.{free_child, has_own}
use Rattle.many_conns.specs.Kind.{Kind, Laws}

module _ {C : Type 0} (K : Kind C) (laws : Laws K) where
  -- ---- the numbers K below n

  all_below : (p : ℕ → Bool) (n : ℕ) → ((k : ℕ) → k < n → p k ≡ true) → list_all p (numbers_below n) ≡ true
  all_below p zero h = refl
  all_below p (suc n) h =
      list_all-append p (numbers_below n) (n ∷ []) ∙ and_from _ _ (all_below p n (λ k lt. h k (omega (arith, lt)))) (and_from _ _ (h n (omega arith)) refl)

  below_all : (p : ℕ → Bool) (n : ℕ) → list_all p (numbers_below n) ≡ true → (k : ℕ) → k < n → p k ≡ true
  below_all p zero h k lt = absurd (omega arith)
  below_all p (suc n) h k lt =
      let parts = and_parts (list_all p (numbers_below n)) (list_all p (n ∷ [])) (sym (list_all-append p (numbers_below n) (n ∷ [])) ∙ h) in
      elim (cases_Bool (eqb k n)) [
        | inl e ↦ subst (λ i. p i ≡ true) (sym (eqb-true k n e)) (and_parts (p n) true parts.1).0
        | inr e ↦ below_all p n parts.0 k (let other : k ≢ n = λ is. false≢true (sym e ∙ eq-eqb k n is) in omega (arith, other))
      ]

  -- ---- one connection

  -- where it has no unsettled child, each of its children is settled
  none_open : (site : Site) (conn : C) (L : List Item) (k : ℕ) → K.stands site conn L → K.unsettled_child_of conn ≡ None → has (children L (K.number_of conn)) k ≡ true → settled L k ≡ true
  none_open site conn L k s none h = by (children L (K.number_of conn)) (laws.unsettled site conn L s ∙ ap option_to_list none) h
    where
      by : (ks : List ℕ) → filter (λ k. not (settled L k)) ks ≡ [] → has ks k ≡ true → settled L k ≡ true
      by [] e h = absurd (false≢true h)
      by (j ∷ ks) e h = elim (cases_Bool (not (settled L j))) [
        | inl unsettled ↦ absurd (nothing (sym (cond-true (not (settled L j)) (j ∷ filter (λ k. not (settled L k)) ks) (filter (λ k. not (settled L k)) ks) unsettled) ∙ e))
        | inr closed ↦
            let rest = sym (cond-false (not (settled L j)) (j ∷ filter (λ k. not (settled L k)) ks) (filter (λ k. not (settled L k)) ks) closed) ∙ e in
            elim (or_cases (j == k) (has ks k) h) [
              | inl here ↦ subst (λ i. settled L i ≡ true) (eqb-true j k here) (not-false (settled L j) closed)
              | inr later ↦ by ks rest later
            ]
      ]
        where
          nothing : {x : ℕ} {xs : List ℕ} → x ∷ xs ≡ [] → ⊥
          nothing e = cc

  -- its unsettled child is not settled
  open_child : (site : Site) (conn : C) (L : List Item) (k : ℕ) → K.stands site conn L → is_child (K.unsettled_child_of conn) k ≡ true → settled L k ≡ false
  open_child site conn L k s h = not-true (settled L k) (by (children L (K.number_of conn)) (ap (λ ks. has ks k) (laws.unsettled site conn L s) ∙ has_it (K.unsettled_child_of conn) h))
    where
      has_it : (o : Option ℕ) → is_child o k ≡ true → has (option_to_list o) k ≡ true
      has_it None h = absurd (false≢true h)
      has_it (Some j) h = or_left _ _ h

      by : (ks : List ℕ) → has (filter (λ k. not (settled L k)) ks) k ≡ true → not (settled L k) ≡ true
      by [] h = absurd (false≢true h)
      by (j ∷ ks) h = elim (cases_Bool (not (settled L j))) [
        | inl e ↦ elim (or_cases (j == k) _ (sym (ap (λ l. has l k) (cond-true (not (settled L j)) (j ∷ filter (λ k. not (settled L k)) ks) (filter (λ k. not (settled L k)) ks) e)) ∙ h)) [
          | inl here ↦ subst (λ i. not (settled L i) ≡ true) (eqb-true j k here) e
          | inr later ↦ by ks later
        ]
        | inr e ↦ by ks (sym (ap (λ l. has l k) (cond-false (not (settled L j)) (j ∷ filter (λ k. not (settled L k)) ks) (filter (λ k. not (settled L k)) ks) e)) ∙ h)
      ]

  no_child : (o : Option ℕ) → one_if o ≤ 0 → o ≡ None
  no_child None h = refl
  no_child (Some k) h = absurd (omega (arith, h))

  -- ---- all of them

  pub record Place (conns : List C) (c : ℕ) : Type 0 where
    pub place : ℕ
    pub within : place < length conns
    pub is : (d : C) → (K.number_of (get_or conns place d)) ≡ c
    pub some : C

  pub place_in : (conns : List C) (c : ℕ) → has (numbers K conns) c ≡ true → Place conns c
  place_in [] c h = absurd (false≢true h)
  place_in (x ∷ conns) c h = elim (or_cases ((K.number_of x) == c) (has (numbers K conns) c) h) [
    | inl here ↦ record { place = 0; within = omega arith; is = λ d. eqb-true (K.number_of x) c here; some = x }
    | inr later ↦ (let p = place_in conns c later in record { place = suc p.place; within = omega (arith, p.within); is = p.is; some = x })
  ]

  kids_settled : (site : Site) (conns : List C) (T : List Item) → Lists K site conns T → sum_by (kid_count K) conns ≡ 0 → (k : ℕ) → k < start_count T → settled T k ≡ true
  kids_settled site conns T l zero_kids k lt =
      let o = l.between.owned k lt in
      let held : has (children (own T o.owner) o.owner) k ≡ true = ap (λ ks. has ks k) (children-own T o.owner l.between) ∙ o.is in
      sym (settled-own T o.owner k l.between o.is)
      ∙ elim (cases_Bool (has (numbers K conns) o.owner)) [
        | inl live ↦
            let p = place_in conns o.owner live in
            let y = get_or conns p.place p.some in
            let is : (K.number_of y) ≡ o.owner = p.is p.some in
            let few = get_or-le-sum_by (kid_count K) conns p.place p.some p.within in
            let none : K.unsettled_child_of y ≡ None = no_child (K.unsettled_child_of y) (omega (arith, few, zero_kids)) in
            none_open site y (own T o.owner) k (subst (λ (c : ℕ). K.stands site y (own T c)) is (l.live p.place p.some p.within)) none
            (subst (λ (c : ℕ). has (children (own T o.owner) c) k ≡ true) (sym is) held)
        | inr absent ↦
            let g = l.gone o.owner o.known absent in
            none_open site g.conn (own T o.owner) k g.stands (free_child K laws g.conn g.free)
            (subst (λ (c : ℕ). has (children (own T o.owner) c) k ≡ true) (sym g.number) held)
      ]
    where
      no_some : (o : Option ℕ) → is_some o ≡ false → o ≡ None
      no_some None e = refl
      no_some (Some k) e = absurd (cc)

  none_kids : (conns : List C) → ((j : ℕ) (d : C) → j < length conns → K.unsettled_child_of (get_or conns j d) ≡ None) → sum_by (kid_count K) conns ≡ 0
  none_kids [] h = refl
  none_kids (x ∷ conns) h =
      let rest = none_kids conns (λ j d lt. h (suc j) d (omega (arith, lt))) in
      let one : (kid_count K) x ≡ 0 = ap one_if (h 0 x (omega arith)) in
      let sums = sum_by-cons (kid_count K) x conns in
      omega (arith, rest, one, sums)

  no_kids : (site : Site) (conns : List C) (T : List Item) → Lists K site conns T → ((k : ℕ) → k < start_count T → settled T k ≡ true) → sum_by (kid_count K) conns ≡ 0
  no_kids site conns T l all = none_kids conns (λ j d lt. by (get_or conns j d) (l.live j d lt))
    where
      by : (y : C) → K.stands site y (own T (K.number_of y)) → K.unsettled_child_of y ≡ None
      by y s = at (K.unsettled_child_of y) refl
        where
          at : (o : Option ℕ) → o ≡ K.unsettled_child_of y → o ≡ None
          at None e = refl
          at (Some k) e =
              let mine : is_child (K.unsettled_child_of y) k ≡ true = ap (λ o. is_child o k) (sym e) ∙ eq-eqb k k refl in
              let held : has (children T (K.number_of y)) k ≡ true = ap (λ ks. has ks k) (sym (children-own T (K.number_of y) l.between)) ∙ has_own K laws site y (own T (K.number_of y)) k s mine in
              absurd (false≢true (sym (open_child site y (own T (K.number_of y)) k s mine) ∙ (settled-own T (K.number_of y) k l.between held ∙ all k (l.between.below (K.number_of y) k held))))

  pub settled-is : (site : Site) (conns : List C) (T : List Item) (len : ℕ) → Lists K site conns T → len ≡ sum_by (kid_count K) conns → (len == 0) ≡ all_settled T
  settled-is site conns T len l e = elim (cases_Bool (eqb len 0)) [
    | inl empty ↦
        let z : len ≡ 0 = eqb-true len 0 empty in
        empty ∙ sym (ap (list_all (settled T)) l.between.numbers ∙ all_below (settled T) (start_count T) (kids_settled site conns T l (sym e ∙ z)))
    | inr full ↦
        full ∙ sym (false_from_ne_true _ (λ all. false≢true (sym full ∙ eq-eqb len 0 (e ∙ no_kids site conns T l
        (below_all (settled T) (start_count T) (sym (ap (list_all (settled T)) l.between.numbers) ∙ all))))))
  ]
