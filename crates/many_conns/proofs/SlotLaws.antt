-- As many slots are held as connections lie in the list.
use Rattle.std.proofs.Common.{◌≡◌, ℕ, suc, zero, ◌+◌, ◌<◌, Bool, true, false, List, [], ◌∷◌, Option, Some, None, refl, sym, ◌∙◌, ap, subst, arith, inl, inr, length, get_or}
use Rattle.std.specs.Prelude.{◌==◌, ◌||◌, ◌&&◌, not, if◌then◌else◌, filter, is_some, nat_lt}
use Rattle.std.specs.List.{list_any, All}
use Rattle.std.specs.Option.{option_to_list}
use Rattle.std.proofs.lemmas.Bool.{cases_Bool, cases_eq, cases_lt, or_left, or_right, or_from, eq-eqb, ne_eqb, cond-true, cond-false, lt-ltb, le-ltb}
use Rattle.std.proofs.lemmas.List.Elements.{All-head, All-tail}
use Rattle.host_base.specs.declared.site.Site.{Site}
use Rattle.host_trace.specs.declared.items.Item.{Item}
use Rattle.host_trace.specs.Projections.{own, children, accepted_count, shut}
use Rattle.host_trace.specs.Account.{settled, has_unsettled, holds_slot, slots_below, slots_held}
use Rattle.own_traces.specs.Whose.{has}
use Rattle.own_traces.specs.Between.{Between}
use Rattle.own_traces.proofs.SameLaws.{children-own, settled-own, shut-own}
use Rattle.many_conns.specs.Lists.{AreRising, Lists, numbers}
use Rattle.many_conns.proofs.SettledLaws.{place_in}
use Rattle.many_conns.specs.Kind.{Kind, Laws}

module _ {C : Type 0} (K : Kind C) (laws : Laws K) where
  -- ---- a state needs a slot exactly where its list says so

  any-of : (p : ℕ → Bool) (ks : List ℕ) (o : Option ℕ) → filter p ks ≡ option_to_list o → list_any p ks ≡ is_some o
  any-of p [] None e = refl
  any-of p [] (Some k) e = absurd (cc)
  any-of p (k ∷ ks) o e = elim (cases_Bool (p k)) [
    | inl h ↦ or_left _ _ h ∙ sym (some o (sym (cond-true (p k) (k ∷ filter p ks) (filter p ks) h) ∙ e))
    | inr h ↦ ap (λ b. b || list_any p ks) h ∙ any-of p ks o (sym (cond-false (p k) (k ∷ filter p ks) (filter p ks) h) ∙ e)
  ]
    where
      some : (o : Option ℕ) → k ∷ filter p ks ≡ option_to_list o → is_some o ≡ true
      some None e = absurd (cc)
      some (Some j) e = refl

  any-same : (p q : ℕ → Bool) (ks : List ℕ) → ((k : ℕ) → has ks k ≡ true → p k ≡ q k) → list_any p ks ≡ list_any q ks
  any-same p q [] h = refl
  any-same p q (k ∷ ks) h =
      let one = h k (or_left _ _ (eq-eqb k k refl)) in
      let rest = any-same p q ks (λ j is. h j (or_right (k == j) _ is)) in
      (λ i. one i || rest i)

  needs-slot : (site : Site) (T : List Item) (conn : C) (c : ℕ) → Between T → K.number_of conn ≡ c → K.stands site conn (own T c) → K.needs conn ≡ (not (shut T c) || has_unsettled T c)
  needs-slot site T conn c b is s =
      let L = own T c in
      let s1 : K.was_shut conn ≡ shut T c = laws.shut_is site conn L s ∙ (ap (λ (n : ℕ). shut L n) is ∙ shut-own T c b) in
      let kids : children L (K.number_of conn) ≡ children T c = ap (λ (n : ℕ). children L n) is ∙ children-own T c b in
      let s2 : is_some (K.unsettled_child_of conn) ≡ has_unsettled T c =
      sym (any-of (λ k. not (settled L k)) (children L (K.number_of conn)) (K.unsettled_child_of conn) (laws.unsettled site conn L s))
      ∙ (ap (list_any (λ k. not (settled L k))) kids ∙ any-same (λ k. not (settled L k)) (λ k. not (settled T k)) (children T c) (λ k h. ap not (settled-own T c k b h))) in
      laws.needs_is conn ∙ (λ i. not (s1 i) || s2 i)

  slot-is : (site : Site) (conns : List C) (T : List Item) (c : ℕ) → Lists K site conns T → All (λ x. K.needs x ≡ true) conns → c < accepted_count T → holds_slot T c ≡ has (numbers K conns) c
  slot-is site conns T c l held lt =
      ap (λ b. b && (not (shut T c) || has_unsettled T c)) (lt-ltb c (accepted_count T) lt)
      ∙ elim (cases_Bool (has (numbers K conns) c)) [
        | inl live ↦
            let p = place_in K laws conns c live in
            let y = get_or conns p.place p.some in
            let is : (K.number_of y) ≡ c = p.is p.some in
            sym (needs-slot site T y c l.between is (subst (λ (n : ℕ). K.stands site y (own T n)) is (l.live p.place p.some p.within))) ∙ (held p.place p.some p.within ∙ sym live)
        | inr absent ↦
            let g = l.gone c lt absent in
            sym (needs-slot site T g.conn c l.between g.number g.stands) ∙ (g.free ∙ sym absent)
      ]

  -- ---- how many of the numbers K below n are in a list

  members : ℕ → List ℕ → ℕ
  members zero ns = 0
  members (suc n) ns = members n ns + (if has ns n then 1 else 0)

  slots-members : (T : List Item) (ns : List ℕ) (n : ℕ) → ((c : ℕ) → c < n → holds_slot T c ≡ has ns c) → slots_below T n ≡ members n ns
  unfolding members
  slots-members T ns zero h = refl
  slots-members T ns (suc n) h =
      let rest = slots-members T ns n (λ c lt. h c (omega (arith, lt))) in
      let one = h n (omega arith) in
      (λ i. rest i + (if one i then 1 else 0))

  members-none : (n : ℕ) → members n [] ≡ 0
  unfolding members
  members-none zero = refl
  members-none (suc n) = (let e = members-none n in omega (arith, e))

  -- a number above those below n is not among them, else it counts once
  members-cons : (n m : ℕ) (ns : List ℕ) → has ns m ≡ false → members n (m ∷ ns) ≡ members n ns + (if nat_lt m n then 1 else 0)
  unfolding members
  members-cons zero m ns none = sym (ap (λ b. 0 + (if b then 1 else 0)) (le-ltb m 0 (omega arith)))
  members-cons (suc n) m ns none =
      let rest = members-cons n m ns none in
      elim (cases_eq m n) [
        | inl same ↦
            let here : (m == n || has ns n) ≡ true = or_left _ _ (eq-eqb m n same) in
            let not_there : has ns n ≡ false = ap (has ns) (sym same) ∙ none in
            let below : nat_lt m n ≡ false = le-ltb m n (omega arith) in
            let above : nat_lt m (suc n) ≡ true = lt-ltb m (suc n) (omega arith) in
            count_up (members n (m ∷ ns)) (members n ns) (m == n || has ns n) (nat_lt m n) (has ns n) (nat_lt m (suc n)) rest here below not_there above
        | inr other ↦
            let here : (m == n || has ns n) ≡ has ns n = ap (λ b. b || has ns n) (ne_eqb m n other) in
            let same : nat_lt m (suc n) ≡ nat_lt m n = elim (cases_lt m n) [
              | inl less ↦ lt-ltb m (suc n) (omega arith) ∙ sym (lt-ltb m n less)
              | inr more ↦ le-ltb m (suc n) (omega arith) ∙ sym (le-ltb m n more)
            ] in
            count_same (members n (m ∷ ns)) (members n ns) (m == n || has ns n) (nat_lt m n) (has ns n) (nat_lt m (suc n)) rest here same
      ]
    where
      count_up : (x y : ℕ) (a b c d : Bool) → x ≡ y + (if b then 1 else 0) → a ≡ true → b ≡ false → c ≡ false → d ≡ true →
          x + (if a then 1 else 0) ≡ y + (if c then 1 else 0) + (if d then 1 else 0)
      count_up x y true false false true e p q r s = omega (arith, e)
      count_up x y false b c d e p q r s = absurd (cc)
      count_up x y true true c d e p q r s = absurd (cc)
      count_up x y true false true d e p q r s = absurd (cc)
      count_up x y true false false false e p q r s = absurd (cc)

      count_same : (x y : ℕ) (a b c d : Bool) → x ≡ y + (if b then 1 else 0) → a ≡ c → d ≡ b → x + (if a then 1 else 0) ≡ y + (if c then 1 else 0) + (if d then 1 else 0)
      count_same x y a b c d e p q =
          ap (λ t. x + (if t then 1 else 0)) p ∙ (ap (λ t. t + (if c then 1 else 0)) e ∙ (swap y (if b then 1 else 0) (if c then 1 else 0) ∙ ap (λ t. y + (if c then 1 else 0) + (if t then 1 else 0)) (sym q)))
        where
          swap : (y u v : ℕ) → y + u + v ≡ y + v + u
          swap y u v = omega arith

  -- numbers K that rise, all below n, count each once
  none-below : (conns : List C) (m : ℕ) → ((j : ℕ) (d : C) → j < length conns → m < (K.number_of (get_or conns j d))) → has (numbers K conns) m ≡ false
  none-below [] m h = refl
  none-below (x ∷ conns) m h = or_from _ _ (ne_eqb (K.number_of x) m (λ e. absurd (let l = h 0 x (omega arith) in omega (arith, e, l)))) (none-below conns m (λ j d lt. h (suc j) d (omega (arith, lt))))

  members-all : (conns : List C) (n : ℕ) → AreRising K conns → All (λ x. (K.number_of x) < n) conns → members n (numbers K conns) ≡ length conns
  members-all [] n r k = members-none n
  members-all (x ∷ conns) n r k =
      let rest = members-all conns n (λ i j d less lt. r (suc i) (suc j) d (omega (arith, less)) (omega (arith, lt))) (All-tail (λ x. (K.number_of x) < n) x conns k) in
      let none = none-below conns (K.number_of x) (λ j d lt. r 0 (suc j) d (omega arith) (omega (arith, lt))) in
      let one : nat_lt (K.number_of x) n ≡ true = lt-ltb (K.number_of x) n (All-head (λ x. (K.number_of x) < n) x conns k) in
      members-cons n (K.number_of x) (numbers K conns) none ∙ (ap (λ b. members n (numbers K conns) + (if b then 1 else 0)) one ∙ (let e = rest in omega (arith, e)))

  pub slots-are : (site : Site) (conns : List C) (T : List Item) → Lists K site conns T → AreRising K conns → All (λ x. K.needs x ≡ true) conns → slots_held T ≡ length conns
  slots-are site conns T l rising held =
      slots-members T (numbers K conns) (accepted_count T) (λ c lt. slot-is site conns T c l held lt) ∙ members-all conns (accepted_count T) rising l.known
