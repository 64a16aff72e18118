-- The table of children and the connections, after a step, an Accepted, and a slot given back.
use Rattle.std.proofs.Common.{◌≡◌, ℕ, suc, zero, ◌+◌, ◌<◌, ◌≤◌, true, false, List, [], ◌∷◌, ◌++◌, Option, Some, None, refl, sym, ◌∙◌, ap, subst, arith, inl, inr, length, get_or, set}
use Rattle.std.specs.Prelude.{Bool, ◌||◌, ◌&&◌, ◌==◌, if◌then◌else◌, is_some, sum_by, MatchOption, ◌⊎◌}
use Rattle.std.specs.List.{All, remove}
use Rattle.std.proofs.lemmas.Bool.{cases_Bool, cases_eq, cases_lt, or_cases, or_left, and_parts, eqb-true, eq-eqb, false≢true, cond-true, cond-false}
use Rattle.std.proofs.lemmas.List.{get_or-set_same, get_or-set_other, length-set, get_or_default}
use Rattle.std.proofs.lemmas.List.Elements.{All-push, All-weaker}
use Rattle.std.proofs.lemmas.List.Edits.{length-remove, get_or-remove_below, get_or-remove_above}
use Rattle.std.proofs.lemmas.List.Quantifiers.{all_pairs_push}
use Rattle.std.proofs.lemmas.List.Sums.{sum_by-set, sum_by-append, sum_by-cons}
use Rattle.host_base.specs.declared.site.Site.{Site}
use Rattle.host_trace.specs.declared.items.Act.{Act}
use Rattle.host_trace.specs.declared.items.Act.TheVariants.{Start, WantClient, Write, Shut, Feed, EndInput, WantChild, Kill, Release, Upgrade, Says, CloseWs}
use Rattle.host_trace.specs.declared.items.Item.TheVariants.{Out}
use Rattle.own_traces.specs.Whose.{has, are_of, is_of, kids_after, next_after, with_child}
use Rattle.child_table.specs.declared.table.Table.{Table}
use Rattle.child_table.specs.Held.{owner_of, table_len}
use Rattle.many_conns.specs.Kept.{is_child, one_if, kept}
use Rattle.many_conns.specs.Lists.{AreRising, IsAtPlace, numbers}
use Rattle.many_conns.specs.Apart.{AreApart, AreSound, kid_count, owner_by, owner_in}
use Rattle.many_conns.proofs.ListsLaws.{number-at, has-number, numbers_differ}
use Rattle.many_conns.proofs.OwnerLaws.{AreApartBy, apart_set, kept_none, none_has, one_has, owner_at, owner_set}
use Rattle.many_conns.specs.Kind.{Kind, Laws, Within}

module _ {C : Type 0} (K : Kind C) (laws : Laws K) where
  some_not : {A : Type 0} (x : A) → Some x ≡ None → ⊥
  some_not x e = cc

  -- ---- its unsettled child is the child of its run

  pub unsettled_is_last : (x : C) (k : ℕ) → is_child (K.unsettled_child_of x) k ≡ true → is_child (K.last_child_of x) k ≡ true
  unsettled_is_last x k h = laws.unsettled_is_last x k h

  none_kid : (xs : List C) (k : ℕ) → owner_by K K.last_child_of xs k ≡ None → owner_in K xs k ≡ None
  none_kid [] k e = refl
  none_kid (x ∷ xs) k e = elim (cases_Bool (is_child (K.last_child_of x) k)) [
    | inl h ↦ absurd (some_not (K.number_of x) (sym (cond-true (is_child (K.last_child_of x) k) (Some (K.number_of x)) (owner_by K K.last_child_of xs k) h) ∙ e))
    | inr h ↦
        let none : is_child (K.unsettled_child_of x) k ≡ false = elim (cases_Bool (is_child (K.unsettled_child_of x) k)) [
          | inl c ↦ absurd (false≢true (sym h ∙ unsettled_is_last x k c))
          | inr c ↦ c
        ] in
        cond-false (is_child (K.unsettled_child_of x) k) (Some (K.number_of x)) (owner_in K xs k) none
        ∙ none_kid xs k (sym (cond-false (is_child (K.last_child_of x) k) (Some (K.number_of x)) (owner_by K K.last_child_of xs k) h) ∙ e)
  ]

  pub apart_kids : (xs : List C) → AreApart K xs → AreApartBy K laws K.last_child_of xs
  apart_kids [] a = tt
  apart_kids (x ∷ xs) a = (a.0, apart_kids xs a.1)

  pub kids_apart : (xs : List C) → AreApartBy K laws K.last_child_of xs → AreApart K xs
  kids_apart [] a = tt
  kids_apart (x ∷ xs) a = (a.0, kids_apart xs a.1)

  pub apart_children : (xs : List C) → AreApart K xs → AreApartBy K laws K.unsettled_child_of xs
  apart_children [] a = tt
  apart_children (x ∷ xs) a = (λ k h. none_kid xs k (a.0 k (unsettled_is_last x k h)), apart_children xs a.1)

  -- a child whose run one of them has, and which is settled, is the unsettled child of none
  alone_kid : (xs : List C) (i k : ℕ) (x : C) → AreApart K xs → i < length xs → x ≡ get_or xs i x → is_child (K.last_child_of x) k ≡ true → is_child (K.unsettled_child_of x) k ≡ false
      → owner_in K xs k ≡ None
  alone_kid [] i k x a lt at last_child none = absurd (omega (arith, lt))
  alone_kid (y ∷ xs) zero k x a lt at last_child none =
      cond-false (is_child (K.unsettled_child_of y) k) (Some (K.number_of y)) (owner_in K xs k) (subst (λ z. is_child (K.unsettled_child_of z) k ≡ false) at none)
      ∙ none_kid xs k (a.0 k (subst (λ z. is_child (K.last_child_of z) k ≡ true) at last_child))
  alone_kid (y ∷ xs) (suc i) k x a lt at last_child none =
      let head : is_child (K.unsettled_child_of y) k ≡ false = elim (cases_Bool (is_child (K.unsettled_child_of y) k)) [
        | inl c ↦ absurd (false≢true (sym (subst (λ z. is_child (K.last_child_of z) k ≡ false) (sym at) (none_has K laws K.last_child_of xs i k x (a.0 k (unsettled_is_last y k c)) (omega (arith, lt)))) ∙ last_child))
        | inr c ↦ c
      ] in
      cond-false (is_child (K.unsettled_child_of y) k) (Some (K.number_of y)) (owner_in K xs k) head ∙ alone_kid xs i k x a.1 (omega (arith, lt)) at last_child none

  -- ---- the run that a step leaves has a child that it had, or one that was started in the step

  pub record LastChildMoves (old : Option ℕ) (n : ℕ) (new : Option ℕ) (m : ℕ) : Type 0 where
    pub up : n ≤ m
    pub last_child : (k : ℕ) → is_child new k ≡ true → (is_child old k ≡ true) ⊎ (n ≤ k × k < m)

  has_push : (ks : List ℕ) (j k : ℕ) → has (ks ++ j ∷ []) k ≡ true → (has ks k ≡ true) ⊎ (j ≡ k)
  has_push [] j k h = elim (or_cases (j == k) false h) [
    | inl e ↦ inr (eqb-true j k e)
    | inr e ↦ absurd (false≢true e)
  ]
  has_push (i ∷ ks) j k h = elim (or_cases (i == k) (has (ks ++ j ∷ []) k) h) [
    | inl e ↦ inl (or_left (i == k) (has ks k) e)
    | inr e ↦ elim (has_push ks j k e) [
      | inl f ↦ inl (or_right (i == k) (has ks k) f)
      | inr f ↦ inr f
    ]
  ]
    where
      or_right : (a b : Bool) → b ≡ true → (a || b) ≡ true
      or_right true b e = refl
      or_right false b e = e

  pub record KidsMove (c n : ℕ) (ks : List ℕ) (acts : List Act) : Type 0 where
    pub up : n ≤ next_after n acts
    pub last_child : (k : ℕ) → has (kids_after ks c acts) k ≡ true → (has ks k ≡ true) ⊎ (n ≤ k × k < next_after n acts)

  -- an act that starts no child
  kids_rest : (c n : ℕ) (ks : List ℕ) (acts : List Act) → KidsMove c n ks acts → KidsMove c n ks acts
  kids_rest c n ks acts m = m

  kids_start : (c n : ℕ) (ks later : List ℕ) (acts : List Act) (b : Bool) → later ≡ (if b then ks ++ n ∷ [] else ks) → KidsMove c (n + 1) later acts
      → (n ≤ next_after (n + 1) acts) × ((k : ℕ) → has (kids_after later c acts) k ≡ true → (has ks k ≡ true) ⊎ (n ≤ k × k < next_after (n + 1) acts))
  kids_start c n ks later acts b is m = (
    (let up = m.up in omega (arith, up)),
    λ k h. elim (m.last_child k h) [
      | inl old ↦ by b (ap (λ (l : List ℕ). has l k) (sym is) ∙ old)
      | inr new ↦ inr ((let lo = new.0 in omega (arith, lo)), new.1)
    ],
  )
    where
      by : {k : ℕ} (b : Bool) → has (if b then ks ++ n ∷ [] else ks) k ≡ true → (has ks k ≡ true) ⊎ (n ≤ k × k < next_after (n + 1) acts)
      by {k} true h = elim (has_push ks n k h) [
        | inl old ↦ inl old
        | inr same ↦ inr (omega (arith, same), (let up = m.up in omega (arith, up, same)))
      ]
      by false h = inl h

  pub kids_move : (c n : ℕ) (ks : List ℕ) (acts : List Act) → are_of c ks n acts ≡ true → KidsMove c n ks acts
  kids_move c n ks [] are = record { up = omega arith; last_child = λ k h. inl h }
  kids_move c n ks (Start k d j hop launch ∷ acts) are =
      let parts = and_parts (c == d && n == k) (are_of c (with_child ks c (Out (Start k d j hop launch))) (n + 1) acts) are in
      let number : n ≡ k = eqb-true n k (and_parts (c == d) (n == k) parts.0).1 in
      let rest = kids_move c (n + 1) (with_child ks c (Out (Start k d j hop launch))) acts parts.1 in
      let r = kids_start c n ks (with_child ks c (Out (Start k d j hop launch))) acts (c == d) (ap (λ (m : ℕ). if c == d then ks ++ m ∷ [] else ks) (sym number)) rest in
      record { up = r.0; last_child = r.1 }
  kids_move c n ks (WantClient d ∷ acts) are = let r = kids_move c n ks acts (and_parts (is_of c ks n (Out (WantClient d))) (are_of c ks n acts) are).1 in record { up = r.up; last_child = r.last_child }
  kids_move c n ks (Write d bytes ∷ acts) are = let r = kids_move c n ks acts (and_parts (is_of c ks n (Out (Write d bytes))) (are_of c ks n acts) are).1 in record { up = r.up; last_child = r.last_child }
  kids_move c n ks (Shut d why ∷ acts) are = let r = kids_move c n ks acts (and_parts (is_of c ks n (Out (Shut d why))) (are_of c ks n acts) are).1 in record { up = r.up; last_child = r.last_child }
  kids_move c n ks (Feed k bytes ∷ acts) are = let r = kids_move c n ks acts (and_parts (is_of c ks n (Out (Feed k bytes))) (are_of c ks n acts) are).1 in record { up = r.up; last_child = r.last_child }
  kids_move c n ks (EndInput k ∷ acts) are = let r = kids_move c n ks acts (and_parts (is_of c ks n (Out (EndInput k))) (are_of c ks n acts) are).1 in record { up = r.up; last_child = r.last_child }
  kids_move c n ks (WantChild k ∷ acts) are = let r = kids_move c n ks acts (and_parts (is_of c ks n (Out (WantChild k))) (are_of c ks n acts) are).1 in record { up = r.up; last_child = r.last_child }
  kids_move c n ks (Kill k ∷ acts) are = let r = kids_move c n ks acts (and_parts (is_of c ks n (Out (Kill k))) (are_of c ks n acts) are).1 in record { up = r.up; last_child = r.last_child }
  kids_move c n ks (Release k ∷ acts) are = let r = kids_move c n ks acts (and_parts (is_of c ks n (Out (Release k))) (are_of c ks n acts) are).1 in record { up = r.up; last_child = r.last_child }
  kids_move c n ks (Upgrade d rest ∷ acts) are = let r = kids_move c n ks acts (and_parts (is_of c ks n (Out (Upgrade d rest))) (are_of c ks n acts) are).1 in record { up = r.up; last_child = r.last_child }
  kids_move c n ks (Says d texts ∷ acts) are = let r = kids_move c n ks acts (and_parts (is_of c ks n (Out (Says d texts))) (are_of c ks n acts) are).1 in record { up = r.up; last_child = r.last_child }
  kids_move c n ks (CloseWs d code ∷ acts) are = let r = kids_move c n ks acts (and_parts (is_of c ks n (Out (CloseWs d code))) (are_of c ks n acts) are).1 in record { up = r.up; last_child = r.last_child }

  -- a run's child, as a list of those that it may be
  abbrev kids_of : Option ℕ → List ℕ
  kids_of None = []
  kids_of (Some k) = k ∷ []

  own_kid : (o : Option ℕ) → Within o (kids_of o)
  own_kid None = tt
  own_kid (Some k) = or_left (k == k) false (eq-eqb k k refl)

  kid_within : (o : Option ℕ) (ks : List ℕ) (k : ℕ) → Within o ks → is_child o k ≡ true → has ks k ≡ true
  kid_within None ks k w h = absurd (false≢true h)
  kid_within (Some j) ks k w h = ap (λ (i : ℕ). has ks i) (sym (eqb-true j k h)) ∙ w

  kid_old : (o : Option ℕ) (k : ℕ) → has (kids_of o) k ≡ true → is_child o k ≡ true
  kid_old None k h = absurd (false≢true h)
  kid_old (Some j) k h = elim (or_cases (j == k) false h) [
    | inl e ↦ e
    | inr e ↦ absurd (false≢true e)
  ]

  pub kid_moves : (x new : C) (c n m : ℕ) (acts : List Act) → ((ks : List ℕ) → Within (K.last_child_of x) ks → (are_of c ks n acts ≡ true) × Within (K.last_child_of new) (kids_after ks c acts)) → m ≡ next_after n acts
      → LastChildMoves (K.last_child_of x) n (K.last_child_of new) m
  kid_moves x new c n m acts own next =
      let one = own (kids_of (K.last_child_of x)) (own_kid (K.last_child_of x)) in
      let move = kids_move c n (kids_of (K.last_child_of x)) acts one.0 in
      record {
        up = (let up = move.up in omega (arith, up, next));
        last_child = λ k h. elim (move.last_child k (kid_within (K.last_child_of new) (kids_after (kids_of (K.last_child_of x)) c acts) k one.1 h)) [
          | inl old ↦ inl (kid_old (K.last_child_of x) k old)
          | inr range ↦ inr (range.0, (let hi = range.1 in omega (arith, hi, next)))
        ];
      }

  -- ---- one of them makes its step

  fresh_child : (xs : List C) (i n m : ℕ) (x new : C) → AreApart K xs → i < length xs → x ≡ get_or xs i x → LastChildMoves (K.last_child_of x) n (K.last_child_of new) m
      → ((k : ℕ) → n ≤ k → owner_by K K.last_child_of xs k ≡ None) → (k : ℕ) → is_child (K.unsettled_child_of new) k ≡ true → is_child (K.unsettled_child_of x) k ≡ false → owner_in K xs k ≡ None
  fresh_child xs i n m x new a lt at moves below k has none = elim (moves.last_child k (unsettled_is_last new k has)) [
    | inl old ↦ alone_kid xs i k x a lt at old none
    | inr range ↦ none_kid xs k (below k range.0)
  ]

  fresh_kid : (xs : List C) (n m : ℕ) (x new : C) → LastChildMoves (K.last_child_of x) n (K.last_child_of new) m → ((k : ℕ) → n ≤ k → owner_by K K.last_child_of xs k ≡ None)
      → (k : ℕ) → is_child (K.last_child_of new) k ≡ true → is_child (K.last_child_of x) k ≡ false → owner_by K K.last_child_of xs k ≡ None
  fresh_kid xs n m x new moves below k has none = elim (moves.last_child k has) [
    | inl old ↦ absurd (false≢true (sym none ∙ old))
    | inr range ↦ below k range.0
  ]

  pub sound_set : (site : Site) (xs : List C) (i n m accepted : ℕ) (x new : C) (table table' : Table) → AreSound K site xs accepted n table → i < length xs → x ≡ get_or xs i x
      → K.number_of new ≡ K.number_of x → K.site_of new ≡ K.site_of x → LastChildMoves (K.last_child_of x) n (K.last_child_of new) m
      → ((k : ℕ) → owner_of table' k ≡ kept (K.number_of x) (K.unsettled_child_of x) (K.unsettled_child_of new) k (owner_of table k))
      → table_len table' + one_if (K.unsettled_child_of x) ≡ table_len table + one_if (K.unsettled_child_of new) → AreSound K site (set xs i new) accepted m table'
  sound_set site xs i n m accepted x new table table' s lt at same same_site moves owners len =
      let num : (j : ℕ) (d : C) → j < length xs → K.number_of (get_or (set xs i new) j d) ≡ K.number_of (get_or xs j d) =
      λ j d ltj. number-at K laws xs i j new x d lt ltj (same ∙ ap (λ (y : C). K.number_of y) at) in
      let long : (j : ℕ) → j < length (set xs i new) → j < length xs = λ j ltj. subst (λ m. j < m) (length-set xs i new) ltj in
      record {
        rising = λ j k d less ltk.
            let r = s.rising j k d less (long k ltk) in
            let e = num j d (omega (arith, less, long k ltk)) in
            let f = num k d (long k ltk) in
            omega (arith, r, e, f);
        known = λ j d ltj. let r = s.known j d (long j ltj) in let e = num j d (long j ltj) in omega (arith, r, e);
        sites = λ j d ltj. sites_set xs i j new d (s.sites j d (long j ltj)) lt (same_site ∙ (ap (λ (y : C). K.site_of y) at ∙ s.sites i x lt));
        apart = kids_apart (set xs i new) (apart_set K laws K.last_child_of xs i x new (apart_kids xs s.apart) lt at same (fresh_kid xs n m x new moves s.below));
        below = λ k le. kid_below k le;
        owners = λ k.
            owners k
            ∙ (ap (λ o. kept (K.number_of x) (K.unsettled_child_of x) (K.unsettled_child_of new) k o) (s.owners k)
            ∙ sym (owner_set K laws K.unsettled_child_of xs i k x new (apart_children xs s.apart) lt at same (fresh_child xs i n m x new s.apart lt at moves s.below k)));
        len =
            let sums = sum_by-set (kid_count K) xs i new x lt in
            let e : (kid_count K) x ≡ (kid_count K) (get_or xs i x) = ap (kid_count K) at in
            omega (arith, sums, e, len, s.len);
      }
    where
      sites_set : (xs : List C) (i j : ℕ) (new d : C) → K.site_of (get_or xs j d) ≡ site → i < length xs → K.site_of new ≡ site → K.site_of (get_or (set xs i new) j d) ≡ site
      sites_set xs i j new d old lt is = elim (cases_eq j i) [
        | inl here ↦ ap (λ k. K.site_of (get_or (set xs i new) k d)) here ∙ (ap (λ (y : C). K.site_of y) (get_or-set_same xs i new d lt) ∙ is)
        | inr other ↦ ap (λ (y : C). K.site_of y) (get_or-set_other xs i j new d other) ∙ old
      ]

      kid_below : (k : ℕ) → m ≤ k → owner_by K K.last_child_of (set xs i new) k ≡ None
      kid_below k le =
          let up = moves.up in
          let none : owner_by K K.last_child_of xs k ≡ None = s.below k (omega (arith, up, le)) in
          let old : is_child (K.last_child_of x) k ≡ false = subst (λ z. is_child (K.last_child_of z) k ≡ false) (sym at) (none_has K laws K.last_child_of xs i k x none lt) in
          let now : is_child (K.last_child_of new) k ≡ false = elim (cases_Bool (is_child (K.last_child_of new) k)) [
            | inl has ↦ elim (moves.last_child k has) [
              | inl was ↦ absurd (false≢true (sym old ∙ was))
              | inr range ↦ absurd (let hi = range.1 in omega (arith, hi, le))
            ]
            | inr absent ↦ absent
          ] in
          owner_set K laws K.last_child_of xs i k x new (apart_kids xs s.apart) lt at same (fresh_kid xs n m x new moves s.below k)
          ∙ (kept_none K laws (K.number_of x) k (K.last_child_of new) (K.last_child_of x) (owner_by K K.last_child_of xs k) old now ∙ none)

  -- what the table asks before it
  pub fresh_before : (site : Site) (xs : List C) (i n m accepted : ℕ) (x new : C) (table : Table) → AreSound K site xs accepted n table → i < length xs → x ≡ get_or xs i x
      → LastChildMoves (K.last_child_of x) n (K.last_child_of new) m → (k : ℕ) → is_child (K.unsettled_child_of new) k ≡ true → is_child (K.unsettled_child_of x) k ≡ false → owner_of table k ≡ None
  fresh_before site xs i n m accepted x new table s lt at moves k has none = s.owners k ∙ fresh_child xs i n m x new s.apart lt at moves s.below k has none

  pub held_before : (site : Site) (xs : List C) (i n accepted : ℕ) (x : C) (table : Table) → AreSound K site xs accepted n table → i < length xs → x ≡ get_or xs i x
      → (k : ℕ) → is_child (K.unsettled_child_of x) k ≡ true → is_some (owner_of table k) ≡ true
  held_before site xs i n accepted x table s lt at k h =
      ap is_some (s.owners k ∙ owner_at K laws K.unsettled_child_of xs i k x (apart_children xs s.apart) lt (subst (λ z. is_child (K.unsettled_child_of z) k ≡ true) at h))

  kid_le : (x : C) → (kid_count K) x ≤ 1
  kid_le x = by (K.unsettled_child_of x)
    where
      by : (o : Option ℕ) → one_if o ≤ 1
      by None = omega arith
      by (Some k) = omega arith

  sum_le : (xs : List C) → sum_by (kid_count K) xs ≤ length xs
  sum_le [] = omega arith
  sum_le (x ∷ xs) = omega (arith, sum_by-cons (kid_count K) x xs, kid_le x, sum_le xs)

  -- where one of them has no child there is one child less than there are connections
  sum_less : (xs : List C) (i : ℕ) (x : C) → i < length xs → x ≡ get_or xs i x → K.unsettled_child_of x ≡ None → sum_by (kid_count K) xs + 1 ≤ length xs
  sum_less [] i x lt at none = absurd (omega (arith, lt))
  sum_less (y ∷ xs) zero x lt at none =
      let here : (kid_count K) y ≡ 0 = ap (kid_count K) (sym at) ∙ ap one_if none in
      omega (arith, sum_by-cons (kid_count K) y xs, here, sum_le xs)
  sum_less (y ∷ xs) (suc i) x lt at none = omega (arith, sum_by-cons (kid_count K) y xs, kid_le y, sum_less xs i x (omega (arith, lt)) at none)

  -- there is room for the child that it has then
  pub room_for : (site : Site) (xs : List C) (i n most cap accepted : ℕ) (x : C) (table : Table) (new : Option ℕ) → AreSound K site xs accepted n table → i < length xs → x ≡ get_or xs i x
      → length xs ≤ most → cap ≡ most → table_len table + one_if new < cap + one_if (K.unsettled_child_of x) + 1
  room_for site xs i n most cap accepted x table new s lt at few same = by new (K.unsettled_child_of x) refl
    where
      by : (a b : Option ℕ) → b ≡ K.unsettled_child_of x → table_len table + one_if a < cap + one_if b + 1
      by None b e = let all = sum_le xs in let len = s.len in omega (arith, len, all, few, same)
      by (Some k) None e = let less = sum_less xs i x lt at (sym e) in let len = s.len in omega (arith, len, less, few, same)
      by (Some k) (Some j) e = let all = sum_le xs in let len = s.len in omega (arith, len, all, few, same)

  -- ---- one more, with no child

  owner_push : (f : C → Option ℕ) (xs : List C) (conn : C) (k : ℕ) → f conn ≡ None → owner_by K f (xs ++ conn ∷ []) k ≡ owner_by K f xs k
  owner_push f [] conn k e = cond-false (is_child (f conn) k) (Some (K.number_of conn)) None (ap (λ o. is_child o k) e)
  owner_push f (x ∷ xs) conn k e = ap (λ o. if is_child (f x) k then Some (K.number_of x) else o) (owner_push f xs conn k e)

  apart_push : (xs : List C) (conn : C) → K.last_child_of conn ≡ None → AreApart K xs → AreApart K (xs ++ conn ∷ [])
  apart_push [] conn e a = (λ k h. refl, tt)
  apart_push (x ∷ xs) conn e a = (λ k h. owner_push K.last_child_of xs conn k e ∙ a.0 k h, apart_push xs conn e a.1)

  -- .. of whose run there is none
  no_child : (x : C) → K.last_child_of x ≡ None → K.unsettled_child_of x ≡ None
  no_child x e = by (K.unsettled_child_of x) refl
    where
      by : (o : Option ℕ) → K.unsettled_child_of x ≡ o → o ≡ None
      by None is = refl
      by (Some k) is =
          let has : is_child (K.unsettled_child_of x) k ≡ true = ap (λ o. is_child o k) is ∙ eq-eqb k k refl in
          absurd (false≢true (sym (ap (λ o. is_child o k) e) ∙ unsettled_is_last x k has))

  pub sound_push : (site : Site) (xs : List C) (n accepted : ℕ) (conn : C) (table : Table) → AreSound K site xs accepted n table → K.number_of conn ≡ accepted → K.site_of conn ≡ site
      → K.last_child_of conn ≡ None → AreSound K site (xs ++ conn ∷ []) (accepted + 1) n table
  sound_push site xs n accepted conn table s is site_is none = record {
    rising = all_pairs_push (λ (x y : C). K.number_of x < K.number_of y) xs conn s.rising (λ k d lt. let h = s.known k d lt in omega (arith, h, is));
    known = All-push (λ (x : C). K.number_of x < accepted + 1) xs conn
        (All-weaker (λ (x : C). K.number_of x < accepted) (λ (x : C). K.number_of x < accepted + 1) (λ x h. omega (arith, h)) xs s.known) (omega (arith, is));
    sites = All-push (λ (x : C). K.site_of x ≡ site) xs conn s.sites site_is;
    apart = apart_push xs conn none s.apart;
    below = λ k le. owner_push K.last_child_of xs conn k none ∙ s.below k le;
    owners = λ k. s.owners k ∙ sym (owner_push K.unsettled_child_of xs conn k (no_child conn none));
    len =
        let sums = sum_by-append (kid_count K) xs (conn ∷ []) in
        let one = sum_by-cons (kid_count K) conn [] in
        let nothing : (kid_count K) conn ≡ 0 = ap one_if (no_child conn none) in
        let len = s.len in
        omega (arith, sums, one, nothing, len);
  }

  -- ---- one less, whose child is settled

  owner_less : (xs : List C) (i k : ℕ) (x : C) → i < length xs → x ≡ get_or xs i x → K.unsettled_child_of x ≡ None → owner_in K (remove xs i) k ≡ owner_in K xs k
  owner_less [] i k x lt at none = absurd (omega (arith, lt))
  owner_less (y ∷ xs) zero k x lt at none =
      let absent : is_child (K.unsettled_child_of y) k ≡ false = ap (λ z. is_child (K.unsettled_child_of z) k) (sym at) ∙ ap (λ o. is_child o k) none in
      sym (cond-false (is_child (K.unsettled_child_of y) k) (Some (K.number_of y)) (owner_in K xs k) absent)
  owner_less (y ∷ xs) (suc i) k x lt at none = ap (λ o. if is_child (K.unsettled_child_of y) k then Some (K.number_of y) else o) (owner_less xs i k x (omega (arith, lt)) at none)

  -- where there was none there is none
  kid_less : (xs : List C) (i k : ℕ) → owner_by K K.last_child_of xs k ≡ None → owner_by K K.last_child_of (remove xs i) k ≡ None
  kid_less [] zero k e = refl
  kid_less [] (suc i) k e = refl
  kid_less (y ∷ xs) zero k e = elim (cases_Bool (is_child (K.last_child_of y) k)) [
    | inl h ↦ absurd (some_not (K.number_of y) (sym (cond-true (is_child (K.last_child_of y) k) (Some (K.number_of y)) (owner_by K K.last_child_of xs k) h) ∙ e))
    | inr h ↦ sym (cond-false (is_child (K.last_child_of y) k) (Some (K.number_of y)) (owner_by K K.last_child_of xs k) h) ∙ e
  ]
  kid_less (y ∷ xs) (suc i) k e = elim (cases_Bool (is_child (K.last_child_of y) k)) [
    | inl h ↦ absurd (some_not (K.number_of y) (sym (cond-true (is_child (K.last_child_of y) k) (Some (K.number_of y)) (owner_by K K.last_child_of xs k) h) ∙ e))
    | inr h ↦
        cond-false (is_child (K.last_child_of y) k) (Some (K.number_of y)) (owner_by K K.last_child_of (remove xs i) k) h
        ∙ kid_less xs i k (sym (cond-false (is_child (K.last_child_of y) k) (Some (K.number_of y)) (owner_by K K.last_child_of xs k) h) ∙ e)
  ]

  apart_less : (xs : List C) (i : ℕ) → AreApart K xs → AreApart K (remove xs i)
  apart_less [] zero a = tt
  apart_less [] (suc i) a = tt
  apart_less (y ∷ xs) zero a = a.1
  apart_less (y ∷ xs) (suc i) a = (λ k h. kid_less xs i k (a.0 k h), apart_less xs i a.1)

  sum_same : (xs : List C) (i : ℕ) (x : C) → i < length xs → x ≡ get_or xs i x → K.unsettled_child_of x ≡ None → sum_by (kid_count K) (remove xs i) ≡ sum_by (kid_count K) xs
  sum_same [] i x lt at none = absurd (omega (arith, lt))
  sum_same (y ∷ xs) zero x lt at none =
      let here : (kid_count K) y ≡ 0 = ap (kid_count K) (sym at) ∙ ap one_if none in
      let sums = sum_by-cons (kid_count K) y xs in
      omega (arith, sums, here)
  sum_same (y ∷ xs) (suc i) x lt at none =
      let rest = sum_same xs i x (omega (arith, lt)) at none in
      let sums = sum_by-cons (kid_count K) y xs in
      let less = sum_by-cons (kid_count K) y (remove xs i) in
      omega (arith, rest, sums, less)

  -- a claim on each goes on, where one is taken out
  all_less : (P : C → Type 0) (xs : List C) (i : ℕ) → i < length xs → All P xs → All P (remove xs i)
  all_less P xs i lt all j d ltj = elim (cases_lt j i) [
    | inl before ↦ subst P (sym (get_or-remove_below xs i d j before lt)) (all j d (omega (arith, before, lt)))
    | inr after ↦
        let len = length-remove xs i lt in
        subst P (sym (get_or-remove_above xs i d j after lt)) (all (j + 1) d (omega (arith, len, ltj)))
  ]

  rising_less : (xs : List C) (i : ℕ) → i < length xs → AreRising K xs → AreRising K (remove xs i)
  rising_less xs i lt rising j k d less ltk =
      let new = remove xs i in
      let len = length-remove xs i lt in
      let number = λ (x : C). K.number_of x in
      let below : (q : ℕ) → q < i → K.number_of (get_or new q d) ≡ K.number_of (get_or xs q d) = λ q b. ap number (get_or-remove_below xs i d q b lt) in
      let above : (q : ℕ) → i ≤ q → K.number_of (get_or new q d) ≡ K.number_of (get_or xs (q + 1) d) = λ q a. ap number (get_or-remove_above xs i d q a lt) in
      grind (arith, below j, above j, below k, above k, rising j k d, rising j (k + 1) d, rising (j + 1) (k + 1) d)

  pub sound_less : (site : Site) (xs : List C) (i n accepted : ℕ) (x : C) (table : Table) → AreSound K site xs accepted n table → i < length xs → x ≡ get_or xs i x → K.unsettled_child_of x ≡ None
      → AreSound K site (remove xs i) accepted n table
  sound_less site xs i n accepted x table s lt at none = record {
    rising = rising_less xs i lt s.rising;
    known = all_less (λ (x : C). K.number_of x < accepted) xs i lt s.known;
    sites = all_less (λ (x : C). K.site_of x ≡ site) xs i lt s.sites;
    apart = apart_less xs i s.apart;
    below = λ k le. kid_less xs i k (s.below k le);
    owners = λ k. s.owners k ∙ sym (owner_less xs i k x lt at none);
    len = s.len ∙ sym (sum_same xs i x lt at none);
  }

  -- ---- the place of the connection that has a child

  none_numbered : (xs : List C) (i c : ℕ) → i < length xs → ((d : C) → K.number_of (get_or xs i d) ≡ c) → has (numbers K xs) c ≡ false → ⊥
  none_numbered [] i c lt is none = absurd (omega (arith, lt))
  none_numbered (x ∷ xs) i c lt is none = false≢true (sym none ∙ (ap (λ (m : ℕ). has (numbers K (x ∷ xs)) m) (sym (is x)) ∙ has-number K laws (x ∷ xs) i x lt))

  pub place_of : (site : Site) (xs : List C) (n accepted : ℕ) (table : Table) (k c : ℕ) → AreSound K site xs accepted n table → owner_of table k ≡ Some c → (r : Option ℕ)
      → MatchOption r (has (numbers K xs) c ≡ false) (IsAtPlace K xs c)
      → MatchOption r (owner_by K K.last_child_of xs k ≡ None) (λ i. (i < length xs) × ((d : C) → is_child (K.last_child_of (get_or xs i d)) k ≡ true))
  place_of site xs n accepted table k c s own None none =
      let one = one_has K laws K.unsettled_child_of xs k c (sym (s.owners k) ∙ own) in
      absurd (none_numbered xs one.place c one.within one.number none)
  place_of site xs n accepted table k c s own (Some i) at =
      let one = one_has K laws K.unsettled_child_of xs k c (sym (s.owners k) ∙ own) in (
        at.within,
        λ d. laws.unsettled_is_last (get_or xs i d) k (elim (cases_eq i one.place) [
          | inl same ↦ ap (λ j. is_child (K.unsettled_child_of (get_or xs j d)) k) same ∙ one.child d
          | inr other ↦ absurd (numbers_differ K laws xs one.place i d s.rising one.within at.within other (at.is d ∙ sym (one.number d)))
        ]),
      )

  -- two reads at one place read one
  pub same_read : (xs : List C) (i : ℕ) (x y : C) → i < length xs → x ≡ get_or xs i x → y ≡ get_or xs i y → x ≡ y
  same_read xs i x y lt e f = e ∙ (get_or_default xs i x y lt ∙ sym f)

  pub written : (xs : List C) (i : ℕ) (new x : C) → i < length xs → x ≡ get_or (set xs i new) i x → x ≡ new
  written xs i new x lt e = e ∙ get_or-set_same xs i new x lt

  -- what lies at a place
  pub some_at : (xs : List C) (i : ℕ) → i < length xs → (x : C) × (x ≡ get_or xs i x)
  some_at [] i lt = absurd (omega (arith, lt))
  some_at (x ∷ xs) i lt = (get_or (x ∷ xs) i x, get_or_default (x ∷ xs) i x (get_or (x ∷ xs) i x) lt)
