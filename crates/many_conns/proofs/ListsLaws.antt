-- A step of one connection, in the middle of a step of the core.
use Rattle.std.proofs.Common.{◌≡◌, ◌≢◌, ℕ, suc, zero, ◌<◌, ◌≤◌, Bool, true, false, List, [], ◌∷◌, ◌++◌, map, refl, sym, ◌∙◌, ap, subst, append_assoc, arith, inl, inr, length, get_or, set}
use Rattle.std.specs.Prelude.{◌==◌, ◌||◌}
use Rattle.std.specs.List.{list_any}
use Rattle.std.proofs.lemmas.Bool.{cases_eq, cases_order, or_left, or_right, or_parts, eq-eqb, false≢true, lt-ltb}
use Rattle.std.proofs.lemmas.List.{get_or-set_same, get_or-set_other, length-set, get_or_default}
use Rattle.std.proofs.lemmas.List.Folds.{list_any-append}
use Rattle.host_base.specs.declared.site.Site.{Site}
use Rattle.host_trace.specs.declared.items.Event.{Event}
use Rattle.host_trace.specs.declared.items.Act.{Act}
use Rattle.host_trace.specs.declared.items.Item.{Item}
use Rattle.host_trace.specs.declared.items.Item.TheVariants.{In, Out}
use Rattle.host_trace.specs.Kinds.{names_child, is_stop}
use Rattle.host_trace.specs.Projections.{own, children, start_count, accepted_count, stopped, last_secs}
use Rattle.own_traces.specs.Whose.{has, is_common, is_of, are_of}
use Rattle.own_traces.specs.Moved.{Moved}
use Rattle.own_traces.specs.OwnFits.{was_accepted}
use Rattle.own_traces.proofs.BetweenLaws.{any_own, no_child_more}
use Rattle.own_traces.proofs.BlockLaws.{moved}
use Rattle.own_traces.proofs.SameLaws.{children-own, says}
use Rattle.many_conns.specs.Lists.{AreRising, AtMid, Mid, Waits, numbers}
use Rattle.many_conns.specs.Kind.{AreTicks, Fitting, Gone, Kind, Laws, StepOwn}

module _ {C : Type 0} (K : Kind C) (laws : Laws K) where
  -- ---- the numbers K of connections

  pub numbers-set : (conns : List C) (i : ℕ) (x d : C) → i < length conns → (K.number_of x) ≡ (K.number_of (get_or conns i d)) → numbers K (set conns i x) ≡ numbers K conns
  numbers-set [] i x d lt e = absurd (omega arith)
  numbers-set (y ∷ conns) zero x d lt e = ap (λ n. n ∷ numbers K conns) e
  numbers-set (y ∷ conns) (suc i) x d lt e = ap (λ ns. (K.number_of y) ∷ ns) (numbers-set conns i x d (omega arith) e)

  pub has-number : (conns : List C) (i : ℕ) (d : C) → i < length conns → has (numbers K conns) (K.number_of (get_or conns i d)) ≡ true
  has-number [] i d lt = absurd (omega arith)
  has-number (y ∷ conns) zero d lt = or_left _ _ (eq-eqb (K.number_of y) (K.number_of y) refl)
  has-number (y ∷ conns) (suc i) d lt = or_right ((K.number_of y) == (K.number_of (get_or conns i d))) _ (has-number conns i d (omega arith))

  pub numbers_differ : (conns : List C) (i j : ℕ) (d : C) → AreRising K conns → i < length conns → j < length conns → j ≢ i →
      (K.number_of (get_or conns j d)) ≢ (K.number_of (get_or conns i d))
  numbers_differ conns i j d rising li lj other e = elim (cases_order i j) [
    | inl same ↦ other (sym same)
    | inr (inl less) ↦ absurd (omega (arith, rising i j d less lj, e))
    | inr (inr more) ↦ absurd (omega (arith, rising j i d more li, e))
  ]

  -- a write at i that keeps the number there keeps the number at each place
  pub number-at : (conns : List C) (i j : ℕ) (new x d : C) → i < length conns → j < length conns → (K.number_of new) ≡ (K.number_of (get_or conns i x)) →
      (K.number_of (get_or (set conns i new) j d)) ≡ (K.number_of (get_or conns j d))
  number-at conns i j new x d li lj e = elim (cases_eq j i) [
    | inl here ↦
        ap (λ k. (K.number_of (get_or (set conns i new) k d))) here
        ∙ (ap (λ y. (K.number_of y)) (get_or-set_same conns i new d li)
        ∙ (e ∙ (ap (λ y. (K.number_of y)) (get_or_default conns i x d li) ∙ ap (λ k. (K.number_of (get_or conns k d))) (sym here))))
    | inr other ↦ ap (λ y. (K.number_of y)) (get_or-set_other conns i j new d other)
  ]

  pub any_false : (acts : List Act) → list_any is_stop (map Out acts) ≡ false
  any_false [] = refl
  any_false (a ∷ acts) = any_false acts

  -- acts are no Stop
  pub stopped-acts : (V : List Item) (acts : List Act) → stopped (V ++ map Out acts) ≡ false → stopped V ≡ false
  stopped-acts V acts e = (or_parts (stopped V) (list_any is_stop (map Out acts)) (sym (list_any-append is_stop V (map Out acts)) ∙ e)).0

  -- ---- one connection makes its step

  pub at_false : (site : Site) (b : Bool) (limit : ℕ) (event : Event) (x : C) (L : List Item) → b ≡ false → K.stands site x L → AtMid K b site limit event x L
  at_false site true limit event x L e s = absurd (cc)
  at_false site false limit event x L e s = s

  pub at_moved : (site : Site) (b : Bool) (limit : ℕ) (event : Event) (x : C) (M N : List Item) → M ≡ N → AtMid K b site limit event x M → AtMid K b site limit event x N
  at_moved site b limit event x M N e m = subst (λ l. AtMid K b site limit event x l) e m

  pub at_wait : (site : Site) (b : Bool) (limit : ℕ) (event : Event) (x : C) (L : List Item) → b ≡ true → AtMid K b site limit event x L → Waits K site limit event x L
  at_wait site true limit event x L e m = m
  at_wait site false limit event x L e m = absurd (cc)

  -- what the step of the connection at place i gives
  pub record Stepped (waits : ℕ → Bool) (site : Site) (limit : ℕ) (event : Event) (conns : List C) (V : List Item) (c : ℕ) (acts : List Act) : Type 0 where
    pub mid : Mid K waits site limit event conns (V ++ map Out acts)
    pub moved : Moved V c acts
    pub alone : are_of c (children V c) (start_count V) acts ≡ true

  pub mid_step : (site : Site) (waits later : ℕ → Bool) (limit : ℕ) (event : Event) (conns : List C) (V : List Item) (i : ℕ) (x new : C) (acts : List Act) →
      Mid K waits site limit event conns V → AreRising K conns → i < length conns → x ≡ get_or conns i x → (K.number_of new) ≡ (K.number_of x) →
      waits i ≡ true → later i ≡ false → ((j : ℕ) → j ≢ i → later j ≡ waits j) →
      (is_common (In event) || is_of (K.number_of x) (children V (K.number_of x)) (start_count V) (In event)) ≡ true →
      ((L : List Item) → K.stands site x L → Fitting limit (K.number_of x) (start_count V) (last_secs V) L event → StepOwn K site x (start_count V) event acts new L) →
      Stepped later site limit event (set conns i new) V (K.number_of x) acts
  mid_step site waits later limit event conns V i x new acts m rising lt at same wait done rest mine own_step =
      let c = (K.number_of x) in
      let b = m.between in
      let w : Waits K site limit event x (own V c) =
      subst (λ y. Waits K site limit event y (own V (K.number_of y))) (sym at)
      (at_wait site (waits i) limit event (get_or conns i x) (own V (K.number_of (get_or conns i x))) wait (m.each i x lt)) in
      let kids : children w.was c ≡ children V c =
      sym (no_child_more w.was (In event) c refl) ∙ (ap (λ l. children l c) (sym w.grew) ∙ children-own V c b) in
      let fitting : Fitting limit c (start_count V) (last_secs V) w.was event = record {
        mine = subst (λ ks. (is_common (In event) || is_of c ks (start_count V) (In event)) ≡ true) (sym kids) mine;
        fits = w.fits;
        told = ap was_accepted (sym w.grew) ∙ (b.accepts c ∙ lt-ltb c (accepted_count V) (subst (λ y. (K.number_of y) < accepted_count V) (sym at) (m.known i x lt)));
        fresh = λ k le.
            (or_parts (list_any (names_child k) w.was) (list_any (names_child k) (In event ∷ []))
            (sym (list_any-append (names_child k) w.was (In event ∷ []))
            ∙ (ap (list_any (names_child k)) (sym w.grew) ∙ any_own (names_child k) V c (b.named k le)))).0;
        clock = sym (says V c b).clock ∙ ap last_secs w.grew;
      } in
      let step = own_step w.was w.stands fitting in
      let alone : are_of c (children V c) (start_count V) acts ≡ true = subst (λ ks. are_of c ks (start_count V) acts ≡ true) kids step.alone in
      let known : c < accepted_count V = subst (λ y. (K.number_of y) < accepted_count V) (sym at) (m.known i x lt) in
      let mv = moved acts V c b known alone in
      let mine' : own (V ++ map Out acts) c ≡ w.was ++ In event ∷ map Out acts =
      mv.mine ∙ (ap (λ l. l ++ map Out acts) w.grew ∙ append_assoc w.was (In event ∷ []) (map Out acts)) in
      let stands : K.stands site new (own (V ++ map Out acts) (K.number_of new)) =
      subst (λ (n : ℕ). K.stands site new (own (V ++ map Out acts) n)) (sym same) (subst (λ l. K.stands site new l) (sym mine') step.stands) in
      let nums : numbers K (set conns i new) ≡ numbers K conns = numbers-set conns i new x lt (same ∙ ap (λ y. (K.number_of y)) at) in
      record {
        moved = mv;
        alone = alone;
        mid = record {
          each = λ j d ltj.
              let ltj' : j < length conns = subst (λ n. j < n) (length-set conns i new) ltj in
              elim (cases_eq j i) [
                | inl here ↦
                    let is : get_or (set conns i new) j d ≡ new = ap (λ k. get_or (set conns i new) k d) here ∙ get_or-set_same conns i new d lt in
                    subst (λ y. AtMid K (later j) site limit event y (own (V ++ map Out acts) (K.number_of y))) (sym is)
                    (at_false site (later j) limit event new _ (ap later here ∙ done) stands)
                | inr other ↦
                    let is : get_or (set conns i new) j d ≡ get_or conns j d = get_or-set_other conns i j new d other in
                    let differ : (K.number_of (get_or conns j d)) ≢ c =
                    λ e. numbers_differ conns i j d rising lt ltj' other (e ∙ ap (λ y. (K.number_of y)) (at ∙ get_or_default conns i x d lt)) in
                    subst (λ y. AtMid K (later j) site limit event y (own (V ++ map Out acts) (K.number_of y))) (sym is)
                    (subst (λ w. AtMid K w site limit event (get_or conns j d) (own (V ++ map Out acts) (K.number_of (get_or conns j d)))) (sym (rest j other))
                    (at_moved site (waits j) limit event (get_or conns j d) _ _ (sym (mv.others (K.number_of (get_or conns j d)) differ)) (m.each j d ltj')))
              ];
          gone = λ e lte absent.
              let absent' : has (numbers K conns) e ≡ false = ap (λ ns. has ns e) (sym nums) ∙ absent in
              let differ : e ≢ c = λ is. false≢true (sym absent' ∙ (ap (λ (n : ℕ). has (numbers K conns) n) (is ∙ ap (λ y. (K.number_of y)) at) ∙ has-number conns i x lt)) in
              subst (λ l. Gone K site e l) (sym (mv.others e differ)) (m.gone e (subst (λ n. e < n) mv.accepted lte) absent');
          fresh = λ e le go.
              let le' : accepted_count V ≤ e = subst (λ n. n ≤ e) mv.accepted le in
              let differ : e ≢ c = λ is. absurd (omega (arith, le', known, is)) in
              subst AreTicks (sym (mv.others e differ)) (m.fresh e le' (stopped-acts V acts go));
          known = λ j d ltj.
              let ltj' : j < length conns = subst (λ n. j < n) (length-set conns i new) ltj in
              subst (λ n. (K.number_of (get_or (set conns i new) j d)) < n) (sym mv.accepted)
              (subst (λ (n : ℕ). n < accepted_count V) (sym (number-at conns i j new x d lt ltj' (same ∙ ap (λ y. (K.number_of y)) at))) (m.known j d ltj'));
          between = mv.between;
        };
      }
