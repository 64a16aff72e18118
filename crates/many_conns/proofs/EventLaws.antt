-- How a step of the core begins at an event, and ends.
use Rattle.std.proofs.Common.{◌≡◌, ◌≢◌, ℕ, ◌+◌, ◌<◌, ◌≤◌, Bool, true, false, List, [], ◌∷◌, ◌++◌, refl, sym, ◌∙◌, ap, subst, arith, inl, inr, length, get_or, leb}
use Rattle.std.specs.Prelude.{◌==◌, ◌||◌, not, filter}
use Rattle.std.specs.List.{AllByRecursion}
use Rattle.std.proofs.lemmas.Bool.{cases_Bool, cases_eq, or_from, or_left, or_right, or_parts, and_from, eqb-true, eq-eqb, ne_eqb, false≢true, cond-true, cond-false, not-true, le-leb, lt-ltb}
use Rattle.std.proofs.lemmas.List.{get_or_default, get_or_append_left, get_or_at, length-append}
use Rattle.std.proofs.lemmas.List.Elements.{All-filter, recursion_from_All}
use Rattle.host_base.specs.declared.site.Site.{Site}
use Rattle.host_base.specs.declared.launch.Peer.{Peer}
use Rattle.host_trace.specs.declared.items.Event.{Event}
use Rattle.host_trace.specs.declared.items.Event.TheVariants.{Accepted, Tick, Stop}
use Rattle.host_trace.specs.declared.items.Item.{Item}
use Rattle.host_trace.specs.declared.items.Item.TheVariants.{In}
use Rattle.host_trace.specs.Kinds.{names_child, is_accepted, is_stop}
use Rattle.host_trace.specs.Projections.{own, children, start_count, accepted_count, stopped, last_secs}
use Rattle.host_trace.specs.Fits.{fits}
use Rattle.host_trace.proofs.ProjectionLaws.{stopped-push, accepted_count-push}
use Rattle.own_traces.specs.Whose.{has, is_common, is_of}
use Rattle.own_traces.specs.Between.{Between}
use Rattle.own_traces.specs.OwnFits.{fits_own, was_accepted}
use Rattle.own_traces.proofs.BetweenLaws.{any_own, accepted_count-same}
use Rattle.own_traces.proofs.BlockLaws.{heard, not_accepted, own-tick, own-stop, between-nobody, own-accepted, own-accepted_others}
use Rattle.own_traces.proofs.SameLaws.{children-own, stopped-own, says}
use Rattle.own_traces.proofs.ViewLaws.{is_of-plain, is_own-named}
use Rattle.many_conns.specs.Lists.{AreRising, AtMid, Lists, Mid, Waits, numbers}
use Rattle.own_traces.proofs.FitLaws.{fits-own}
use Rattle.many_conns.proofs.ListsLaws.{numbers_differ, has-number, at_false}
use Rattle.many_conns.specs.Kind.{AreTicks, Fitting, Gone, Kind, Laws, is_clock_tick}

module _ {C : Type 0} (K : Kind C) (laws : Laws K) where
  at_true : (site : Site) (b : Bool) (limit : ℕ) (event : Event) (x : C) (L : List Item) → b ≡ true → Waits K site limit event x L → AtMid K b site limit event x L
  at_true site true limit event x L e w = w
  at_true site false limit event x L e w = absurd (cc)

  -- before an event that is no Stop it was stopped no more than after it
  was_going : (T : List Item) (x : Item) → stopped (T ++ x ∷ []) ≡ false → stopped T ≡ false
  was_going T x e = (or_parts (stopped T) (is_stop x) (sym (stopped-push T x) ∙ e)).0

  -- an event of a connection, or of a child of its
  own_fits : (limit : ℕ) (T : List Item) (c : ℕ) (event : Event) → Between T → is_common (In event) ≡ false →
      is_of c (children T c) (start_count T) (In event) ≡ true → fits limit T event ≡ true → fits_own limit (own T c) event ≡ true
  own_fits limit T c event b special is f =
      fits-own limit T c event b (is_own-named c (children T c) (accepted_count T) (In event) special ∙ (sym (is_of-plain c (children T c) (start_count T) (In event) refl) ∙ is)) ∙ f

  pub fits_same : (limit : ℕ) (T : List Item) (c : ℕ) (event : Event) → Between T → is_common (In event) ≡ false →
      is_of c (children T c) (start_count T) (In event) ≡ true → fits_own limit (own T c) event ≡ fits limit T event
  fits_same limit T c event b special is =
      fits-own limit T c event b (is_own-named c (children T c) (accepted_count T) (In event) special ∙ (sym (is_of-plain c (children T c) (start_count T) (In event) refl) ∙ is))

  clock_own : (T : List Item) (c : ℕ) (event : Event) → Between T → own (T ++ In event ∷ []) c ≡ own T c ++ In event ∷ [] → Between (T ++ In event ∷ [])
      → last_secs (T ++ In event ∷ []) ≡ last_secs (own T c ++ In event ∷ [])
  clock_own T c event b mine after = sym (says (T ++ In event ∷ []) c after).clock ∙ ap last_secs mine

  -- a connection that is known was accepted
  pub told_by : (V : List Item) (c : ℕ) (L : List Item) → Between V → c < accepted_count V → own V c ≡ L → was_accepted L ≡ true
  told_by V c L b known is = ap was_accepted (sym is) ∙ (b.accepts c ∙ lt-ltb c (accepted_count V) known)

  pub fitting-own : (limit : ℕ) (T : List Item) (c : ℕ) (event : Event) → Between T → is_common (In event) ≡ false →
      is_of c (children T c) (start_count T) (In event) ≡ true → fits limit T event ≡ true → c < accepted_count T
      → Fitting limit c (start_count T) (last_secs (T ++ In event ∷ [])) (own T c) event
  fitting-own limit T c event b special is f known =
      let h = heard T c event b known special is in
      record {
        mine = or_right _ _ (subst (λ ks. is_of c ks (start_count T) (In event) ≡ true) (sym (children-own T c b)) is);
        fits = own_fits limit T c event b special is f;
        told = told_by (T ++ In event ∷ []) c _ h.between (subst (λ n. c < n) (sym (accepted_count-same T (In event) (not_accepted (In event) special))) known) h.mine;
        fresh = λ k le. any_own (names_child k) T c (b.named k le);
        clock = clock_own T c event b h.mine h.between;
      }

  -- ---- an event of one connection that K.needs a slot

  pub one_begins : (site : Site) (limit : ℕ) (event : Event) (conns : List C) (T : List Item) (i : ℕ) (x : C) →
      Lists K site conns T → AreRising K conns → i < length conns → x ≡ get_or conns i x → is_common (In event) ≡ false →
      is_of (K.number_of x) (children T (K.number_of x)) (start_count T) (In event) ≡ true → fits limit T event ≡ true →
      Mid K (λ j. j == i) site limit event conns (T ++ In event ∷ [])
  one_begins site limit event conns T i x l rising lt at special is f =
      let c = (K.number_of x) in
      let b = l.between in
      let known : c < accepted_count T = subst (λ y. (K.number_of y) < accepted_count T) (sym at) (l.known i x lt) in
      let h = heard T c event b known special is in
      let count : accepted_count (T ++ In event ∷ []) ≡ accepted_count T = accepted_count-same T (In event) (not_accepted (In event) special) in
      let stands : K.stands site x (own T c) = subst (λ y. K.stands site y (own T (K.number_of y))) (sym at) (l.live i x lt) in
      let waits : Waits K site limit event x (own (T ++ In event ∷ []) c) =
      record { was = own T c; grew = h.mine; stands = stands; fits = own_fits limit T c event b special is f } in
      record {
        each = λ j d ltj. elim (cases_eq j i) [
          | inl here ↦
              let y : x ≡ get_or conns j d = at ∙ (get_or_default conns i x d lt ∙ ap (λ k. get_or conns k d) (sym here)) in
              subst (λ y. AtMid K (j == i) site limit event y (own (T ++ In event ∷ []) (K.number_of y))) y
              (at_true site (j == i) limit event x _ (eq-eqb j i here) waits)
          | inr other ↦
              let differ : (K.number_of (get_or conns j d)) ≢ c =
              λ e. numbers_differ K laws conns i j d rising lt ltj other (e ∙ ap (λ y. (K.number_of y)) (at ∙ get_or_default conns i x d lt)) in
              at_false K laws site (j == i) limit event (get_or conns j d) _ (ne_eqb j i other)
              (subst (λ l. K.stands site (get_or conns j d) l) (sym (h.others _ differ)) (l.live j d ltj))
        ];
        gone = λ e lte absent.
            let differ : e ≢ c = λ is. false≢true (sym absent ∙ (ap (λ (n : ℕ). has (numbers K conns) n) (is ∙ ap (λ y. (K.number_of y)) at) ∙ has-number K laws conns i x lt)) in
            subst (λ l. Gone K site e l) (sym (h.others e differ)) (l.gone e (subst (λ n. e < n) count lte) absent);
        fresh = λ e le go.
            let le' : accepted_count T ≤ e = subst (λ n. n ≤ e) count le in
            let differ : e ≢ c = λ is. absurd (omega (arith, le', known, is)) in
            subst AreTicks (sym (h.others e differ)) (l.fresh e le' (was_going T (In event) go));
        known = λ j d ltj. subst (λ n. (K.number_of (get_or conns j d)) < n) (sym count) (l.known j d ltj);
        between = h.between;
      }

  -- ---- an event of one connection that K.needs no slot

  pub gone_hears : (site : Site) (limit : ℕ) (event : Event) (conns : List C) (T : List Item) (c : ℕ) →
      Lists K site conns T → c < accepted_count T → has (numbers K conns) c ≡ false → is_common (In event) ≡ false →
      is_of c (children T c) (start_count T) (In event) ≡ true → fits limit T event ≡ true →
      Lists K site conns (T ++ In event ∷ [])
  gone_hears site limit event conns T c l known absent special is f =
      let b = l.between in
      let h = heard T c event b known special is in
      let count : accepted_count (T ++ In event ∷ []) ≡ accepted_count T = accepted_count-same T (In event) (not_accepted (In event) special) in
      record {
        live = λ j d ltj.
            let differ : (K.number_of (get_or conns j d)) ≢ c = λ e. false≢true (sym absent ∙ (ap (λ (n : ℕ). has (numbers K conns) n) (sym e) ∙ has-number K laws conns j d ltj)) in
            subst (λ l. K.stands site (get_or conns j d) l) (sym (h.others _ differ)) (l.live j d ltj);
        gone = λ e lte other. elim (cases_eq e c) [
          | inl same ↦
              subst (λ n. Gone K site n (own (T ++ In event ∷ []) n)) (sym same)
              (subst (λ l. Gone K site c l) (sym h.mine) (laws.idle site c (own T c) limit (start_count T) (last_secs (T ++ In event ∷ [])) event (l.gone c known absent) (fitting-own limit T c event b special is f known)))
          | inr differ ↦ subst (λ l. Gone K site e l) (sym (h.others e differ)) (l.gone e (subst (λ n. e < n) count lte) other)
        ];
        fresh = λ e le go.
            let le' : accepted_count T ≤ e = subst (λ n. n ≤ e) count le in
            let differ : e ≢ c = λ is. absurd (omega (arith, le', known, is)) in
            subst AreTicks (sym (h.others e differ)) (l.fresh e le' (was_going T (In event) go));
        known = λ j d ltj. subst (λ n. (K.number_of (get_or conns j d)) < n) (sym count) (l.known j d ltj);
        between = h.between;
      }

  -- ---- an event of everybody

  all_begin : (site : Site) (limit : ℕ) (event : Event) (conns : List C) (T : List Item) → Lists K site conns T →
      ((c : ℕ) → own (T ++ In event ∷ []) c ≡ own T c ++ In event ∷ []) → is_common (In event) ≡ true → is_accepted (In event) ≡ false →
      Between (T ++ In event ∷ []) → ((c : ℕ) → fits_own limit (own T c) event ≡ true) →
      ((c : ℕ) → accepted_count T ≤ c → stopped (T ++ In event ∷ []) ≡ false → AreTicks (own T c ++ In event ∷ [])) →
      Mid K (λ j. leb 0 j) site limit event conns (T ++ In event ∷ [])
  all_begin site limit event conns T l all common accept between f ticks =
      let count : accepted_count (T ++ In event ∷ []) ≡ accepted_count T = accepted_count-same T (In event) accept in
      record {
        each = λ j d ltj. at_true site (leb 0 j) limit event (get_or conns j d) _ (le-leb 0 j (omega arith))
            (record { was = own T (K.number_of (get_or conns j d)); grew = all _; stands = l.live j d ltj; fits = f _ });
        gone = λ c lt absent.
            subst (λ l. Gone K site c l) (sym (all c))
            (laws.idle site c (own T c) limit (start_count T) (last_secs (T ++ In event ∷ [])) event (l.gone c (subst (λ n. c < n) count lt) absent)
            (record { mine = or_left _ _ common; fits = f c; told = told_by (T ++ In event ∷ []) c _ between lt (all c); fresh = λ k le. any_own (names_child k) T c (l.between.named k le); clock = clock_own T c event l.between (all c) between }));
        fresh = λ c le go. subst AreTicks (sym (all c)) (ticks c (subst (λ n. n ≤ c) count le) go);
        known = λ j d ltj. subst (λ n. (K.number_of (get_or conns j d)) < n) (sym count) (l.known j d ltj);
        between = between;
      }

  ticks-push : (L : List Item) (x : Item) → is_clock_tick x ≡ true → AreTicks L → AreTicks (L ++ x ∷ [])
  ticks-push [] x e ticks = (e, tt)
  ticks-push (y ∷ L) x e ticks = (ticks.0, ticks-push L x e ticks.1)

  pub tick_begins : (site : Site) (limit secs : ℕ) (conns : List C) (T : List Item) → Lists K site conns T → fits limit T (Tick secs) ≡ true → Mid K (λ j. leb 0 j) site limit (Tick secs) conns (T ++ In (Tick secs) ∷ [])
  tick_begins site limit secs conns T l f =
      all_begin site limit (Tick secs) conns T l (own-tick T secs) refl refl (between-nobody T (Tick secs) l.between (λ c. refl) (λ k. refl)) (λ c. f)
      (λ c le go. ticks-push (own T c) (In (Tick secs)) f (l.fresh c le (was_going T (In (Tick secs)) go)))

  pub stop_begins : (site : Site) (limit : ℕ) (conns : List C) (T : List Item) → Lists K site conns T → fits limit T Stop ≡ true → Mid K (λ j. leb 0 j) site limit Stop conns (T ++ In Stop ∷ [])
  stop_begins site limit conns T l f =
      all_begin site limit Stop conns T l (own-stop T) refl refl (between-nobody T Stop l.between (λ c. refl) (λ k. refl))
      (λ c. ap not (stopped-own T c l.between) ∙ f)
      (λ c le go. absurd (false≢true (sym go ∙ (stopped-push T (In Stop) ∙ or_right _ _ refl))))

  -- ---- Accepted

  ticks_quiet : (L : List Item) → AreTicks L → (stopped L ≡ false) × (was_accepted L ≡ false)
  ticks_quiet [] ticks = (refl, refl)
  ticks_quiet (x ∷ L) ticks =
      let rest = ticks_quiet L ticks.1 in
      let one = tick_quiet x ticks.0 in
      (or_from _ _ one.0 rest.0, or_from _ _ one.1 rest.1)
    where
      tick_quiet : (x : Item) → is_clock_tick x ≡ true → (is_stop x ≡ false) × (is_accepted x ≡ false)
      tick_quiet (In (Tick secs)) e = (refl, refl)
      tick_quiet (In Stop) e = absurd (cc)
      tick_quiet (In (Accepted peer)) e = absurd (cc)
      tick_quiet _ e = (refl, refl)

  between-accepted : (T : List Item) (peer : Peer) → Between T → Between (T ++ In (Accepted peer) ∷ [])
  between-accepted T peer b = between-nobody T (Accepted peer) b (λ c. refl) (λ k. refl)

  count-accepted : (T : List Item) (peer : Peer) → accepted_count (T ++ In (Accepted peer) ∷ []) ≡ accepted_count T + 1
  count-accepted T peer = accepted_count-push T (In (Accepted peer))

  pub accepted_begins : (site : Site) (limit : ℕ) (peer : Peer) (conns : List C) (conn : C) (T : List Item) → Lists K site conns T → fits limit T (Accepted peer) ≡ true →
      (K.number_of conn) ≡ accepted_count T → ((L : List Item) → AreTicks L → K.stands site conn L) →
      Mid K (λ j. j == length conns) site limit (Accepted peer) (conns ++ conn ∷ []) (T ++ In (Accepted peer) ∷ [])
  accepted_begins site limit peer conns conn T l f is new =
      let b = l.between in
      let n = accepted_count T in
      let go : stopped T ≡ false = not-true (stopped T) f in
      let ticks = l.fresh n (omega arith) go in
      let quiet = ticks_quiet (own T n) ticks in
      let count = count-accepted T peer in
      let len : length (conns ++ conn ∷ []) ≡ length conns + 1 = length-append conns (conn ∷ []) in
      let waits : Waits K site limit (Accepted peer) conn (own (T ++ In (Accepted peer) ∷ []) (K.number_of conn)) =
      record {
        was = own T n;
        grew = ap (λ m. own (T ++ In (Accepted peer) ∷ []) m) is ∙ own-accepted T peer;
        stands = new (own T n) ticks;
        fits = and_from _ _ (ap not quiet.0) (ap not quiet.1);
      } in
      record {
        each = λ j d ltj. elim (cases_eq j (length conns)) [
          | inl here ↦
              let y : get_or (conns ++ conn ∷ []) j d ≡ conn = get_or_at conns conn [] d j (sym here) in
              subst (λ y. AtMid K (j == length conns) site limit (Accepted peer) y (own (T ++ In (Accepted peer) ∷ []) (K.number_of y))) (sym y)
              (at_true site (j == length conns) limit (Accepted peer) conn _ (eq-eqb j (length conns) here) waits)
          | inr other ↦
              let ltj' : j < length conns = omega (arith, ltj, len, other) in
              let y : get_or (conns ++ conn ∷ []) j d ≡ get_or conns j d = get_or_append_left conns (conn ∷ []) d j ltj' in
              let differ : (K.number_of (get_or conns j d)) ≢ n = λ e. absurd (omega (arith, l.known j d ltj', e)) in
              subst (λ y. AtMid K (j == length conns) site limit (Accepted peer) y (own (T ++ In (Accepted peer) ∷ []) (K.number_of y))) (sym y)
              (at_false K laws site (j == length conns) limit (Accepted peer) (get_or conns j d) _ (ne_eqb j (length conns) other)
              (subst (λ l. K.stands site (get_or conns j d) l) (sym (own-accepted_others T peer _ differ)) (l.live j d ltj')))
        ];
        gone = λ e lte absent.
            let parts = or_parts (has (numbers K conns) e) ((K.number_of conn) == e) (sym (has-push conns conn e) ∙ absent) in
            let differ : e ≢ n = λ same. false≢true (sym parts.1 ∙ eq-eqb (K.number_of conn) e (is ∙ sym same)) in
            subst (λ l. Gone K site e l) (sym (own-accepted_others T peer e differ)) (l.gone e (omega (arith, lte, count, differ)) parts.0);
        fresh = λ e le going.
            let differ : e ≢ n = λ same. absurd (omega (arith, le, count, same)) in
            subst AreTicks (sym (own-accepted_others T peer e differ)) (l.fresh e (omega (arith, le, count)) go);
        known = λ j d ltj. elim (cases_eq j (length conns)) [
          | inl here ↦
              let y : get_or (conns ++ conn ∷ []) j d ≡ conn = get_or_at conns conn [] d j (sym here) in
              subst (λ y. (K.number_of y) < accepted_count (T ++ In (Accepted peer) ∷ [])) (sym y) (omega (arith, count, is))
          | inr other ↦
              let ltj' : j < length conns = omega (arith, ltj, len, other) in
              let y : get_or (conns ++ conn ∷ []) j d ≡ get_or conns j d = get_or_append_left conns (conn ∷ []) d j ltj' in
              subst (λ y. (K.number_of y) < accepted_count (T ++ In (Accepted peer) ∷ [])) (sym y) (omega (arith, count, l.known j d ltj'))
        ];
        between = between-accepted T peer b;
      }
    where
      has-push : (conns : List C) (conn : C) (e : ℕ) → has (numbers K (conns ++ conn ∷ [])) e ≡ (has (numbers K conns) e || ((K.number_of conn) == e))
      has-push [] conn e = or_nothing ((K.number_of conn) == e)
        where
          or_nothing : (b : Bool) → (b || false) ≡ b
          or_nothing true = refl
          or_nothing false = refl
      has-push (y ∷ conns) conn e = ap (λ b. ((K.number_of y) == e) || b) (has-push conns conn e) ∙ sym (or_three ((K.number_of y) == e) (has (numbers K conns) e) ((K.number_of conn) == e))
        where
          or_three : (a b c : Bool) → (a || b || c) ≡ (a || (b || c))
          or_three true b c = refl
          or_three false b c = refl

  -- ---- the end

  pub mid_ends : (site : Site) (waits : ℕ → Bool) (limit : ℕ) (event : Event) (conns : List C) (V : List Item) → Mid K waits site limit event conns V →
      ((j : ℕ) → j < length conns → waits j ≡ false) → Lists K site conns V
  mid_ends site waits limit event conns V m none = record {
    live = λ j d ltj. at_done (waits j) limit event _ _ (none j ltj) (m.each j d ltj);
    gone = m.gone;
    fresh = m.fresh;
    known = m.known;
    between = m.between;
  }
    where
      at_done : (b : Bool) (limit : ℕ) (event : Event) (x : C) (L : List Item) → b ≡ false → AtMid K b site limit event x L → K.stands site x L
      at_done true limit event x L e m = absurd (cc)
      at_done false limit event x L e m = m

  -- ---- those that need no slot give theirs back

  all_gone : (site : Site) (conns : List C) (T : List Item) (c : ℕ) → AllByRecursion (λ x. K.stands site x (own T (K.number_of x))) conns →
      has (numbers K (filter K.needs conns)) c ≡ false → (has (numbers K conns) c ≡ false → Gone K site c (own T c)) → Gone K site c (own T c)
  all_gone site [] T c live absent rest = rest refl
  all_gone site (x ∷ conns) T c live absent rest = elim (cases_Bool (K.needs x)) [
    | inl held ↦
        let kept : has (numbers K (x ∷ filter K.needs conns)) c ≡ false =
        ap (λ xs. has (numbers K xs) c) (sym (cond-true (K.needs x) (x ∷ filter K.needs conns) (filter K.needs conns) held)) ∙ absent in
        let parts = or_parts ((K.number_of x) == c) (has (numbers K (filter K.needs conns)) c) kept in
        all_gone site conns T c live.1 parts.1 (λ none. rest (or_from _ _ parts.0 none))
    | inr free ↦
        let kept : has (numbers K (filter K.needs conns)) c ≡ false =
        ap (λ xs. has (numbers K xs) c) (sym (cond-false (K.needs x) (x ∷ filter K.needs conns) (filter K.needs conns) free)) ∙ absent in
        elim (cases_Bool ((K.number_of x) == c)) [
          | inl same ↦
              let e = eqb-true (K.number_of x) c same in
              record { conn = x; number = e; stands = subst (λ (n : ℕ). K.stands site x (own T n)) e live.0; free = free }
          | inr other ↦ all_gone site conns T c live.1 kept (λ none. rest (or_from _ _ other none))
        ]
  ]

  pub freed : (site : Site) (conns : List C) (T : List Item) → Lists K site conns T → Lists K site (filter K.needs conns) T
  freed site conns T l = record {
    live = All-filter K.needs (λ x. K.stands site x (own T (K.number_of x))) conns l.live;
    gone = λ c lt absent. all_gone site conns T c (recursion_from_All (λ x. K.stands site x (own T (K.number_of x))) conns l.live) absent (l.gone c lt);
    fresh = l.fresh;
    known = All-filter K.needs (λ x. (K.number_of x) < accepted_count T) conns l.known;
    between = l.between;
  }
