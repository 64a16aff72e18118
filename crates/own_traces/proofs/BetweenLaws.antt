-- One more item keeps what holds between the connections.
use Rattle.std.proofs.Common.{◌≡◌, ℕ, suc, ◌+◌, ◌<◌, ◌≤◌, Bool, true, false, List, [], ◌∷◌, ◌++◌, refl, sym, ◌∙◌, ap, subst, append-nil, arith, length, length-append, add-one, add-zero, inl, inr}
use Rattle.std.specs.Prelude.{◌==◌, ◌||◌, ◌&&◌, ◌⊎◌, if◌then◌else◌, filter, nat_lt}
use Rattle.std.specs.List.{list_any}
use Rattle.std.proofs.lemmas.Bool.{cases_Bool, or_cases, or_from, or_left, or_right, or_parts, eqb-true, eq-eqb, ne_eqb, false_from_ne_true, false≢true, cases_lt, cases_eq, lt-ltb, le-ltb, cond-true, cond-false}
use Rattle.host_trace.specs.declared.items.Event.TheVariants.{Accepted, ClientBytes, ClientEof, ClientGone, Wrote, Started, StartFailed, StartFull, ChildBytes, ChildEof, ChildBroken, Took, InputGone, Exited, WsText, WsBinary, WsClosed, WsBad, NoRoom, Tick, Stop}
use Rattle.host_trace.specs.declared.items.Act.TheVariants.{Start}
use Rattle.host_trace.specs.declared.items.Item.{Item}
use Rattle.host_trace.specs.declared.items.Item.TheVariants.{In, Out}
use Rattle.host_base.specs.declared.launch.Launch.{Launch}
use Rattle.host_trace.specs.Kinds.{names, names_child, is_accepted, is_tick, is_stop, start_number}
use Rattle.host_trace.specs.Projections.{own, own_after, is_own, is_known, names_one_of, children, start_numbers, start_count, accepted_count}
use Rattle.std.proofs.lemmas.List.Folds.{list_any-append}
use Rattle.std.proofs.lemmas.List.Elements.{filter-append}
use Rattle.host_trace.proofs.OwnLaws.{own-push}
use Rattle.host_trace.proofs.FirstLaws.{flat_map-push, list_any-push}
use Rattle.host_trace.proofs.ProjectionLaws.{children-push, accepted_count-push}
use Rattle.own_traces.specs.Whose.{has, numbers_below, is_a_start, with_child, next_child}
use Rattle.own_traces.specs.OwnFits.{was_accepted}
use Rattle.own_traces.specs.Between.{Between}
use Rattle.own_traces.proofs.ViewLaws.{no_start, starts_none, with_child-started, names_one_of-named}

-- ---- the projections after one more item

pub children-with : (T : List Item) (x : Item) (c : ℕ) → children (T ++ x ∷ []) c ≡ with_child (children T c) c x
children-with T x c = children-push T x c ∙ with_child-started (children T c) c x

plus_number : (n : ℕ) (x : Item) → n + length (start_number x) ≡ next_child n x
plus_number n (Out (Start k d j hop launch)) = refl
plus_number n _ = add-zero n

pub start_count-next : (T : List Item) (x : Item) → start_count (T ++ x ∷ []) ≡ next_child (start_count T) x
start_count-next T x =
    ap length (flat_map-push start_number T x) ∙ (length-append (start_numbers T) (start_number x) ∙ plus_number (start_count T) x)

pub accepted_count-grows : (T : List Item) (x : Item) → accepted_count T ≤ accepted_count (T ++ x ∷ [])
accepted_count-grows T x = rw (accepted_count-push T x) (omega arith)

pub accepted_count-same : (T : List Item) (x : Item) → is_accepted x ≡ false → accepted_count (T ++ x ∷ []) ≡ accepted_count T
accepted_count-same T x e = accepted_count-push T x ∙ (ap (λ (b : Bool). accepted_count T + (if b then 1 else 0)) e ∙ add-zero (accepted_count T))

pub no_child_more : (T : List Item) (x : Item) (c : ℕ) → is_a_start x ≡ false → children (T ++ x ∷ []) c ≡ children T c
no_child_more T x c e = children-push T x c ∙ (ap (λ ks. children T c ++ ks) (starts_none c x e) ∙ append-nil (children T c))

no_number_more : (T : List Item) (x : Item) → is_a_start x ≡ false → start_numbers (T ++ x ∷ []) ≡ start_numbers T
no_number_more T x e = flat_map-push start_number T x ∙ (ap (λ ks. start_numbers T ++ ks) (no_start x e) ∙ append-nil (start_numbers T))

-- ---- what is picked out of a list with one more item

pick : (b q : Bool) (x : Item) → (q ≡ true → b ≡ true) → filter (λ y. q) (if b then x ∷ [] else []) ≡ filter (λ y. q) (x ∷ [])
pick true q x h = refl
pick false true x h = absurd (false≢true (h refl))
pick false false x h = refl

filter-one : (q : Item → Bool) (b : Bool) (x : Item) → filter q (if b then x ∷ [] else []) ≡ filter (λ y. q x) (if b then x ∷ [] else [])
filter-one q true x = refl
filter-one q false x = refl

picked_more : (q : Item → Bool) (T : List Item) (c : ℕ) (x : Item) →
    (q x ≡ true → is_own c (children T c) (accepted_count T) x ≡ true) → filter q (own T c) ≡ filter q T →
    filter q (own (T ++ x ∷ []) c) ≡ filter q (T ++ x ∷ [])
picked_more q T c x h e =
    let b = is_own c (children T c) (accepted_count T) x in
    ap (filter q) (own-push T c x)
    ∙ (filter-append q (own T c) (if b then x ∷ [] else [])
    ∙ (ap (λ l. l ++ filter q (if b then x ∷ [] else [])) e
    ∙ (ap (λ l. filter q T ++ l) (filter-one q b x ∙ pick b (q x) x h)
    ∙ sym (filter-append q T (x ∷ [])))))

filter-none : (q : Item → Bool) (xs : List Item) → list_any q xs ≡ false → filter q xs ≡ []
filter-none q [] h = refl
filter-none q (x ∷ xs) h =
    let parts = or_parts (q x) (list_any q xs) h in
    cond-false (q x) (x ∷ filter q xs) (filter q xs) parts.0 ∙ filter-none q xs parts.1

any_own_after : (q : Item → Bool) (before : List Item) (c : ℕ) (items : List Item) → list_any q items ≡ false → list_any q (own_after before c items) ≡ false
any_own_after q before c [] h = refl
any_own_after q before c (x ∷ items) h =
    let parts = or_parts (q x) (list_any q items) h in
    let later = any_own_after q (before ++ x ∷ []) c items parts.1 in
    elim (is_own c (children before c) (accepted_count before) x) as (λ b. list_any q (if b then x ∷ own_after (before ++ x ∷ []) c items else own_after (before ++ x ∷ []) c items) ≡ false) [
      | true ↦ or_from _ _ parts.0 later
      | false ↦ later
    ]

-- what no item is, no item of its own list is
pub any_own : (q : Item → Bool) (T : List Item) (c : ℕ) → list_any q T ≡ false → list_any q (own T c) ≡ false
any_own q T c h = any_own_after q [] c T h

own_by_name : (c : ℕ) (ks : List ℕ) (count : ℕ) (x : Item) → names c x ≡ true → is_own c ks count x ≡ true
own_by_name c ks count x h = or_left _ _ (or_left _ _ (or_left _ _ (or_right _ _ h)))

own_by_tick : (c : ℕ) (ks : List ℕ) (count : ℕ) (x : Item) → is_tick x ≡ true → is_own c ks count x ≡ true
own_by_tick c ks count x h = or_left _ _ (or_right _ _ h)

any_at : (p : ℕ → Bool) (ks : List ℕ) (k : ℕ) → list_any (λ j. j == k) ks ≡ true → p k ≡ true → list_any p ks ≡ true
any_at p [] k h is = absurd (false≢true h)
any_at p (j ∷ ks) k h is = elim (or_cases (j == k) (list_any (λ j. j == k) ks) h) [
  | inl e ↦ or_left _ _ (subst (λ i. p i ≡ true) (sym (eqb-true j k e)) is)
  | inr later ↦ or_right (p j) _ (any_at p ks k later is)
]

own_by_child : (c : ℕ) (ks : List ℕ) (count : ℕ) (x : Item) (k : ℕ) → has ks k ≡ true → names_child k x ≡ true → is_own c ks count x ≡ true
own_by_child c ks count x k h is = or_left _ _ (or_left _ _ (or_right _ _ (any_at (λ j. names_child j x) ks k h is)))

-- an Accepted names neither a connection nor a child
unnamed : (x : Item) (c : ℕ) (ks : List ℕ) → is_accepted x ≡ true → (names c x || names_one_of ks x || is_tick x || is_stop x) ≡ false
unnamed (In (Accepted peer)) c ks is = or_from _ _ (or_from _ _ (or_from _ _ refl (names_one_of-named ks (In (Accepted peer)))) refl) refl
unnamed (In (ClientBytes d bytes)) c ks is = absurd (false≢true is)
unnamed (In (ClientEof d)) c ks is = absurd (false≢true is)
unnamed (In (ClientGone d)) c ks is = absurd (false≢true is)
unnamed (In (Wrote d n)) c ks is = absurd (false≢true is)
unnamed (In (Started d)) c ks is = absurd (false≢true is)
unnamed (In (StartFailed d)) c ks is = absurd (false≢true is)
unnamed (In (StartFull d seen)) c ks is = absurd (false≢true is)
unnamed (In (ChildBytes d bytes)) c ks is = absurd (false≢true is)
unnamed (In (ChildEof d)) c ks is = absurd (false≢true is)
unnamed (In (ChildBroken d)) c ks is = absurd (false≢true is)
unnamed (In (Took d n)) c ks is = absurd (false≢true is)
unnamed (In (InputGone d)) c ks is = absurd (false≢true is)
unnamed (In (Exited d)) c ks is = absurd (false≢true is)
unnamed (In (WsText d bytes)) c ks is = absurd (false≢true is)
unnamed (In (WsBinary d)) c ks is = absurd (false≢true is)
unnamed (In (WsClosed d)) c ks is = absurd (false≢true is)
unnamed (In (WsBad d)) c ks is = absurd (false≢true is)
unnamed (In (NoRoom d)) c ks is = absurd (false≢true is)
unnamed (In (Tick secs)) c ks is = absurd (false≢true is)
unnamed (In Stop) c ks is = absurd (false≢true is)
unnamed (Out act) c ks is = absurd (false≢true is)

none_either : (b : Bool) → (if b then false else false) ≡ false
none_either true = refl
none_either false = refl

only_first : (a m n o t s : Bool) → (a ≡ true → (n || o || t || s) ≡ false) →
    (if (a && m || n || o || t || s) then a || false else false) ≡ (a && m)
only_first false m n o t s h = none_either (n || o || t || s)
only_first true true n o t s h = refl
only_first true false n o t s h = rw (h refl) refl

lt_or_eq : (c n : ℕ) → (nat_lt c n || (n == c)) ≡ nat_lt c (n + 1)
lt_or_eq c n = elim (cases_lt c n) [
  | inl lt ↦ ap (λ b. b || (n == c)) (lt-ltb c n lt) ∙ sym (lt-ltb c (n + 1) (omega arith))
  | inr le ↦ elim (cases_eq n c) [
    | inl e ↦ or_right _ _ (eq-eqb n c e) ∙ sym (lt-ltb c (n + 1) (omega arith))
    | inr ne ↦ or_from _ _ (le-ltb c n le) (ne_eqb n c ne) ∙ sym (le-ltb c (n + 1) (omega arith))
  ]
]

-- the Accepted that counts as c is the one that stands in the list of c
accepts_more : (T : List Item) (c : ℕ) (x : Item) → was_accepted (own T c) ≡ is_known T c → was_accepted (own (T ++ x ∷ []) c) ≡ is_known (T ++ x ∷ []) c
accepts_more T c x was =
    let b = is_own c (children T c) (accepted_count T) x in
    ap was_accepted (own-push T c x)
    ∙ (list_any-append is_accepted (own T c) (if b then x ∷ [] else [])
    ∙ (ap (λ a. a || list_any is_accepted (if b then x ∷ [] else [])) was
    ∙ (ap (λ a. is_known T c || a) (any_if b x ∙ only_first (is_accepted x) (accepted_count T == c) (names c x) (names_one_of (children T c) x) (is_tick x) (is_stop x) (unnamed x c (children T c)))
    ∙ (counted (is_accepted x) ∙ sym (ap (nat_lt c) (accepted_count-push T x))))))
  where
    any_if : (b : Bool) (x : Item) → list_any is_accepted (if b then x ∷ [] else []) ≡ (if b then is_accepted x || false else false)
    any_if true x = refl
    any_if false x = refl

    or_nothing : (b : Bool) → (b || false) ≡ b
    or_nothing true = refl
    or_nothing false = refl

    counted : (a : Bool) → (nat_lt c (accepted_count T) || a && (accepted_count T == c)) ≡ nat_lt c (accepted_count T + (if a then 1 else 0))
    counted true = lt_or_eq c (accepted_count T)
    counted false = or_nothing _ ∙ ap (nat_lt c) (sym (add-zero (accepted_count T)))

-- ---- an item that starts no child

pub between-push : (T : List Item) (x : Item) → Between T → is_a_start x ≡ false →
    ((c : ℕ) → names c x ≡ true → c < accepted_count (T ++ x ∷ [])) →
    ((k : ℕ) → names_child k x ≡ true → k < start_count T) → Between (T ++ x ∷ [])
between-push T x b plain conns kids =
    let same : (c : ℕ) → children (T ++ x ∷ []) c ≡ children T c = λ c. no_child_more T x c plain in
    let nums : start_numbers (T ++ x ∷ []) ≡ start_numbers T = no_number_more T x plain in
    let count : start_count (T ++ x ∷ []) ≡ start_count T = ap length nums in
    let grows : accepted_count T ≤ accepted_count (T ++ x ∷ []) = accepted_count-grows T x in
    let was : (c k : ℕ) → has (children (T ++ x ∷ []) c) k ≡ true → has (children T c) k ≡ true = λ c k h. subst (λ ks. has ks k ≡ true) (same c) h in
    record {
      numbers = nums ∙ (b.numbers ∙ ap numbers_below (sym count));
      below = λ c k h. subst (λ n. k < n) (sym count) (b.below c k (was c k h));
      apart = λ c d k h i. b.apart c d k (was c k h) (was d k i);
      named = λ k h.
          let h' : start_count T ≤ k = subst (λ n. n ≤ k) count h in
          list_any-push (names_child k) T x
          ∙ or_from _ _ (b.named k h') (false_from_ne_true _ (λ is. absurd (omega (arith, kids k is, h'))));
      known = λ c h.
          list_any-push (names c) T x
          ∙ or_from _ _ (b.known c (omega (arith, h, grows))) (false_from_ne_true _ (λ is. absurd (omega (arith, conns c is, h))));
      owned = λ k h.
          let o = b.owned k (subst (λ n. k < n) count h) in
          record { owner = o.owner; is = subst (λ ks. has ks k ≡ true) (sym (same o.owner)) o.is; known = omega (arith, o.known, grows) };
      conns = λ c. picked_more (names c) T c x (own_by_name c (children T c) (accepted_count T) x) (b.conns c);
      kids = λ c k h. picked_more (names_child k) T c x (own_by_child c (children T c) (accepted_count T) x k (was c k h)) (b.kids c k (was c k h));
      ticks = λ c. picked_more is_tick T c x (own_by_tick c (children T c) (accepted_count T) x) (b.ticks c);
      stops = λ c. picked_more is_stop T c x (or_right _ _) (b.stops c);
      accepts = λ c. accepts_more T c x (b.accepts c);
    }

-- ---- the Start of the next child

pub has-with : (ks : List ℕ) (k m : ℕ) → has (ks ++ k ∷ []) m ≡ (has ks m || (k == m))
has-with ks k m = list_any-push (λ j. j == m) ks k

-- a child of d after the Start of k for c: it was one before, or it is k and d is c
has_cases : (T : List Item) (k c j hop : ℕ) (launch : Launch) (d m : ℕ) →
    has (children (T ++ Out (Start k c j hop launch) ∷ []) d) m ≡ true → (has (children T d) m ≡ true) ⊎ ((d ≡ c) × (m ≡ k))
has_cases T k c j hop launch d m h =
    let h' : has (if d == c then children T d ++ k ∷ [] else children T d) m ≡ true =
    subst (λ ks. has ks m ≡ true) (children-with T (Out (Start k c j hop launch)) d) h in
    elim (cases_Bool (d == c)) [
      | inl e ↦
          let g : (has (children T d) m || (k == m)) ≡ true =
          sym (has-with (children T d) k m) ∙ (ap (λ ks. has ks m) (sym (cond-true _ (children T d ++ k ∷ []) (children T d) e)) ∙ h') in
          elim (or_cases _ _ g) [
            | inl old ↦ inl old
            | inr new ↦ inr (eqb-true d c e, sym (eqb-true k m new))
          ]
      | inr e ↦ inl (ap (λ ks. has ks m) (sym (cond-false _ (children T d ++ k ∷ []) (children T d) e)) ∙ h')
    ]

has_still : (T : List Item) (k c j hop : ℕ) (launch : Launch) (d m : ℕ) →
    has (children T d) m ≡ true → has (children (T ++ Out (Start k c j hop launch) ∷ []) d) m ≡ true
has_still T k c j hop launch d m h =
    subst (λ ks. has ks m ≡ true) (sym (children-with T (Out (Start k c j hop launch)) d))
    (elim (d == c) as (λ b. has (if b then children T d ++ k ∷ [] else children T d) m ≡ true) [
      | true ↦ has-with (children T d) k m ∙ or_left _ _ h
      | false ↦ h
    ])

has_new : (T : List Item) (k c j hop : ℕ) (launch : Launch) → has (children (T ++ Out (Start k c j hop launch) ∷ []) c) k ≡ true
has_new T k c j hop launch =
    subst (λ ks. has ks k ≡ true) (sym (children-with T (Out (Start k c j hop launch)) c))
    (ap (λ ks. has ks k) (cond-true (c == c) (children T c ++ k ∷ []) (children T c) (eq-eqb c c refl))
    ∙ (has-with (children T c) k k ∙ or_right _ _ (eq-eqb k k refl)))

pub between-start : (T : List Item) (k c j hop : ℕ) (launch : Launch) → Between T → k ≡ start_count T → c < accepted_count T →
    Between (T ++ Out (Start k c j hop launch) ∷ [])
between-start T k c j hop launch b is_next is_known =
    let count : start_count (T ++ Out (Start k c j hop launch) ∷ []) ≡ suc (start_count T) =
    start_count-next T (Out (Start k c j hop launch)) ∙ add-one (start_count T) in
    let grows : accepted_count T ≤ accepted_count (T ++ Out (Start k c j hop launch) ∷ []) = accepted_count-grows T (Out (Start k c j hop launch)) in
    let same : accepted_count (T ++ Out (Start k c j hop launch) ∷ []) ≡ accepted_count T = accepted_count-same T (Out (Start k c j hop launch)) refl in
    record {
      numbers =
          flat_map-push start_number T (Out (Start k c j hop launch))
          ∙ (ap (λ l. l ++ k ∷ []) b.numbers
          ∙ (ap (λ (m : ℕ). numbers_below (start_count T) ++ m ∷ []) is_next ∙ ap numbers_below (sym count)));
      below = λ d m h. subst (λ n. m < n) (sym count) (elim (has_cases T k c j hop launch d m h) [
        | inl old ↦ omega (arith, b.below d m old)
        | inr new ↦ omega (arith, new.1, is_next)
      ]);
      apart = λ d e m h i. elim (has_cases T k c j hop launch d m h) [
        | inl old ↦ elim (has_cases T k c j hop launch e m i) [
          | inl old' ↦ b.apart d e m old old'
          | inr new' ↦ absurd (omega (arith, b.below d m old, new'.1, is_next))
        ]
        | inr new ↦ elim (has_cases T k c j hop launch e m i) [
          | inl old' ↦ absurd (omega (arith, b.below e m old', new.1, is_next))
          | inr new' ↦ new.0 ∙ sym new'.0
        ]
      ];
      named = λ m h.
          let h' : suc (start_count T) ≤ m = subst (λ n. n ≤ m) count h in
          list_any-push (names_child m) T (Out (Start k c j hop launch))
          ∙ or_from _ _ (b.named m (omega (arith, h'))) (ne_eqb m k (λ e. absurd (omega (arith, h', e, is_next))));
      known = λ d h.
          list_any-push (names d) T (Out (Start k c j hop launch))
          ∙ or_from _ _ (b.known d (omega (arith, h, grows))) (ne_eqb d c (λ e. absurd (omega (arith, h, grows, e, is_known))));
      owned = λ m h.
          let h' : m < suc (start_count T) = subst (λ n. m < n) count h in
          elim (cases_lt m (start_count T)) [
            | inl old ↦
                let o = b.owned m old in
                record { owner = o.owner; is = has_still T k c j hop launch o.owner m o.is; known = omega (arith, o.known, grows) }
            | inr new ↦
                let e : k ≡ m = omega (arith, is_next, new, h') in
                record { owner = c; is = subst (λ i. has (children (T ++ Out (Start k c j hop launch) ∷ []) c) i ≡ true) e (has_new T k c j hop launch); known = omega (arith, is_known, grows) }
          ];
      conns = λ d. picked_more (names d) T d (Out (Start k c j hop launch)) (own_by_name d (children T d) (accepted_count T) (Out (Start k c j hop launch))) (b.conns d);
      kids = λ d m h. elim (has_cases T k c j hop launch d m h) [
        | inl old ↦ picked_more (names_child m) T d (Out (Start k c j hop launch)) (own_by_child d (children T d) (accepted_count T) (Out (Start k c j hop launch)) m old) (b.kids d m old)
        | inr new ↦
            let none : list_any (names_child m) T ≡ false = b.named m (omega (arith, new.1, is_next)) in
            picked_more (names_child m) T d (Out (Start k c j hop launch))
            (λ _. own_by_name d (children T d) (accepted_count T) (Out (Start k c j hop launch)) (eq-eqb d c new.0))
            (filter-none (names_child m) (own T d) (any_own (names_child m) T d none) ∙ sym (filter-none (names_child m) T none))
      ];
      ticks = λ d. picked_more is_tick T d (Out (Start k c j hop launch)) (own_by_tick d (children T d) (accepted_count T) (Out (Start k c j hop launch))) (b.ticks d);
      stops = λ d. picked_more is_stop T d (Out (Start k c j hop launch)) (or_right _ _) (b.stops d);
      accepts = λ d. accepts_more T d (Out (Start k c j hop launch)) (b.accepts d);
    }

pub between-empty : Between []
between-empty = record {
  numbers = refl;
  below = λ c k h. absurd (false≢true h);
  apart = λ c d k h i. absurd (false≢true h);
  named = λ k le. refl;
  known = λ c le. refl;
  owned = λ k lt. absurd (omega (arith, lt));
  conns = λ c. refl;
  kids = λ c k h. absurd (false≢true h);
  ticks = λ c. refl;
  stops = λ c. refl;
  accepts = λ c. sym (le-ltb c 0 (omega arith));
}
