-- Acts of one connection alone, and events: what they leave of the lists of all connections.
use Rattle.std.proofs.Common.{◌≡◌, ◌≢◌, ℕ, ◌<◌, Bool, true, false, List, [], ◌∷◌, ◌++◌, map, Some, None, refl, sym, ◌∙◌, ap, subst, append-nil, append_assoc, arith, inl, inr}
use Rattle.std.specs.Prelude.{◌==◌, ◌||◌, ◌&&◌}
use Rattle.std.specs.List.{list_any}
use Rattle.std.proofs.lemmas.Bool.{cases_eq, or_cases, or_from, or_left, or_parts, and_parts, eqb-true, eq-eqb, ne_eqb, false_from_ne_true, false≢true, cond-true, cond-false}
use Rattle.host_base.specs.declared.launch.Peer.{Peer}
use Rattle.host_trace.specs.declared.items.Event.{Event}
use Rattle.host_trace.specs.declared.items.Event.TheVariants.{Accepted, Tick, Stop}
use Rattle.host_trace.specs.declared.items.Act.{Act}
use Rattle.host_trace.specs.declared.items.Act.TheVariants.{Start}
use Rattle.host_trace.specs.declared.items.Item.{Item}
use Rattle.host_trace.specs.declared.items.Item.TheVariants.{In, Out}
use Rattle.host_trace.specs.Kinds.{names, names_child, is_accepted, is_tick, is_stop}
use Rattle.host_trace.specs.Projections.{own, is_own, children, start_count, accepted_count, names_one_of}
use Rattle.host_trace.proofs.OwnLaws.{own-push}
use Rattle.own_traces.specs.Whose.{has, is_a_start, is_common, is_of, are_of, with_child, next_child, next_after, kids_after}
use Rattle.own_traces.specs.Between.{Between}
use Rattle.own_traces.specs.Moved.{Moved, Heard, HeardByAll}
use Rattle.own_traces.specs.OwnLaws.{Begins}
use Rattle.host_trace.proofs.ProjectionLaws.{accepted_count-push}
use Rattle.own_traces.proofs.ViewLaws.{conn_named, child_named, is_it, has_it, names-named, names_child-named, names_one_of-named, is_own-named, is_of-plain, kind, of_conn, of_child, of_none}
use Rattle.own_traces.proofs.BetweenLaws.{children-with, start_count-next, accepted_count-same, between-push, between-start}

-- ---- whose an item is

-- an item of c names no other connection, and a child of c alone
pub record Whose (T : List Item) (c : ℕ) (x : Item) : Type 0 where
  pub conns : (d : ℕ) → names d x ≡ true → d ≡ c
  pub kids : (k : ℕ) → names_child k x ≡ true → has (children T c) k ≡ true

pub who : (T : List Item) (c n : ℕ) (x : Item) → is_a_start x ≡ false → is_of c (children T c) n x ≡ true → Whose T c x
who T c n x plain is =
    let either : (is_it (conn_named x) c || has_it (children T c) (child_named x)) ≡ true =
    sym (ap (λ b. b || has_it (children T c) (child_named x)) (names-named c x)) ∙ (sym (ap (λ b. names c x || b) (names_one_of-named (children T c) x)) ∙ (sym (is_of-plain c (children T c) n x plain) ∙ is)) in
    elim (kind x plain) [
      | of_conn e conn child ↦
          let at : (is_it (Some e) c || has_it (children T c) None) ≡ true = subst (λ o. (is_it (Some e) c || has_it (children T c) o) ≡ true) child (subst (λ o. (is_it o c || has_it (children T c) (child_named x)) ≡ true) conn either) in
          let same : c ≡ e = elim (or_cases _ _ at) [ inl h ↦ eqb-true c e h | inr h ↦ absurd (false≢true h) ] in
          record {
            conns = λ d h. eqb-true d e (sym (ap (λ o. is_it o d) conn) ∙ (sym (names-named d x) ∙ h)) ∙ sym same;
            kids = λ k h. absurd (false≢true (sym (ap (λ o. is_it o k) child) ∙ (sym (names_child-named k x) ∙ h)));
          }
      | of_child k conn child ↦
          let at : (is_it None c || has_it (children T c) (Some k)) ≡ true = subst (λ o. (is_it None c || has_it (children T c) o) ≡ true) child (subst (λ o. (is_it o c || has_it (children T c) (child_named x)) ≡ true) conn either) in
          record {
            conns = λ d h. absurd (false≢true (sym (ap (λ o. is_it o d) conn) ∙ (sym (names-named d x) ∙ h)));
            kids = λ m h.
                let e : m ≡ k = eqb-true m k (sym (ap (λ o. is_it o m) child) ∙ (sym (names_child-named m x) ∙ h)) in
                subst (λ i. has (children T c) i ≡ true) (sym e) at;
          }
      | of_none conn child ↦
          let at : (is_it None c || has_it (children T c) None) ≡ true = subst (λ o. (is_it None c || has_it (children T c) o) ≡ true) child (subst (λ o. (is_it o c || has_it (children T c) (child_named x)) ≡ true) conn either) in
          absurd (false≢true at)
    ]

-- it is none of another's
pub not_anothers : (T : List Item) (c d : ℕ) (x : Item) → Between T → is_a_start x ≡ false → Whose T c x → d ≢ c →
    (names d x || names_one_of (children T d) x) ≡ false
not_anothers T c d x b plain w other =
    or_from _ _ (false_from_ne_true _ (λ h. other (w.conns d h)))
    (names_one_of-named (children T d) x ∙
    (elim (kind x plain) [
      | of_conn e conn child ↦ ap (has_it (children T d)) child
      | of_child k conn child ↦
          ap (has_it (children T d)) child ∙ false_from_ne_true _ (λ h. other (b.apart d c k h
          (w.kids k (names_child-named k x ∙ (ap (λ o. is_it o k) child ∙ eq-eqb k k refl)))))
      | of_none conn child ↦ ap (has_it (children T d)) child
    ]))

-- the list of whoever has the item, and of whoever has not
pub own-has : (T : List Item) (c : ℕ) (x : Item) → is_own c (children T c) (accepted_count T) x ≡ true → own (T ++ x ∷ []) c ≡ own T c ++ x ∷ []
own-has T c x h = own-push T c x ∙ ap (λ more. own T c ++ more) (cond-true _ (x ∷ []) [] h)

pub own-has_not : (T : List Item) (c : ℕ) (x : Item) → is_own c (children T c) (accepted_count T) x ≡ false → own (T ++ x ∷ []) c ≡ own T c
own-has_not T c x h = own-push T c x ∙ (ap (λ more. own T c ++ more) (cond-false _ (x ∷ []) [] h) ∙ append-nil (own T c))

-- ---- one item of c

record One (T : List Item) (c : ℕ) (x : Item) : Type 0 where
  mine : own (T ++ x ∷ []) c ≡ own T c ++ x ∷ []
  others : (d : ℕ) → d ≢ c → own (T ++ x ∷ []) d ≡ own T d
  between : Between (T ++ x ∷ [])

one_plain : (T : List Item) (c : ℕ) (x : Item) → Between T → c < accepted_count T → is_a_start x ≡ false → is_common x ≡ false →
    is_accepted x ≡ false → is_of c (children T c) (start_count T) x ≡ true → One T c x
one_plain T c x b known plain special accept is =
    let w = who T c (start_count T) x plain is in
    let count : accepted_count (T ++ x ∷ []) ≡ accepted_count T = accepted_count-same T x accept in
    record {
      mine = own-has T c x (is_own-named c _ _ x special ∙ (sym (is_of-plain c _ _ x plain) ∙ is));
      others = λ d other. own-has_not T d x (is_own-named d _ _ x special ∙ not_anothers T c d x b plain w other);
      between = between-push T x b plain
          (λ d h. let e : d ≡ c = w.conns d h in omega (arith, e, known, count))
          (λ k h. b.below c k (w.kids k h));
    }

one_start : (T : List Item) (c k d j hop : ℕ) (launch : _) → Between T → c < accepted_count T →
    is_of c (children T c) (start_count T) (Out (Start k d j hop launch)) ≡ true → One T c (Out (Start k d j hop launch))
one_start T c k d j hop launch b known is =
    let parts = and_parts (c == d) (start_count T == k) is in
    let same : c ≡ d = eqb-true c d parts.0 in
    let next : k ≡ start_count T = sym (eqb-true (start_count T) k parts.1) in
    record {
      mine = own-has T c (Out (Start k d j hop launch)) (is_own-named c (children T c) (accepted_count T) (Out (Start k d j hop launch)) refl ∙ or_left _ _ parts.0);
      others = λ e other. own-has_not T e (Out (Start k d j hop launch))
          (is_own-named e (children T e) (accepted_count T) (Out (Start k d j hop launch)) refl
          ∙ or_from _ _ (ne_eqb e d (λ h. other (h ∙ sym same)))
          (false_from_ne_true _ (λ h. absurd (omega (arith, b.below e k h, next)))));
      between = between-start T k d j hop launch b next (omega (arith, same, known));
    }

one_act : (T : List Item) (c : ℕ) (a : Act) → Between T → c < accepted_count T → is_of c (children T c) (start_count T) (Out a) ≡ true → One T c (Out a)
one_act T c (Start k d j hop launch) b known is = one_start T c k d j hop launch b known is
one_act T c _ b known is = one_plain T c _ b known refl refl refl is

-- ---- acts of c

pub moved : (acts : List Act) (T : List Item) (c : ℕ) → Between T → c < accepted_count T → are_of c (children T c) (start_count T) acts ≡ true → Moved T c acts
moved [] T c b known are = record {
  mine = ap (λ U. own U c) (append-nil T) ∙ sym (append-nil (own T c));
  others = λ d other. ap (λ U. own U d) (append-nil T);
  between = subst Between (sym (append-nil T)) b;
  count = ap start_count (append-nil T);
  accepted = ap accepted_count (append-nil T);
  rises = λ low le. le;
}
moved (a ∷ acts) T c b known are =
    let parts = and_parts _ (are_of c (with_child (children T c) c (Out a)) (next_child (start_count T) (Out a)) acts) are in
    let one = one_act T c a b known parts.0 in
    let count : accepted_count (T ++ Out a ∷ []) ≡ accepted_count T = accepted_count-same T (Out a) refl in
    let next : start_count (T ++ Out a ∷ []) ≡ next_child (start_count T) (Out a) = start_count-next T (Out a) in
    let later : are_of c (children (T ++ Out a ∷ []) c) (start_count (T ++ Out a ∷ [])) acts ≡ true =
    ap (λ ks. are_of c ks (start_count (T ++ Out a ∷ [])) acts) (children-with T (Out a) c)
    ∙ (ap (λ n. are_of c (with_child (children T c) c (Out a)) n acts) next ∙ parts.1) in
    let rest = moved acts (T ++ Out a ∷ []) c one.between (omega (arith, known, count)) later in
    let flat : (T ++ Out a ∷ []) ++ map Out acts ≡ T ++ Out a ∷ map Out acts = append_assoc T (Out a ∷ []) (map Out acts) in
    record {
      mine = ap (λ U. own U c) (sym flat) ∙ (rest.mine ∙ (ap (λ l. l ++ map Out acts) one.mine ∙ append_assoc (own T c) (Out a ∷ []) (map Out acts)));
      others = λ d other. ap (λ U. own U d) (sym flat) ∙ (rest.others d other ∙ one.others d other);
      between = subst Between flat rest.between;
      count = ap start_count (sym flat) ∙ (rest.count ∙ ap (λ n. next_after n acts) next);
      accepted = ap accepted_count (sym flat) ∙ (rest.accepted ∙ count);
      rises = λ low le. (c, le, parts.0, rest.rises c (omega arith));
    }

-- ---- events

pub not_accepted : (x : Item) → is_common x ≡ false → is_accepted x ≡ false
not_accepted x e = (or_parts (is_accepted x) (is_tick x) (or_parts (is_accepted x || is_tick x) (is_stop x) e).0).0

event_plain : (T : List Item) (c : ℕ) (event : Event) → Between T → c < accepted_count T → is_common (In event) ≡ false → is_accepted (In event) ≡ false →
    is_of c (children T c) (start_count T) (In event) ≡ true → Heard T c event
event_plain T c event b known special accept is =
    let one = one_plain T c (In event) b known refl special accept is in
    record { mine = one.mine; others = one.others; between = one.between; count = start_count-next T (In event); accepted = accepted_count-same T (In event) accept }

-- an event of c alone
pub heard : (T : List Item) (c : ℕ) (event : Event) → Between T → c < accepted_count T → is_common (In event) ≡ false →
    is_of c (children T c) (start_count T) (In event) ≡ true → Heard T c event
heard T c event b known special is =
    event_plain T c event b known special (not_accepted (In event) special) is

-- ---- Tick and Stop are of everybody

own_last : (a : Bool) → (a || true) ≡ true
own_last true = refl
own_last false = refl

pub own-tick : (T : List Item) (secs c : ℕ) → own (T ++ In (Tick secs) ∷ []) c ≡ own T c ++ In (Tick secs) ∷ []
own-tick T secs c = own-has T c (In (Tick secs)) (or_left _ _ (own_last _))

pub own-stop : (T : List Item) (c : ℕ) → own (T ++ In Stop ∷ []) c ≡ own T c ++ In Stop ∷ []
own-stop T c = own-has T c (In Stop) (own_last _)

-- an event that names nobody keeps what holds between the connections
pub between-nobody : (T : List Item) (event : Event) → Between T → ((c : ℕ) → names c (In event) ≡ false) → ((k : ℕ) → names_child k (In event) ≡ false) →
    Between (T ++ In event ∷ [])
between-nobody T event b conns kids =
    between-push T (In event) b refl (λ c h. absurd (false≢true (sym (conns c) ∙ h))) (λ k h. absurd (false≢true (sym (kids k) ∙ h)))

-- ---- Accepted is of the new connection alone

any_none : {X : Type 0} (xs : List X) → list_any (λ x. false) xs ≡ false
any_none [] = refl
any_none (x ∷ xs) = any_none xs

pub own-accepted : (T : List Item) (peer : Peer) → own (T ++ In (Accepted peer) ∷ []) (accepted_count T) ≡ own T (accepted_count T) ++ In (Accepted peer) ∷ []
own-accepted T peer = own-has T (accepted_count T) (In (Accepted peer)) (or_left _ _ (or_left _ _ (or_left _ _ (or_left _ _ (eq-eqb (accepted_count T) (accepted_count T) refl)))))

pub own-accepted_others : (T : List Item) (peer : Peer) (d : ℕ) → d ≢ accepted_count T → own (T ++ In (Accepted peer) ∷ []) d ≡ own T d
own-accepted_others T peer d other =
    own-has_not T d (In (Accepted peer))
    (or_from _ _ (or_from _ _ (or_from _ _ (or_from _ _ (ne_eqb (accepted_count T) d (λ e. other (sym e))) refl) (any_none (children T d))) refl) refl)

-- ---- what holds between connections stays

pub heard_by_all-tick : (T : List Item) (secs : ℕ) → Between T → HeardByAll T (Tick secs)
heard_by_all-tick T secs b = record {
  all = λ c. own-tick T secs c;
  between = between-nobody T (Tick secs) b (λ c. refl) (λ k. refl);
  count = start_count-next T (In (Tick secs));
  accepted = accepted_count-same T (In (Tick secs)) refl;
}

pub heard_by_all-stop : (T : List Item) → Between T → HeardByAll T Stop
heard_by_all-stop T b = record {
  all = λ c. own-stop T c;
  between = between-nobody T Stop b (λ c. refl) (λ k. refl);
  count = start_count-next T (In Stop);
  accepted = accepted_count-same T (In Stop) refl;
}

pub begins : (T : List Item) (peer : Peer) → Between T → Begins T peer
begins T peer b = record {
  mine = own-accepted T peer;
  others = λ d other. own-accepted_others T peer d other;
  between = between-nobody T (Accepted peer) b (λ c. refl) (λ k. refl);
  count = start_count-next T (In (Accepted peer));
  accepted = accepted_count-push T (In (Accepted peer));
}

-- ---- acts in two goes

and_assoc : (a b c : Bool) → (a && (b && c)) ≡ (a && b && c)
and_assoc true b c = refl
and_assoc false b c = refl

pub are_of-append : (c : ℕ) (ks : List ℕ) (n : ℕ) (xs ys : List Act) →
    are_of c ks n (xs ++ ys) ≡ (are_of c ks n xs && are_of c (kids_after ks c xs) (next_after n xs) ys)
are_of-append c ks n [] ys = refl
are_of-append c ks n (x ∷ xs) ys =
    ap (λ b. is_of c ks n (Out x) && b) (are_of-append c (with_child ks c (Out x)) (next_child n (Out x)) xs ys)
    ∙ and_assoc (is_of c ks n (Out x)) (are_of c (with_child ks c (Out x)) (next_child n (Out x)) xs) _

pub next_after-append : (n : ℕ) (xs ys : List Act) → next_after n (xs ++ ys) ≡ next_after (next_after n xs) ys
next_after-append n [] ys = refl
next_after-append n (x ∷ xs) ys = next_after-append (next_child n (Out x)) xs ys

pub children-after : (L : List Item) (c : ℕ) (acts : List Act) → children (L ++ map Out acts) c ≡ kids_after (children L c) c acts
children-after L c [] = ap (λ l. children l c) (append-nil L)
children-after L c (a ∷ acts) =
    ap (λ l. children l c) (sym (append_assoc L (Out a ∷ []) (map Out acts)))
    ∙ (children-after (L ++ Out a ∷ []) c acts ∙ ap (λ ks. kids_after ks c acts) (children-with L (Out a) c))

-- an item that names a connection or a child of it is of none but one
pub is_of-names : (T : List Item) (c d : ℕ) (x : Item) → Between T → is_a_start x ≡ false → is_of c (children T c) (start_count T) x ≡ true →
    is_of d (children T d) (start_count T) x ≡ true → d ≡ c
is_of-names T c d x b plain h i = elim (cases_eq d c) [
  | inl same ↦ same
  | inr other ↦ absurd (false≢true (sym (not_anothers T c d x b plain (who T c (start_count T) x plain h) other) ∙ (sym (is_of-plain d (children T d) (start_count T) x plain) ∙ i)))
]
