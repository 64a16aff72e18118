-- The rules between connections, of one step.
use Rattle.std.proofs.Common.{◌≡◌, ℕ, suc, ◌+◌, ◌<◌, Bool, true, false, List, [], ◌∷◌, ◌++◌, map, Some, None, refl, sym, ◌∙◌, ap, subst, append-nil, append_assoc, arith, inl, inr}
use Rattle.std.specs.Prelude.{◌==◌, if◌then◌else◌}
use Rattle.std.specs.List.{list_any}
use Rattle.std.proofs.lemmas.Bool.{cases_Bool, cases_lt, or_cases, or_left, or_right, and_parts, and_from, eq-eqb, eqb-true, ne_eqb, false≢true, cond-true, cond-false, le-leb, lt-ltb}
use Rattle.std.proofs.lemmas.List.Folds.{list_any-append}
use Rattle.std.proofs.lemmas.Grind.{flat_map-append}
use Rattle.host_base.specs.declared.site.Site.{Site}
use Rattle.host_trace.specs.declared.items.Event.{Event}
use Rattle.host_trace.specs.declared.items.Event.TheVariants.{Accepted, ClientBytes, ClientEof, ClientGone, Wrote, Started, StartFailed, StartFull, ChildBytes, ChildEof, ChildBroken, Took, InputGone, Exited, WsText, WsBinary, WsClosed, WsBad, NoRoom, Tick, Stop}
use Rattle.host_trace.specs.declared.items.Act.{Act}
use Rattle.host_trace.specs.declared.items.Act.TheVariants.{WantClient, Write, Shut, Start, Feed, EndInput, WantChild, Kill, Release, Upgrade, Says, CloseWs}
use Rattle.host_trace.specs.declared.items.Item.{Item}
use Rattle.host_trace.specs.declared.items.Item.TheVariants.{In, Out}
use Rattle.host_trace.specs.Kinds.{child_started, is_accepted, names}
use Rattle.host_trace.specs.Projections.{children, start_count, accepted_count}
use Rattle.host_trace.specs.Trace.{step_of, after_step}
use Rattle.own_traces.specs.Whose.{has, is_common, is_of, are_of, Rises}
use Rattle.own_traces.specs.Between.{Between}
use Rattle.own_traces.proofs.BetweenLaws.{children-with, start_count-next, accepted_count-same}
use Rattle.own_traces.proofs.BlockLaws.{moved, who}
use Rattle.trace_model.specs.Between.{BetweenGood, are_in_turn, is_numbered_from, is_slot_kept, may_act, or_least, owner_of_act, owner_of_event, starter}

-- ---- whose a child is

has_later : (b : Bool) (d k : ℕ) (rest : List ℕ) → has rest k ≡ true → has ((if b then d ∷ [] else []) ++ rest) k ≡ true
has_later true d k rest h = or_right (d == k) (has rest k) h
has_later false d k rest h = h

has_here : (b : Bool) (d k : ℕ) (rest : List ℕ) → b ≡ true → (d == k) ≡ true → has ((if b then d ∷ [] else []) ++ rest) k ≡ true
has_here true d k rest is e = or_left (d == k) (has rest k) e
has_here false d k rest is e = absurd (false≢true is)

has_not : (b : Bool) (d k : ℕ) (rest : List ℕ) → (d == k) ≡ false → has ((if b then d ∷ [] else []) ++ rest) k ≡ true → has rest k ≡ true
has_not true d k rest other h = elim (or_cases (d == k) (has rest k) h) [
  | inl e ↦ absurd (false≢true (sym other ∙ e))
  | inr e ↦ e
]
has_not false d k rest other h = h

other_way : (k d : ℕ) → (k == d) ≡ false → (d == k) ≡ false
other_way k d none = ne_eqb d k (λ e. false≢true (sym none ∙ eq-eqb k d (sym e)))

-- the first Start of a child tells it
starter_is : (T : List Item) (c k : ℕ) → ((d : ℕ) → has (children T d) k ≡ true → d ≡ c) → has (children T c) k ≡ true → starter k T ≡ Some c
starter_is [] c k one h = absurd (false≢true h)
starter_is (In event ∷ T) c k one h = starter_is T c k one h
starter_is (Out (Start d e j hop launch) ∷ T) c k one h = elim (cases_Bool (k == d)) [
  | inl is ↦
      cond-true (k == d) (Some e) (starter k T) is
      ∙ ap Some (one e (has_here (e == e) d k (children T e) (eq-eqb e e refl) (eq-eqb d k (sym (eqb-true k d is)))))
  | inr other ↦
      cond-false (k == d) (Some e) (starter k T) other
      ∙ starter_is T c k (λ m g. one m (has_later (m == e) d k (children T m) g)) (has_not (c == e) d k (children T c) (other_way k d other) h)
]
starter_is (Out (WantClient d) ∷ T) c k one h = starter_is T c k one h
starter_is (Out (Write d bytes) ∷ T) c k one h = starter_is T c k one h
starter_is (Out (Shut d why) ∷ T) c k one h = starter_is T c k one h
starter_is (Out (Feed d bytes) ∷ T) c k one h = starter_is T c k one h
starter_is (Out (EndInput d) ∷ T) c k one h = starter_is T c k one h
starter_is (Out (WantChild d) ∷ T) c k one h = starter_is T c k one h
starter_is (Out (Kill d) ∷ T) c k one h = starter_is T c k one h
starter_is (Out (Release d) ∷ T) c k one h = starter_is T c k one h
starter_is (Out (Upgrade d rest) ∷ T) c k one h = starter_is T c k one h
starter_is (Out (Says d texts) ∷ T) c k one h = starter_is T c k one h
starter_is (Out (CloseWs d code) ∷ T) c k one h = starter_is T c k one h

child_owner : (T : List Item) (c k : ℕ) → Between T → has (children T c) k ≡ true → starter k T ≡ Some c
child_owner T c k b h = starter_is T c k (λ d g. b.apart d c k g h) h

same : (n : ℕ) → (n == n) ≡ true
same n = eq-eqb n n refl

-- ---- whose an event or an act is

pub event_owner : (T : List Item) (c n : ℕ) (event : Event) → Between T → is_common (In event) ≡ false → is_of c (children T c) n (In event) ≡ true → owner_of_event T event ≡ Some c
event_owner T c n (ClientBytes d bytes) b special is = ap Some ((who T c n (In (ClientBytes d bytes)) refl is).conns d (same d))
event_owner T c n (ClientEof d) b special is = ap Some ((who T c n (In (ClientEof d)) refl is).conns d (same d))
event_owner T c n (ClientGone d) b special is = ap Some ((who T c n (In (ClientGone d)) refl is).conns d (same d))
event_owner T c n (Wrote d m) b special is = ap Some ((who T c n (In (Wrote d m)) refl is).conns d (same d))
event_owner T c n (WsText d bytes) b special is = ap Some ((who T c n (In (WsText d bytes)) refl is).conns d (same d))
event_owner T c n (WsBinary d) b special is = ap Some ((who T c n (In (WsBinary d)) refl is).conns d (same d))
event_owner T c n (WsClosed d) b special is = ap Some ((who T c n (In (WsClosed d)) refl is).conns d (same d))
event_owner T c n (WsBad d) b special is = ap Some ((who T c n (In (WsBad d)) refl is).conns d (same d))
event_owner T c n (NoRoom d) b special is = ap Some ((who T c n (In (NoRoom d)) refl is).conns d (same d))
event_owner T c n (Started k) b special is = child_owner T c k b ((who T c n (In (Started k)) refl is).kids k (same k))
event_owner T c n (StartFailed k) b special is = child_owner T c k b ((who T c n (In (StartFailed k)) refl is).kids k (same k))
event_owner T c n (StartFull k seen) b special is = child_owner T c k b ((who T c n (In (StartFull k seen)) refl is).kids k (same k))
event_owner T c n (ChildBytes k bytes) b special is = child_owner T c k b ((who T c n (In (ChildBytes k bytes)) refl is).kids k (same k))
event_owner T c n (ChildEof k) b special is = child_owner T c k b ((who T c n (In (ChildEof k)) refl is).kids k (same k))
event_owner T c n (ChildBroken k) b special is = child_owner T c k b ((who T c n (In (ChildBroken k)) refl is).kids k (same k))
event_owner T c n (Took k m) b special is = child_owner T c k b ((who T c n (In (Took k m)) refl is).kids k (same k))
event_owner T c n (InputGone k) b special is = child_owner T c k b ((who T c n (In (InputGone k)) refl is).kids k (same k))
event_owner T c n (Exited k) b special is = child_owner T c k b ((who T c n (In (Exited k)) refl is).kids k (same k))
event_owner T c n _ b special is = absurd (false≢true (sym special))

-- an act of c names c, or a child of c
data Names (T : List Item) (c : ℕ) (act : Act) : Type 0 where
  conn : names c (Out act) ≡ true → owner_of_act T act ≡ Some c → Names T c act
  child : (k : ℕ) → has (children T c) k ≡ true → owner_of_act T act ≡ starter k T → Names T c act

act_names : (T : List Item) (c n : ℕ) (act : Act) → is_of c (children T c) n (Out act) ≡ true → Names T c act
act_names T c n (WantClient d) is = let e = (who T c n (Out (WantClient d)) refl is).conns d (same d) in conn (eq-eqb c d (sym e)) (ap Some e)
act_names T c n (Write d bytes) is = let e = (who T c n (Out (Write d bytes)) refl is).conns d (same d) in conn (eq-eqb c d (sym e)) (ap Some e)
act_names T c n (Shut d why) is = let e = (who T c n (Out (Shut d why)) refl is).conns d (same d) in conn (eq-eqb c d (sym e)) (ap Some e)
act_names T c n (Upgrade d rest) is = let e = (who T c n (Out (Upgrade d rest)) refl is).conns d (same d) in conn (eq-eqb c d (sym e)) (ap Some e)
act_names T c n (Says d texts) is = let e = (who T c n (Out (Says d texts)) refl is).conns d (same d) in conn (eq-eqb c d (sym e)) (ap Some e)
act_names T c n (CloseWs d code) is = let e = (who T c n (Out (CloseWs d code)) refl is).conns d (same d) in conn (eq-eqb c d (sym e)) (ap Some e)
act_names T c n (Start k d j hop launch) is = let e = and_parts (c == d) (n == k) is in conn e.0 (ap Some (sym (eqb-true c d e.0)))
act_names T c n (Feed k bytes) is = child k ((who T c n (Out (Feed k bytes)) refl is).kids k (same k)) refl
act_names T c n (EndInput k) is = child k ((who T c n (Out (EndInput k)) refl is).kids k (same k)) refl
act_names T c n (WantChild k) is = child k ((who T c n (Out (WantChild k)) refl is).kids k (same k)) refl
act_names T c n (Kill k) is = child k ((who T c n (Out (Kill k)) refl is).kids k (same k)) refl
act_names T c n (Release k) is = child k ((who T c n (Out (Release k)) refl is).kids k (same k)) refl

act_owner : (T : List Item) (c : ℕ) (act : Act) → Between T → Names T c act → owner_of_act T act ≡ Some c
act_owner T c act b (conn named is) = is
act_owner T c act b (child k has_it is) = is ∙ child_owner T c k b has_it

-- ---- it was accepted

accepted_acts : (T : List Item) (acts : List Act) → accepted_count (T ++ map Out acts) ≡ accepted_count T
accepted_acts T [] = ap accepted_count (append-nil T)
accepted_acts T (a ∷ acts) =
    ap accepted_count (sym (append_assoc T (Out a ∷ []) (map Out acts))) ∙ (accepted_acts (T ++ Out a ∷ []) acts ∙ accepted_count-same T (Out a) refl)

named_known : (U : List Item) (c : ℕ) → Between U → list_any (names c) U ≡ true → c < accepted_count U
named_known U c b h = elim (cases_lt c (accepted_count U)) [
  | inl less ↦ less
  | inr more ↦ absurd (false≢true (sym (b.known c (omega (arith, more))) ∙ h))
]

child_known : (U : List Item) (c k : ℕ) → Between U → has (children U c) k ≡ true → c < accepted_count U
child_known U c k b h =
    let o = b.owned k (b.below c k h) in
    subst (λ (d : ℕ). d < accepted_count U) (b.apart o.owner c k o.is h) o.known

has_front : (ks more : List ℕ) (k : ℕ) → has ks k ≡ true → has (ks ++ more) k ≡ true
has_front [] more k h = absurd (false≢true h)
has_front (j ∷ ks) more k h = elim (or_cases (j == k) (has ks k) h) [
  | inl e ↦ or_left (j == k) (has (ks ++ more) k) e
  | inr e ↦ or_right (j == k) (has (ks ++ more) k) (has_front ks more k e)
]

act_known : (U T : List Item) (c : ℕ) (act : Act) (acts : List Act) → Between U → U ≡ T ++ map Out (act ∷ acts) → Names T c act → c < accepted_count T
act_known U T c act acts b is (conn named owner) =
    let any : list_any (names c) U ≡ true =
    ap (list_any (names c)) is ∙ (list_any-append (names c) T (Out act ∷ map Out acts) ∙ or_right (list_any (names c) T) _ (or_left (names c (Out act)) _ named)) in
    let less : c < accepted_count U = named_known U c b any in
    let count : accepted_count U ≡ accepted_count T = ap accepted_count is ∙ accepted_acts T (act ∷ acts) in
    omega (arith, less, count)
act_known U T c act acts b is (child k has_it owner) =
    let more : has (children U c) k ≡ true =
    ap (λ l. has (children l c) k) is ∙ (ap (λ ks. has ks k) (flat_map-append (child_started c) T (Out act ∷ map Out acts)) ∙ has_front (children T c) _ k has_it) in
    let less : c < accepted_count U = child_known U c k b more in
    let count : accepted_count U ≡ accepted_count T = ap accepted_count is ∙ accepted_acts T (act ∷ acts) in
    omega (arith, less, count)

-- ---- the acts of a step, in turn

regrouped : (U T : List Item) (act : Act) (acts : List Act) → U ≡ T ++ map Out (act ∷ acts) → U ≡ (T ++ Out act ∷ []) ++ map Out acts
regrouped U T act acts is = is ∙ sym (append_assoc T (Out act ∷ []) (map Out acts))

turns_all : (U T : List Item) (low high : ℕ) (acts : List Act) → Between U → Between T → U ≡ T ++ map Out acts → Rises T low acts high → are_in_turn T None low acts ≡ true
turns_all U T low high [] bU b is r = refl
turns_all U T low high (act ∷ acts) bU b is r =
    let c = r.0 in
    let whose = act_names T c (start_count T) act r.2 in
    let known = act_known U T c act acts bU is whose in
    let owner = act_owner T c act b whose in
    let next = moved (act ∷ []) T c b known (and_from _ _ r.2 refl) in
    let rest = turns_all U (T ++ Out act ∷ []) c high acts bU next.between (regrouped U T act acts is) r.3 in
    and_from _ _ (subst (λ o. may_act T None low o ≡ true) (sym owner) (and_from _ _ (le-leb low c r.1) (lt-ltb c (accepted_count T) known)))
    (subst (λ o. are_in_turn (T ++ Out act ∷ []) None (or_least o low) acts ≡ true) (sym owner) rest)

turns_one : (U T : List Item) (c least : ℕ) (acts : List Act) → Between U → Between T → U ≡ T ++ map Out acts → are_of c (children T c) (start_count T) acts ≡ true
    → are_in_turn T (Some c) least acts ≡ true
turns_one U T c least [] bU b is are = refl
turns_one U T c least (act ∷ acts) bU b is are =
    let parts = and_parts (is_of c (children T c) (start_count T) (Out act)) _ are in
    let whose = act_names T c (start_count T) act parts.0 in
    let known = act_known U T c act acts bU is whose in
    let owner = act_owner T c act b whose in
    let next = moved (act ∷ []) T c b known (and_from _ _ parts.0 refl) in
    let later : are_of c (children (T ++ Out act ∷ []) c) (start_count (T ++ Out act ∷ [])) acts ≡ true =
    (λ i. are_of c (children-with T (Out act) c i) (start_count-next T (Out act) i) acts) ∙ parts.1 in
    let rest = turns_one U (T ++ Out act ∷ []) c (or_least (Some c) least) acts bU next.between (regrouped U T act acts is) later in
    and_from _ _ (subst (λ o. may_act T (Some c) least o ≡ true) (sym owner) (and_from _ _ (same c) (lt-ltb c (accepted_count T) known)))
    (subst (λ o. are_in_turn (T ++ Out act ∷ []) (Some c) (or_least o least) acts ≡ true) (sym owner) rest)

-- ---- the numbers of Starts

numbered : (T : List Item) (low high : ℕ) (acts : List Act) → Rises T low acts high → is_numbered_from (start_count T) acts ≡ true
numbered T low high [] r = refl
numbered T low high (Start k d j hop launch ∷ acts) r =
    let number = eqb-true (start_count T) k (and_parts (r.0 == d) (start_count T == k) r.2).1 in
    and_from _ _ (eq-eqb k (start_count T) (sym number))
    (subst (λ n. is_numbered_from n acts ≡ true) (start_count-next T (Out (Start k d j hop launch)) ∙ plus_one (start_count T)) (numbered (T ++ Out (Start k d j hop launch) ∷ []) r.0 high acts r.3))
  where
    plus_one : (n : ℕ) → n + 1 ≡ suc n
    plus_one n = omega arith
numbered T low high (WantClient d ∷ acts) r = subst (λ n. is_numbered_from n acts ≡ true) (start_count-next T (Out (WantClient d))) (numbered (T ++ Out (WantClient d) ∷ []) r.0 high acts r.3)
numbered T low high (Write d bytes ∷ acts) r = subst (λ n. is_numbered_from n acts ≡ true) (start_count-next T (Out (Write d bytes))) (numbered (T ++ Out (Write d bytes) ∷ []) r.0 high acts r.3)
numbered T low high (Shut d why ∷ acts) r = subst (λ n. is_numbered_from n acts ≡ true) (start_count-next T (Out (Shut d why))) (numbered (T ++ Out (Shut d why) ∷ []) r.0 high acts r.3)
numbered T low high (Feed k bytes ∷ acts) r = subst (λ n. is_numbered_from n acts ≡ true) (start_count-next T (Out (Feed k bytes))) (numbered (T ++ Out (Feed k bytes) ∷ []) r.0 high acts r.3)
numbered T low high (EndInput k ∷ acts) r = subst (λ n. is_numbered_from n acts ≡ true) (start_count-next T (Out (EndInput k))) (numbered (T ++ Out (EndInput k) ∷ []) r.0 high acts r.3)
numbered T low high (WantChild k ∷ acts) r = subst (λ n. is_numbered_from n acts ≡ true) (start_count-next T (Out (WantChild k))) (numbered (T ++ Out (WantChild k) ∷ []) r.0 high acts r.3)
numbered T low high (Kill k ∷ acts) r = subst (λ n. is_numbered_from n acts ≡ true) (start_count-next T (Out (Kill k))) (numbered (T ++ Out (Kill k) ∷ []) r.0 high acts r.3)
numbered T low high (Release k ∷ acts) r = subst (λ n. is_numbered_from n acts ≡ true) (start_count-next T (Out (Release k))) (numbered (T ++ Out (Release k) ∷ []) r.0 high acts r.3)
numbered T low high (Upgrade d rest ∷ acts) r = subst (λ n. is_numbered_from n acts ≡ true) (start_count-next T (Out (Upgrade d rest))) (numbered (T ++ Out (Upgrade d rest) ∷ []) r.0 high acts r.3)
numbered T low high (Says d texts ∷ acts) r = subst (λ n. is_numbered_from n acts ≡ true) (start_count-next T (Out (Says d texts))) (numbered (T ++ Out (Says d texts) ∷ []) r.0 high acts r.3)
numbered T low high (CloseWs d code ∷ acts) r = subst (λ n. is_numbered_from n acts ≡ true) (start_count-next T (Out (CloseWs d code))) (numbered (T ++ Out (CloseWs d code) ∷ []) r.0 high acts r.3)

heard_count : (T : List Item) (event : Event) → start_count (T ++ In event ∷ []) ≡ start_count T
heard_count T event = start_count-next T (In event)

heard_numbers : (T : List Item) (event : Event) (high : ℕ) (acts : List Act) → Rises (T ++ In event ∷ []) 0 acts high → is_numbered_from (start_count T) acts ≡ true
heard_numbers T event high acts r = subst (λ n. is_numbered_from n acts ≡ true) (heard_count T event) (numbered (T ++ In event ∷ []) 0 high acts r)

heard_then : (T : List Item) (event : Event) (acts : List Act) → after_step T event acts ≡ (T ++ In event ∷ []) ++ map Out acts
heard_then T event acts = sym (append_assoc T (In event ∷ []) (map Out acts))

-- ---- slots: none but a step of an Accepted says anything of them

pub slots_else : (site : Site) (T : List Item) (event : Event) (acts : List Act) → is_accepted (In event) ≡ false → is_slot_kept site T event acts ≡ true
slots_else site T (Accepted peer) acts none = absurd (false≢true (sym none))
slots_else site T _ acts none = refl

-- ---- a step

-- of all connections
pub good_all : (site : Site) (T : List Item) (event : Event) (acts : List Act) (high : ℕ) → owner_of_event T event ≡ None → Between (T ++ In event ∷ []) → Between (after_step T event acts)
    → Rises (T ++ In event ∷ []) 0 acts high → is_slot_kept site T event acts ≡ true → BetweenGood site (step_of T event acts)
good_all site T event acts high none b bU r slots = record {
  numbers = heard_numbers T event high acts r;
  owners = subst (λ o. are_in_turn (T ++ In event ∷ []) o 0 acts ≡ true) (sym none) (turns_all (after_step T event acts) (T ++ In event ∷ []) 0 high acts bU b (heard_then T event acts) r);
  slots = slots;
}

-- of one of them
pub good_one : (site : Site) (T : List Item) (event : Event) (acts : List Act) (c high : ℕ) → owner_of_event T event ≡ Some c → Between (T ++ In event ∷ []) → Between (after_step T event acts)
    → Rises (T ++ In event ∷ []) 0 acts high → are_of c (children (T ++ In event ∷ []) c) (start_count (T ++ In event ∷ [])) acts ≡ true → is_slot_kept site T event acts ≡ true
    → BetweenGood site (step_of T event acts)
good_one site T event acts c high owner b bU r are slots = record {
  numbers = heard_numbers T event high acts r;
  owners = subst (λ o. are_in_turn (T ++ In event ∷ []) o 0 acts ≡ true) (sym owner) (turns_one (after_step T event acts) (T ++ In event ∷ []) c 0 acts bU b (heard_then T event acts) are);
  slots = slots;
}

-- .. that no connection answers
pub good_none : (site : Site) (T : List Item) (event : Event) → is_accepted (In event) ≡ false → BetweenGood site (step_of T event [])
good_none site T event none = record { numbers = refl; owners = refl; slots = slots_else site T event [] none }
