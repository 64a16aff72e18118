-- Acts of one connection, and acts that rise from connection to connection, keep the rule on owners.
use Rattle.std.proofs.Common.{◌≡◌, ℕ, ◌<◌, ◌≤◌, Bool, true, false, List, [], ◌∷◌, ◌++◌, Option, Some, None, refl, sym, ◌∙◌, ap, arith, inl, inr}
use Rattle.std.specs.Prelude.{◌==◌, ◌||◌, if◌then◌else◌}
use Rattle.std.specs.List.{list_any}
use Rattle.std.proofs.lemmas.Bool.{cases_Bool, or_cases, or_left, and_parts, and_from, eqb-true, eq-eqb, false≢true, cond-true, cond-false, lt-ltb, le-leb}
use Rattle.host_base.specs.declared.launch.Launch.{Launch}
use Rattle.host_trace.specs.declared.items.Act.{Act}
use Rattle.host_trace.specs.declared.items.Act.TheVariants.{WantClient, Write, Shut, Start, Feed, EndInput, WantChild, Kill, Release, Upgrade, Says, CloseWs}
use Rattle.host_trace.specs.declared.items.Item.{Item}
use Rattle.host_trace.specs.declared.items.Item.TheVariants.{Out}
use Rattle.host_trace.specs.Projections.{children, start_count, accepted_count, is_known}
use Rattle.own_traces.specs.Whose.{has, is_of, are_of, with_child, next_child, Rises}
use Rattle.own_traces.specs.Between.{Between}
use Rattle.own_traces.proofs.BetweenLaws.{children-with, start_count-next}
use Rattle.own_traces.proofs.BlockLaws.{moved}
use Rattle.trace_model.specs.Between.{starter, owner_of_act, may_act, or_least, are_in_turn}

-- ---- who started a child

record StartedFor (T : List Item) (k : ℕ) : Type 0 where
  pub owner : ℕ
  pub found : starter k T ≡ Some owner
  pub of_it : has (children T owner) k ≡ true

or_more : (a b : Bool) → b ≡ true → (a || b) ≡ true
or_more true b is = refl
or_more false b is = is

-- a child among those that a Start may have added to
among : (b : Bool) (d k : ℕ) (ks : List ℕ) → has ks k ≡ true → has ((if b then d ∷ [] else []) ++ ks) k ≡ true
among false d k ks is = is
among true d k ks is = or_more (d == k) (has ks k) is

among_others : (b : Bool) (d k : ℕ) (ks : List ℕ) → (k == d) ≡ false → has ((if b then d ∷ [] else []) ++ ks) k ≡ true → has ks k ≡ true
among_others false d k ks other is = is
among_others true d k ks other is = elim (or_cases (d == k) (has ks k) is) [
  | inl same ↦ absurd (false≢true (sym other ∙ eq-eqb k d (sym (eqb-true d k same))))
  | inr later ↦ later
]

-- one more Start before
start_found : (T : List Item) (d c j hop : ℕ) (launch : Launch) (o k : ℕ) → has (children (Out (Start d c j hop launch) ∷ T) o) k ≡ true
    → (has (children T o) k ≡ true → StartedFor T k) → StartedFor (Out (Start d c j hop launch) ∷ T) k
start_found T d c j hop launch o k is later = elim (cases_Bool (k == d)) [
  | inl same ↦ record {
    owner = c;
    found = cond-true (k == d) (Some c) (starter k T) same;
    of_it = ap (λ (b : Bool). has ((if b then d ∷ [] else []) ++ children T c) k) (eq-eqb c c refl) ∙ or_left (d == k) (has (children T c) k) (eq-eqb d k (sym (eqb-true k d same)));
  }
  | inr other ↦
      let rest = later (among_others (o == c) d k (children T o) other is) in
      record {
        owner = rest.owner;
        found = cond-false (k == d) (Some c) (starter k T) other ∙ rest.found;
        of_it = among (rest.owner == c) d k (children T rest.owner) rest.of_it;
      }
]

started_for : (T : List Item) (o k : ℕ) → has (children T o) k ≡ true → StartedFor T k
started_for [] o k is = absurd (false≢true is)
started_for (Out (Start d c j hop launch) ∷ T) o k is = start_found T d c j hop launch o k is (started_for T o k)
started_for (x ∷ T) o k is = let rest = started_for T o k is in record { owner = rest.owner; found = rest.found; of_it = rest.of_it }

child_starter : (T : List Item) (c k : ℕ) → Between T → has (children T c) k ≡ true → starter k T ≡ Some c
child_starter T c k b is =
    let f = started_for T c k is in f.found ∙ ap (λ (d : ℕ). Some d) (b.apart f.owner c k f.of_it is)

-- ---- whose an act is

none_of : (ks : List ℕ) → list_any (λ (k : ℕ). false) ks ≡ false
none_of [] = refl
none_of (k ∷ ks) = none_of ks

conn_act : (c d : ℕ) (ks : List ℕ) → ((c == d) || list_any (λ (k : ℕ). false) ks) ≡ true → Some d ≡ Some c
conn_act c d ks is = elim (or_cases (c == d) _ is) [
  | inl same ↦ ap (λ (n : ℕ). Some n) (sym (eqb-true c d same))
  | inr none ↦ absurd (false≢true (sym (none_of ks) ∙ none))
]

pub owner-of : (T : List Item) (c : ℕ) (a : Act) → Between T → is_of c (children T c) (start_count T) (Out a) ≡ true → owner_of_act T a ≡ Some c
owner-of T c (WantClient d) b is = conn_act c d (children T c) is
owner-of T c (Write d bytes) b is = conn_act c d (children T c) is
owner-of T c (Shut d why) b is = conn_act c d (children T c) is
owner-of T c (Upgrade d rest) b is = conn_act c d (children T c) is
owner-of T c (Says d texts) b is = conn_act c d (children T c) is
owner-of T c (CloseWs d code) b is = conn_act c d (children T c) is
owner-of T c (Start k d j hop launch) b is = ap (λ (n : ℕ). Some n) (sym (eqb-true c d (and_parts (c == d) (start_count T == k) is).0))
owner-of T c (Feed k bytes) b is = child_starter T c k b is
owner-of T c (EndInput k) b is = child_starter T c k b is
owner-of T c (WantChild k) b is = child_starter T c k b is
owner-of T c (Kill k) b is = child_starter T c k b is
owner-of T c (Release k) b is = child_starter T c k b is

-- ---- acts of one connection

known_by : (T : List Item) (c : ℕ) → c < accepted_count T → is_known T c ≡ true
known_by T c lt = lt-ltb c (accepted_count T) lt

-- after one act of c
record After (T : List Item) (c : ℕ) (a : Act) : Type 0 where
  pub between : Between (T ++ Out a ∷ [])
  pub accepted : accepted_count (T ++ Out a ∷ []) ≡ accepted_count T

after_one : (T : List Item) (c : ℕ) (a : Act) → Between T → c < accepted_count T → is_of c (children T c) (start_count T) (Out a) ≡ true → After T c a
after_one T c a b known is =
    let m = moved (a ∷ []) T c b known (and_from _ _ is refl) in
    record { between = m.between; accepted = m.accepted }

pub are_of-in_turn : (acts : List Act) (T : List Item) (c low : ℕ) → Between T → c < accepted_count T → are_of c (children T c) (start_count T) acts ≡ true
    → are_in_turn T (Some c) low acts ≡ true
are_of-in_turn [] T c low b known are = refl
are_of-in_turn (a ∷ acts) T c low b known are =
    let parts = and_parts (is_of c (children T c) (start_count T) (Out a)) (are_of c (with_child (children T c) c (Out a)) (next_child (start_count T) (Out a)) acts) are in
    let whose = owner-of T c a b parts.0 in
    let one = after_one T c a b known parts.0 in
    let later : are_of c (children (T ++ Out a ∷ []) c) (start_count (T ++ Out a ∷ [])) acts ≡ true =
    ap (λ ks. are_of c ks (start_count (T ++ Out a ∷ [])) acts) (children-with T (Out a) c)
    ∙ (ap (λ n. are_of c (with_child (children T c) c (Out a)) n acts) (start_count-next T (Out a)) ∙ parts.1) in
    and_from _ _ (ap (may_act T (Some c) low) whose ∙ and_from _ _ (eq-eqb c c refl) (known_by T c known))
    (ap (λ (o : Option ℕ). are_in_turn (T ++ Out a ∷ []) (Some c) (or_least o low) acts) whose
    ∙ are_of-in_turn acts (T ++ Out a ∷ []) c c one.between (omega (arith, known, one.accepted)) later)

-- ---- acts that rise

rises-le : (front : List Item) (low : ℕ) (acts : List Act) (high : ℕ) → Rises front low acts high → low ≤ high
rises-le front low [] high le = le
rises-le front low (a ∷ acts) high r = let later = rises-le (front ++ Out a ∷ []) r.0 acts high r.3 in omega (arith, r.1, later)

pub rises-in_turn : (acts : List Act) (T : List Item) (low high : ℕ) → Between T → high < accepted_count T → Rises T low acts high
    → are_in_turn T None low acts ≡ true
rises-in_turn [] T low high b known r = refl
rises-in_turn (a ∷ acts) T low high b known r =
    let le = rises-le (T ++ Out a ∷ []) r.0 acts high r.3 in
    let c_known : r.0 < accepted_count T = omega (arith, le, known) in
    let whose = owner-of T r.0 a b r.2 in
    let one = after_one T r.0 a b c_known r.2 in
    and_from _ _ (ap (may_act T None low) whose ∙ and_from _ _ (le-leb low r.0 r.1) (known_by T r.0 c_known))
    (ap (λ (o : Option ℕ). are_in_turn (T ++ Out a ∷ []) None (or_least o low) acts) whose
    ∙ rises-in_turn acts (T ++ Out a ∷ []) r.0 high one.between (omega (arith, known, one.accepted)) r.3)
