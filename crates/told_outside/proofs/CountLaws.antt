-- No more rows are kept than there are connections that hold a slot and children that are not settled.
use Rattle.std.proofs.Common.{◌≡◌, ◌≤◌, ◌<◌, ℕ, suc, zero, ◌+◌, Bool, true, false, List, [], ◌∷◌, ◌++◌, Option, Some, None, length, refl, sym, ◌∙◌, ap, subst, inl, inr, arith}
use Rattle.std.specs.Prelude.{◌&&◌, ◌||◌, ◌==◌, not, nat_eq, nat_lt, is_some, filter, count_by, if◌then◌else◌}
use Rattle.std.specs.List.{list_any, flat_map, IsDistinct}
use Rattle.std.specs.Cmp.{nat_eq_equiv}
use Rattle.std.specs.HashMap.{HashMap, keys, hash_map_len, IsUnique}
use Rattle.std.specs.Map.{keys_of}
use Rattle.std.proofs.lemmas.Bool.{cond-true, cond-false, cases_Bool, eqb-true, eq-eqb, ltb-true, false≢true}
use Rattle.std.proofs.lemmas.List.Sums.{length-filter}
use Rattle.std.proofs.lemmas.Map.Made.{is_some-lookup, length-le_from_is_member}
use Rattle.std.proofs.lemmas.Map.Views.{any-filter_same}
use Rattle.host_trace.specs.declared.items.Item.{Item}
use Rattle.host_trace.specs.declared.items.Item.TheVariants.{Out}
use Rattle.host_trace.specs.declared.items.Act.TheVariants.{Start}
use Rattle.host_trace.specs.Kinds.{is_start, start_number}
use Rattle.host_trace.specs.Projections.{start_numbers, start_stands, accepted_count, is_known, shut}
use Rattle.host_trace.specs.Account.{holds_slot, slots_below, slots_held}
use Rattle.host_trace.specs.Fits.{is_open}
use Rattle.trace_tallies.specs.ChildTallies.{child_tally, settles}
use Rattle.told_outside.specs.declared.client_rows.ClientRows.{ClientRows}
use Rattle.told_outside.specs.declared.child_rows.ChildRows.{ChildRows}
use Rattle.told_outside.specs.Rows.{row_at}
use Rattle.told_outside.specs.ClientRows.{ClientsTie}
use Rattle.told_outside.specs.ChildRows.{ChildrenTie, lives}
use Rattle.told_outside.specs.Counts.{is_unsettled, unsettled_count}
use Rattle.told_outside.proofs.ClientRowLaws.{known_of_open}

-- ---- a list of distinct numbers is no longer than one that has each of them

there : {A : Type 0} (o : Option A) → is_some o ≡ true → (t : A) × (o ≡ Some t)
there None h = absurd (cc)
there (Some t) h = (t, refl)

-- each key has its row
row_of_key : {A S : Type 0} (rows : HashMap ℕ A S) (q : ℕ) → list_any (nat_eq q) (keys rows) ≡ true → (t : A) × (row_at rows q ≡ Some t)
row_of_key rows q h = there (row_at rows q) (is_some-lookup (nat_eq q) rows.entries ∙ h)

same_length : {A : Type 0} (es : List (ℕ × A)) → length (keys_of es) ≡ length es
same_length [] = refl
same_length (e ∷ es) = ap suc (same_length es)

-- ---- the slots, as a list

abbrev slots_of : List Item → ℕ → List ℕ
slots_of T zero = []
slots_of T (suc c) = if holds_slot T c then c ∷ slots_of T c else slots_of T c

one_slot : (b : Bool) (c n : ℕ) (slots : List ℕ) → length slots ≡ n → length (if b then c ∷ slots else slots) ≡ n + (if b then 1 else 0)
one_slot true c n slots e = omega (arith, e)
one_slot false c n slots e = omega (arith, e)

length-slots : (T : List Item) (n : ℕ) → length (slots_of T n) ≡ slots_below T n
length-slots T zero = refl
length-slots T (suc c) = one_slot (holds_slot T c) c (slots_below T c) (slots_of T c) (length-slots T c)

in_slots : (T : List Item) (n q : ℕ) → q < n → holds_slot T q ≡ true → list_any (nat_eq q) (slots_of T n) ≡ true
in_slots T zero q below holds = absurd (omega arith)
in_slots T (suc c) q below holds =
    elim (cases_Bool (q == c)) [
      | inl is ↦ here (holds_slot T c) (subst (λ m. holds_slot T m ≡ true) (eqb-true q c is) holds) is
      | inr not_it ↦ let apart : (q ≡ c) → ⊥ = (λ e. false≢true (sym not_it ∙ eq-eqb q c e)) in later (holds_slot T c) (in_slots T c q (omega arith) holds)
    ]
  where
    here : (b : Bool) → b ≡ true → (q == c) ≡ true → list_any (nat_eq q) (if b then c ∷ slots_of T c else slots_of T c) ≡ true
    here true h is = rw is refl
    here false h is = absurd (cc)

    or_right : (a b : Bool) → b ≡ true → (a || b) ≡ true
    or_right true b h = refl
    or_right false b h = h

    later : (b : Bool) → list_any (nat_eq q) (slots_of T c) ≡ true → list_any (nat_eq q) (if b then c ∷ slots_of T c else slots_of T c) ≡ true
    later true h = or_right (q == c) _ h
    later false h = h

-- ---- the children that are not settled

or_map : (a b d : Bool) → (b ≡ true → d ≡ true) → (a || b) ≡ true → (a || d) ≡ true
or_map true b d f h = refl
or_map false b d f h = f h

starts_listed : (T : List Item) (k : ℕ) → list_any (is_start k) T ≡ true → list_any (nat_eq k) (flat_map start_number T) ≡ true
starts_listed [] k h = absurd (cc)
starts_listed (Out (Start d c j hop launch) ∷ T) k h = or_map (k == d) _ _ (starts_listed T k) h
starts_listed (_ ∷ T) k h = starts_listed T k h

-- ---- the rows

holds_of_open : (a b d : Bool) → (a && not b) ≡ true → (a && (not b || d)) ≡ true
holds_of_open true false d h = refl
holds_of_open true true d h = absurd (cc)
holds_of_open false b d h = absurd (cc)

left : (a b : Bool) → (a && b) ≡ true → a ≡ true
left true b h = refl
left false b h = absurd (cc)

right : (a b : Bool) → (a && b) ≡ true → b ≡ true
right true b h = h
right false b h = absurd (cc)

pub clients_few : (r : ClientRows) (T : List Item) → ClientsTie r T → IsUnique nat_eq r.rows → hash_map_len r.rows ≤ slots_held T
clients_few r T tie unique =
    let most : length (keys r.rows) ≤ length (slots_of T (accepted_count T)) = length-le_from_is_member nat_eq_equiv (keys r.rows) (slots_of T (accepted_count T)) unique among in
    let e : length (keys r.rows) ≡ hash_map_len r.rows = same_length r.rows.entries in
    let f : length (slots_of T (accepted_count T)) ≡ slots_held T = length-slots T (accepted_count T) in
    omega (arith, most, e, f)
  where
    among : (q : ℕ) → list_any (nat_eq q) (keys r.rows) ≡ true → list_any (nat_eq q) (slots_of T (accepted_count T)) ≡ true
    among q h =
        let row = row_of_key r.rows q h in
        let opens = tie.open_rows q row.0 row.1 in
        in_slots T (accepted_count T) q (ltb-true q (accepted_count T) (known_of_open T q opens)) (holds_of_open (is_known T q) (shut T q) _ opens)

pub children_few : (r : ChildRows) (T : List Item) → ChildrenTie r T → IsUnique nat_eq r.rows → hash_map_len r.rows ≤ unsettled_count T
children_few r T tie unique =
    let most : length (keys r.rows) ≤ length (filter (is_unsettled T) (start_numbers T)) = length-le_from_is_member nat_eq_equiv (keys r.rows) (filter (is_unsettled T) (start_numbers T)) unique among in
    let e : length (keys r.rows) ≡ hash_map_len r.rows = same_length r.rows.entries in
    let f : length (filter (is_unsettled T) (start_numbers T)) ≡ unsettled_count T = length-filter (is_unsettled T) (start_numbers T) in
    omega (arith, most, e, f)
  where
    among : (q : ℕ) → list_any (nat_eq q) (keys r.rows) ≡ true → list_any (nat_eq q) (filter (is_unsettled T) (start_numbers T)) ≡ true
    among q h =
        let row = row_of_key r.rows q h in
        let is = tie.each q row.0 row.1 in
        let lived : lives (child_tally T q) ≡ true = subst (λ t. lives t ≡ true) is (tie.live_rows q row.0 row.1) in
        any-filter_same (nat_eq q) (is_unsettled T) true (λ k same. subst (λ m. is_unsettled T m ≡ true) (eqb-true q k same) (right (start_stands T q) (is_unsettled T q) lived)) (start_numbers T)
        ∙ starts_listed T q (left (start_stands T q) (is_unsettled T q) lived)
