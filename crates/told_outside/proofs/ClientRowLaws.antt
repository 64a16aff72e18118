-- The rows of the connections go on with one item more.
use Rattle.std.proofs.Common.{◌≡◌, ◌≤◌, ◌<◌, ◌⊎◌, ℕ, ◌+◌, Bool, true, false, List, [], ◌∷◌, ◌++◌, Option, Some, None, IfSome, refl, sym, ◌∙◌, ap, subst, inl, inr, arith}
use Rattle.std.specs.Prelude.{◌||◌, ◌&&◌, ◌==◌, not, nat_lt, if◌then◌else◌}
use Rattle.std.proofs.lemmas.Bool.{eqb-true, cases_Bool, ltb-true, lt-ltb, false≢true}
use Rattle.host_trace.specs.declared.items.Item.{Item}
use Rattle.host_trace.specs.declared.items.Item.TheVariants.{In, Out}
use Rattle.host_trace.specs.declared.items.Event.TheVariants.{Accepted}
use Rattle.host_trace.specs.declared.items.Act.TheVariants.{Shut}
use Rattle.host_trace.specs.Kinds.{names, is_shut, is_accepted}
use Rattle.host_trace.specs.Projections.{shut, is_known, accepted_count}
use Rattle.host_trace.specs.Fits.{is_open}
use Rattle.host_trace.proofs.ProjectionLaws.{shut-push, accepted_count-push}
use Rattle.trace_tallies.specs.declared.client_tally.ClientTally.{ClientTally}
use Rattle.trace_tallies.specs.ClientTallies.{client_tally, no_client, stays_open}
use Rattle.trace_tallies.proofs.ClientTallyLaws.{client_tally-push, client_rests}
use Rattle.told_outside.specs.declared.client_rows.ClientRows.{ClientRows}
use Rattle.told_outside.specs.Rows.{row_at, Puts, past}
use Rattle.told_outside.specs.ClientRows.{ClientsTie, orphan_after}
use Rattle.told_outside.proofs.RowLaws.{some_is, put_cases, past_both, not_same}

-- ---- which connections are open, with one item more

rests : (T : List Item) (x : Item) (q : ℕ) → names q x ≡ false → client_tally (T ++ x ∷ []) q ≡ client_tally T q
rests T x q other = client_tally-push T x q ∙ client_rests q x (client_tally T q) other

pub no_shut : (c : ℕ) (x : Item) → names c x ≡ false → is_shut c x ≡ false
no_shut c (Out (Shut d why)) other = other
no_shut c _ other = refl

none_or : (a b : Bool) → a ≡ false → b ≡ false → (a || b) ≡ false
none_or a b p q = rw (p, q) refl

both : (a b : Bool) → a ≡ true → b ≡ true → (a && b) ≡ true
both a b p q = rw (p, q) refl

not_no : (b : Bool) → not b ≡ true → b ≡ false
not_no true h = absurd (cc)
not_no false h = refl

no_not : (b : Bool) → b ≡ false → not b ≡ true
no_not b h = ap not h

count_on : (T : List Item) (x : Item) → accepted_count T ≤ accepted_count (T ++ x ∷ [])
count_on T x =
    let e : accepted_count (T ++ x ∷ []) ≡ accepted_count T + (if is_accepted x then 1 else 0) = accepted_count-push T x in
    subst (λ n. accepted_count T ≤ n) (sym e) (omega arith)

known_below : (T U : List Item) (c : ℕ) → accepted_count T ≤ accepted_count U → is_known T c ≡ true → is_known U c ≡ true
known_below T U c more known =
    let below : c < accepted_count T = ltb-true c (accepted_count T) known in
    let still : c < accepted_count U = omega arith in
    lt-ltb c (accepted_count U) still

pub known_of_open : (T : List Item) (c : ℕ) → is_open T c ≡ true → is_known T c ≡ true
known_of_open T c h = left (is_known T c) (not (shut T c)) h
  where
    left : (a b : Bool) → (a && b) ≡ true → a ≡ true
    left true b h = refl
    left false b h = absurd (cc)

unshut_of_open : (T : List Item) (c : ℕ) → is_open T c ≡ true → shut T c ≡ false
unshut_of_open T c h = not_no (shut T c) (right (is_known T c) (not (shut T c)) h)
  where
    right : (a b : Bool) → (a && b) ≡ true → b ≡ true
    right true b h = h
    right false b h = absurd (cc)

open_from : (T : List Item) (c : ℕ) → is_known T c ≡ true → shut T c ≡ false → is_open T c ≡ true
open_from T c known unshut = both (is_known T c) (not (shut T c)) known (no_not (shut T c) unshut)

open_on : (T : List Item) (x : Item) (c : ℕ) → is_open T c ≡ true → is_shut c x ≡ false → is_open (T ++ x ∷ []) c ≡ true
open_on T x c h fails =
    open_from (T ++ x ∷ []) c (known_below T (T ++ x ∷ []) c (count_on T x) (known_of_open T c h))
    (shut-push T x c ∙ none_or (shut T c) (is_shut c x) (unshut_of_open T c h) fails)

-- ---- an item of connection d, whose row is now that of the longer trace, where there is one

module _ (r n : ClientRows) (T : List Item) (x : Item) (d : ℕ) (row : Option ClientTally) (tie : ClientsTie r T) (puts : Puts r.rows d row n.rows)
    (named : (q : ℕ) → names q x ≡ (q == d))
    (is : (t : ClientTally) → row ≡ Some t → ((t ≡ client_tally (T ++ x ∷ []) d) × (is_known T d ≡ true)) × (stays_open t ≡ true)) where
  each_on : (q : ℕ) (t : ClientTally) → row_at n.rows q ≡ Some t → t ≡ client_tally (T ++ x ∷ []) q
  each_on q t e =
      elim (put_cases r.rows n.rows d q row t puts e) [
        | inl this ↦ subst (λ m. t ≡ client_tally (T ++ x ∷ []) m) (sym this.0) (is t this.1).0.0
        | inr other ↦ tie.each q t other.1 ∙ sym (rests T x q (named q ∙ other.0))
      ]

  open_rows_on : (q : ℕ) (t : ClientTally) → row_at n.rows q ≡ Some t → is_open (T ++ x ∷ []) q ≡ true
  open_rows_on q t e =
      elim (put_cases r.rows n.rows d q row t puts e) [
        | inl this ↦
            let i = is t this.1 in
            let unshut : shut (T ++ x ∷ []) d ≡ false = sym (ap (λ u. u.is_shut) i.0.0) ∙ not_no t.is_shut i.1 in
            subst (λ m. is_open (T ++ x ∷ []) m ≡ true) (sym this.0)
            (open_from (T ++ x ∷ []) d (known_below T (T ++ x ∷ []) d (count_on T x) i.0.1) unshut)
        | inr other ↦ open_on T x q (tie.open_rows q t other.1) (no_shut q x (named q ∙ other.0))
      ]

pub clients_on : (r n : ClientRows) (T : List Item) (x : Item) (d : ℕ) (row : Option ClientTally) → ClientsTie r T → Puts r.rows d row n.rows →
    ((q : ℕ) → names q x ≡ (q == d)) →
    ((t : ClientTally) → row ≡ Some t → ((t ≡ client_tally (T ++ x ∷ []) d) × (is_known T d ≡ true)) × (stays_open t ≡ true)) →
    n.named ≡ past r.named d → n.accepted ≡ r.accepted → ((q : ℕ) → n.orphan ≡ Some q → (r.orphan ≡ Some q) × (is_shut q x ≡ false)) → ClientsTie n (T ++ x ∷ [])
clients_on r n T x d row tie puts named is bound count orphan = record {
  each = each_on r n T x d row tie puts named is;
  open_rows = open_rows_on r n T x d row tie puts named is;
  later = λ q h. let b = past_both r.named d q (subst (λ m. m ≤ q) bound h) in rests T x q (named q ∙ not_same q d b.1) ∙ tie.later q b.0;
  accepted = let some : r.accepted ≤ accepted_count T = tie.accepted in let more : accepted_count T ≤ accepted_count (T ++ x ∷ []) = count_on T x in subst (λ m. m ≤ accepted_count (T ++ x ∷ [])) (sym count) (omega arith);
  orphan_is_open = λ q e. open_on T x q (tie.orphan_is_open q (orphan q e).0) (orphan q e).1;
}

-- an item that names no connection
pub clients_off : (r : ClientRows) (T : List Item) (x : Item) → ClientsTie r T → ((q : ℕ) → names q x ≡ false) → ClientsTie r (T ++ x ∷ [])
clients_off r T x tie named = record {
  each = λ q t e. tie.each q t e ∙ sym (rests T x q (named q));
  open_rows = λ q t e. open_on T x q (tie.open_rows q t e) (no_shut q x (named q));
  later = λ q h. rests T x q (named q) ∙ tie.later q h;
  accepted = let some : r.accepted ≤ accepted_count T = tie.accepted in let more : accepted_count T ≤ accepted_count (T ++ x ∷ []) = count_on T x in omega arith;
  orphan_is_open = λ q e. open_on T x q (tie.orphan_is_open q e) (no_shut q x (named q));
}

-- ---- a connection that was accepted

pub accepted_names : (x : Item) → is_accepted x ≡ true → (q : ℕ) → names q x ≡ false
accepted_names (In (Accepted peer)) h q = refl
accepted_names _ h q = absurd (false≢true h)

module _ (r : ClientRows) (T : List Item) (x : Item) (tie : ClientsTie r T) (accepts : is_accepted x ≡ true) where
  count_more : accepted_count (T ++ x ∷ []) ≡ accepted_count T + 1
  count_more = accepted_count-push T x ∙ ap (λ b. accepted_count T + (if b then 1 else 0)) accepts

  begun_is : r.named ≤ r.accepted → client_tally (T ++ x ∷ []) r.accepted ≡ no_client
  begun_is fresh = rests T x r.accepted (accepted_names x accepts r.accepted) ∙ tie.later r.accepted fresh

  begun_is_open : r.named ≤ r.accepted → is_open (T ++ x ∷ []) r.accepted ≡ true
  begun_is_open fresh =
      let some : r.accepted ≤ accepted_count T = tie.accepted in
      let e : accepted_count (T ++ x ∷ []) ≡ accepted_count T + 1 = count_more in
      let below : r.accepted < accepted_count (T ++ x ∷ []) = subst (λ m. r.accepted < m) (sym e) (omega arith) in
      open_from (T ++ x ∷ []) r.accepted (lt-ltb r.accepted (accepted_count (T ++ x ∷ [])) below) (ap (λ t. t.is_shut) (begun_is fresh))

pub clients_accept : (r n : ClientRows) (T : List Item) (x : Item) → ClientsTie r T → is_accepted x ≡ true →
    ((q : ℕ) (t : ClientTally) → row_at n.rows q ≡ Some t → (row_at r.rows q ≡ Some t) ⊎ ((q ≡ r.accepted) × (t ≡ no_client) × (r.named ≤ r.accepted))) →
    ((q : ℕ) → n.orphan ≡ Some q → (r.orphan ≡ Some q) ⊎ ((q ≡ r.accepted) × (r.named ≤ r.accepted))) →
    n.named ≡ r.named → n.accepted ≡ r.accepted + 1 → ClientsTie n (T ++ x ∷ [])
clients_accept r n T x tie accepts rows orphan bound count = record {
  each = λ q t e.
      elim (rows q t e) [
        | inl was ↦ (clients_off r T x tie (accepted_names x accepts)).each q t was
        | inr new ↦ new.1 ∙ sym (subst (λ m. client_tally (T ++ x ∷ []) m ≡ no_client) (sym new.0) (begun_is r T x tie accepts new.2))
      ];
  open_rows = λ q t e.
      elim (rows q t e) [
        | inl was ↦ (clients_off r T x tie (accepted_names x accepts)).open_rows q t was
        | inr new ↦ subst (λ m. is_open (T ++ x ∷ []) m ≡ true) (sym new.0) (begun_is_open r T x tie accepts new.2)
      ];
  later = λ q h. (clients_off r T x tie (accepted_names x accepts)).later q (subst (λ m. m ≤ q) bound h);
  accepted =
      let some : r.accepted ≤ accepted_count T = tie.accepted in
      let e : accepted_count (T ++ x ∷ []) ≡ accepted_count T + 1 = count_more r T x tie accepts in
      subst (λ m. m ≤ accepted_count (T ++ x ∷ [])) (sym count) (subst (λ m. r.accepted + 1 ≤ m) (sym e) (omega arith));
  orphan_is_open = λ q e.
      elim (orphan q e) [
        | inl was ↦ (clients_off r T x tie (accepted_names x accepts)).orphan_is_open q was
        | inr new ↦ subst (λ m. is_open (T ++ x ∷ []) m ≡ true) (sym new.0) (begun_is_open r T x tie accepts new.1)
      ];
}

-- ---- what becomes of the orphan with an act

pub orphan_stays : (o : Option ℕ) (shuts : Bool) (c q : ℕ) → orphan_after o shuts c ≡ Some q → (o ≡ Some q) × ((shuts && (q == c)) ≡ false)
orphan_stays None shuts c q e = absurd (none shuts e)
  where
    none : (b : Bool) → (if b && false then None else None) ≡ Some q → ⊥
    none true e = cc
    none false e = cc
orphan_stays (Some d) true c q e = by_case (d == c) refl e
  where
    by_case : (b : Bool) → (d == c) ≡ b → (if b then None else Some d) ≡ Some q → (Some d ≡ Some q) × ((q == c) ≡ false)
    by_case true is e = absurd (cc)
    by_case false is e = (e, subst (λ m. (m == c) ≡ false) (some_is d q e) is)
orphan_stays (Some d) false c q e = (e, refl)

pub not_shut : (x : Item) (c q : ℕ) (b : Bool) → b ≡ is_shut c x → ((p : ℕ) → names p x ≡ (p == c)) → (b && (q == c)) ≡ false → is_shut q x ≡ false
not_shut x c q b is named h =
    elim (cases_Bool (q == c)) [
      | inl holds ↦ subst (λ m. is_shut m x ≡ false) (sym (eqb-true q c holds)) (sym is ∙ left b (q == c) holds h)
      | inr fails ↦ no_shut q x (named q ∙ fails)
    ]
  where
    left : (a d : Bool) → d ≡ true → (a && d) ≡ false → a ≡ false
    left true d p e = absurd (cc)
    left false d p e = refl

-- what holds of a row holds of it beside what is known
pub beside : {A : Type 0} (o : Option A) (P : A → Type 0) (K : Type 0) → IfSome o P → K → IfSome o (λ t. P t × K)
beside None P K h k = tt
beside (Some t) P K h k = (h, k)
