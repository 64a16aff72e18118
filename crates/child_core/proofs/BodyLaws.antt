-- What a run knows of the body that it feeds, with one more item.
use Rattle.std.proofs.Common.{◌≡◌, ℕ, ◌+◌, ◌≤◌, List, [], ◌∷◌, ◌++◌, Bool, true, false, ◌||◌, ◌&&◌, refl, sym, ◌∙◌, ap, arith, length, length-append, append-nil, append_assoc, subst, inl, inr}
use Rattle.std.specs.Prelude.{if◌then◌else◌, ◌==◌, not, is_some, bytes_eq}
use Rattle.std.specs.List.{list_any}
use Rattle.std.proofs.lemmas.Bool.{cases_Bool, and_parts, and_from, or_parts, or_left, or_right, not-true, not_from_false, false≢true, eq-eqb}
use Rattle.std.proofs.lemmas.Slice.Eq.{bytes_eq-Decides}
use Rattle.host_trace.specs.declared.items.Act.TheVariants.{Feed, EndInput}
use Rattle.host_trace.specs.declared.items.Item.{Item}
use Rattle.host_trace.specs.declared.items.Item.TheVariants.{Out}
use Rattle.host_trace.specs.Fits.{is_piece}
use Rattle.host_trace.specs.Kinds.{is_feed, is_end_input, is_input_end, is_shut_for_memory, is_ws_closed, input_fed, count_took}
use Rattle.host_trace.specs.Projections.{child_in, took_sum, shut_for_memory}
use Rattle.host_trace.specs.Decider.{is_websocket}
use Rattle.host_trace.proofs.FirstLaws.{list_any-push}
use Rattle.host_trace.proofs.ProjectionLaws.{child_in-push, took_sum-push, shut_for_memory-push}
use Rattle.trace_child.specs.Words.{implies, each, until, is_filled}
use Rattle.trace_child.specs.Decided.{is_decided}
use Rattle.trace_child.specs.Bodies.{is_fed_in_turn, ends_reading, is_excused, owes_whole}
use Rattle.trace_child.specs.ChildDemands.{is_all_taken, is_fed_whole as is_body_fed}
use Rattle.trace_child.proofs.WordLaws.{each-push, implied, implies_from}
use Rattle.child_core.specs.View.{View, Note, without, more_if, more_by, less_by, cleared}
use Rattle.child_core.specs.Due.{is_fed_whole}
use Rattle.child_core.specs.Setting.{Setting, run_in}
use Rattle.child_core.specs.Knows.{KnowsRun, Admits, IsFront}
use Rattle.child_core.proofs.WordLaws.{more_if-counts, more_by-is, less_by-is}

-- ---- the bytes

regrouped : (c f r u m : List ℕ) → f ++ r ≡ u → (c ++ f) ++ (r ++ m) ≡ (c ++ u) ++ m
regrouped c f r u m e = sym (append_assoc (c ++ f) r m) ∙ ap (λ l. l ++ m) (append_assoc c f r ∙ ap (λ l. c ++ l) e)

module _ (s : Setting) (k : ℕ) (L : List Item) (x : Item) (n : Note) (u : List ℕ) (more : (s.offered (L ++ x ∷ [])).body ≡ (s.offered L).body ++ n.more) (front : input_fed k x ++ without (input_fed k x) u ≡ u) where
  body_on : (s.offered L).body ≡ child_in L k ++ u → (s.offered (L ++ x ∷ [])).body ≡ child_in (L ++ x ∷ []) k ++ (without (input_fed k x) u ++ n.more)
  body_on e = more ∙ (ap (λ l. l ++ n.more) e ∙ (sym (regrouped (child_in L k) (input_fed k x) (without (input_fed k x) u) u n.more front) ∙ ap (λ l. l ++ (without (input_fed k x) u ++ n.more)) (sym (child_in-push L x k))))

  pub body_push : (decides done : Bool) → decides ≡ false → done ≡ false → (s.offered L).body ≡ child_in L k ++ u →
      (s.offered (L ++ x ∷ [])).body ≡ child_in (L ++ x ∷ []) k ++ cleared decides (more_if n.more (not done) (without (input_fed k x) u))
  body_push decides done d o e = rw (d, o) (body_on e ∙ ap (λ l. child_in (L ++ x ∷ []) k ++ l) (sym (more_if-counts n.more (without (input_fed k x) u))))

  pub front_undecided : (s.offered L).body ≡ child_in L k ++ u → IsFront (child_in (L ++ x ∷ []) k) (s.offered (L ++ x ∷ [])).body
  front_undecided e = record { rest = without (input_fed k x) u ++ n.more; is = sym (body_on e) }

pub no_feed : (k : ℕ) (x : Item) → is_feed k x ≡ false → input_fed k x ≡ []
no_feed k (Out (Feed d bytes)) e = rw e refl
no_feed k x e = refl

-- nothing is fed
pub child_in_same : (k : ℕ) (L : List Item) (x : Item) → is_feed k x ≡ false → child_in (L ++ x ∷ []) k ≡ child_in L k
child_in_same k L x e = child_in-push L x k ∙ (ap (λ l. child_in L k ++ l) (no_feed k x e) ∙ append-nil (child_in L k))

pub front_decided : (s : Setting) (k : ℕ) (L : List Item) (x : Item) (n : Note) → (s.offered (L ++ x ∷ [])).body ≡ (s.offered L).body ++ n.more → is_feed k x ≡ false →
    IsFront (child_in L k) (s.offered L).body → IsFront (child_in (L ++ x ∷ []) k) (s.offered (L ++ x ∷ [])).body
front_decided s k L x n more none f = record {
  rest = f.rest ++ n.more;
  is = ap (λ l. l ++ (f.rest ++ n.more)) (child_in_same k L x none) ∙ (sym (append_assoc (child_in L k) f.rest n.more) ∙ (ap (λ l. l ++ n.more) f.is ∙ sym more));
}

pub whole_push : (decides done last was whole later : Bool) → decides ≡ false → done ≡ false → was ≡ whole → later ≡ (last || whole) → (not decides && (last && not done || was)) ≡ later
whole_push decides done last was whole later d o e w = rw (d, o, e, w) (go last whole)
  where
    go : (a b : Bool) → (a && true || b) ≡ (a || b)
    go true b = refl
    go false b = refl

pub took_push : (k : ℕ) (L : List Item) (x : Item) (u : ℕ) → count_took k x ≤ u → took_sum L k + u ≡ length (child_in L k) →
    took_sum (L ++ x ∷ []) k + less_by (count_took k x) (more_by (input_fed k x) u) ≡ length (child_in (L ++ x ∷ []) k)
took_push k L x u le e =
    rw (took_sum-push L x k, child_in-push L x k, length-append (child_in L k) (input_fed k x), less_by-is (count_took k x) (more_by (input_fed k x) u), more_by-is (input_fed k x) u) (omega arith)

in_turn_at : (k : ℕ) (L : List Item) (x : Item) (u : ℕ) → took_sum L k + u ≡ length (child_in L k) → (is_feed k x ≡ true → (u ≡ 0) × (is_piece (input_fed k x) ≡ true)) → is_fed_in_turn k L x ≡ true
in_turn_at k L (Out (Feed d bytes)) u e f = implies_from (k == d) (is_all_taken L k && is_piece bytes) (λ t.
    let p = f t in
    let all : took_sum L k ≡ length (child_in L k) = omega (arith, p.0, e) in
    let piece : is_piece (if k == d then bytes else []) ≡ true = p.1 in
    and_from _ _ (eq-eqb _ _ all) (subst (λ b. is_piece (if b then bytes else []) ≡ true) t piece))
in_turn_at k L x u e f = refl

pub in_turn_push : (k : ℕ) (L : List Item) (x : Item) (u : ℕ) → took_sum L k + u ≡ length (child_in L k) → (is_feed k x ≡ true → (u ≡ 0) × (is_piece (input_fed k x) ≡ true)) →
    each (is_fed_in_turn k) L ≡ true → each (is_fed_in_turn k) (L ++ x ∷ []) ≡ true
in_turn_push k L x u e f is = each-push (is_fed_in_turn k) L x ∙ and_from _ _ is (in_turn_at k L x u e f)

-- ---- the whole body

until_found : (test : Item → Bool) (L : List Item) (x : Item) → list_any test L ≡ true → until test (L ++ x ∷ []) ≡ until test L
until_found test [] x e = absurd (false≢true e)
until_found test (y ∷ L) x e =
    elim (test y) as (λ b. (b || list_any test L) ≡ true → (if b then [] else y ∷ until test (L ++ x ∷ [])) ≡ (if b then [] else y ∷ until test L)) [
      | true ↦ λ _. refl
      | false ↦ λ f. ap (λ l. y ∷ l) (until_found test L x f)
    ] e

until_all : (test : Item → Bool) (L : List Item) (x : Item) → list_any test L ≡ false → test x ≡ true → until test (L ++ x ∷ []) ≡ L
until_all test [] x e t = rw t refl
until_all test (y ∷ L) x e t =
    let p = or_parts (test y) (list_any test L) e in
    rw p.0 (ap (λ l. y ∷ l) (until_all test L x p.1 t))

input_end_of : (k : ℕ) (L : List Item) → list_any (is_end_input k) L ≡ true → list_any (is_input_end k) L ≡ true
input_end_of k [] e = e
input_end_of k (x ∷ L) e =
    elim (cases_Bool (is_end_input k x)) [
      | inl t ↦ or_left (is_input_end k x) _ (or_left (is_end_input k x) _ t)
      | inr f ↦ or_right (is_input_end k x) _ (input_end_of k L (sym (ap (λ b. b || list_any (is_end_input k) L) f) ∙ e))
    ]

end_no_feed : (k : ℕ) (x : Item) → is_end_input k x ≡ true → is_feed k x ≡ false
end_no_feed k (Out (EndInput d)) e = refl
end_no_feed k x e = absurd (cc)

unfilled : (u : List ℕ) → is_filled u ≡ false → u ≡ []
unfilled [] e = refl
unfilled (b ∷ u) e = absurd (cc)

same_eq : (xs ys : List ℕ) → xs ≡ ys → bytes_eq xs ys ≡ true
same_eq xs ys e = (bytes_eq-Decides xs ys).1 e

-- the body was fed whole where it was heard whole
module _ (early : Bool) (s : Setting) (v : View) (L : List Item) (n : Note) (x : Item) (k : KnowsRun early s v L) (a : Admits early s v L n x) (ws : is_websocket v.kind ≡ false) where
  fed_at : (none : is_feed v.number x ≡ false) → (s.offered L).whole ≡ true → child_in L v.number ≡ (s.offered L).body → is_body_fed (run_in s v) (L ++ x ∷ []) ≡ true
  fed_at none whole same =
      let more : n.more ≡ [] = a.done ws whole in
      let body : (s.offered (L ++ x ∷ [])).body ≡ (s.offered L).body = a.body ∙ (ap (λ l. (s.offered L).body ++ l) more ∙ append-nil _) in
      let later : (s.offered (L ++ x ∷ [])).whole ≡ true = a.whole ws ∙ or_right n.last _ whole in
      and_from _ _ (and_from _ _ (ap not ws) later) (same_eq _ _ (child_in_same v.number L x none ∙ (same ∙ sym body)))

  same_bytes : is_body_fed (run_in s v) L ≡ true → ((s.offered L).whole ≡ true) × (child_in L v.number ≡ (s.offered L).body)
  same_bytes e =
      let p = and_parts (not (is_websocket v.kind) && (s.offered L).whole) (bytes_eq (child_in L v.number) (s.offered L).body) e in
      ((and_parts (not (is_websocket v.kind)) (s.offered L).whole p.0).1, (bytes_eq-Decides (child_in L v.number) (s.offered L).body).0 p.1)

  -- the input was ended before
  owed_before : list_any (is_end_input v.number) L ≡ true → implies (owes_whole (run_in s v) L) (is_body_fed (run_in s v) L) ≡ true →
      owes_whole (run_in s v) (L ++ x ∷ []) ≡ true → is_body_fed (run_in s v) (L ++ x ∷ []) ≡ true
  owed_before ended old owes =
      let run = run_in s v in
      let p = and_parts (list_any (is_end_input v.number) (L ++ x ∷ []) && not (is_excused run (L ++ x ∷ []))) (not (shut_for_memory (L ++ x ∷ []) s.conn)) owes in
      let q = and_parts (list_any (is_end_input v.number) (L ++ x ∷ [])) (not (is_excused run (L ++ x ∷ []))) p.0 in
      let front = until_found (is_end_input v.number) L x ended in
      let excused : not (is_excused run L) ≡ true = ap (λ (l : List Item). not (list_any (ends_reading v.number) l || is_decided run l)) (sym front) ∙ q.1 in
      let memory : shut_for_memory L s.conn ≡ false = (or_parts (shut_for_memory L s.conn) (is_shut_for_memory s.conn x) (sym (shut_for_memory-push L x s.conn) ∙ not-true _ p.1)).0 in
      let was = same_bytes (implied _ _ old (and_from _ _ (and_from _ _ ended excused) (not_from_false _ memory))) in
      let closed : v.input_ended ≡ true = k.input_ended ∙ input_end_of v.number L ended in
      let none : is_feed v.number x ≡ false = elim (cases_Bool (is_feed v.number x)) [
        | inl t ↦ absurd (false≢true (sym (or_parts (is_some v.outcome) v.input_ended (a.feeds t)).1 ∙ closed))
        | inr f ↦ f
      ] in
      fed_at none was.0 was.1

  -- it is ended now
  owed_now : early ≡ false → list_any (is_end_input v.number) L ≡ false → owes_whole (run_in s v) (L ++ x ∷ []) ≡ true → is_body_fed (run_in s v) (L ++ x ∷ []) ≡ true
  owed_now ea unclosed owes =
      let run = run_in s v in
      let p = and_parts (list_any (is_end_input v.number) (L ++ x ∷ []) && not (is_excused run (L ++ x ∷ []))) (not (shut_for_memory (L ++ x ∷ []) s.conn)) owes in
      let q = and_parts (list_any (is_end_input v.number) (L ++ x ∷ [])) (not (is_excused run (L ++ x ∷ []))) p.0 in
      let now : is_end_input v.number x ≡ true = sym (ap (λ b. b || is_end_input v.number x) unclosed) ∙ (sym (list_any-push (is_end_input v.number) L x) ∙ q.0) in
      let front = until_all (is_end_input v.number) L x unclosed now in
      let free : (list_any (ends_reading v.number) L || is_decided run L) ≡ false = ap (λ (l : List Item). list_any (ends_reading v.number) l || is_decided run l) (sym front) ∙ not-true _ q.1 in
      let undecided : is_some v.outcome ≡ false = sym k.decided ∙ (or_parts (list_any (ends_reading v.number) L) (is_decided run L) free).1 in
      let away : v.hung_up ≡ false = k.hung_up ∙ ap (λ b. b && list_any (is_ws_closed s.conn) L) ws in
      let wants = (and_parts v.started (is_some v.outcome || v.hung_up || not v.exited && is_fed_whole v) (a.deserved ea now)).1 in
      let fed : (not v.exited && is_fed_whole v) ≡ true = sym (ap (λ b. b || v.hung_up || not v.exited && is_fed_whole v) undecided ∙ ap (λ b. b || not v.exited && is_fed_whole v) away) ∙ wants in
      let whole = and_parts (not (is_websocket v.kind) && v.whole) (not (is_filled v.unfed)) (and_parts (not v.exited) (is_fed_whole v) fed).1 in
      let empty : v.unfed ≡ [] = unfilled v.unfed (not-true _ whole.1) in
      fed_at (end_no_feed v.number x now) (sym (k.whole undecided ws) ∙ (and_parts (not (is_websocket v.kind)) v.whole whole.0).1)
      (sym (k.body undecided ∙ (ap (λ l. child_in L v.number ++ l) empty ∙ append-nil _)))

  pub owes_push : early ≡ false → implies (owes_whole (run_in s v) (L ++ x ∷ [])) (is_body_fed (run_in s v) (L ++ x ∷ [])) ≡ true
  owes_push ea = implies_from _ _ (λ owes. elim (cases_Bool (list_any (is_end_input v.number) L)) [
    | inl ended ↦ owed_before ended (k.owes ea ws) owes
    | inr unclosed ↦ owed_now ea unclosed owes
  ])
