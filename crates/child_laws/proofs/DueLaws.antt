-- An act that is due for a run: its child is unsettled, and no other is named.
use Rattle.std.proofs.Common.{◌≡◌, ◌≤◌, ℕ, ◌+◌, Bool, true, false, List, [], ◌∷◌, refl, sym, ap, ◌∙◌, arith, inl, inr}
use Rattle.std.specs.Prelude.{if◌then◌else◌, not, ◌&&◌, ◌||◌, ◌==◌, ◌⊎◌, count_by, is_some}
use Rattle.std.specs.List.{list_any, fold}
use Rattle.std.proofs.lemmas.Bool.{false≢true, and_parts, or_cases, or_left, not-true}
use Rattle.host_trace.specs.declared.items.Act.{Act}
use Rattle.host_trace.specs.declared.items.Act.TheVariants.{Feed, EndInput, WantChild, Kill, Release}
use Rattle.host_trace.specs.declared.items.Event.TheVariants.{Started}
use Rattle.host_trace.specs.declared.items.Item.{Item}
use Rattle.host_trace.specs.declared.items.Item.TheVariants.{In, Out}
use Rattle.host_trace.specs.Account.{is_refusal}
use Rattle.host_trace.specs.Kinds.{names_child, is_started, is_start_failed, is_start_full, is_start_answer, is_end_input, child_started}
use Rattle.child_core.specs.View.{View, plain, noted}
use Rattle.child_core.specs.Calls.{is_settled}
use Rattle.child_core.specs.Due.{Due, wants_input_end, wants_kill, wants_release, wants_output}
use Rattle.child_core.specs.Setting.{Setting}
use Rattle.child_core.specs.Knows.{KnowsRun, one_if}
use Rattle.child_core.specs.Tells.{concerns}
use Rattle.child_core.proofs.ActLaws.{or_none}

-- ---- a child that was started was not refused

abbrev counts : (Item → Bool) → ℕ → List Item → ℕ
counts test n L = fold (λ (n : ℕ) (y : Item). n + (if test y then 1 else 0)) n L

no_fewer : (test : Item → Bool) (n : ℕ) (L : List Item) → n ≤ counts test n L
no_fewer test n [] = omega arith
no_fewer test n (x ∷ L) = let r = no_fewer test (n + (if test x then 1 else 0)) L in omega (arith, r)

one_at_least : (test : Item → Bool) (n : ℕ) (L : List Item) → list_any test L ≡ true → n + 1 ≤ counts test n L
one_at_least test n [] e = absurd (false≢true e)
one_at_least test n (x ∷ L) e = go (test x) refl (λ rest. one_at_least test (n + 0) L rest)
  where
    go : (b : Bool) → test x ≡ b → (list_any test L ≡ true → n + 0 + 1 ≤ counts test (n + 0) L) → n + 1 ≤ counts test (n + (if test x then 1 else 0)) L
    go true is later = rw is (no_fewer test (n + 1) L)
    go false is later =
        let r = later (ap (λ b. b || list_any test L) (sym is) ∙ e) in
        rw is (omega (arith, r))

any_answer : (test : Item → Bool) (k : ℕ) (L : List Item) → ((x : Item) → test x ≡ true → is_start_answer k x ≡ true) → list_any test L ≡ true → list_any (is_start_answer k) L ≡ true
any_answer test k [] so e = absurd (false≢true e)
any_answer test k (x ∷ L) so e = elim (or_cases (test x) (list_any test L) e) [
  | inl here ↦ or_left _ _ (so x here)
  | inr later ↦ go (is_start_answer k x) (any_answer test k L so later)
]
  where
    go : (a : Bool) → list_any (is_start_answer k) L ≡ true → (a || list_any (is_start_answer k) L) ≡ true
    go true e = refl
    go false e = e

started_answers : (k : ℕ) (x : Item) → is_started k x ≡ true → is_start_answer k x ≡ true
started_answers k x e = or_left _ _ (or_left _ _ e)

refusal_answers : (k : ℕ) (x : Item) → is_refusal k x ≡ true → is_start_answer k x ≡ true
refusal_answers k x e = go (is_started k x) (is_start_failed k x) (is_start_full k x) e
  where
    go : (a b d : Bool) → (b || d) ≡ true → (a || b || d) ≡ true
    go true b d e = refl
    go false b d e = e

not_both : (k : ℕ) (x : Item) → is_started k x ≡ true → is_refusal k x ≡ false
not_both k (In (Started d)) e = refl
not_both k x e = absurd (false≢true e)

two_answers : (k n : ℕ) (L : List Item) → list_any (is_started k) L ≡ true → list_any (is_refusal k) L ≡ true → n + 2 ≤ counts (is_start_answer k) n L
two_answers k n [] s r = absurd (false≢true s)
two_answers k n (x ∷ L) s r = go (is_started k x) refl (is_refusal k x) refl (λ s' r'. two_answers k n L s' r')
  where
    go : (a : Bool) → is_started k x ≡ a → (b : Bool) → is_refusal k x ≡ b
        → (list_any (is_started k) L ≡ true → list_any (is_refusal k) L ≡ true → n + 2 ≤ counts (is_start_answer k) n L) → n + 2 ≤ counts (is_start_answer k) (n + (if is_start_answer k x then 1 else 0)) L
    go true here b is later =
        let rest : list_any (is_refusal k) L ≡ true = ap (λ b. b || list_any (is_refusal k) L) (sym (not_both k x here)) ∙ r in
        let m = one_at_least (is_start_answer k) (n + 1) L (any_answer (is_refusal k) k L (refusal_answers k) rest) in
        rw (started_answers k x here) (omega (arith, m))
    go false other true here later =
        let rest : list_any (is_started k) L ≡ true = ap (λ b. b || list_any (is_started k) L) (sym other) ∙ s in
        let m = one_at_least (is_start_answer k) (n + 1) L (any_answer (is_started k) k L (started_answers k) rest) in
        rw (refusal_answers k x here) (omega (arith, m))
    go false other false neither later =
        let more : n + (if is_start_answer k x then 1 else 0) ≡ n = ap (λ (b : Bool). n + (if b then 1 else 0)) (none_of (is_started k x) (is_start_failed k x) (is_start_full k x) other neither) ∙ omega arith in
        let m = later (ap (λ b. b || list_any (is_started k) L) (sym other) ∙ s) (ap (λ b. b || list_any (is_refusal k) L) (sym neither) ∙ r) in
        rw more m
      where
        none_of : (a b d : Bool) → a ≡ false → (b || d) ≡ false → (a || b || d) ≡ false
        none_of true b d e f = absurd (false≢true (sym e))
        none_of false b d e f = f

pub unrefused : (early : Bool) (s : Setting) (v : View) (L : List Item) → KnowsRun early s v L → v.started ≡ true → v.refused ≡ false
unrefused early s v L k on = go v.refused refl
  where
    go : (b : Bool) → v.refused ≡ b → b ≡ false
    go false e = refl
    go true e =
        let two = two_answers v.number 0 L (sym k.started ∙ on) (sym k.refused ∙ e) in
        let one : count_by (is_start_answer v.number) L ≡ 1 = k.answers ∙ ap (λ b. one_if (b || v.refused)) on in
        absurd (omega (arith, two, one))

-- ---- an act that is due

-- whether it is settled
settled_by : (r x i o : Bool) → r ≡ false → ((x ≡ false) ⊎ ((i ≡ false) ⊎ (o ≡ false))) → (r || x && i && o) ≡ false
settled_by r x i o unrefused (inl e) = rw (unrefused, e) refl
settled_by r x i o unrefused (inr (inl e)) = rw (unrefused, e) (go x)
  where
    go : (x : Bool) → (x && false && o) ≡ false
    go true = refl
    go false = refl
settled_by r x i o unrefused (inr (inr e)) = rw (unrefused, e) (go (x && i))
  where
    go : (b : Bool) → (b && false) ≡ false
    go true = refl
    go false = refl

-- the child of a run for which an act is due was started, and one of these is open
record IsOpen (v : View) : Type 0 where
  on : v.started ≡ true
  some : (v.exited ≡ false) ⊎ ((v.input_ended ≡ false) ⊎ (v.output_ended ≡ false))

due_open : (may : Bool) (v : View) (act : Act) → Due may v act → IsOpen v
due_open may v (Feed k bytes) d =
    let p = and_parts (v.started && not (is_some v.outcome) && not v.exited && not v.input_ended && _) (v.untaken == 0) d.2 in
    let q = and_parts (v.started && not (is_some v.outcome) && not v.exited && not v.input_ended) _ p.0 in
    let r = and_parts (v.started && not (is_some v.outcome) && not v.exited) (not v.input_ended) q.0 in
    let t = and_parts (v.started && not (is_some v.outcome)) (not v.exited) r.0 in
    record { on = (and_parts v.started (not (is_some v.outcome)) t.0).0; some = inl (not-true _ t.1) }
due_open may v (EndInput k) d =
    let p = and_parts (wants_input_end v) (not v.input_ended) d.1 in
    record { on = (and_parts v.started _ p.0).0; some = inr (inl (not-true _ p.1)) }
due_open may v (Kill k) d =
    let p = and_parts (wants_kill v) (not v.killed) d.1 in
    let q = and_parts (v.started && not v.exited) _ p.0 in
    let r = and_parts v.started (not v.exited) q.0 in
    record { on = r.0; some = inl (not-true _ r.1) }
due_open may v (Release k) d =
    let p = and_parts (wants_release v) (not v.output_ended) d.1 in
    let q = and_parts (v.started && v.exited) _ p.0 in
    record { on = (and_parts v.started v.exited q.0).0; some = inr (inr (not-true _ p.1)) }
due_open may v (WantChild k) d =
    let p = and_parts (wants_output may v) (not v.asked) d.1 in
    let q = and_parts (v.started && not (is_some v.outcome) && not v.killed && not v.output_ended) may p.0 in
    let r = and_parts (v.started && not (is_some v.outcome) && not v.killed) (not v.output_ended) q.0 in
    let t = and_parts (v.started && not (is_some v.outcome)) (not v.killed) r.0 in
    record { on = (and_parts v.started (not (is_some v.outcome)) t.0).0; some = inr (inr (not-true _ r.1)) }
due_open may v act d = absurd d

pub due_unsettled : (may : Bool) (v : View) (act : Act) → (v.started ≡ true → v.refused ≡ false) → Due may v act → is_settled v ≡ false
due_unsettled may v act apart d =
    let o = due_open may v act d in
    settled_by v.refused v.exited v.input_ended v.output_ended (apart o.on) o.some

pub due_names : (may : Bool) (v : View) (act : Act) → Due may v act → (k : ℕ) → (k == v.number) ≡ false → names_child k (Out act) ≡ false
due_names may v (Feed j bytes) d k e = ap (λ n. k == n) d.0 ∙ e
due_names may v (EndInput j) d k e = ap (λ n. k == n) d.0 ∙ e
due_names may v (Kill j) d k e = ap (λ n. k == n) d.0 ∙ e
due_names may v (Release j) d k e = ap (λ n. k == n) d.0 ∙ e
due_names may v (WantChild j) d k e = ap (λ n. k == n) d.0 ∙ e
due_names may v act d k e = absurd d

pub due_starts : (c : ℕ) (m : Bool) (v : View) (act : Act) → Due m v act → child_started c (Out act) ≡ []
due_starts c m v (Feed j bytes) d = refl
due_starts c m v (EndInput j) d = refl
due_starts c m v (Kill j) d = refl
due_starts c m v (Release j) d = refl
due_starts c m v (WantChild j) d = refl
due_starts c m v act d = absurd d

-- no test of such an act looks at the connection
pub due_conn : (may : Bool) (c : ℕ) (u v : View) (act : Act) → Due may u act → noted 0 v plain (Out act) ≡ noted c v plain (Out act)
due_conn may c u v (Feed j bytes) d = refl
due_conn may c u v (EndInput j) d = refl
due_conn may c u v (Kill j) d = refl
due_conn may c u v (Release j) d = refl
due_conn may c u v (WantChild j) d = refl
due_conn may c u v act d = absurd d

-- .. and it decides nothing
pub due_outcome : (may : Bool) (c : ℕ) (u v : View) (act : Act) → Due may u act → (noted c v plain (Out act)).outcome ≡ v.outcome
due_outcome may c u v (Feed j bytes) d = or_none v.outcome
due_outcome may c u v (EndInput j) d = or_none v.outcome
due_outcome may c u v (Kill j) d = or_none v.outcome
due_outcome may c u v (Release j) d = or_none v.outcome
due_outcome may c u v (WantChild j) d = or_none v.outcome
due_outcome may c u v act d = absurd d

pub due_concerns : (may : Bool) (c k : ℕ) (v : View) (act : Act) → Due may v act → names_child k (Out act) ≡ false → concerns c k (Out act) ≡ false
due_concerns may c k v (Feed j bytes) d e = rw e refl
due_concerns may c k v (EndInput j) d e = rw e refl
due_concerns may c k v (Kill j) d e = rw e refl
due_concerns may c k v (Release j) d e = rw e refl
due_concerns may c k v (WantChild j) d e = rw e refl
due_concerns may c k v act d e = absurd d

-- the input is ended of a child that was started
pub due_ends : (may : Bool) (v : View) (act : Act) (k : ℕ) → Due may v act → is_end_input k (Out act) ≡ true → v.started ≡ true
due_ends may v act k d e = (due_open may v act d).on
