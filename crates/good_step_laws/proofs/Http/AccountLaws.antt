-- The accounts of the children of a list, and what may still come for a child that is settled.
use Rattle.std.proofs.Common.{◌≡◌, ℕ, ◌==◌, ◌&&◌, ◌||◌, Bool, true, false, not, List, [], ◌∷◌, map, inl, inr, refl, sym, ap, ◌∙◌, subst}
use Rattle.std.specs.List.{list_any}
use Rattle.std.proofs.lemmas.Bool.{and_parts, eqb-true, false≢true, false_from_ne_true, or_cases, or_from, or_left, or_right}
use Rattle.std.proofs.lemmas.List.Folds.{list_any-append}
use Rattle.host_trace.specs.declared.items.Act.{Act}
use Rattle.host_trace.specs.declared.items.Event.{Event}
use Rattle.host_trace.specs.declared.items.Event.TheVariants.{Started, StartFailed, StartFull, ChildBytes, ChildEof, ChildBroken, Took, InputGone, Exited, Tick}
use Rattle.host_trace.specs.declared.items.Item.{Item}
use Rattle.host_trace.specs.declared.items.Item.TheVariants.{In, Out}
use Rattle.host_trace.specs.Account.{is_refusal, settled, start_refused}
use Rattle.host_trace.specs.Fits.{is_output_asked, is_start_open}
use Rattle.host_trace.specs.Kinds.{is_exited, is_start_answer, is_start_failed, is_start_full, is_started, names_child}
use Rattle.host_trace.specs.Projections.{exited, input_ended, output_ended, start_answered, start_stands, started}
use Rattle.host_trace.specs.Trace.{after_step}
use Rattle.own_traces.specs.OwnFits.{fits_own}
use Rattle.many_conns.specs.Kind.{AreTicks}
use Rattle.good_step_laws.specs.Http.Stands.{Accounts}

-- ---- words

any_implied : (P Q : Item → Bool) → ((x : Item) → P x ≡ true → Q x ≡ true) → (L : List Item) → list_any P L ≡ true → list_any Q L ≡ true
any_implied P Q h [] e = absurd (false≢true e)
any_implied P Q h (x ∷ L) e = elim (or_cases (P x) (list_any P L) e) [
  | inl here ↦ or_left (Q x) (list_any Q L) (h x here)
  | inr later ↦ or_right (Q x) (list_any Q L) (any_implied P Q h L later)
]

or_three : (a b d : Bool) → (b || d) ≡ true → (a || b || d) ≡ true
or_three true b d e = refl
or_three false b d e = e

or_first : (a b d : Bool) → a ≡ true → (a || b || d) ≡ true
or_first true b d e = refl
or_first false b d e = absurd (false≢true e)

refused_answered : (L : List Item) (k : ℕ) → start_refused L k ≡ true → start_answered L k ≡ true
refused_answered L k e = any_implied (is_refusal k) (is_start_answer k) (λ x h. or_three (is_started k x) (is_start_failed k x) (is_start_full k x) h) L e

started_answered : (L : List Item) (k : ℕ) → started L k ≡ true → start_answered L k ≡ true
started_answered L k e = any_implied (is_started k) (is_start_answer k) (λ x h. or_first (is_started k x) (is_start_failed k x) (is_start_full k x) h) L e

not_true : (b : Bool) → not b ≡ true → b ≡ false
not_true true e = absurd (false≢true e)
not_true false e = refl

-- an event comes, and acts
one_more : (test : Item → Bool) (L : List Item) (ev : Event) (acts : List Act) → ((a : Act) → test (Out a) ≡ false) → list_any test (after_step L ev acts) ≡ (list_any test L || test (In ev))
one_more test L ev acts none =
    list_any-append test L (In ev ∷ map Out acts) ∙ (ap (λ (b : Bool). list_any test L || (test (In ev) || b)) (outs acts) ∙ ap (λ (b : Bool). list_any test L || b) (or_none (test (In ev))))
  where
    outs : (acts : List Act) → list_any test (map Out acts) ≡ false
    outs [] = refl
    outs (a ∷ acts) = or_from (test (Out a)) (list_any test (map Out acts)) (none a) (outs acts)

    or_none : (b : Bool) → (b || false) ≡ b
    or_none true = refl
    or_none false = refl

-- ---- what fits

exits_started : (limit : ℕ) (L : List Item) (k : ℕ) (ev : Event) → is_exited k (In ev) ≡ true → fits_own limit L ev ≡ true → started L k ≡ true
exits_started limit L k (Exited d) e f = subst (λ (j : ℕ). started L j ≡ true) (sym (eqb-true k d e)) (and_parts (started L d) (not (exited L d)) f).0
exits_started limit L k ev e f = absurd (false≢true e)

starts_open : (limit : ℕ) (L : List Item) (k : ℕ) (ev : Event) → is_started k (In ev) ≡ true → fits_own limit L ev ≡ true → start_answered L k ≡ false
starts_open limit L k (Started d) e f =
    subst (λ (j : ℕ). start_answered L j ≡ false) (sym (eqb-true k d e)) (not_true (start_answered L d) (and_parts (start_stands L d) (not (start_answered L d)) f).1)
starts_open limit L k ev e f = absurd (false≢true e)

refusals_open : (limit : ℕ) (L : List Item) (k : ℕ) (ev : Event) → is_refusal k (In ev) ≡ true → fits_own limit L ev ≡ true → (start_answered L k ≡ false) × (is_started k (In ev) ≡ false)
refusals_open limit L k (StartFailed d) e f = (
  subst (λ (j : ℕ). start_answered L j ≡ false) (sym (eqb-true k d (only (k == d) e))) (not_true (start_answered L d) (and_parts (start_stands L d) (not (start_answered L d)) f).1),
  refl,
)
  where
    only : (b : Bool) → (b || false) ≡ true → b ≡ true
    only true e = refl
    only false e = e
refusals_open limit L k (StartFull d seen) e f = (
  subst (λ (j : ℕ). start_answered L j ≡ false) (sym (eqb-true k d e))
      (not_true (start_answered L d) (and_parts (start_stands L d) (not (start_answered L d)) (and_parts (is_start_open L d) (seen == limit) f).0).1),
  refl,
)
refusals_open limit L k ev e f = absurd (false≢true e)

-- ---- the accounts

pub accounts_kept : (limit : ℕ) (L : List Item) (ev : Event) (acts : List Act) → Accounts L → fits_own limit L ev ≡ true → Accounts (after_step L ev acts)
accounts_kept limit L ev acts a f = record {
  reaped = λ k e.
      one_more (is_started k) L ev acts (λ act. refl)
      ∙ elim (or_cases (exited L k) (is_exited k (In ev)) (sym (one_more (is_exited k) L ev acts (λ act. refl)) ∙ e)) [
        | inl was ↦ or_left (started L k) (is_started k (In ev)) (a.reaped k was)
        | inr now ↦ or_left (started L k) (is_started k (In ev)) (exits_started limit L k ev now f)
      ];
  apart = λ k e.
      one_more (is_started k) L ev acts (λ act. refl)
      ∙ elim (or_cases (start_refused L k) (is_refusal k (In ev)) (sym (one_more (is_refusal k) L ev acts (λ act. refl)) ∙ e)) [
        | inl was ↦
            or_from (started L k) (is_started k (In ev)) (a.apart k was)
            (false_from_ne_true (is_started k (In ev)) (λ now. false≢true (sym (starts_open limit L k ev now f) ∙ refused_answered L k was)))
        | inr now ↦
            let open_yet = refusals_open limit L k ev now f in
            or_from (started L k) (is_started k (In ev))
            (false_from_ne_true (started L k) (λ was. false≢true (sym open_yet.0 ∙ started_answered L k was))) open_yet.1
      ];
}

pub tick_accounts : (L : List Item) → AreTicks L → Accounts L
tick_accounts L ticks = record {
  reaped = λ k e. absurd (false≢true (sym (none (is_exited k) (λ secs. refl) L ticks) ∙ e));
  apart = λ k e. none (is_started k) (λ secs. refl) L ticks;
}
  where
    none : (test : Item → Bool) → ((secs : ℕ) → test (In (Tick secs)) ≡ false) → (L : List Item) → AreTicks L → list_any test L ≡ false
    none test other [] ticks = refl
    none test other (In (Tick secs) ∷ L) ticks = or_from (test (In (Tick secs))) (list_any test L) (other secs) (none test other L ticks.1)
    none test other (In ev ∷ L) ticks = absurd (false≢true ticks.0)
    none test other (Out act ∷ L) ticks = absurd (false≢true ticks.0)

-- ---- a child that is settled

-- bytes that its input took may still be told
pub record IsTook (ev : Event) (k : ℕ) : Type 0 where
  pub count : ℕ
  pub is : ev ≡ Took k count

settled_ended : (L : List Item) (k : ℕ) → Accounts L → settled L k ≡ true → started L k ≡ true → (exited L k ≡ true) × ((input_ended L k ≡ true) × (output_ended L k ≡ true))
settled_ended L k a is on = go (start_refused L k) refl
  where
    go : (b : Bool) → start_refused L k ≡ b → (exited L k ≡ true) × ((input_ended L k ≡ true) × (output_ended L k ≡ true))
    go true refused = absurd (false≢true (sym (a.apart k refused) ∙ on))
    go false unrefused =
        let rest : (exited L k && input_ended L k && output_ended L k) ≡ true = sym (ap (λ (b : Bool). b || exited L k && input_ended L k && output_ended L k) unrefused) ∙ is in
        let p = and_parts (exited L k && input_ended L k) (output_ended L k) rest in
        let q = and_parts (exited L k) (input_ended L k) p.0 in
        (q.0, (q.1, p.1))

settled_answered : (L : List Item) (k : ℕ) → Accounts L → settled L k ≡ true → start_answered L k ≡ true
settled_answered L k a is = go (start_refused L k) refl
  where
    go : (b : Bool) → start_refused L k ≡ b → start_answered L k ≡ true
    go true refused = refused_answered L k refused
    go false unrefused =
        let rest : (exited L k && input_ended L k && output_ended L k) ≡ true = sym (ap (λ (b : Bool). b || exited L k && input_ended L k && output_ended L k) unrefused) ∙ is in
        let p = and_parts (exited L k && input_ended L k) (output_ended L k) rest in
        started_answered L k (a.reaped k (and_parts (exited L k) (input_ended L k) p.0).0)

module _ (limit : ℕ) (L : List Item) (k : ℕ) (a : Accounts L) (is : settled L k ≡ true) where
  none_open : start_stands L k ≡ true → not (start_answered L k) ≡ true → ⊥
  none_open s n = false≢true (sym (not_true (start_answered L k) n) ∙ settled_answered L k a is)

  none_asked : is_output_asked L k ≡ true → ⊥
  none_asked f =
      let p = and_parts (started L k && not (output_ended L k)) _ f in
      let q = and_parts (started L k) (not (output_ended L k)) p.0 in
      false≢true (sym (not_true (output_ended L k) q.1) ∙ (settled_ended L k a is q.0).1.1)

  -- of a child that is settled nothing else fits
  pub late_is_took : (ev : Event) → names_child k (In ev) ≡ true → fits_own limit L ev ≡ true → IsTook ev k
  late_is_took (Started d) e f =
      absurd (let p = and_parts (start_stands L d) (not (start_answered L d)) f in subst (λ (j : ℕ). start_stands L j ≡ true → not (start_answered L j) ≡ true → ⊥) (eqb-true k d e) none_open p.0 p.1)
  late_is_took (StartFailed d) e f =
      absurd (let p = and_parts (start_stands L d) (not (start_answered L d)) f in subst (λ (j : ℕ). start_stands L j ≡ true → not (start_answered L j) ≡ true → ⊥) (eqb-true k d e) none_open p.0 p.1)
  late_is_took (StartFull d seen) e f =
      absurd (let p = and_parts (start_stands L d) (not (start_answered L d)) (and_parts (is_start_open L d) (seen == limit) f).0 in
      subst (λ (j : ℕ). start_stands L j ≡ true → not (start_answered L j) ≡ true → ⊥) (eqb-true k d e) none_open p.0 p.1)
  late_is_took (ChildBytes d bytes) e f = absurd (subst (λ (j : ℕ). is_output_asked L j ≡ true → ⊥) (eqb-true k d e) none_asked (and_parts (is_output_asked L d) _ f).0)
  late_is_took (ChildEof d) e f = absurd (subst (λ (j : ℕ). is_output_asked L j ≡ true → ⊥) (eqb-true k d e) none_asked f)
  late_is_took (ChildBroken d) e f = absurd (subst (λ (j : ℕ). is_output_asked L j ≡ true → ⊥) (eqb-true k d e) none_asked f)
  late_is_took (Took d n) e f = record { count = n; is = ap (λ (j : ℕ). Took j n) (sym (eqb-true k d e)) }
  late_is_took (InputGone d) e f =
      absurd (let p = and_parts (started L d) (not (input_ended L d)) f in
      let same = eqb-true k d e in
      let on : started L k ≡ true = subst (λ (j : ℕ). started L j ≡ true) (sym same) p.0 in
      let none : input_ended L k ≡ false = subst (λ (j : ℕ). input_ended L j ≡ false) (sym same) (not_true (input_ended L d) p.1) in
      false≢true (sym none ∙ (settled_ended L k a is on).1.0))
  late_is_took (Exited d) e f =
      absurd (let p = and_parts (started L d) (not (exited L d)) f in
      let same = eqb-true k d e in
      let on : started L k ≡ true = subst (λ (j : ℕ). started L j ≡ true) (sym same) p.0 in
      let none : exited L k ≡ false = subst (λ (j : ℕ). exited L j ≡ false) (sym same) (not_true (exited L d) p.1) in
      false≢true (sym none ∙ (settled_ended L k a is on).0))
  late_is_took ev e f = absurd (false≢true e)
