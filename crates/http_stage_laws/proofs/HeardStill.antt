-- An event between two steps of a connection for which memory ran out.
use Rattle.std.proofs.Common.{◌≡◌, ℕ, ◌==◌, Bool, true, false, ◌&&◌, ◌||◌, not, List, [], ◌∷◌, Option, Some, None, is_some, option_map, refl, sym, ap, ◌∙◌, subst}
use Rattle.std.specs.List.{list_any}
use Rattle.std.proofs.lemmas.Bool.{and_parts, eqb-true, false≢true}
use Rattle.std.proofs.lemmas.List.Folds.{list_any-append}
use Rattle.host_base.specs.declared.site.ScriptKind.{ScriptKind}
use Rattle.host_trace.specs.declared.items.Event.{Event}
use Rattle.host_trace.specs.declared.items.Event.TheVariants.{ChildBytes}
use Rattle.host_trace.specs.declared.items.Item.{Item}
use Rattle.host_trace.specs.declared.items.Item.TheVariants.{In}
use Rattle.host_trace.specs.Decider.{is_websocket}
use Rattle.host_trace.specs.First.{or_else}
use Rattle.host_trace.specs.Fits.{is_output_asked, is_piece}
use Rattle.host_trace.specs.Kinds.{bytes_heard, is_child_broken, is_child_eof, is_output_end, is_release, output_heard}
use Rattle.host_trace.specs.Projections.{child_wanted, output_ended, shut, started}
use Rattle.own_traces.specs.OwnFits.{fits_own}
use Rattle.trace_child.specs.Decided.{decided_at}
use Rattle.trace_child.specs.Words.{is_filled}
use Rattle.child_core.specs.declared.ending.Outcome.{Outcome}
use Rattle.child_core.specs.declared.ending.Outcome.TheVariants as Ended
use Rattle.child_core.specs.Calls.{is_kept}
use Rattle.child_core.specs.Knows.{read}
use Rattle.child_core.specs.View.{View, drops_output, is_output, outcome_after, plain, verdict}
use Rattle.trace_model.specs.Exchange.{Exchange, pushed}
use Rattle.trace_model.specs.Legs.{Leg as StartedLeg, run_of}
use Rattle.exchange_stage.specs.declared.stage.Stage.{Stage}
use Rattle.exchange_stage.specs.declared.stage.Stage.TheVariants as At
use Rattle.exchange_laws.specs.StageIs.{LostIs, StageIs}
use Rattle.exchange_laws.specs.Walked.{IsLast}
use Rattle.exchange_laws.proofs.ItemLaws.{items_keep_stages}
use Rattle.exchange_laws.proofs.LostLaws.{items_keep_lost}
use Rattle.exchange_laws.proofs.RunLaws.{outcome_by_front}
use Rattle.http_conn.specs.HttpConn.{HttpConn}
use Rattle.http_conn.specs.Kept.{number_of, site_of}
use Rattle.http_conn.specs.Settles.{is_answered}
use Rattle.http_stage_laws.specs.HeardStages.{AtRest, RestedLost}
use Rattle.http_stage_laws.proofs.EndLaws.{is_at_answered}
use Rattle.http_stage_laws.proofs.HeardLose.{from_lost, to_lost}
use Rattle.http_stage_laws.proofs.HeardRest.{answered_filled, known_at, no_run, or_right, same_list, says, tells}
use Rattle.http_stage_laws.proofs.StagedLaws.{no_last}

-- ---- words

first_or : (p q : Item → Bool) → ((x : Item) → p x ≡ true → q x ≡ true) → (x : Item) (old new : Bool) → (old ≡ true → new ≡ true) → (p x || old) ≡ true → (q x || new) ≡ true
first_or p q more x old new later any = go (p x) refl any
  where
    right : (b : Bool) → new ≡ true → (b || new) ≡ true
    right true r = refl
    right false r = r

    go : (b : Bool) → p x ≡ b → (b || old) ≡ true → (q x || new) ≡ true
    go true is a = ap (λ (b : Bool). b || new) (more x is)
    go false is a = right (q x) (later a)

pub any_more : (p q : Item → Bool) → ((x : Item) → p x ≡ true → q x ≡ true) → (xs : List Item) → list_any p xs ≡ true → list_any q xs ≡ true
any_more p q more [] any = absurd (false≢true any)
any_more p q more (x ∷ xs) any = first_or p q more x (list_any p xs) (list_any q xs) (any_more p q more xs) any

pub eof_ends : (k : ℕ) (x : Item) → is_child_eof k x ≡ true → is_output_end k x ≡ true
eof_ends k x is = ap (λ (b : Bool). b || is_child_broken k x || is_release k x) is

or_true : (b : Bool) → (b || true) ≡ true
or_true true = refl
or_true false = refl

not_true : (b : Bool) → not b ≡ true → b ≡ false
not_true true e = sym e
not_true false e = refl

-- a decided run that keeps its output was decided by the end of it
kept_output : (kind : ScriptKind) (o : Option Outcome) → is_some o ≡ true → drops_output kind o ≡ false → is_output o ≡ true
kept_output kind None some keeps = absurd (false≢true some)
kept_output kind (Some Ended.Output) some keeps = refl
kept_output kind (Some _) some keeps = absurd (false≢true (sym (or_right (is_websocket kind) true keeps)))

module _ (old : HttpConn) (L : List Item) (e : Exchange) (legs : List StartedLeg) (next : ℕ) (rest : AtRest old L e legs next) where
  -- of a run that is decided no output comes that would be kept
  pub kept_undecided : (k : ℕ) (bytes : List ℕ) → fits_own (site_of old).limits.children L (ChildBytes k bytes) ≡ true → (v : View) → old.run ≡ Some v → is_some v.outcome ≡ true → is_kept v (ChildBytes k bytes) ≡ true → ⊥
  kept_undecided k bytes fits v is decided kept =
      let parts = and_parts (v.number == k) (not (drops_output v.kind (outcome_after 0 v plain (In (ChildBytes k bytes))))) kept in
      let number : v.number ≡ k = eqb-true v.number k parts.0 in
      let keeps : drops_output v.kind v.outcome ≡ false = not_true (drops_output v.kind v.outcome) (same_not v.outcome refl decided parts.1) in
      let runs = (known_at old L e legs next rest (Some v) is).runs in
      let output : is_output runs.view.outcome ≡ true = ap (λ (w : View). is_output w.outcome) (sym runs.held_as) ∙ kept_output v.kind v.outcome decided keeps in
      let eof : list_any (is_child_eof runs.view.number) e.items ≡ true = runs.known.knows.eof output in
      let ended_here : list_any (is_output_end k) e.items ≡ true =
      any_more (is_child_eof k) (is_output_end k) (eof_ends k) e.items
      (subst (λ (j : ℕ). list_any (is_child_eof j) e.items ≡ true) (ap (λ (w : View). w.number) (sym runs.held_as) ∙ number) eof) in
      let ended_then : output_ended L k ≡ true =
      ap (λ (l : List Item). output_ended l k) (sym (same_list old L e legs next rest))
      ∙ (list_any-append (is_output_end k) e.before e.items
      ∙ (ap (λ (b : Bool). list_any (is_output_end k) e.before || b) ended_here ∙ or_true (list_any (is_output_end k) e.before))) in
      let asked = (and_parts (is_output_asked L k) (is_piece bytes) fits).0 in
      let open_yet = (and_parts (started L k) (not (output_ended L k)) (and_parts (started L k && not (output_ended L k)) (child_wanted L k) asked).0).1 in
      false≢true (sym (not_true (output_ended L k) open_yet) ∙ ended_then)
    where
      same_not : (o : Option Outcome) → v.outcome ≡ o → is_some o ≡ true → not (drops_output v.kind (outcome_after 0 v plain (In (ChildBytes k bytes)))) ≡ true → not (drops_output v.kind v.outcome) ≡ true
      same_not None at some n = absurd (false≢true some)
      same_not (Some outcome) at some n =
          let after : outcome_after 0 v plain (In (ChildBytes k bytes)) ≡ Some outcome = ap (λ (o : Option Outcome). or_else o (verdict 0 v plain (In (ChildBytes k bytes)))) at in
          ap (λ (o : Option Outcome). not (drops_output v.kind o)) (at ∙ sym after) ∙ n

module _ (old : HttpConn) (L : List Item) (e : Exchange) (legs : List StartedLeg) (next : ℕ) (rest : AtRest old L e legs next) (was : RestedLost old e legs) where
  pub is_shut : shut L (number_of old) ≡ true
  is_shut = sym (says old L e legs next rest).shut_then ∙ was.shut

  -- its run is decided
  decided_run : (leg : StartedLeg) → IsLast (site_of old) (number_of old) e legs leg → decided_at (run_of (site_of old) (number_of old) e leg) e.items ≡ None → ⊥
  decided_run leg last none = go old.run refl
    where
      go : (run : Option View) → old.run ≡ run → ⊥
      go None is = no_last last.before leg (sym (no_run old L e legs next rest is) ∙ last.is)
      go (Some v) is =
          let undecided : option_map read v.outcome ≡ None = sym (tells old L e legs next rest v is leg last).outcome ∙ outcome_by_front (run_of (site_of old) (number_of old) e leg) e.items None none in
          by_outcome v.outcome (was.decided v is) undecided
        where
          by_outcome : (o : Option Outcome) → is_some o ≡ true → option_map read o ≡ None → ⊥
          by_outcome None some none = absurd (false≢true some)
          by_outcome (Some o) some none = absurd (cc)

  -- ---- the stage

  module _ (ev : Event) (quiet : bytes_heard (number_of old) (In ev) ≡ []) where
    abbrev more_by : Option View → List ℕ
    more_by None = []
    more_by (Some v) = output_heard v.number (In ev)

    answered_then : StageIs (site_of old) (number_of old) e legs old.continued false (old.closing || old.closes) [] At.Answered
        → StageIs (site_of old) (number_of old) (pushed e (In ev)) legs old.continued false (old.closing || old.closes) (more_by old.run) At.Answered
    answered_then is =
        let filled : is_filled legs ≡ true = answered_filled old L e legs next rest old.continued (old.closing || old.closes) is in
        items_keep_stages (site_of old) (number_of old) e legs old.continued false (old.closing || old.closes) [] (In ev) false (more_by old.run) At.Answered rest.two filled is (record {
          unwritten = refl;
          starts_none = refl;
          breaks_none = λ none. absurd (false≢true (sym (ap is_filled none) ∙ filled));
          looked_is = λ seen. absurd (false≢true seen);
          let_on = λ some. absurd (false≢true (sym (ap is_filled quiet) ∙ some));
          unended = λ ended_it. quiet;
          more_is = more_is;
          drained = λ leg last none comes. refl;
        })
      where
        more_is : (leg : StartedLeg) → IsLast (site_of old) (number_of old) e legs leg → more_by old.run ≡ output_heard leg.child (In ev)
        more_is leg last = go old.run refl
          where
            go : (run : Option View) → old.run ≡ run → more_by run ≡ output_heard leg.child (In ev)
            go None is = absurd (no_last last.before leg (sym (no_run old L e legs next rest is) ∙ last.is))
            go (Some v) is = ap (λ (k : ℕ). output_heard k (In ev)) (tells old L e legs next rest v is leg last).number

    pub still_lost : LostIs (site_of old) (number_of old) (pushed e (In ev)) legs old.continued (old.closing || old.closes) old.stage
    still_lost = go (is_answered old.stage) refl
      where
        go : (b : Bool) → is_answered old.stage ≡ b → LostIs (site_of old) (number_of old) (pushed e (In ev)) legs old.continued (old.closing || old.closes) old.stage
        go true at =
            subst (λ (s : Stage). LostIs (site_of old) (number_of old) (pushed e (In ev)) legs old.continued (old.closing || old.closes) s) (sym (is_at_answered old.stage at))
            (answered_then (subst (λ (s : Stage). LostIs (site_of old) (number_of old) e legs old.continued (old.closing || old.closes) s) (is_at_answered old.stage at) was.lost))
        go false other =
            from_lost (site_of old) (number_of old) (pushed e (In ev)) legs old.continued (old.closing || old.closes) old.stage other
            (items_keep_lost (site_of old) (number_of old) e legs old.continued (In ev) rest.two
            (to_lost (site_of old) (number_of old) e legs old.continued (old.closing || old.closes) old.stage other was.lost) (record {
              unwritten = refl;
              starts_none = refl;
              let_on = λ some. absurd (false≢true (sym (ap is_filled quiet) ∙ some));
              undecided = λ leg last none. absurd (decided_run leg last none);
            }))
