-- The reply of a script that runs, where its connection heard an event between two steps.
use Rattle.std.proofs.Common.{◌≡◌, ℕ, Bool, true, false, ◌||◌, List, [], ◌++◌, Option, Some, None, is_some, option_map, refl, sym, ap, ◌∙◌, subst}
use Rattle.std.proofs.lemmas.Bool.{false≢true}
use Rattle.host_trace.specs.declared.items.Event.{Event}
use Rattle.host_trace.specs.declared.items.Item.{Item}
use Rattle.host_trace.specs.declared.items.Item.TheVariants.{In}
use Rattle.host_trace.specs.Decider.{Outcome as Read, is_websocket}
use Rattle.host_trace.specs.Kinds.{is_tick, output_heard}
use Rattle.own_traces.specs.OwnFits.{fits_own}
use Rattle.child_core.specs.declared.ending.Outcome.{Outcome}
use Rattle.child_core.specs.declared.ending.Outcome.TheVariants.{Output, Failed, Gone, Stopped, Dropped}
use Rattle.child_core.specs.Knows.{read}
use Rattle.child_core.specs.View.{View, drops_output, is_other}
use Rattle.trace_model.specs.Exchange.{Exchange, pushed}
use Rattle.trace_model.specs.Legs.{Leg as Started}
use Rattle.exchange_request.specs.Knows.{is_looked_at}
use Rattle.exchange_stage.specs.declared.stage.Leg.{Leg}
use Rattle.exchange_stage.specs.declared.stage.Stage.{Stage}
use Rattle.exchange_stage.specs.declared.stage.Stage.TheVariants as At
use Rattle.exchange_laws.specs.Items.{noted_by}
use Rattle.exchange_laws.specs.OfRun.{leg_held}
use Rattle.exchange_laws.specs.Rules.{Rests, RunRests}
use Rattle.child_laws.specs.Children.{KnowsChildren}
use Rattle.child_laws.specs.Heard.{heard_by, last_hop, run_heard}
use Rattle.child_laws.proofs.EventLaws.{events_known}
use Rattle.http_conn.specs.HttpConn.{HttpConn}
use Rattle.http_conn.specs.Kept.{number_of, site_of}
use Rattle.http_conn.specs.Ready.{undrained}
use Rattle.http_stage_laws.specs.HeardStages.{AtRest, Rested}
use Rattle.http_stage_laws.specs.Staged.{drops_of}
use Rattle.http_stage_laws.proofs.EndLaws.{left_true, or_none}
use Rattle.http_stage_laws.proofs.HeardOutput.{KeepsOn, heard_keeps}
use Rattle.http_stage_laws.proofs.HeardRest.{at_stage, or_right, same_list, tells}
use Rattle.http_stage_laws.proofs.HeardStage.{WasRunning, noted_running}

module _ (old : HttpConn) (L : List Item) (e : Exchange) (legs : List Started) (next : ℕ) (ev : Event) (rest : AtRest old L e legs next)
    (fits : fits_own (site_of old).limits.children L ev ≡ true) where
  -- what is known of the children with the event
  pub children_heard : (found : Bool) → KnowsChildren (site_of old) (number_of old) (pushed e (In ev)) false next legs (run_heard (site_of old) (number_of old) e legs found ev old.run)
  children_heard found =
      events_known (site_of old) (number_of old) e next legs old.run ev found rest.two
      (subst (λ (l : List Item). fits_own (site_of old).limits.children l ev ≡ true) (sym (same_list old L e legs next rest)) fits) rest.children

  module _ (rested : Rested old e legs) where
    -- ---- its output

    abbrev pub more_after : Option View → List ℕ
    more_after None = []
    more_after (Some v) = rested.staged.more ++ output_heard v.number (In ev)

    pub output_kept : (run : Option View) → old.run ≡ run → (mid : Option View) → mid ≡ run_heard (site_of old) (number_of old) e legs true ev run → drops_of mid ≡ false
        → more_after run ≡ undrained mid
    output_kept None is mid heard keeps = sym (ap undrained heard)
    output_kept (Some v) is mid heard keeps =
        let k : KeepsOn v (heard_by (site_of old) (number_of old) e (last_hop legs) true ev v) (In ev) = heard_keeps (site_of old) (number_of old) e (last_hop legs) ev v in
        let now : drops_of (Some (heard_by (site_of old) (number_of old) e (last_hop legs) true ev v)) ≡ false = sym (ap drops_of heard) ∙ keeps in
        ap (λ (l : List ℕ). l ++ output_heard v.number (In ev)) (rested.staged.kept (ap drops_of is ∙ k.drops now) ∙ ap undrained is)
        ∙ (sym (k.output now) ∙ sym (ap undrained heard))

    -- ---- at Running

    rests_at : (held : Leg) → old.stage ≡ At.Running held → Rests (site_of old) (number_of old) e legs (is_looked_at old.request) rested.staged.more (At.Running held)
    rests_at held at = subst (λ (s : Stage). Rests (site_of old) (number_of old) e legs (is_looked_at old.request) rested.staged.more s) at rested.rests

    -- by what decided the run of this view
    pub run_rests : (held : Leg) → old.stage ≡ At.Running held → (v : View) → old.run ≡ Some v
        → RunRests (number_of old) e rested.staged.more held (option_map read v.outcome)
    run_rests held at v is =
        let running = (at_stage old L e legs next rest rested (At.Running held) at).0 in
        subst (λ (o : Option Read). RunRests (number_of old) e rested.staged.more held o) (tells old L e legs next rest v is (leg_held held running.child) running.last).outcome
        ((rests_at held at).1 (leg_held held running.child) running.last)

    pub written_then : (mid : Stage) → mid ≡ noted_by (In ev) old.stage → (leg : Leg) → mid ≡ At.Running leg → leg.text ≡ []
    written_then mid stage leg at =
        let w : WasRunning (In ev) old.stage leg = noted_running (In ev) old.stage leg (sym stage ∙ at) in
        ap (λ (l : Leg). l.text) w.is ∙ (rests_at w.held w.at).0

    module _ (silent : is_tick (In ev) ≡ true → (k : ℕ) → output_heard k (In ev) ≡ []) where
      -- an undecided run, of which all output was told
      undecided : (v : View) (held : Leg) → (rested.staged.more ≡ []) × (held.ticked ≡ false) → (is_tick (In ev) || held.ticked) ≡ true
          → rested.staged.more ++ output_heard v.number (In ev) ≡ []
      undecided v held told ticked =
          let tick : is_tick (In ev) ≡ true = sym (or_none (is_tick (In ev))) ∙ (ap (λ (b : Bool). is_tick (In ev) || b) (sym told.1) ∙ ticked) in
          ap (λ (l : List ℕ). l ++ output_heard v.number (In ev)) told.0 ∙ silent tick v.number

      by_outcome : (v : View) → old.run ≡ Some v → (held : Leg) → old.stage ≡ At.Running held → (is_tick (In ev) || held.ticked) ≡ true → drops_output v.kind v.outcome ≡ false
          → (o : Option Outcome) → v.outcome ≡ o → rested.staged.more ++ output_heard v.number (In ev) ≡ []
      by_outcome v is held at ticked keeps None none =
          undecided v held (subst (λ (o : Option Outcome). RunRests (number_of old) e rested.staged.more held (option_map read o)) none (run_rests held at v is)) ticked
      by_outcome v is held at ticked keeps (Some Output) some =
          absurd (subst (λ (o : Option Outcome). RunRests (number_of old) e rested.staged.more held (option_map read o)) some (run_rests held at v is))
      by_outcome v is held at ticked keeps (Some (Failed cause)) some =
          absurd (false≢true (sym (or_right (is_websocket v.kind) (is_other v.outcome) keeps) ∙ ap is_other some))
      by_outcome v is held at ticked keeps (Some Gone) some =
          absurd (false≢true (sym (or_right (is_websocket v.kind) (is_other v.outcome) keeps) ∙ ap is_other some))
      by_outcome v is held at ticked keeps (Some Stopped) some =
          absurd (false≢true (sym (or_right (is_websocket v.kind) (is_other v.outcome) keeps) ∙ ap is_other some))
      by_outcome v is held at ticked keeps (Some Dropped) some =
          absurd (false≢true (sym (or_right (is_websocket v.kind) (is_other v.outcome) keeps) ∙ ap is_other some))

      -- a run that keeps no output has none
      spent_now : (v : View) → old.run ≡ Some v → drops_output (heard_by (site_of old) (number_of old) e (last_hop legs) true ev v).kind (heard_by (site_of old) (number_of old) e (last_hop legs) true ev v).outcome ≡ true
          → (heard_by (site_of old) (number_of old) e (last_hop legs) true ev v).output ≡ []
      spent_now v is drops =
          let w : View = heard_by (site_of old) (number_of old) e (last_hop legs) true ev v in
          let k : KnowsChildren (site_of old) (number_of old) (pushed e (In ev)) false next legs (Some w) =
          subst (λ (run : Option View). KnowsChildren (site_of old) (number_of old) (pushed e (In ev)) false next legs (run_heard (site_of old) (number_of old) e legs true ev run)) is (children_heard true) in
          let plain : is_websocket w.kind ≡ false = ap (λ (u : View). is_websocket u.kind) k.runs.held_as ∙ k.runs.known.plain in
          let other : is_other w.outcome ≡ true = sym (ap (λ (b : Bool). b || is_other w.outcome) plain) ∙ drops in
          ap (λ (u : View). u.output) k.runs.held_as
          ∙ k.runs.known.spent.output (ap (λ (u : View). is_some u.outcome) (sym k.runs.held_as) ∙ left_true (is_some w.outcome) _ other)
          (ap (λ (u : View). drops_output u.kind u.outcome) (sym k.runs.held_as) ∙ drops)

      pub apart_then : (mid : Stage) → mid ≡ noted_by (In ev) old.stage → (run : Option View) → run ≡ run_heard (site_of old) (number_of old) e legs true ev old.run
          → (leg : Leg) → mid ≡ At.Running leg → leg.ticked ≡ true → undrained run ≡ []
      apart_then mid stage run heard leg at ticked = by_run old.run refl
        where
          w : WasRunning (In ev) old.stage leg
          w = noted_running (In ev) old.stage leg (sym stage ∙ at)

          by_drops : (v : View) → old.run ≡ Some v → (b : Bool)
              → drops_output (heard_by (site_of old) (number_of old) e (last_hop legs) true ev v).kind (heard_by (site_of old) (number_of old) e (last_hop legs) true ev v).outcome ≡ b → undrained run ≡ []
          by_drops v is true drops =
              ap undrained (heard ∙ ap (λ (r : Option View). run_heard (site_of old) (number_of old) e legs true ev r) is) ∙ spent_now v is drops
          by_drops v is false keeps =
              let heard_is : run ≡ run_heard (site_of old) (number_of old) e legs true ev (Some v) = heard ∙ ap (λ (r : Option View). run_heard (site_of old) (number_of old) e legs true ev r) is in
              sym (output_kept (Some v) is run heard_is (ap drops_of heard_is ∙ keeps))
              ∙ by_outcome v is w.held w.at (sym (ap (λ (l : Leg). l.ticked) w.is) ∙ ticked)
              ((heard_keeps (site_of old) (number_of old) e (last_hop legs) ev v).drops keeps) v.outcome refl

          by_run : (r : Option View) → old.run ≡ r → undrained run ≡ []
          by_run None is = ap undrained (heard ∙ ap (λ (r : Option View). run_heard (site_of old) (number_of old) e legs true ev r) is)
          by_run (Some v) is = by_drops v is (drops_output (heard_by (site_of old) (number_of old) e (last_hop legs) true ev v).kind (heard_by (site_of old) (number_of old) e (last_hop legs) true ev v).outcome) refl
