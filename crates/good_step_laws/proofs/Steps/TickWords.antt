-- What a Tick and the exit of its child make of a run for which nothing was due.
use Rattle.std.proofs.Common.{◌≡◌, ℕ, ◌==◌, Bool, true, false, ◌&&◌, ◌||◌, not, List, [], Option, Some, None, is_some, refl, sym, ap, ◌∙◌}
use Rattle.std.proofs.lemmas.Bool.{false≢true}
use Rattle.host_trace.specs.declared.items.Event.TheVariants.{Exited, Tick}
use Rattle.host_trace.specs.Decider.{is_websocket}
use Rattle.trace_child.specs.Words.{is_filled}
use Rattle.child_core.specs.declared.ending.Outcome.{Outcome}
use Rattle.child_core.specs.Calls.{heard}
use Rattle.child_core.specs.Due.{is_feed_due, is_input_due, is_left_alone, is_release_due}
use Rattle.child_core.specs.View.{View, cleared, is_other}

abbrev pub at_tick : ℕ → View → View
at_tick secs v = heard v (Tick secs) true

abbrev pub at_exit : ℕ → View → View
at_exit k v = heard v (Exited k) true

-- ---- words

fed_off : (s d e i f u : Bool) → d ≡ true → (s && not d && not e && not i && f && u) ≡ false
fed_off s false e i f u decided = absurd (false≢true decided)
fed_off true true e i f u decided = refl
fed_off false true e i f u decided = refl

alone_off : (h d l : Bool) → d ≡ true → (h && not d && l) ≡ false
alone_off h false l decided = absurd (false≢true decided)
alone_off true true l decided = refl
alone_off false true l decided = refl

exit_off : (x s d e i f u : Bool) → (s && not d && not e && not i && f && u) ≡ false → (s && not d && not (x || e) && not i && f && u) ≡ false
exit_off false s d e i f u none = none
exit_off true false d e i f u none = refl
exit_off true true true e i f u none = refl
exit_off true true false e i f u none = refl

-- no Feed is due for a run that is decided
pub decided_unfed : (v : View) → is_some v.outcome ≡ true → is_feed_due v ≡ false
decided_unfed v decided = fed_off v.started (is_some v.outcome) v.exited v.input_ended (is_filled v.unfed) (v.untaken == 0) decided

decided_alone : (v : View) → is_some v.outcome ≡ true → is_left_alone v ≡ false
decided_alone v decided = alone_off v.hung_up (is_some v.outcome) (v.linger_left == 0) decided

-- ---- a Tick

pub some_is : (o : Option Outcome) → is_some o ≡ true → (d : Outcome) × (o ≡ Some d)
some_is None e = absurd (false≢true e)
some_is (Some d) e = (d, refl)

-- what was decided stays
pub tick_decided : (secs : ℕ) (v : View) (o : Outcome) → v.outcome ≡ Some o → (at_tick secs v).outcome ≡ Some o
tick_decided secs v o is = rw is refl

pub tick_input : (secs : ℕ) (v : View) (o : Outcome) → v.outcome ≡ Some o → is_input_due (at_tick secs v) ≡ is_input_due v
tick_input secs v o is = rw is refl

pub tick_release : (secs : ℕ) (v : View) (o : Outcome) → v.outcome ≡ Some o → is_release_due (at_tick secs v) ≡ is_release_due v
tick_release secs v o is =
    ap (λ (b : Bool). v.started && v.exited && (is_other (at_tick secs v).outcome || b || v.killed) && not v.output_ended) (decided_alone (at_tick secs v) (ap is_some (tick_decided secs v o is)))
    ∙ (ap (λ (p : Option Outcome). v.started && v.exited && (is_other p || false || v.killed) && not v.output_ended) (tick_decided secs v o is ∙ sym is)
    ∙ sym (ap (λ (b : Bool). v.started && v.exited && (is_other v.outcome || b || v.killed) && not v.output_ended) (decided_alone v (ap is_some is))))

pub tick_unfed : (secs : ℕ) (v : View) → is_feed_due v ≡ false → is_feed_due (at_tick secs v) ≡ false
tick_unfed secs v none = go v.outcome refl
  where
    undecided : (b : Bool) → (not (is_websocket v.kind) && v.run_left == 1) ≡ b → v.outcome ≡ None → is_feed_due (at_tick secs v) ≡ false
    undecided true over is = decided_unfed (at_tick secs v) (rw (is, over) refl)
    undecided false on is = (rw (is, on) refl) ∙ none

    go : (o : Option Outcome) → v.outcome ≡ o → is_feed_due (at_tick secs v) ≡ false
    go (Some o) is = decided_unfed (at_tick secs v) (ap is_some (tick_decided secs v o is))
    go None is = undecided (not (is_websocket v.kind) && v.run_left == 1) refl is

none_cleared : (b : Bool) (bytes : List ℕ) → bytes ≡ [] → cleared b bytes ≡ []
none_cleared true bytes none = refl
none_cleared false bytes none = none

pub tick_undrained : (secs : ℕ) (v : View) → v.output ≡ [] → (at_tick secs v).output ≡ []
tick_undrained secs v none = none_cleared _ v.output none

-- ---- its exit

pub exit_outcome : (k : ℕ) (v : View) → (at_exit k v).outcome ≡ v.outcome
exit_outcome k v = go v.outcome refl
  where
    go : (o : Option Outcome) → v.outcome ≡ o → (at_exit k v).outcome ≡ v.outcome
    go None is = rw is refl
    go (Some o) is = rw is refl

pub exit_unfed : (k : ℕ) (v : View) → is_feed_due v ≡ false → is_feed_due (at_exit k v) ≡ false
exit_unfed k v none =
    ap (λ (o : Option Outcome). v.started && not (is_some o) && not ((v.number == k) || v.exited) && not v.input_ended && is_filled v.unfed && (v.untaken == 0)) (exit_outcome k v)
    ∙ exit_off (v.number == k) v.started (is_some v.outcome) v.exited v.input_ended (is_filled v.unfed) (v.untaken == 0) none

pub exit_undrained : (k : ℕ) (v : View) → (at_exit k v).output ≡ v.output
exit_undrained k v = refl
