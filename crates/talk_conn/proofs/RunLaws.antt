-- What is due for a run that was given up.
use Rattle.std.proofs.Common.{◌≡◌, ℕ, Bool, true, false, not, ◌&&◌, ◌==◌, [], Option, Some, None, is_some, Result, Ok, Err, is_ok, IsErr, refl, sym, ◌∙◌}
use Rattle.std.proofs.lemmas.Bool.{false≢true}
use Rattle.host_trace.specs.First.{or_else}
use Rattle.child_core.specs.declared.ending.Ending.TheVariants.{Dropped}
use Rattle.child_core.specs.declared.ending.Outcome.{Outcome}
use Rattle.child_core.specs.Calls.{ended, outcome_of_ending}
use Rattle.child_core.specs.Due.{is_feed_due}
use Rattle.child_core.specs.View.{View}
use Rattle.trace_child.specs.Words.{is_filled}

-- nothing is fed to one
pub given_up_unfed : (v : View) → is_feed_due (ended v Dropped) ≡ false
given_up_unfed v = go v.started v.outcome
  where
    go : (started : Bool) (outcome : Option Outcome)
        → (started && not (is_some (or_else outcome (Some (outcome_of_ending Dropped)))) && not v.exited && not v.input_ended && is_filled {X = ℕ} [] && v.untaken == 0) ≡ false
    go false outcome = refl
    go true None = refl
    go true (Some outcome) = refl

-- .. so there is room for what is due
pub found : {A E : Type 0} (r : Result A E) (v : View) → (IsErr r → is_feed_due (ended v Dropped) ≡ true) → is_ok r ≡ true
found (Ok x) v memory = refl
found (Err x) v memory = absurd (false≢true (sym (given_up_unfed v) ∙ memory refl))
