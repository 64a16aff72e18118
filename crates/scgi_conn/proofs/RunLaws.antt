-- What is due for a run that was given up.
use Rattle.std.proofs.Common.{◌≡◌, ℕ, Bool, true, false, not, ◌&&◌, ◌==◌, List, [], Option, Some, None, is_some, refl, sym, ◌∙◌}
use Rattle.std.proofs.lemmas.Bool.{false≢true}
use Rattle.host_trace.specs.declared.items.Act.{Act}
use Rattle.host_trace.specs.First.{or_else}
use Rattle.child_core.specs.declared.ending.Ending.TheVariants.{Dropped}
use Rattle.child_core.specs.declared.ending.Outcome.{Outcome}
use Rattle.child_core.specs.Calls.{ended, outcome_of_ending}
use Rattle.child_core.specs.Due.{is_feed_due}
use Rattle.child_core.specs.View.{View}
use Rattle.trace_child.specs.Words.{is_filled}
use Rattle.scgi_conn.specs.Parts.{acted_run, acting_run, given_up, is_run_fed}

-- nothing is fed to one
given_up_unfed : (v : View) → is_feed_due (ended v Dropped) ≡ false
given_up_unfed v = go v.started v.outcome
  where
    go : (started : Bool) (outcome : Option Outcome)
        → (started && not (is_some (or_else outcome (Some (outcome_of_ending Dropped)))) && not v.exited && not v.input_ended && is_filled {X = ℕ} [] && v.untaken == 0) ≡ false
    go false outcome = refl
    go true None = refl
    go true (Some outcome) = refl

unfed : (run : Option View) → is_run_fed (given_up run) ≡ false
unfed None = refl
unfed (Some v) = given_up_unfed v

-- .. so there is room for what is due
pub found : (b : Bool) (run : Option View) → (b ≡ false → is_run_fed (given_up run) ≡ true) → b ≡ true
found true run memory = refl
found false run memory = absurd (false≢true (sym (unfed run) ∙ memory refl))

-- where there was no room nothing was given, and all is as before
pub unacted : (run : Option View) → acted_run false run ≡ run
unacted None = refl
unacted (Some v) = refl

pub ungiven : (run : Option View) → acting_run false run ≡ []
ungiven None = refl
ungiven (Some v) = refl
