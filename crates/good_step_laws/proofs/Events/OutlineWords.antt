-- A stage without what an event may change of it.
use Rattle.std.proofs.Common.{◌≡◌, ℕ, zero, suc, Bool, true, false, List, [], Option, None, refl, sym, ap, ◌∙◌, subst}
use Rattle.std.proofs.lemmas.Bool.{false≢true}
use Rattle.host_base.specs.declared.cause.Cause.{Cause}
use Rattle.child_core.specs.declared.ending.Outcome.{Outcome}
use Rattle.child_core.specs.View.{View}
use Rattle.exchange_stage.specs.declared.stage.Leg.{Leg}
use Rattle.exchange_stage.specs.declared.stage.Stage.{Stage}
use Rattle.exchange_stage.specs.declared.stage.Stage.TheVariants as At
use Rattle.http_conn.specs.Hears.{is_untouched_at}
use Rattle.http_conn.specs.Kept.{is_reading}
use Rattle.http_conn.specs.Moves.{grown_stage, ticked_stage}
use Rattle.http_conn.specs.Settles.{is_answered}
use Rattle.http_stage_laws.specs.Inward.{CutBy, CutIs, IsDecided, IsPast, is_running}

abbrev pub outline : Stage → Stage
outline (At.Running leg) = At.Running (record leg { ticked = false })
outline (At.Unstarted zero request) = At.Unstarted zero (record request { body = [] })
outline s = s

pub outline_ticked : (s : Stage) → outline (ticked_stage s) ≡ outline s
outline_ticked (At.Running leg) = refl
outline_ticked (At.Unstarted zero request) = refl
outline_ticked (At.Unstarted (suc hop) request) = refl
outline_ticked s = refl

pub outline_grown : (body : List ℕ) (s : Stage) → outline (grown_stage body s) ≡ outline s
outline_grown body (At.Running leg) = refl
outline_grown body (At.Unstarted zero request) = refl
outline_grown body (At.Unstarted (suc hop) request) = refl
outline_grown body s = refl

-- ---- what it says

reads_outline : (s : Stage) → is_reading (outline s) ≡ is_reading s
reads_outline (At.Unstarted zero request) = refl
reads_outline (At.Unstarted (suc hop) request) = refl
reads_outline s = refl

answers_outline : (s : Stage) → is_answered (outline s) ≡ is_answered s
answers_outline (At.Unstarted zero request) = refl
answers_outline (At.Unstarted (suc hop) request) = refl
answers_outline s = refl

runs_outline : (s : Stage) → is_running (outline s) ≡ is_running s
runs_outline (At.Unstarted zero request) = refl
runs_outline (At.Unstarted (suc hop) request) = refl
runs_outline s = refl

untouched_outline : (s : Stage) → is_untouched_at (outline s) ≡ is_untouched_at s
untouched_outline (At.Unstarted zero request) = refl
untouched_outline (At.Unstarted (suc hop) request) = refl
untouched_outline s = refl

abbrev pub is_silent : Stage → Bool
is_silent At.Silent = true
is_silent _ = false

silent_outline : (s : Stage) → is_silent (outline s) ≡ is_silent s
silent_outline (At.Unstarted zero request) = refl
silent_outline (At.Unstarted (suc hop) request) = refl
silent_outline s = refl

-- it is not on the way to be given, and nothing is due
abbrev pub is_calm : Stage → Bool
is_calm (At.Rejected cause bare) = false
is_calm (At.Interrupted cause) = false
is_calm (At.Starting leg launch body whole) = false
is_calm (At.Finishing text closes) = false
is_calm _ = true

calm_outline : (s : Stage) → is_calm (outline s) ≡ is_calm s
calm_outline (At.Unstarted zero request) = refl
calm_outline (At.Unstarted (suc hop) request) = refl
calm_outline s = refl

-- two stages of the same outline
module _ (s t : Stage) (same : outline t ≡ outline s) where
  pub same_reading : is_reading t ≡ is_reading s
  same_reading = sym (reads_outline t) ∙ (ap is_reading same ∙ reads_outline s)

  pub same_answered : is_answered t ≡ is_answered s
  same_answered = sym (answers_outline t) ∙ (ap is_answered same ∙ answers_outline s)

  pub same_running : is_running t ≡ is_running s
  same_running = sym (runs_outline t) ∙ (ap is_running same ∙ runs_outline s)

  pub same_untouched : is_untouched_at t ≡ is_untouched_at s
  same_untouched = sym (untouched_outline t) ∙ (ap is_untouched_at same ∙ untouched_outline s)

  pub same_silent : is_silent t ≡ is_silent s
  same_silent = sym (silent_outline t) ∙ (ap is_silent same ∙ silent_outline s)

  pub same_calm : is_calm t ≡ is_calm s
  same_calm = sym (calm_outline t) ∙ (ap is_calm same ∙ calm_outline s)

-- ---- a request that may be broken

pub untouched_unanswered : (s : Stage) → is_untouched_at s ≡ true → is_answered s ≡ false
untouched_unanswered At.Answered is = absurd (false≢true is)
untouched_unanswered s is = refl

pub untouched_speaks : (s : Stage) → is_untouched_at s ≡ true → is_silent s ≡ false
untouched_speaks At.Silent is = absurd (false≢true is)
untouched_speaks s is = refl

-- ---- a stage by what is said of it

pub running_at : (s : Stage) → is_running s ≡ true → (leg : Leg) × (s ≡ At.Running leg)
running_at (At.Running leg) is = (leg, refl)
running_at s is = absurd (false≢true is)

pub answered_away : (s : Stage) → is_answered s ≡ true → is_reading s ≡ false
answered_away At.Answered is = refl
answered_away s is = absurd (false≢true is)

pub answered_still : (s : Stage) → is_answered s ≡ true → is_running s ≡ false
answered_still At.Answered is = refl
answered_still s is = absurd (false≢true is)

pub silent_still : (s : Stage) → is_silent s ≡ true → is_running s ≡ false
silent_still At.Silent is = refl
silent_still s is = absurd (false≢true is)

pub running_away : (s : Stage) → is_running s ≡ true → is_reading s ≡ false
running_away (At.Running leg) is = refl
running_away s is = absurd (false≢true is)

-- the cause for which a reply can't be finished
abbrev pub CutAt : Bool → Option Outcome → Option Cause → Type 0
CutAt true outcome cut = CutBy outcome cut
CutAt false outcome cut = cut ≡ None

pub cut_at : (s : Stage) (o : Option Outcome) (cut : Option Cause) → CutIs s o cut → CutAt (is_silent s) o cut
cut_at At.Silent o cut is = is
cut_at s o cut is = is

pub at_cut : (s : Stage) (o : Option Outcome) (cut : Option Cause) → CutAt (is_silent s) o cut → CutIs s o cut
at_cut At.Silent o cut is = is
at_cut s o cut is = is

-- ---- the client ended its input

past_outline : (s : Stage) (run : Option View) → IsPast s run → IsPast (outline s) run
past_outline (At.Unstarted zero request) run p = p
past_outline (At.Unstarted (suc hop) request) run p = p
past_outline s run p = p

outline_past : (s : Stage) (run : Option View) → IsPast (outline s) run → IsPast s run
outline_past (At.Unstarted zero request) run p = p
outline_past (At.Unstarted (suc hop) request) run p = p
outline_past s run p = p

past_run : (s : Stage) (run later : Option View) → (IsDecided run → IsDecided later) → IsPast s run → IsPast s later
past_run (At.Running leg) run later keeps p = λ first. keeps (p first)
past_run s run later keeps p = p

pub past_kept : (s t : Stage) (run later : Option View) → outline t ≡ outline s → (IsDecided run → IsDecided later) → IsPast s run → IsPast t later
past_kept s t run later same keeps p =
    outline_past t later (subst (λ (o : Stage). IsPast o later) (sym same) (past_outline s later (past_run s run later keeps p)))
