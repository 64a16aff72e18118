-- Memory is wanting where an answer is made ready.
use Rattle.std.proofs.Common.{◌≡◌, ℕ, true, false, ◌||◌, List, Option, Some, None, option_map, refl, sym, ap, ◌∙◌, subst}
use Rattle.std.proofs.lemmas.Bool.{false≢true}
use Rattle.host_trace.specs.declared.items.Act.{Act}
use Rattle.host_trace.specs.declared.items.Event.{Event}
use Rattle.host_trace.specs.declared.items.Item.{Item}
use Rattle.host_trace.specs.Decider.{derived}
use Rattle.trace_child.specs.Decided.{outcome_of}
use Rattle.child_core.specs.declared.ending.Outcome.{Outcome}
use Rattle.child_core.specs.declared.ending.Outcome.TheVariants.{Dropped, Failed, Gone, Output, Stopped}
use Rattle.child_core.specs.Knows.{read}
use Rattle.trace_model.specs.Exchange.{Exchange, request_bytes}
use Rattle.trace_model.specs.Legs.{Leg as Started, run_of}
use Rattle.trace_model.specs.Standing.{stands_whole}
use Rattle.exchange_request.specs.Knows.{is_looked_at}
use Rattle.exchange_stage.specs.declared.stage.Leg.{Leg}
use Rattle.exchange_stage.specs.declared.stage.Stage.{Stage}
use Rattle.exchange_stage.specs.declared.stage.Stage.TheVariants as At
use Rattle.exchange_laws.specs.Rules.{IsUnended}
use Rattle.exchange_laws.specs.Walked.{IsLast}
use Rattle.exchange_laws.proofs.CutLaws.{ends_are_ready}
use Rattle.child_laws.specs.Step.{Turn}
use Rattle.child_laws.specs.Moves.{may_lose}
use Rattle.conn_laws.specs.Moves.{Move}
use Rattle.http_conn.specs.HttpConn.{HttpConn}
use Rattle.http_conn.specs.Kept.{number_of, site_of}
use Rattle.http_conn.specs.Ready.{outcome_of_run}
use Rattle.http_conn.specs.Reasons.{is_done_with}
use Rattle.http_conn.specs.Settles.{is_answered}
use Rattle.http_stage_laws.proofs.StagedLaws.{outcome_told}
use Rattle.http_conn.specs.Parts.{LosesReady}
use Rattle.http_step_laws.specs.Standing.{LetOn, Makes, Quiet, Standing, Within, ends_at}
use Rattle.http_step_laws.proofs.EndWords.{Going, accepted_of, going, unshut_of}
use Rattle.http_step_laws.proofs.LossLaws.{lost_with, loses, over_lost, posts_lost}
use Rattle.http_step_laws.proofs.ReadyWords.{apt_at}
use Rattle.http_step_laws.proofs.StageWords.{free_lost, known, more_in, stage_at, unwhole}

-- a run that another item than the end of its output decided, or nothing
pub not_output : (o : Option Outcome) → (o ≡ Some Output → ⊥) → option_map read o ≡ Some derived → ⊥
not_output None other is = cc
not_output (Some Output) other is = other refl
not_output (Some _) other is = cc

module _ (L : List Item) (ev : Event) (acts : List Act) (turn : Turn) (e : Exchange) (old : HttpConn) (n : ℕ) (s : Standing L ev acts turn n e old) (on_let : LetOn e old)
    (free : may_lose turn old.run ≡ true) (on : ends_at old e ≡ false) where
  g : Going old (is_done_with old (request_bytes (number_of old) e))
  g = going old (is_done_with old (request_bytes (number_of old) e)) on

  told : (o : Option Outcome) → outcome_of_run old.run ≡ o → (leg : Started) → IsLast (site_of old) (number_of old) e s.legs leg
      → outcome_of (run_of (site_of old) (number_of old) e leg) e.items ≡ option_map read o
  told o is leg last =
      outcome_told (site_of old) (number_of old) e n s.legs old.run (known L ev acts turn n e old s g.found) leg last ∙ ap (λ (p : Option Outcome). option_map read p) is

  module _ (moves : List Move) (new : HttpConn) (l : LosesReady old n moves new) where
    other : (held : Leg) → old.stage ≡ At.Running held → (p : Option Outcome) → outcome_of_run old.run ≡ p → (p ≡ Some Output → ⊥) → is_answered old.stage ≡ false → stands_whole (site_of old) (number_of old) e ≡ false
    other held at p is never none =
        unwhole old e s.legs (s.staged g.found)
        (subst (λ (x : Stage). IsUnended (site_of old) (number_of old) e s.legs x) (sym at) (λ leg last der. not_output p never (sym (told p is leg last) ∙ der))) none

    by_outcome : (leg : Leg) → old.stage ≡ At.Running leg → (o : Option Outcome) → outcome_of_run old.run ≡ o → is_answered old.stage ≡ false → stands_whole (site_of old) (number_of old) e ≡ false
    by_outcome leg at (Some Output) is none =
        ((ends_are_ready (site_of old) (number_of old) e s.legs old.continued (is_looked_at old.request) (old.closing || old.closes) (more_in old e s.legs (s.staged g.found)) leg
        (stage_at old e s.legs (At.Running leg) at (s.staged g.found)) (apt_at L ev acts turn e old n s on_let g.found on (At.Running leg) at).0 (λ started last. told (Some Output) is started last)).lacks
        (l.lacks leg at is)).unfinished
    by_outcome leg at None is none = other leg at None is (λ out. cc) none
    by_outcome leg at (Some (Failed cause)) is none = other leg at (Some (Failed cause)) is (λ out. cc) none
    by_outcome leg at (Some Gone) is none = other leg at (Some Gone) is (λ out. cc) none
    by_outcome leg at (Some Stopped) is none = other leg at (Some Stopped) is (λ out. cc) none
    by_outcome leg at (Some Dropped) is none = other leg at (Some Dropped) is (λ out. cc) none

    as_unended : (t : Stage) → old.stage ≡ t → IsUnended (site_of old) (number_of old) e s.legs t → is_answered old.stage ≡ false → stands_whole (site_of old) (number_of old) e ≡ false
    as_unended t at unended none =
        unwhole old e s.legs (s.staged g.found) (subst (λ (x : Stage). IsUnended (site_of old) (number_of old) e s.legs x) (sym at) unended) none

    by_stage : (t : Stage) → old.stage ≡ t → is_answered old.stage ≡ false → stands_whole (site_of old) (number_of old) e ≡ false
    by_stage (At.Running leg) at none = by_outcome leg at (outcome_of_run old.run) refl none
    by_stage (At.Starting leg launch body whole) at none = absurd (apt_at L ev acts turn e old n s on_let g.found on (At.Starting leg launch body whole) at)
    by_stage (At.Finishing text closes) at none = absurd (apt_at L ev acts turn e old n s on_let g.found on (At.Finishing text closes) at)
    by_stage At.Reading at none = as_unended At.Reading at tt none
    by_stage (At.Rejected cause bare) at none = as_unended (At.Rejected cause bare) at tt none
    by_stage (At.Interrupted cause) at none = as_unended (At.Interrupted cause) at tt none
    by_stage (At.Refused cause) at none = as_unended (At.Refused cause) at tt none
    by_stage (At.Unstarted hop request) at none = as_unended (At.Unstarted hop request) at tt none
    by_stage At.Answered at none = as_unended At.Answered at tt none
    by_stage At.Silent at none = as_unended At.Silent at tt none

    pub lacks_make : Makes (Within turn Quiet) L ev acts e old n moves new
    lacks_make =
        loses (Within turn Quiet) L ev acts turn e old n s (record {
          found = g.found;
          free = free;
          unshut = unshut_of old (is_done_with old (request_bytes (number_of old) e)) g;
          unwhole = λ none. by_stage old.stage refl none;
        }) new moves l.loses.none l.loses.gives_up (λ idle. absurd (false≢true (sym g.calm ∙ idle))) (accepted_of old (is_done_with old (request_bytes (number_of old) e)) g)
        (refl, free_lost turn old.run free, (posts_lost e (lost_with old new.stage new.request) refl (over_lost old new.stage new.request l.loses.gives_up.answered ∙ on_let.read.apt.unover)).quiet)
