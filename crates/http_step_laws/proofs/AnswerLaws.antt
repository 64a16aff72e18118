-- What came is looked at, and what is due of the answer given.
use Rattle.std.proofs.Common.{◌≡◌, ◌≤◌, ℕ, Bool, true, false, List, [], ◌∷◌, ◌++◌, Option, Some, None, refl, sym, ap, ◌∙◌, subst}
use Rattle.std.proofs.lemmas.Bool.{false≢true}
use Rattle.host_base.specs.declared.site.Site.{Site}
use Rattle.host_trace.specs.declared.items.Act.{Act}
use Rattle.host_trace.specs.declared.items.Event.{Event}
use Rattle.host_trace.specs.declared.items.Item.{Item}
use Rattle.host_trace.specs.declared.items.Item.TheVariants.{In}
use Rattle.host_trace.specs.Projections.{last_secs}
use Rattle.child_core.specs.declared.ending.Outcome.{Outcome}
use Rattle.child_core.specs.declared.ending.Outcome.TheVariants.{Dropped, Failed, Gone, Output, Stopped}
use Rattle.trace_model.specs.Exchange.{Exchange}
use Rattle.exchange_stage.specs.declared.stage.Leg.{Leg}
use Rattle.exchange_stage.specs.declared.stage.Stage.{Stage}
use Rattle.exchange_stage.specs.declared.stage.Stage.TheVariants as At
use Rattle.conn_flags.specs.Form.{are_given}
use Rattle.child_laws.specs.Step.{Turn}
use Rattle.child_laws.specs.Moves.{may_lose}
use Rattle.conn_laws.specs.Moves.{Move, acts_of}
use Rattle.http_conn.specs.HttpConn.{HttpConn}
use Rattle.http_conn.specs.Kept.{flags_of, site_of}
use Rattle.http_conn.specs.Ready.{outcome_of_run}
use Rattle.http_conn.specs.Parts.{Answers, AnswersBy, AnswersOn, Gives, LetsOn, LosesReady, MakesReady, Part, ReadsOn, Then, the_one, the_other}
use Rattle.http_step_laws.specs.Standing.{Apt, AptAt, Leaves, LetOn, Quiet, QuietBy, Read, Ready, RunQuiet, Standing, Within, ends_at, goes_by, must_go}
use Rattle.http_step_laws.proofs.EndWords.{ends_is}
use Rattle.http_step_laws.proofs.GiveLaws.{gives_leave}
use Rattle.http_step_laws.proofs.LackLaws.{lacks_make}
use Rattle.http_step_laws.proofs.LetOnLaws.{lets_on_leave}
use Rattle.http_step_laws.proofs.ReadLaws.{reads_leave}
use Rattle.http_step_laws.proofs.ReadyLaws.{readies_make}
use Rattle.http_step_laws.proofs.ThenLaws.{leaves_made, leaves_none, then_leaves}

module _ (L : List Item) (ev : Event) (acts : List Act) (turn : Turn) (e : Exchange) (old : HttpConn) (n : ℕ) (s : Standing L ev acts turn n e old) (two : 2 ≤ (site_of old).limits.head)
    (on_let : LetOn e old) (free : may_lose turn old.run ≡ true) (stamp : Option ℕ) (clock : stamp ≡ last_secs (L ++ In ev ∷ [])) where
  -- where something ends the connection nothing is due
  module _ (ends : ends_at old e ≡ true) (found : old.lost ≡ false) where
    never : ends_at old e ≡ false → ⊥
    never on = false≢true (sym on ∙ ends)

    run_ended : (leg : Leg) → (o : Option Outcome) → outcome_of_run old.run ≡ o → old.stage ≡ At.Running leg → RunQuiet old e leg o
    run_ended leg None is at = absurd (never ((on_let.read.apt.found found).goes (ap (λ (t : Stage). must_go t (outcome_of_run old.run)) at ∙ ap goes_by is)))
    run_ended leg (Some Output) is at = never ((on_let.read.apt.found found).goes (ap (λ (t : Stage). must_go t (outcome_of_run old.run)) at ∙ ap goes_by is))
    run_ended leg (Some _) is at = ends

    quiet_at : (t : Stage) → old.stage ≡ t → QuietBy old e t
    quiet_at (At.Rejected cause bare) at = never ((on_let.read.apt.found found).goes (ap (λ (t : Stage). must_go t (outcome_of_run old.run)) at))
    quiet_at (At.Interrupted cause) at = never ((on_let.read.apt.found found).goes (ap (λ (t : Stage). must_go t (outcome_of_run old.run)) at))
    quiet_at (At.Starting leg launch body whole) at = subst (λ (t : Stage). AptAt old e t) at (on_let.read.apt.found found).at
    quiet_at (At.Finishing text closes) at = subst (λ (t : Stage). AptAt old e t) at (on_let.read.apt.found found).at
    quiet_at (At.Running leg) at = ((subst (λ (t : Stage). AptAt old e t) at (on_let.read.apt.found found).at).0, run_ended leg (outcome_of_run old.run) refl at)
    quiet_at _ at = tt

  quiet_ended : ends_at old e ≡ true → Quiet e old
  quiet_ended ends = record {
    unover = on_let.read.apt.unover;
    found = λ found. record {
      quiet = quiet_at ends found old.stage refl;
      let_on = λ u first awaited. absurd (false≢true (sym (on_let.none found u first) ∙ awaited));
    };
  }

  module _ (moves : List Move) (new : HttpConn) (form : are_given (flags_of old) (acts_of moves) ≡ true) where
    by_ending : (ending : Bool) → ending ≡ ends_at old e → AnswersBy ending stamp old n moves new → Leaves (Within turn Quiet) L ev acts e old n moves new
    by_ending true is none = leaves_none (Within turn Quiet) L ev acts turn e old new n moves s none (refl, free, quiet_ended (sym is))
    by_ending false is (the_one w) =
        then_leaves (Part (MakesReady stamp)) Gives (Within turn Ready) (Within turn Quiet) L ev acts e old new n moves w form
        (λ xs mid p f. leaves_made (MakesReady stamp) (Within turn Ready) L ev acts turn e old mid n xs s p f (readies_make L ev acts turn e old n s on_let free (sym is) stamp clock xs mid p.by))
        (λ acts' t d mid n' ys st post site by f.
        gives_leave L ev acts' turn d mid n' (subst (λ (x : Turn). Standing L ev acts' x n' d mid) post.0 st) (subst (λ (x : Site). 2 ≤ x.limits.head) (sym site) two) post.2 post.1 ys new f by)
    by_ending false is (the_other p) =
        leaves_made LosesReady (Within turn Quiet) L ev acts turn e old new n moves s p form (lacks_make L ev acts turn e old n s on_let free (sym is) moves new p.by)

    pub answers_on_leave : AnswersOn stamp old n moves new → Leaves (Within turn Quiet) L ev acts e old n moves new
    answers_on_leave a = by_ending a.ending (ends_is old e two s.front a.ending a.tells) a.by

-- Then nothing is due of the answer.
pub answers_leave : (L : List Item) (ev : Event) (acts : List Act) (turn : Turn) (e : Exchange) (old new : HttpConn) (n : ℕ) (moves : List Move) (stamp : Option ℕ) → Standing L ev acts turn n e old
    → 2 ≤ (site_of old).limits.head → stamp ≡ last_secs (L ++ In ev ∷ []) → Apt e old → may_lose turn old.run ≡ true → Answers stamp old n moves new → are_given (flags_of old) (acts_of moves) ≡ true
    → Leaves (Within turn Quiet) L ev acts e old n moves new
answers_leave L ev acts turn e old new n moves stamp s two clock apt free w form =
    then_leaves (Part ReadsOn) (Then (Part LetsOn) (AnswersOn stamp)) (Within turn Read) (Within turn Quiet) L ev acts e old new n moves w form
    (λ xs mid p f. reads_leave L ev acts turn e old n s two apt free xs mid p f)
    (λ acts' t d mid n' ys st post site v f.
    let two' : 2 ≤ (site_of mid).limits.head = subst (λ (x : Site). 2 ≤ x.limits.head) (sym site) two in
    then_leaves (Part LetsOn) (AnswersOn stamp) (Within turn LetOn) (Within turn Quiet) L ev acts' d mid new n' ys v f
    (λ xs next p g. lets_on_leave L ev acts' turn d mid n' (subst (λ (x : Turn). Standing L ev acts' x n' d mid) post.0 st) two' post.2 post.1 xs next p g)
    (λ acts'' t' d' next n'' zs st' post' site' a g.
    answers_on_leave L ev acts'' turn d' next n'' (subst (λ (x : Turn). Standing L ev acts'' x n'' d' next) post'.0 st') (subst (λ (x : Site). 2 ≤ x.limits.head) (sym site') two') post'.2 post'.1 stamp clock
    zs new g a))
