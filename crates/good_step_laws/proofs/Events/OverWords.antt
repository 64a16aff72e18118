-- An exchange that has ended with an event follows none that closes; and what follows it stands where a step's parts begin.
use Rattle.std.proofs.Common.{◌≡◌, ℕ, Bool, true, false, ◌&&◌, ◌||◌, not, List, [], ◌∷◌, ◌++◌, Option, None, refl, sym, ap, ◌∙◌, subst}
use Rattle.std.specs.List.{list_all}
use Rattle.std.proofs.lemmas.Bool.{and_parts, false≢true}
use Rattle.std.proofs.lemmas.List.Folds.{list_all-append}
use Rattle.host_base.specs.declared.site.Site.{Site}
use Rattle.host_trace.specs.declared.items.Act.{Act}
use Rattle.host_trace.specs.declared.items.Event.{Event}
use Rattle.host_trace.specs.declared.items.Item.{Item}
use Rattle.host_trace.specs.declared.items.Item.TheVariants.{In}
use Rattle.child_core.specs.declared.ending.Outcome.{Outcome}
use Rattle.child_core.specs.View.{View}
use Rattle.trace_child.specs.Words.{implies, is_filled}
use Rattle.trace_model.specs.Exchange.{Exchange, pushed, written}
use Rattle.trace_model.specs.Exchanges.{current, ended_after, ended_by, has_ended}
use Rattle.trace_model.specs.Replies.{is_silent_once_closed}
use Rattle.exchange_request.specs.Knows.{is_looked_at}
use Rattle.exchange_stage.specs.declared.stage.Stage.{Stage}
use Rattle.exchange_stage.specs.declared.stage.Stage.TheVariants as At
use Rattle.exchange_laws.specs.Rules.{IsUnended}
use Rattle.exchange_laws.specs.StageIs.{LostIs, StageIs}
use Rattle.child_laws.specs.Step.{Turn}
use Rattle.http_conn.specs.HttpConn.{HttpConn}
use Rattle.http_conn.specs.Kept.{number_of, site_of}
use Rattle.http_conn.specs.Ready.{outcome_of_run, undrained}
use Rattle.http_conn.specs.Settles.{is_answered, is_over}
use Rattle.http_conn.specs.Slot.{run_settled}
use Rattle.http_stage_laws.proofs.EndLaws.{is_at_answered}
use Rattle.http_step_laws.specs.Standing.{Apt, AptAt, Quiet, QuietBy, RunQuiet, ShortRun, Standing, ends_at, must_go}
use Rattle.http_step_laws.proofs.StageWords.{ended_found, ended_lost, more_in, stage_is}

-- ---- one that has ended

module _ (L : List Item) (ev : Event) (acts : List Act) (turn : Turn) (n : ℕ) (e : Exchange) (conn : HttpConn) (s : Standing L ev acts turn n e conn) (ended : has_ended (site_of conn) (number_of conn) e ≡ true) where
  not_over : is_answered conn.stage ≡ false → has_ended (site_of conn) (number_of conn) e ≡ is_over conn → e.closed ≡ false
  not_over other same = absurd (false≢true (sym (ap (λ (b : Bool). b && run_settled conn.run) other) ∙ (sym same ∙ ended)))

  found_unclosed : (found : conn.lost ≡ false) → e.closed ≡ false
  found_unclosed found = go conn.stage refl (stage_is conn e s.legs (s.staged found))
    where
      idle : (t : Stage) → conn.stage ≡ t → IsUnended (site_of conn) (number_of conn) e s.legs t → is_answered t ≡ false → e.closed ≡ false
      idle t at unended other =
          not_over (ap is_answered at ∙ other)
          (ended_found L ev acts turn n e conn s found (subst (λ (x : Stage). IsUnended (site_of conn) (number_of conn) e s.legs x) (sym at) unended))

      go : (t : Stage) → conn.stage ≡ t
          → StageIs (site_of conn) (number_of conn) e s.legs conn.continued (is_looked_at conn.request) (conn.closing || conn.closes) (more_in conn e s.legs (s.staged found)) conn.stage → e.closed ≡ false
      go t at is =
          by_stage t at
          (subst (λ (x : Stage). StageIs (site_of conn) (number_of conn) e s.legs conn.continued (is_looked_at conn.request) (conn.closing || conn.closes) (more_in conn e s.legs (s.staged found)) x) at is)
        where
          by_stage : (t : Stage) → conn.stage ≡ t
              → StageIs (site_of conn) (number_of conn) e s.legs conn.continued (is_looked_at conn.request) (conn.closing || conn.closes) (more_in conn e s.legs (s.staged found)) t → e.closed ≡ false
          by_stage At.Answered at is = is.unclosed
          by_stage (At.Running leg) at is = is.0.unclosed
          by_stage At.Silent at is = is.0.unclosed
          by_stage (At.Starting leg launch body whole) at is = is.0.unclosed
          by_stage (At.Finishing text closes) at is = is.0.unclosed
          by_stage At.Reading at is = idle At.Reading at tt refl
          by_stage (At.Rejected cause bare) at is = idle (At.Rejected cause bare) at tt refl
          by_stage (At.Interrupted cause) at is = idle (At.Interrupted cause) at tt refl
          by_stage (At.Refused cause) at is = idle (At.Refused cause) at tt refl
          by_stage (At.Unstarted hop request) at is = idle (At.Unstarted hop request) at tt refl

  lost_unclosed : conn.lost ≡ true → e.closed ≡ false
  lost_unclosed lost =
      let over : is_over conn ≡ true = sym (ended_lost L ev acts turn n e conn s lost) ∙ ended in
      let at : conn.stage ≡ At.Answered = is_at_answered conn.stage (and_parts (is_answered conn.stage) (run_settled conn.run) over).0 in
      (subst (λ (t : Stage). LostIs (site_of conn) (number_of conn) e s.legs conn.continued (conn.closing || conn.closes) t) at (s.lost lost)).unclosed

  pub ended_unclosed : e.closed ≡ false
  ended_unclosed = go conn.lost refl
    where
      go : (b : Bool) → conn.lost ≡ b → e.closed ≡ false
      go true lost = lost_unclosed lost
      go false found = found_unclosed found

-- where the exchange that went on follows none that closes if it has ended, so do those that are over
pub over_silent : (site : Site) (c : ℕ) (L : List Item) (ev : Event) (over : List Exchange) (d : Exchange) (b : Bool)
    → (has_ended site c (pushed (current site c L) (In ev)) ≡ true → (current site c L).closed ≡ false)
    → ended_after site c (current site c L) (In ev ∷ []) ≡ over ++ ended_by d b → list_all (is_silent_once_closed c) over ≡ true
over_silent site c L ev over d b unclosed gone =
    (and_parts (list_all (is_silent_once_closed c) over) (list_all (is_silent_once_closed c) (ended_by d b))
    (sym (list_all-append (is_silent_once_closed c) over (ended_by d b)) ∙ (ap (list_all (is_silent_once_closed c)) (sym gone) ∙ by_ended (has_ended site c (pushed (current site c L) (In ev))) refl))).0
  where
    by_ended : (x : Bool) → has_ended site c (pushed (current site c L) (In ev)) ≡ x → list_all (is_silent_once_closed c) (ended_by (pushed (current site c L) (In ev)) (has_ended site c (pushed (current site c L) (In ev))) ++ []) ≡ true
    by_ended true is =
        ap (λ (y : Bool). list_all (is_silent_once_closed c) (ended_by (pushed (current site c L) (In ev)) y ++ [])) is
        ∙ ap (λ (y : Bool). implies y (not (is_filled (written c (pushed (current site c L) (In ev))))) && true) (unclosed is)
    by_ended false is = ap (λ (y : Bool). list_all (is_silent_once_closed c) (ended_by (pushed (current site c L) (In ev)) y ++ [])) is

-- ---- the one that follows has no child

module _ (e : Exchange) (conn : HttpConn) (q : Quiet e conn) (none : conn.run ≡ None) where
  at_now : (t : Stage) → QuietBy conn e t → AptAt conn e t
  at_now (At.Interrupted cause) r = absurd r
  at_now (At.Starting leg launch body whole) r = absurd r
  at_now (At.Finishing text closes) r = absurd r
  at_now (At.Running leg) r = (r.0, (λ undecided ticked. ap undrained none), subst (λ (x : Option View). ShortRun e x) (sym none) tt)
  at_now t r = tt

  goes_now : (t : Stage) → QuietBy conn e t → must_go t (outcome_of_run conn.run) ≡ true → ends_at conn e ≡ false
  goes_now (At.Rejected cause bare) r must = absurd r
  goes_now (At.Interrupted cause) r must = absurd r
  goes_now (At.Running leg) r must = (subst (λ (o : Option Outcome). RunQuiet conn e leg o) (ap outcome_of_run none) r.1).2
  goes_now t r must = absurd (false≢true must)

  pub apt_now : Apt e conn
  apt_now = record {
    unover = q.unover;
    found = λ found. record {
      at = at_now conn.stage (q.found found).quiet;
      goes = goes_now conn.stage (q.found found).quiet;
      let_on = λ waits first awaited. ((q.found found).let_on waits first awaited).0;
    };
  }
