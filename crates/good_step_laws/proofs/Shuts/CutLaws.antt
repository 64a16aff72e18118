-- A reply that can't be finished, at the end of a step.
use Rattle.std.proofs.Common.{◌≡◌, ℕ, Bool, true, false, ◌&&◌, ◌||◌, not, List, Option, Some, None, option_map, is_some, refl, sym, ap, ◌∙◌, subst, inl, inr}
use Rattle.std.proofs.lemmas.Bool.{and_from, false≢true, false_from_ne_true, or_from, or_parts}
use Rattle.host_base.specs.declared.cause.Cause.{Cause}
use Rattle.host_trace.specs.declared.items.Act.{Act}
use Rattle.host_trace.specs.declared.items.Event.{Event}
use Rattle.host_trace.specs.declared.items.Item.{Item}
use Rattle.host_trace.specs.Decider.{Outcome as Read}
use Rattle.request_reader.specs.Request.{is_begun}
use Rattle.trace_child.specs.Decided.{outcome_of}
use Rattle.child_core.specs.declared.ending.Outcome.{Outcome}
use Rattle.child_core.specs.declared.ending.Outcome.TheVariants as Ended
use Rattle.child_core.specs.Knows.{read}
use Rattle.trace_model.specs.Answer.{answer}
use Rattle.trace_model.specs.Exchange.{Exchange, request_bytes}
use Rattle.trace_model.specs.Legs.{Leg as Started, run_of}
use Rattle.trace_model.specs.Shuts.{cut_cause}
use Rattle.exchange_request.specs.Knows.{is_looked_at}
use Rattle.exchange_stage.specs.declared.stage.Leg.{Leg}
use Rattle.exchange_stage.specs.declared.stage.Stage.{Stage}
use Rattle.exchange_stage.specs.declared.stage.Stage.TheVariants as At
use Rattle.exchange_laws.specs.Asks.{ReasonsAre}
use Rattle.exchange_laws.specs.OfRun.{is_cut_short}
use Rattle.exchange_laws.specs.StageIs.{StageIs}
use Rattle.exchange_laws.specs.Walked.{IsLast}
use Rattle.conn_flags.specs.View.{is_live}
use Rattle.child_laws.specs.Step.{Turn}
use Rattle.http_conn.specs.HttpConn.{HttpConn}
use Rattle.http_conn.specs.Kept.{is_reading, flags_of, number_of, site_of}
use Rattle.http_conn.specs.Ready.{outcome_of_run}
use Rattle.http_conn.specs.Reasons.{is_done_with}
use Rattle.http_conn.proofs.StateLaws.{none_by_mid}
use Rattle.http_stage_laws.proofs.StagedLaws.{outcome_told}
use Rattle.http_stage_laws.specs.Inward.{CutBy, CutIs, is_running}
use Rattle.http_step_laws.specs.Standing.{QuietBy, Rest, RunQuiet, Standing, ends_at}
use Rattle.http_step_laws.proofs.EndWords.{goes}
use Rattle.http_step_laws.proofs.StageWords.{known, more_in, stage_at, stage_is}

-- its script's run failed, and nothing was made of that
abbrev pub Unfailed : HttpConn → Type 0
Unfailed conn = (leg : Leg) (cause : Cause) → conn.stage ≡ At.Running leg → outcome_of_run conn.run ≡ Some (Ended.Failed cause) → ⊥

-- Before the connection is shut something is made of it, unless the server is to end or the client is gone.
module _ (L : List Item) (ev : Event) (acts : List Act) (turn : Turn) (e : Exchange) (conn : HttpConn) (n : ℕ) (s : Standing L ev acts turn n e conn) (rest : Rest turn e conn)
    (live : is_live (flags_of conn) ≡ true) (found : conn.lost ≡ false) (unstopped : (flags_of conn).stopped ≡ false) (here : (flags_of conn).gone ≡ false) where
  pub unfailed_then : Unfailed conn
  unfailed_then leg cause at failed =
      false≢true (sym on ∙ ends)
    where
      running : StageIs (site_of conn) (number_of conn) e s.legs conn.continued (is_looked_at conn.request) (conn.closing || conn.closes) (more_in conn e s.legs (s.staged found)) (At.Running leg)
      running = stage_at conn e s.legs (At.Running leg) at (s.staged found)

      quiet : QuietBy conn e (At.Running leg)
      quiet = subst (λ (t : Stage). QuietBy conn e t) at (rest.1.found found).quiet

      ends : ends_at conn e ≡ true
      ends = subst (λ (o : Option Outcome). RunQuiet conn e leg o) failed quiet.1

      open_then : (conn.closing ≡ false) × (conn.closes ≡ false)
      open_then = or_parts conn.closing conn.closes (sym running.1 ∙ running.0.unclosed)

      reads_none : is_reading conn.stage ≡ false
      reads_none = ap is_reading at

      on : ends_at conn e ≡ false
      on =
          goes conn (is_done_with conn (request_bytes (number_of conn) e)) (record {
            may = and_from _ _ live (ap not s.inward.http);
            unstopped = unstopped;
            here = here;
            found = found;
            calm = false_from_ne_true conn.idled (λ idle. false≢true (sym (s.inward.calm_found found idle) ∙ ap is_running at));
            open_yet = open_then.0;
            unclosed = open_then.1;
            uncut = subst (λ (t : Stage). CutIs t (outcome_of_run conn.run) conn.cut) at (s.inward.cut_is found);
            undone = sym (none_by_mid (flags_of conn).ended (is_reading conn.stage) (not (is_begun (request_bytes (number_of conn) e))) reads_none);
          })

-- Where that can't be, what is held of the reply is so.
module _ (L : List Item) (ev : Event) (acts : List Act) (turn : Turn) (e : Exchange) (conn : HttpConn) (n : ℕ) (s : Standing L ev acts turn n e conn) (rest : Rest turn e conn)
    (found : conn.lost ≡ false) (unfailed : Unfailed conn) (r : ReasonsAre (site_of conn) (number_of conn) e s.legs (conn.closing || conn.closes) conn.stage) where
  told : (leg : Started) → IsLast (site_of conn) (number_of conn) e s.legs leg → outcome_of (run_of (site_of conn) (number_of conn) e leg) e.items ≡ option_map read (outcome_of_run conn.run)
  told leg last = outcome_told (site_of conn) (number_of conn) e n s.legs conn.run (known L ev acts turn n e conn s found) leg last

  comes : (o : Option Outcome) → outcome_of_run conn.run ≡ o → (leg : Started) → IsLast (site_of conn) (number_of conn) e s.legs leg
      → outcome_of (run_of (site_of conn) (number_of conn) e leg) e.items ≡ option_map read o
  comes o is leg last = told leg last ∙ ap (λ (p : Option Outcome). option_map read p) is

  reasons_at : (t : Stage) → conn.stage ≡ t → ReasonsAre (site_of conn) (number_of conn) e s.legs (conn.closing || conn.closes) t
  reasons_at t at = subst (λ (x : Stage). ReasonsAre (site_of conn) (number_of conn) e s.legs (conn.closing || conn.closes) x) at r

  by_run : (leg : Leg) → conn.stage ≡ At.Running leg → conn.cut ≡ None → (o : Option Outcome) → outcome_of_run conn.run ≡ o → RunQuiet conn e leg o
      → conn.cut ≡ cut_cause (answer (site_of conn) (number_of conn) e)
  by_run leg at none None is q = none ∙ sym ((reasons_at (At.Running leg) at).uncut (inl (comes None is)))
  by_run leg at none (Some Ended.Output) is q = absurd q
  by_run leg at none (Some (Ended.Failed cause)) is q = absurd (unfailed leg cause at is)
  by_run leg at none (Some Ended.Gone) is q = none ∙ sym ((reasons_at (At.Running leg) at).uncut (inr (comes (Some Ended.Gone) is)))
  by_run leg at none (Some Ended.Stopped) is q = none ∙ sym ((reasons_at (At.Running leg) at).uncut (inr (comes (Some Ended.Stopped) is)))
  by_run leg at none (Some Ended.Dropped) is q = none ∙ sym ((reasons_at (At.Running leg) at).uncut (inr (comes (Some Ended.Dropped) is)))

  by_silent : conn.stage ≡ At.Silent → (o : Option Outcome) → outcome_of_run conn.run ≡ o → CutBy o conn.cut → is_cut_short (option_map read o) ≡ true
      → conn.cut ≡ cut_cause (answer (site_of conn) (number_of conn) e)
  by_silent at None is cut short = absurd (false≢true short)
  by_silent at (Some Ended.Output) is cut short = absurd (false≢true short)
  by_silent at (Some (Ended.Failed cause)) is cut short = cut ∙ sym ((reasons_at At.Silent at).cut refl cause (comes (Some (Ended.Failed cause)) is))
  by_silent at (Some Ended.Gone) is cut short = cut ∙ sym ((reasons_at At.Silent at).uncut (comes (Some Ended.Gone) is))
  by_silent at (Some Ended.Stopped) is cut short = cut ∙ sym ((reasons_at At.Silent at).uncut (comes (Some Ended.Stopped) is))
  by_silent at (Some Ended.Dropped) is cut short = cut ∙ sym ((reasons_at At.Silent at).uncut (comes (Some Ended.Dropped) is))

  by_stage : (t : Stage) → conn.stage ≡ t → QuietBy conn e t → CutIs t (outcome_of_run conn.run) conn.cut → conn.cut ≡ cut_cause (answer (site_of conn) (number_of conn) e)
  by_stage (At.Running leg) at q cut = by_run leg at cut (outcome_of_run conn.run) refl q.1
  by_stage At.Silent at q cut = by_silent at (outcome_of_run conn.run) refl cut short
    where
      silent : StageIs (site_of conn) (number_of conn) e s.legs conn.continued (is_looked_at conn.request) (conn.closing || conn.closes) (more_in conn e s.legs (s.staged found)) At.Silent
      silent = stage_at conn e s.legs At.Silent at (s.staged found)

      short : is_cut_short (option_map read (outcome_of_run conn.run)) ≡ true
      short = sym (ap is_cut_short (told silent.0.leg silent.0.last)) ∙ silent.0.cut
  by_stage At.Reading at q cut = cut ∙ sym ((reasons_at At.Reading at).uncut tt)
  by_stage (At.Rejected cause bare) at q cut = cut ∙ sym ((reasons_at (At.Rejected cause bare) at).uncut tt)
  by_stage (At.Interrupted cause) at q cut = cut ∙ sym ((reasons_at (At.Interrupted cause) at).uncut tt)
  by_stage (At.Refused cause) at q cut = cut ∙ sym ((reasons_at (At.Refused cause) at).uncut tt)
  by_stage (At.Unstarted hop request) at q cut = cut ∙ sym ((reasons_at (At.Unstarted hop request) at).uncut tt)
  by_stage (At.Starting leg launch body whole) at q cut = cut ∙ sym ((reasons_at (At.Starting leg launch body whole) at).uncut tt)
  by_stage (At.Finishing text closes) at q cut = cut ∙ sym ((reasons_at (At.Finishing text closes) at).uncut tt)
  by_stage At.Answered at q cut = cut ∙ sym ((reasons_at At.Answered at).uncut tt)

  pub cut_now : conn.cut ≡ cut_cause (answer (site_of conn) (number_of conn) e)
  cut_now = by_stage conn.stage refl (rest.1.found found).quiet (s.inward.cut_is found)
