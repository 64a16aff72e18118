-- What is known at the end of a step where memory ran out.
use Rattle.std.proofs.Common.{◌≡◌, ℕ, true, false, ◌||◌, not, List, [], Option, Some, None, is_some, option_map, refl, sym, ap, ◌∙◌}
use Rattle.std.proofs.lemmas.Bool.{and_right, false≢true}
use Rattle.host_trace.specs.declared.items.Act.{Act}
use Rattle.host_trace.specs.declared.items.Event.{Event}
use Rattle.host_trace.specs.declared.items.Item.{Item}
use Rattle.trace_child.specs.Decided.{outcome_of}
use Rattle.child_core.specs.declared.ending.Outcome.{Outcome}
use Rattle.child_core.specs.Knows.{read}
use Rattle.child_core.specs.View.{View}
use Rattle.trace_model.specs.Demands.{is_live as live_then}
use Rattle.trace_model.specs.Exchange.{Exchange, all_of}
use Rattle.trace_model.specs.Legs.{Leg as Started, run_of}
use Rattle.exchange_reply.specs.StepRules.{is_continued}
use Rattle.exchange_stage.specs.declared.stage.Stage.{Stage}
use Rattle.exchange_stage.specs.declared.stage.Stage.TheVariants as At
use Rattle.exchange_laws.specs.Rules.{KeepsStepRules, LostKeepsRules}
use Rattle.exchange_laws.specs.StageIs.{IsAnswered, IsLost, LostIs}
use Rattle.exchange_laws.specs.Walked.{IsLast}
use Rattle.exchange_laws.proofs.RuleLaws.{losses_keep_rules, rests_keep_rules}
use Rattle.exchange_laws.proofs.ShutLaws.{shuts_demand_nothing}
use Rattle.exchange_laws.proofs.WholeLaws.{continues_stand}
use Rattle.conn_laws.proofs.FormLaws.{flags_say}
use Rattle.child_laws.specs.Children.{KnowsChildren, KnowsRuns, NoMore}
use Rattle.child_laws.specs.Step.{Turn}
use Rattle.child_laws.proofs.MoveLaws.{moves_tell}
use Rattle.http_conn.specs.HttpConn.{HttpConn}
use Rattle.http_conn.specs.Kept.{flags_of, number_of, site_of}
use Rattle.http_conn.specs.Ready.{outcome_of_run}
use Rattle.http_stage_laws.proofs.StagedLaws.{no_last, outcome_told}
use Rattle.http_step_laws.specs.Laws.{LostEnds}
use Rattle.http_step_laws.specs.Standing.{Standing}
use Rattle.http_step_laws.proofs.CloseLaws.{Closed}
use Rattle.http_step_laws.proofs.HandleLaws.{lost_decided}
use Rattle.http_step_laws.proofs.RestWords.{deals_now}

module _ (L : List Item) (ev : Event) (acts : List Act) (turn : Turn) (e : Exchange) (conn : HttpConn) (n : ℕ) (s : Standing L ev acts turn n e conn) (c : Closed turn e conn) (lost : conn.lost ≡ true) where
  dead : live_then (number_of conn) (all_of e) ≡ false
  dead = sym (flags_say (flags_of conn) (all_of e) s.flags).live ∙ and_right (flags_of conn).accepted (not (flags_of conn).shut) (ap not (c.shut_lost lost))

  knows : KnowsChildren (site_of conn) (number_of conn) e false n s.legs conn.run
  knows = (moves_tell (site_of conn) (number_of conn) L ev acts e s.over false turn n s.legs conn.run (deals_now L ev acts turn e conn n s c)).knows

  -- no run goes on
  none_goes_on : (leg : Started) → IsLast (site_of conn) (number_of conn) e s.legs leg → outcome_of (run_of (site_of conn) (number_of conn) e leg) e.items ≡ None → ⊥
  none_goes_on leg last none = go conn.run refl knows.runs
    where
      told : outcome_of (run_of (site_of conn) (number_of conn) e leg) e.items ≡ option_map read (outcome_of_run conn.run)
      told = outcome_told (site_of conn) (number_of conn) e n s.legs conn.run knows leg last

      some_read : (o : Option Outcome) → is_some o ≡ true → None ≡ option_map read o → ⊥
      some_read None d is = false≢true d
      some_read (Some o) d is = cc

      go : (run : Option View) → conn.run ≡ run → KnowsRuns NoMore (site_of conn) (number_of conn) e false s.legs run → ⊥
      go None is k = no_last last.before leg (sym k.0 ∙ last.is)
      go (Some v) is k = some_read v.outcome (lost_decided L ev acts turn e conn n s lost v is) (sym none ∙ (told ∙ ap (λ (r : Option View). option_map read (outcome_of_run r)) is))

  of_lost : IsLost (site_of conn) (number_of conn) e s.legs conn.continued → LostEnds (site_of conn) (number_of conn) e
  of_lost l =
      let k : LostKeepsRules (site_of conn) (number_of conn) e = losses_keep_rules (site_of conn) (number_of conn) e s.legs conn.continued l none_goes_on in
      record { replies_then = k.replies_then; silent = k.silent; no_sooner = k.no_sooner; demands = shuts_demand_nothing (site_of conn) (number_of conn) e dead }

  of_answered : IsAnswered (site_of conn) (number_of conn) e s.legs conn.continued (conn.closing || conn.closes) → LostEnds (site_of conn) (number_of conn) e
  of_answered a =
      let continued : is_continued (site_of conn) (number_of conn) e ≡ true =
      continues_stand (site_of conn) (number_of conn) e s.legs conn.continued false (conn.closing || conn.closes) [] At.Answered a (λ u first. absurd (false≢true u)) in
      let k : KeepsStepRules (site_of conn) (number_of conn) e = rests_keep_rules (site_of conn) (number_of conn) e s.legs conn.continued false (conn.closing || conn.closes) [] At.Answered a continued tt in
      record { replies_then = λ m. k.replies_then; silent = k.silent; no_sooner = k.no_sooner; demands = shuts_demand_nothing (site_of conn) (number_of conn) e dead }

  by_stage : (t : Stage) → LostIs (site_of conn) (number_of conn) e s.legs conn.continued (conn.closing || conn.closes) t → LostEnds (site_of conn) (number_of conn) e
  by_stage At.Answered l = of_answered l
  by_stage _ l = of_lost l

  pub lost_ends_well : LostEnds (site_of conn) (number_of conn) e
  lost_ends_well = by_stage conn.stage (s.lost lost)
