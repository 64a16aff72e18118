-- The rules on the exchange that goes on hold of a connection that is at rest.
use Rattle.std.proofs.Common.{◌≡◌, ℕ, ◌||◌, Bool, true, false, not, List, [], Option, Some, None, is_some, option_map, refl, sym, ap, ◌∙◌}
use Rattle.std.proofs.lemmas.Bool.{and_right, false≢true}
use Rattle.host_base.specs.declared.site.Site.{Site}
use Rattle.host_trace.specs.declared.items.Item.{Item}
use Rattle.trace_child.specs.Decided.{outcome_of}
use Rattle.child_core.specs.declared.ending.Outcome.{Outcome}
use Rattle.child_core.specs.Knows.{read}
use Rattle.child_core.specs.View.{View}
use Rattle.trace_model.specs.Answers.{answers}
use Rattle.trace_model.specs.Begins.{begins}
use Rattle.trace_model.specs.Continues.{continues_then}
use Rattle.trace_model.specs.Demands.{is_live as live_then}
use Rattle.trace_model.specs.Exchange.{Exchange, all_of, request_bytes}
use Rattle.trace_model.specs.Hops.{hops}
use Rattle.trace_model.specs.Legs.{Leg, run_of}
use Rattle.trace_model.specs.Replies.{is_silent_once_closed, replies}
use Rattle.trace_model.specs.Says.{says}
use Rattle.trace_model.specs.Streams.{begins_no_sooner, streams}
use Rattle.trace_model.specs.Talks.{talks, upgrades}
use Rattle.trace_model.proofs.ExchangeLaws.{all_of-current}
use Rattle.exchange_request.specs.Knows.{is_looked_at}
use Rattle.exchange_reply.specs.StepRules.{is_continued}
use Rattle.exchange_stage.specs.declared.stage.Stage.{Stage}
use Rattle.exchange_stage.specs.declared.stage.Stage.TheVariants as At
use Rattle.exchange_laws.specs.Asks.{DemandsNothing}
use Rattle.host_trace.specs.Projections.{shut_for_memory}
use Rattle.exchange_laws.specs.Rules.{KeepsStepRules, LostKeepsRules}
use Rattle.exchange_laws.specs.StageIs.{IsAnswered, IsLost, LostIs}
use Rattle.exchange_laws.specs.Walked.{IsLast}
use Rattle.exchange_laws.proofs.RuleLaws.{losses_keep_rules, rests_keep_rules}
use Rattle.exchange_laws.proofs.ShutLaws.{continues_are_given, shuts_demand_nothing}
use Rattle.exchange_laws.proofs.WholeLaws.{continues_stand}
use Rattle.conn_laws.proofs.FormLaws.{flags_say}
use Rattle.conn_flags.specs.View.{is_live}
use Rattle.child_laws.specs.Children.{KnowsRuns, NoMore}
use Rattle.http_conn.specs.HttpConn.{HttpConn}
use Rattle.http_conn.specs.Kept.{flags_of, number_of, site_of}
use Rattle.http_conn.specs.Ready.{outcome_of_run}
use Rattle.http_conn.specs.Reasons.{is_done_with}
use Rattle.http_stage_laws.specs.HeardStages.{AtRest, Rested, RestedLost}
use Rattle.http_stage_laws.proofs.StagedLaws.{no_last, outcome_told}
use Rattle.http_step_laws.proofs.EndWords.{going, unclosed_of}
use Rattle.http_step_laws.proofs.TalkWords.{none_says, none_talks}
use Rattle.http_step_laws.proofs.WelcomeWords.{losses_upgrade_none, stages_upgrade_none}

-- but the rules on the question to its client and on Stop
pub record Rules (site : Site) (c : ℕ) (e : Exchange) : Type 0 where
  pub replies_then : replies site c e ≡ true
  pub silent : is_silent_once_closed c e ≡ true
  pub begins_then : begins site c e ≡ true
  pub answers_then : answers site c e ≡ true
  pub hops_then : hops site c e ≡ true
  pub continues_on : continues_then site c e ≡ true
  pub streams_then : streams site c e ≡ true
  pub no_sooner : begins_no_sooner site c e ≡ true
  pub upgrades_then : upgrades site c e ≡ true

-- where memory ran out
record LostRules (site : Site) (c : ℕ) (e : Exchange) : Type 0 where
  pub replies_then : shut_for_memory (all_of e) c ≡ true → replies site c e ≡ true
  pub silent : is_silent_once_closed c e ≡ true
  pub no_sooner : begins_no_sooner site c e ≡ true

module _ (conn : HttpConn) (L : List Item) (e : Exchange) (legs : List Leg) (n : ℕ) (r : AtRest conn L e legs n) where
  pub all_is : all_of e ≡ L
  all_is = ap all_of r.now ∙ all_of-current (site_of conn) (number_of conn) L

  pub live_same : live_then (number_of conn) (all_of e) ≡ is_live (flags_of conn)
  live_same = ap (λ (l : List Item). live_then (number_of conn) l) all_is ∙ sym (flags_say (flags_of conn) L r.flags).live

  -- ---- where memory was found

  module _ (q : Rested conn e legs) where
    continued : is_continued (site_of conn) (number_of conn) e ≡ true
    continued =
        continues_stand (site_of conn) (number_of conn) e legs conn.continued (is_looked_at conn.request) (conn.closing || conn.closes) q.staged.more conn.stage q.staged.is (λ u first. q.let_on first)

    kept : KeepsStepRules (site_of conn) (number_of conn) e
    kept = rests_keep_rules (site_of conn) (number_of conn) e legs conn.continued (is_looked_at conn.request) (conn.closing || conn.closes) q.staged.more conn.stage q.staged.is continued q.rests

    rules_found : Rules (site_of conn) (number_of conn) e
    rules_found = record {
      replies_then = kept.replies_then;
      silent = kept.silent;
      begins_then = kept.begins_then;
      answers_then = kept.answers_then;
      hops_then = kept.hops_then;
      continues_on = continues_are_given (site_of conn) (number_of conn) e
          (λ live. unclosed_of conn e _ r.front (going conn (is_done_with conn (request_bytes (number_of conn) e)) (q.going (sym live_same ∙ live)))) continued;
      streams_then = kept.streams_then;
      no_sooner = kept.no_sooner;
      upgrades_then = stages_upgrade_none (site_of conn) (number_of conn) e legs conn.continued (is_looked_at conn.request) (conn.closing || conn.closes) q.staged.more conn.stage q.staged.is;
    }

  -- ---- where it was wanting

  module _ (q : RestedLost conn e legs) where
    dead : live_then (number_of conn) (all_of e) ≡ false
    dead = live_same ∙ and_right (flags_of conn).accepted (not (flags_of conn).shut) (ap not q.shut)

    demands : DemandsNothing (site_of conn) (number_of conn) e
    demands = shuts_demand_nothing (site_of conn) (number_of conn) e dead

    none_goes_on : (leg : Leg) → IsLast (site_of conn) (number_of conn) e legs leg → outcome_of (run_of (site_of conn) (number_of conn) e leg) e.items ≡ None → ⊥
    none_goes_on leg last none = go conn.run refl r.children.runs
      where
        told : outcome_of (run_of (site_of conn) (number_of conn) e leg) e.items ≡ option_map read (outcome_of_run conn.run)
        told = outcome_told (site_of conn) (number_of conn) e n legs conn.run r.children leg last

        some_read : (o : Option Outcome) → is_some o ≡ true → None ≡ option_map read o → ⊥
        some_read None d is = false≢true d
        some_read (Some o) d is = cc

        go : (run : Option View) → conn.run ≡ run → KnowsRuns NoMore (site_of conn) (number_of conn) e false legs run → ⊥
        go None is k = no_last last.before leg (sym k.0 ∙ last.is)
        go (Some v) is k = some_read v.outcome (q.decided v is) (sym none ∙ (told ∙ ap (λ (x : Option View). option_map read (outcome_of_run x)) is))

    of_lost : IsLost (site_of conn) (number_of conn) e legs conn.continued → LostRules (site_of conn) (number_of conn) e
    of_lost l =
        let k : LostKeepsRules (site_of conn) (number_of conn) e = losses_keep_rules (site_of conn) (number_of conn) e legs conn.continued l none_goes_on in
        record { replies_then = k.replies_then; silent = k.silent; no_sooner = k.no_sooner }

    of_answered : IsAnswered (site_of conn) (number_of conn) e legs conn.continued (conn.closing || conn.closes) → LostRules (site_of conn) (number_of conn) e
    of_answered a =
        let on : is_continued (site_of conn) (number_of conn) e ≡ true =
        continues_stand (site_of conn) (number_of conn) e legs conn.continued false (conn.closing || conn.closes) [] At.Answered a (λ u first. absurd (false≢true u)) in
        let k : KeepsStepRules (site_of conn) (number_of conn) e = rests_keep_rules (site_of conn) (number_of conn) e legs conn.continued false (conn.closing || conn.closes) [] At.Answered a on tt in
        record { replies_then = λ m. k.replies_then; silent = k.silent; no_sooner = k.no_sooner }

    by_stage : (t : Stage) → LostIs (site_of conn) (number_of conn) e legs conn.continued (conn.closing || conn.closes) t → LostRules (site_of conn) (number_of conn) e
    by_stage At.Answered l = of_answered l
    by_stage _ l = of_lost l

    rules_lost : Rules (site_of conn) (number_of conn) e
    rules_lost =
        let k = by_stage conn.stage q.lost in
        record {
          replies_then = k.replies_then q.for_memory;
          silent = k.silent;
          begins_then = demands.begins_then;
          answers_then = demands.answers_then;
          hops_then = demands.hops_then;
          continues_on = demands.continues_then;
          streams_then = demands.streams_then;
          no_sooner = k.no_sooner;
          upgrades_then = losses_upgrade_none (site_of conn) (number_of conn) e legs conn.continued (conn.closing || conn.closes) conn.stage q.lost;
        }

  pub rules_at : Rules (site_of conn) (number_of conn) e
  rules_at = go conn.lost refl
    where
      go : (b : Bool) → conn.lost ≡ b → Rules (site_of conn) (number_of conn) e
      go false found = rules_found (r.found found)
      go true lost = rules_lost (r.lost lost)

  pub talks_at : talks (site_of conn) (number_of conn) e ≡ true
  talks_at = none_talks (site_of conn) (number_of conn) e false n legs conn.run r.children

  pub says_at : says (site_of conn) (number_of conn) e ≡ true
  says_at = none_says (site_of conn) (number_of conn) e false n legs conn.run r.children
