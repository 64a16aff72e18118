-- A stage at which nothing is due, and what an event makes of it.
use Rattle.std.proofs.Common.{◌≡◌, ℕ, Bool, true, false, ◌||◌, List, [], Option, None, refl, sym, ap, ◌∙◌, subst}
use Rattle.std.proofs.lemmas.Bool.{false≢true}
use Rattle.host_base.specs.declared.site.Site.{Site}
use Rattle.host_trace.specs.declared.items.Event.TheVariants.{Tick}
use Rattle.host_trace.specs.declared.items.Item.{Item}
use Rattle.host_trace.specs.declared.items.Item.TheVariants.{In}
use Rattle.host_trace.specs.Decider.{Outcome as Read}
use Rattle.host_trace.specs.Kinds.{is_tick}
use Rattle.trace_child.specs.Decided.{decided_at, outcome_of}
use Rattle.trace_child.specs.Words.{is_filled}
use Rattle.trace_model.specs.Answer.{Stage as Model, answer_at, refused, running}
use Rattle.trace_model.specs.Exchange.{Exchange}
use Rattle.trace_model.specs.Legs.{Leg as Started, run_of}
use Rattle.conn_laws.proofs.EndLaws.{not_whole}
use Rattle.exchange_stage.specs.declared.stage.Leg.{Leg}
use Rattle.exchange_stage.specs.declared.stage.Stage.{Stage}
use Rattle.exchange_stage.specs.declared.stage.Stage.TheVariants as At
use Rattle.exchange_laws.specs.Items.{is_calm, is_nothing, noted_by}
use Rattle.exchange_laws.specs.OfRun.{is_cut_short}
use Rattle.exchange_laws.specs.Rules.{Rests, RunRests}
use Rattle.exchange_laws.specs.StageIs.{StageIs}
use Rattle.exchange_laws.specs.Walked.{IsLast}
use Rattle.exchange_laws.proofs.HopStageLaws.{OnWay, at_hop_way}
use Rattle.exchange_laws.proofs.PassLaws.{last_legs_are_one}
use Rattle.exchange_laws.proofs.RuleLaws.{refused_way}
use Rattle.exchange_laws.proofs.RunLaws.{last_runs, leg_now, outcome_by_front}
use Rattle.http_conn.specs.Kept.{is_reading}
use Rattle.http_conn.specs.Moves.{ticked_stage}
use Rattle.http_stage_laws.proofs.StagedLaws.{no_last}

abbrev pub is_running : Stage → Bool
is_running (At.Running held) = true
is_running _ = false

-- ---- at rest

pub calm_at_rest : (site : Site) (c : ℕ) (e : Exchange) (legs : List Started) (looked : Bool) (more : List ℕ) (s : Stage) → (s ≡ At.Answered → is_filled legs ≡ true)
    → Rests site c e legs looked more s → is_calm legs s ≡ true
calm_at_rest site c e legs looked more (At.Rejected cause bare) filled rest = absurd rest
calm_at_rest site c e legs looked more (At.Interrupted cause) filled rest = absurd rest
calm_at_rest site c e legs looked more (At.Starting held launch body whole) filled rest = absurd rest
calm_at_rest site c e legs looked more (At.Running held) filled rest = ap is_nothing rest.0
calm_at_rest site c e legs looked more (At.Finishing text closes) filled rest = absurd rest
calm_at_rest site c e legs looked more At.Answered filled rest = filled refl
calm_at_rest site c e legs looked more _ filled rest = refl

module _ (site : Site) (c : ℕ) (e : Exchange) (legs : List Started) (continued looked closing : Bool) (more : List ℕ) where
  -- a run is undecided only at Running
  pub decided_at_stage : (s : Stage) → is_calm legs s ≡ true → is_running s ≡ false → StageIs site c e legs continued looked closing more s
      → (leg : Started) → IsLast site c e legs leg → decided_at (run_of site c e leg) e.items ≡ None → ⊥
  decided_at_stage At.Reading calm other is leg last none = no_last last.before leg (sym is.0.none ∙ last.is)
  decided_at_stage (At.Refused cause) calm other is leg last none =
      let both : refused cause ≡ running (leg_now leg last.reached.request_then) = sym (refused_way site c e legs continued cause is.0) ∙ last_runs site c e legs leg last none in
      absurd (cc)
  decided_at_stage (At.Unstarted hop request) calm other is leg last none =
      subst (λ (m : Model). OnWay legs m) (last_runs site c e legs leg last none) (at_hop_way site c e legs is.0.left hop request is.0.at_hop)
  decided_at_stage (At.Running held) calm other is leg last none = absurd (false≢true (sym other))
  decided_at_stage At.Answered calm other is leg last none =
      absurd (false≢true (sym ((not_whole site c e).waits (ap answer_at (last_runs site c e legs leg last none))) ∙ is.whole))
  decided_at_stage At.Silent calm other is leg last none =
      let same : leg ≡ is.0.leg = last_legs_are_one site c e legs is.0.last.before is.0.leg leg is.0.last.is last in
      let undecided : outcome_of (run_of site c e is.0.leg) e.items ≡ None =
      outcome_by_front (run_of site c e is.0.leg) e.items None (subst (λ (l : Started). decided_at (run_of site c e l) e.items ≡ None) same none) in
      absurd (false≢true (sym (ap is_cut_short undecided) ∙ is.0.cut))
  decided_at_stage _ calm other is leg last none = absurd (false≢true calm)

  -- and then all its output was told
  pub drained_at_rest : (s : Stage) → is_calm legs s ≡ true → StageIs site c e legs continued looked closing more s → Rests site c e legs looked more s
      → (leg : Started) → IsLast site c e legs leg → decided_at (run_of site c e leg) e.items ≡ None → more ≡ []
  drained_at_rest (At.Running held) calm is rest leg last none =
      (subst (λ (o : Option Read). RunRests c e more held o) (outcome_by_front (run_of site c e leg) e.items None none) (rest.1 leg last)).0
  drained_at_rest At.Reading calm is rest leg last none = absurd (decided_at_stage At.Reading calm refl is leg last none)
  drained_at_rest (At.Refused cause) calm is rest leg last none = absurd (decided_at_stage (At.Refused cause) calm refl is leg last none)
  drained_at_rest (At.Unstarted hop request) calm is rest leg last none = absurd (decided_at_stage (At.Unstarted hop request) calm refl is leg last none)
  drained_at_rest At.Answered calm is rest leg last none = absurd (decided_at_stage At.Answered calm refl is leg last none)
  drained_at_rest At.Silent calm is rest leg last none = absurd (decided_at_stage At.Silent calm refl is leg last none)
  drained_at_rest _ calm is rest leg last none = absurd rest

-- ---- what a stage doesn't say

-- whether what was heard was looked at matters only while the request is read
pub looked_any : (site : Site) (c : ℕ) (e : Exchange) (legs : List Started) (continued looked looked' closing : Bool) (more : List ℕ) (s : Stage) → is_reading s ≡ false
    → StageIs site c e legs continued looked closing more s → StageIs site c e legs continued looked' closing more s
looked_any site c e legs continued looked looked' closing more At.Reading other is = absurd (false≢true (sym other))
looked_any site c e legs continued looked looked' closing more _ other is = is

-- ---- an event at a stage

pub noted_still : (x : Item) → is_tick x ≡ false → (s : Stage) → noted_by x s ≡ s
noted_still x untimed (At.Running held) = ap (λ (b : Bool). At.Running (record held { ticked = b || held.ticked })) untimed
noted_still x untimed _ = refl

pub noted_tick : (secs : ℕ) (s : Stage) → ticked_stage s ≡ noted_by (In (Tick secs)) s
noted_tick secs (At.Running held) = refl
noted_tick secs _ = refl

pub noted_reading : (x : Item) (s : Stage) → is_reading (noted_by x s) ≡ is_reading s
noted_reading x (At.Running held) = refl
noted_reading x _ = refl

-- it is no other stage than it was
pub noted_other : (x : Item) (s t : Stage) → is_running t ≡ false → noted_by x s ≡ t → s ≡ t
noted_other x (At.Running held) t other is = let both : true ≡ false = ap is_running is ∙ other in absurd (false≢true (sym both))
noted_other x _ t other is = is

pub record WasRunning (x : Item) (s : Stage) (leg : Leg) : Type 0 where
  pub held : Leg
  pub at : s ≡ At.Running held
  pub is : leg ≡ record held { ticked = is_tick x || held.ticked }

same_leg : (a b : Leg) → At.Running a ≡ At.Running b → a ≡ b
same_leg a b e = cc

pub noted_running : (x : Item) (s : Stage) (leg : Leg) → noted_by x s ≡ At.Running leg → WasRunning x s leg
noted_running x (At.Running held) leg is = record { held = held; at = refl; is = sym (same_leg (record held { ticked = is_tick x || held.ticked }) leg is) }
noted_running x _ leg is = absurd (false≢true (ap is_running is))
