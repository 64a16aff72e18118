-- What is known before an answer is made ready.
use Rattle.std.proofs.Common.{◌≡◌, ◌<◌, ◌^◌, ℕ, Bool, true, false, ◌||◌, List, [], ◌∷◌, ◌++◌, map, length, Option, Some, None, is_some, refl, sym, ap, ◌∙◌, subst, append-nil}
use Rattle.std.specs.List.{flat_map}
use Rattle.std.proofs.lemmas.Grind.{flat_map-append}
use Rattle.host_base.specs.declared.site.Site.{Site}
use Rattle.host_trace.specs.declared.items.Act.{Act}
use Rattle.host_trace.specs.declared.items.Event.{Event}
use Rattle.host_trace.specs.declared.items.Item.{Item}
use Rattle.host_trace.specs.declared.items.Item.TheVariants.{In, Out}
use Rattle.host_trace.specs.First.{last_of}
use Rattle.host_trace.specs.Kinds.{tick_secs}
use Rattle.host_trace.specs.Projections.{child_out, last_secs}
use Rattle.child_core.specs.declared.ending.Outcome.{Outcome}
use Rattle.child_core.specs.Calls.{drained}
use Rattle.child_core.specs.View.{View}
use Rattle.trace_model.specs.Exchange.{Exchange}
use Rattle.trace_model.specs.Legs.{Leg as Started}
use Rattle.exchange_request.specs.Knows.{is_looked_at}
use Rattle.exchange_reply.specs.StepRules.{is_continued}
use Rattle.exchange_stage.specs.declared.stage.Stage.{Stage}
use Rattle.exchange_stage.specs.declared.stage.Stage.TheVariants as At
use Rattle.exchange_laws.specs.Moves.{IsShort}
use Rattle.exchange_laws.specs.Unanswered.{is_awaited}
use Rattle.exchange_laws.proofs.WholeLaws.{continues_stand}
use Rattle.child_laws.specs.Children.{KnowsChildren}
use Rattle.child_laws.specs.Moves.{may_lose}
use Rattle.child_laws.specs.Step.{Turn}
use Rattle.child_laws.proofs.KnowLaws.{tells_last}
use Rattle.http_conn.specs.HttpConn.{HttpConn}
use Rattle.http_conn.specs.Kept.{number_of, site_of}
use Rattle.http_conn.specs.Ready.{drained_run, outcome_of_run, undrained}
use Rattle.http_stage_laws.specs.Inward.{IsDecided}
use Rattle.http_stage_laws.specs.Staged.{MayAnswer, MayReady}
use Rattle.http_stage_laws.proofs.StagedLaws.{no_last}
use Rattle.http_step_laws.specs.Standing.{AptAt, LetOn, ShortRun, Standing, ends_at}
use Rattle.http_step_laws.proofs.EndWords.{going, unclosed_of}
use Rattle.http_step_laws.proofs.StageWords.{first_unawaited, free_same, known, more_in, stage_is}

-- ---- the output that was handed on

abbrev pub drained_by : Bool → Option View → Option View
drained_by false run = run
drained_by true run = drained_run run

pub free_drained : (turn : Turn) (drains : Bool) (run : Option View) → may_lose turn run ≡ true → may_lose turn (drained_by drains run) ≡ true
free_drained turn false run free = free
free_drained turn true None free = free
free_drained turn true (Some v) free = free_same turn v (drained v) refl free

pub undrained_none : (run : Option View) → undrained (drained_run run) ≡ []
undrained_none None = refl
undrained_none (Some v) = refl

pub outcome_drained : (drains : Bool) (run : Option View) → outcome_of_run (drained_by drains run) ≡ outcome_of_run run
outcome_drained false run = refl
outcome_drained true None = refl
outcome_drained true (Some v) = refl

pub decided_drained : (drains : Bool) (run : Option View) → IsDecided run → IsDecided (drained_by drains run)
decided_drained false run d = d
decided_drained true None d = d
decided_drained true (Some v) d = d

pub decided_by : (run : Option View) (o : Outcome) → outcome_of_run run ≡ Some o → IsDecided run
decided_by None o is = tt
decided_by (Some v) o is = ap is_some is

-- ---- the clock

secs_none : (acts : List Act) → flat_map tick_secs (map Out acts) ≡ []
secs_none [] = refl
secs_none (act ∷ acts) = secs_none acts

-- acts leave what it showed
pub secs_acts : (T : List Item) (acts : List Act) → last_secs (T ++ map Out acts) ≡ last_secs T
secs_acts T acts =
    ap (λ (l : List ℕ). last_of l) (flat_map-append tick_secs T (map Out acts) ∙ (ap (λ (l : List ℕ). flat_map tick_secs T ++ l) (secs_none acts) ∙ append-nil (flat_map tick_secs T)))

-- ---- the output

short_of : (site : Site) (c : ℕ) (e : Exchange) (n : ℕ) (legs : List Started) (run : Option View) → KnowsChildren site c e false n legs run → ShortRun e run → outcome_of_run run ≡ None
    → IsShort site c e legs
short_of site c e n legs None k short none leg last = absurd (no_last last.before leg (sym k.runs.0 ∙ last.is))
short_of site c e n legs (Some v) k short none leg last =
    let known_leg : KnowsChildren site c e false n (last.before ++ leg ∷ []) (Some v) = subst (λ (ls : List Started). KnowsChildren site c e false n ls (Some v)) last.is k in
    subst (λ (j : ℕ). length (child_out e.items j) < 2 ^ 64) (tells_last site c e n last.before leg v known_leg).number (short none)

-- ---- what may be answered

module _ (L : List Item) (ev : Event) (acts : List Act) (turn : Turn) (e : Exchange) (old : HttpConn) (n : ℕ) (s : Standing L ev acts turn n e old) (on_let : LetOn e old) (found : old.lost ≡ false)
    (on : ends_at old e ≡ false) where
  pub unawaited_now : old.continued ≡ false → is_awaited (site_of old) (number_of old) e ≡ false
  unawaited_now first = first_unawaited old e s.legs (s.staged found) (λ is. on_let.none found is first) first

  pub continued_now : is_continued (site_of old) (number_of old) e ≡ true
  continued_now =
      continues_stand (site_of old) (number_of old) e s.legs old.continued (is_looked_at old.request) (old.closing || old.closes) (more_in old e s.legs (s.staged found)) old.stage (stage_is old e s.legs (s.staged found))
      (λ u first. unawaited_now first)

  pub may_ready : (stamp : Option ℕ) → stamp ≡ last_secs (L ++ In ev ∷ []) → MayReady old e s.legs stamp
  may_ready stamp clock = record {
    front = s.front;
    staged = s.staged found;
    next = n;
    children = known L ev acts turn n e old s found;
    found = found;
    looked = on_let.read.looked found on;
    unclosed = unclosed_of old e _ s.front (going old _ on);
    let_on = continued_now;
    stamp_is = clock ∙ (sym (secs_acts (L ++ In ev ∷ []) acts) ∙ ap (λ (l : List Item). last_secs l) (sym s.children.knows.items));
  }

  pub apt_at : (t : Stage) → old.stage ≡ t → AptAt old e t
  apt_at t at = subst (λ (x : Stage). AptAt old e x) at (on_let.read.apt.found found).at

  pub may_answer : (stamp : Option ℕ) → stamp ≡ last_secs (L ++ In ev ∷ []) → MayAnswer old e s.legs stamp
  may_answer stamp clock = record {
    may = may_ready stamp clock;
    short = λ leg at none. short_of (site_of old) (number_of old) e n s.legs old.run (known L ev acts turn n e old s found) (apt_at (At.Running leg) at).2 none;
    bare = λ cause at. apt_at (At.Interrupted cause) at;
    written = λ leg at. (apt_at (At.Running leg) at).0;
    apart = λ leg at none ticked. (apt_at (At.Running leg) at).1 none ticked;
  }
