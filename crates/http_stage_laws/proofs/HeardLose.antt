-- An event between two steps, where memory ran out: what is known of the stage.
use Rattle.std.proofs.Common.{◌≡◌, ℕ, Bool, true, false, ◌||◌, List, [], ◌∷◌, ◌++◌, Option, Some, None, option_map, refl, sym, ◌∙◌, subst}
use Rattle.std.proofs.lemmas.Bool.{false≢true}
use Rattle.host_base.specs.declared.site.Site.{Site}
use Rattle.host_trace.specs.declared.items.Event.{Event}
use Rattle.host_trace.specs.declared.items.Item.{Item}
use Rattle.host_trace.specs.declared.items.Item.TheVariants.{In}
use Rattle.host_trace.specs.Decider.{derived}
use Rattle.own_traces.specs.OwnFits.{fits_own}
use Rattle.trace_child.specs.Decided.{outcome_of}
use Rattle.child_core.specs.declared.ending.Outcome.{Outcome}
use Rattle.child_core.specs.declared.ending.Outcome.TheVariants.{Output, Failed, Gone, Stopped, Dropped}
use Rattle.child_core.specs.Knows.{read}
use Rattle.child_core.specs.View.{View}
use Rattle.trace_model.specs.Exchange.{Exchange, pushed}
use Rattle.trace_model.specs.Legs.{Leg as Started, run_of}
use Rattle.trace_model.specs.Standing.{stands_whole}
use Rattle.exchange_request.specs.Knows.{is_looked_at}
use Rattle.exchange_stage.specs.declared.stage.Leg.{Leg}
use Rattle.exchange_stage.specs.declared.stage.Stage.{Stage}
use Rattle.exchange_stage.specs.declared.stage.Stage.TheVariants as At
use Rattle.exchange_laws.specs.Items.{Passes, noted_by}
use Rattle.exchange_laws.specs.Rules.{IsUnended, Rests, RunRests, is_answered as answers}
use Rattle.exchange_laws.specs.StageIs.{IsLost, LostIs, StageIs}
use Rattle.exchange_laws.specs.Walked.{IsLast}
use Rattle.exchange_laws.proofs.CutLaws.{losses_are_known}
use Rattle.exchange_laws.proofs.WholeLaws.{whole_is_answered}
use Rattle.child_laws.specs.Children.{KnowsChildren}
use Rattle.child_laws.specs.Heard.{heard_by, last_hop, run_heard}
use Rattle.child_laws.proofs.KnowLaws.{tells_last}
use Rattle.http_conn.specs.HttpConn.{HttpConn}
use Rattle.http_conn.specs.Kept.{number_of, site_of}
use Rattle.http_conn.specs.Settles.{is_answered}
use Rattle.http_stage_laws.specs.HeardStages.{AtRest, Rested, SameAs}
use Rattle.http_stage_laws.specs.Staged.{Lost}
use Rattle.http_stage_laws.proofs.EndLaws.{is_at_answered}
use Rattle.http_stage_laws.proofs.HeardQuiet.{stage_kept}
use Rattle.http_stage_laws.proofs.HeardReply.{children_heard, more_after, run_rests}
use Rattle.http_stage_laws.proofs.HeardRest.{no_run}
use Rattle.http_stage_laws.proofs.StagedLaws.{no_last}

-- ---- by the stage

-- at a stage that is not the last one memory is known to have been wanting
pub to_lost : (site : Site) (c : ℕ) (e : Exchange) (legs : List Started) (continued closing : Bool) (s : Stage) → is_answered s ≡ false → LostIs site c e legs continued closing s → IsLost site c e legs continued
to_lost site c e legs continued closing At.Answered other lost = absurd (false≢true (sym other))
to_lost site c e legs continued closing _ other lost = lost

pub from_lost : (site : Site) (c : ℕ) (e : Exchange) (legs : List Started) (continued closing : Bool) (s : Stage) → is_answered s ≡ false → IsLost site c e legs continued → LostIs site c e legs continued closing s
from_lost site c e legs continued closing At.Answered other lost = absurd (false≢true (sym other))
from_lost site c e legs continued closing _ other lost = lost

-- only whether the whole answer stands matters of the stage
pub lost_any : (site : Site) (c : ℕ) (e : Exchange) (legs : List Started) (continued closing : Bool) (s t : Stage) → is_answered t ≡ is_answered s → LostIs site c e legs continued closing s
    → LostIs site c e legs continued closing t
lost_any site c e legs continued closing s t same lost = go (is_answered s) refl
  where
    go : (b : Bool) → is_answered s ≡ b → LostIs site c e legs continued closing t
    go true at =
        subst (λ (u : Stage). LostIs site c e legs continued closing u) (is_at_answered s at ∙ sym (is_at_answered t (same ∙ at))) lost
    go false other = from_lost site c e legs continued closing t (same ∙ other) (to_lost site c e legs continued closing s other lost)

same_answered : (s : Stage) → answers s ≡ is_answered s
same_answered At.Reading = refl
same_answered _ = refl

pub noted_answered : (x : Item) (s : Stage) → is_answered (noted_by x s) ≡ is_answered s
noted_answered x At.Reading = refl
noted_answered x _ = refl

-- a stage at which memory runs out
lost_stage : (site : Site) (c : ℕ) (e : Exchange) (legs : List Started) (continued looked closing : Bool) (more : List ℕ) (s : Stage) → StageIs site c e legs continued looked closing more s
    → stands_whole site c e ≡ answers s → LostIs site c e legs continued closing s
lost_stage site c e legs continued looked closing more s is whole = go (is_answered s) refl
  where
    go : (b : Bool) → is_answered s ≡ b → LostIs site c e legs continued closing s
    go true at =
        subst (λ (u : Stage). LostIs site c e legs continued closing u) (sym (is_at_answered s at))
        (subst (λ (u : Stage). StageIs site c e legs continued looked closing more u) (is_at_answered s at) is)
    go false other =
        from_lost site c e legs continued closing s other (losses_are_known site c e legs continued looked closing more s is (whole ∙ (same_answered s ∙ other)))

read_output : (o : Option Outcome) → option_map read o ≡ Some derived → o ≡ Some Output
read_output None e = absurd (cc)
read_output (Some Output) e = refl
read_output (Some _) e = absurd (cc)

-- the same connection later
pub lost_by : (old mid : HttpConn) (e : Exchange) (legs : List Started) (s : Stage) → SameAs old mid → is_answered mid.stage ≡ is_answered s
    → LostIs (site_of old) (number_of old) e legs old.continued (old.closing || old.closes) s → Lost mid e legs
lost_by old mid e legs s same answered lost =
    subst (λ (t : Site). LostIs t (number_of mid) e legs mid.continued (mid.closing || mid.closes) mid.stage) (sym same.site)
    (subst (λ (d : ℕ). LostIs (site_of old) d e legs mid.continued (mid.closing || mid.closes) mid.stage) (sym same.number)
    (subst (λ (b : Bool). LostIs (site_of old) (number_of old) e legs b (mid.closing || mid.closes) mid.stage) (sym same.continued)
    (subst (λ (b : Bool). LostIs (site_of old) (number_of old) e legs old.continued (b || mid.closes) mid.stage) (sym same.closing)
    (subst (λ (b : Bool). LostIs (site_of old) (number_of old) e legs old.continued (old.closing || b) mid.stage) (sym same.closes)
    (lost_any (site_of old) (number_of old) e legs old.continued (old.closing || old.closes) s mid.stage answered lost)))))

module _ (old : HttpConn) (L : List Item) (e : Exchange) (legs : List Started) (next : ℕ) (ev : Event) (rest : AtRest old L e legs next)
    (fits : fits_own (site_of old).limits.children L ev ≡ true) (rested : Rested old e legs) (found : Bool)
    (other : (v : View) → (heard_by (site_of old) (number_of old) e (last_hop legs) found ev v).outcome ≡ Some Output → v.outcome ≡ Some Output) where
  never : (held : Leg) → old.stage ≡ At.Running held → (leg : Started) → IsLast (site_of old) (number_of old) (pushed e (In ev)) legs leg
      → outcome_of (run_of (site_of old) (number_of old) (pushed e (In ev)) leg) (pushed e (In ev)).items ≡ Some derived → ⊥
  never held at leg last derives = go old.run refl
    where
      go : (run : Option View) → old.run ≡ run → ⊥
      go None is = no_last last.before leg (sym (no_run old L e legs next rest is) ∙ last.is)
      go (Some v) is =
          let w : View = heard_by (site_of old) (number_of old) e (last_hop legs) found ev v in
          let k : KnowsChildren (site_of old) (number_of old) (pushed e (In ev)) false next (last.before ++ leg ∷ []) (Some w) =
          subst (λ (ls : List Started). KnowsChildren (site_of old) (number_of old) (pushed e (In ev)) false next ls (Some w)) last.is
          (subst (λ (run : Option View). KnowsChildren (site_of old) (number_of old) (pushed e (In ev)) false next legs (run_heard (site_of old) (number_of old) e legs found ev run)) is
          (children_heard old L e legs next ev rest fits found)) in
          let ends : w.outcome ≡ Some Output = read_output w.outcome (sym (tells_last (site_of old) (number_of old) (pushed e (In ev)) next last.before leg w k).outcome ∙ derives) in
          subst (λ (o : Option Outcome). RunRests (number_of old) e rested.staged.more held (option_map read o)) (other v ends)
          (run_rests old L e legs next ev rest fits rested held at v is)

  unended_at : (s : Stage) → old.stage ≡ s → IsUnended (site_of old) (number_of old) (pushed e (In ev)) legs (noted_by (In ev) s)
  unended_at (At.Running held) at = λ leg last derives. never held at leg last derives
  unended_at (At.Finishing text closes) at =
      absurd (subst (λ (s : Stage). Rests (site_of old) (number_of old) e legs (is_looked_at old.request) rested.staged.more s) at rested.rests)
  unended_at _ at = tt

  pub loses_stage : (looked_then : Bool) → Passes (site_of old) (number_of old) e legs old.continued (is_looked_at old.request) rested.staged.more (In ev) looked_then (more_after old L e legs next ev rest fits rested old.run)
      → LostIs (site_of old) (number_of old) (pushed e (In ev)) legs old.continued (old.closing || old.closes) (noted_by (In ev) old.stage)
  loses_stage looked_then p =
      let is = stage_kept old L e legs next ev rest fits rested looked_then p in
      lost_stage (site_of old) (number_of old) (pushed e (In ev)) legs old.continued looked_then (old.closing || old.closes) (more_after old L e legs next ev rest fits rested old.run) (noted_by (In ev) old.stage) is
      (whole_is_answered (site_of old) (number_of old) (pushed e (In ev)) legs old.continued looked_then (old.closing || old.closes) (more_after old L e legs next ev rest fits rested old.run) (noted_by (In ev) old.stage) is
      (unended_at old.stage refl))
