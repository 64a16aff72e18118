-- What is due for the child is given, and the stage stays.
use Rattle.std.proofs.Common.{◌≡◌, ◌≤◌, ℕ, Bool, true, false, ◌&&◌, ◌||◌, List, [], ◌++◌, Option, Some, None, is_some, refl, sym, ap, ◌∙◌, subst, inl}
use Rattle.std.proofs.lemmas.Bool.{and_parts, false≢true, or_parts}
use Rattle.host_trace.specs.declared.items.Act.{Act}
use Rattle.host_trace.specs.declared.items.Event.{Event}
use Rattle.host_trace.specs.declared.items.Item.{Item}
use Rattle.own_traces.specs.Whose.{next_after}
use Rattle.trace_child.specs.Words.{is_filled}
use Rattle.child_core.specs.declared.ending.Outcome.{Outcome}
use Rattle.child_core.specs.declared.ending.Outcome.TheVariants.{Dropped, Failed, Gone, Output, Stopped}
use Rattle.child_core.specs.Calls.{is_settled}
use Rattle.child_core.specs.Due.{acted, acting}
use Rattle.child_core.specs.View.{View}
use Rattle.child_core.proofs.MemoryLaws.{acting-due}
use Rattle.trace_model.specs.Exchange.{Exchange}
use Rattle.exchange_stage.specs.declared.stage.Leg.{Leg}
use Rattle.exchange_stage.specs.declared.stage.Stage.{Stage}
use Rattle.exchange_stage.specs.declared.stage.Stage.TheVariants as At
use Rattle.exchange_laws.specs.Items.{ActsKeep, with_acts as stage_acts}
use Rattle.exchange_laws.specs.StageIs.{LostIs}
use Rattle.exchange_laws.proofs.PassLaws.{quiet_acts_keep}
use Rattle.conn_flags.specs.View.{has_room}
use Rattle.child_laws.specs.Children.{KnowsChildren}
use Rattle.child_laws.specs.Step.{Turn, waiting, served}
use Rattle.child_laws.specs.Moves.{Deals}
use Rattle.child_laws.proofs.MoveLaws.{serves_move}
use Rattle.conn_laws.specs.Moves.{acts_of, moved}
use Rattle.http_conn.specs.HttpConn.{HttpConn}
use Rattle.http_conn.specs.Kept.{flags_of, number_of, site_of}
use Rattle.http_conn.specs.Ready.{outcome_of_run, undrained}
use Rattle.http_conn.specs.Reasons.{ends_with, is_done_with}
use Rattle.http_conn.specs.Settles.{is_answered, is_over}
use Rattle.http_stage_laws.specs.Staged.{Staged}
use Rattle.http_stage_laws.proofs.ItemLaws.{serves_staged}
use Rattle.http_conn.specs.Parts.{gives_all}
use Rattle.http_stage_laws.specs.Inward.{CutIs, IsDecided, IsPast, StaysRun, is_left}
use Rattle.http_step_laws.specs.Standing.{EvenAt, IsAwake, Makes, Quiet, QuietBy, RunQuiet, Standing, ends_at, is_early}
use Rattle.http_step_laws.proofs.EndsLaws.{Steady}
use Rattle.http_step_laws.proofs.FormWords.{path_right}
use Rattle.http_step_laws.proofs.ServeLaws.{AreChilds, acts_of-gives, awaited_gives, bytes_gives, childs_acting, heard_gives, moved-gives, next-childs, path_in_step, quiet_gives, stage_gives, starts_gives}
use Rattle.http_step_laws.proofs.StageWords.{known_now}
use Rattle.http_step_laws.proofs.QuietWords.{calm_quiet, child_accepted, quiet_goes_on, some_last}

-- ---- acts of the child leave what was decided of it

acted_outcome : (may : Bool) (v : View) → (acted may v).outcome ≡ v.outcome
unfolding acted
acted_outcome may v = refl

acted_output : (may : Bool) (v : View) → (acted may v).output ≡ v.output
unfolding acted
acted_output may v = refl

acted_exited : (may : Bool) (v : View) → (acted may v).exited ≡ v.exited
unfolding acted
acted_exited may v = refl

acted_started : (may : Bool) (v : View) → (acted may v).started ≡ v.started
unfolding acted
acted_started may v = refl

acted_refused : (may : Bool) (v : View) → (acted may v).refused ≡ v.refused
unfolding acted
acted_refused may v = refl

unsettled_by : (v : View) → v.refused ≡ false → v.exited ≡ false → is_settled v ≡ false
unsettled_by v refused exited = ap (λ (b : Bool). b || (v.exited && v.input_ended && v.output_ended)) refused ∙ ap (λ (b : Bool). b && v.input_ended && v.output_ended) exited

-- no act settles a child that was not started
acted_still : (may : Bool) (v : View) → v.started ≡ false → is_settled (acted may v) ≡ is_settled v
unfolding acted
acted_still may v off = rw off refl

stays_unsettled : (may : Bool) (v : View) → StaysRun (Some v) → is_settled (acted may v) ≡ false
stays_unsettled may v stays = go v.started refl
  where
    go : (b : Bool) → v.started ≡ b → is_settled (acted may v) ≡ false
    go false off = acted_still may v off ∙ stays.0
    go true on =
        unsettled_by (acted may v) (acted_refused may v ∙ (or_parts v.refused (v.exited && v.input_ended && v.output_ended) stays.0).0)
        (acted_exited may v ∙ (ap (λ (b : Bool). b && v.exited) (sym on) ∙ stays.1))

-- ---- what is due is given

-- what is known then: it has ended, or nothing is due of the answer, nor of the child
pub record Handled (turn : Turn) (e : Exchange) (conn : HttpConn) : Type 0 where
  pub steady : is_over conn ≡ true → conn.lost ≡ false → (flags_of conn).shut ≡ false → Steady conn
  pub quiet : is_over conn ≡ false → Quiet e conn
  pub awake : IsAwake turn
  pub even : EvenAt (has_room (flags_of conn)) turn conn.run

module _ (L : List Item) (ev : Event) (acts : List Act) (e : Exchange) (old : HttpConn) (n : ℕ) (s : Standing L ev acts waiting n e old) (two : 2 ≤ (site_of old).limits.head)
    (q : Quiet e old) (v : View) (run : old.run ≡ Some v) where
  abbrev may : Bool
  may = has_room (flags_of old)

  abbrev mid : HttpConn
  mid = record old { run = Some (acted may v) }

  abbrev later : Exchange
  later = moved (site_of old) (number_of old) e (gives_all (acting may v))

  childs : AreChilds (acting may v)
  childs = childs_acting may v

  knows : KnowsChildren (site_of old) (number_of old) e (is_early old) n s.legs (Some v)
  knows = subst (λ (r : Option View). KnowsChildren (site_of old) (number_of old) e (is_early old) n s.legs r) run (known_now L ev acts waiting n e old s)

  some_legs : is_filled s.legs ≡ true
  some_legs = some_last knows.runs.older knows.runs.leg s.legs knows.runs.are

  keeps : ActsKeep (site_of old) (number_of old) e s.legs old.continued false (old.closing || old.closes) [] (acting may v)
  keeps = quiet_acts_keep (site_of old) (number_of old) e s.legs old.continued false (old.closing || old.closes) [] (acting may v) two (quiet_gives (number_of old) (acting may v) childs)

  lost_kept : (t : Stage) → LostIs (site_of old) (number_of old) e s.legs old.continued (old.closing || old.closes) t
      → LostIs (site_of old) (number_of old) later s.legs old.continued (old.closing || old.closes) t
  lost_kept t l = subst (λ (d : Exchange). LostIs (site_of old) (number_of old) d s.legs old.continued (old.closing || old.closes) t) (stage_gives (site_of old) (number_of old) e (acting may v)) (go t l)
    where
      go : (t : Stage) → LostIs (site_of old) (number_of old) e s.legs old.continued (old.closing || old.closes) t
          → LostIs (site_of old) (number_of old) (stage_acts e (acting may v)) s.legs old.continued (old.closing || old.closes) t
      go At.Answered l = keeps.kept At.Answered some_legs l
      go _ l = keeps.lost l

  deals : Deals (site_of old) (number_of old) L ev (acts ++ acts_of (gives_all (acting may v))) later s.over (is_early old) (served may) (next_after n (acts_of (gives_all (acting may v)))) s.legs (Some (acted may v))
  deals =
      subst (λ (k : ℕ). Deals (site_of old) (number_of old) L ev (acts ++ acts_of (gives_all (acting may v))) later s.over (is_early old) (served may) k s.legs (Some (acted may v)))
      (sym (ap (λ (l : List Act). next_after n l) (acts_of-gives (acting may v)) ∙ next-childs n (acting may v) childs))
      (subst (λ (l : List Act). Deals (site_of old) (number_of old) L ev (acts ++ l) later s.over (is_early old) (served may) n s.legs (Some (acted may v))) (sym (acts_of-gives (acting may v)))
      (subst (λ (d : Exchange). Deals (site_of old) (number_of old) L ev (acts ++ acting may v) d s.over (is_early old) (served may) n s.legs (Some (acted may v))) (sym (moved-gives (site_of old) (number_of old) e (acting may v)))
      (serves_move (site_of old) (number_of old) L ev acts e s.over (is_early old) may n s.legs v two (quiet_goes_on L ev acts waiting e old n s q)
      (subst (λ (r : Option View). Deals (site_of old) (number_of old) L ev acts e s.over (is_early old) waiting n s.legs r) run s.children))))

  outcome_same : outcome_of_run old.run ≡ (acted may v).outcome
  outcome_same = ap outcome_of_run run ∙ sym (acted_outcome may v)

  undrained_same : undrained old.run ≡ (acted may v).output
  undrained_same = ap undrained run ∙ sym (acted_output may v)

  ends_same : ends_at mid later ≡ ends_at old e
  ends_same = ap (λ (b : List ℕ). ends_with old (is_done_with old b)) (bytes_gives (site_of old) (number_of old) e (acting may v) childs)

  run_quiet : (leg : Leg) (o : Option Outcome) → RunQuiet old e leg o → RunQuiet mid later leg o
  run_quiet leg None r = (sym undrained_same ∙ r.0, r.1, ends_same ∙ r.2)
  run_quiet leg (Some Output) r = r
  run_quiet leg (Some _) r = ends_same ∙ r

  quiet_at : (t : Stage) → QuietBy old e t → QuietBy mid later t
  quiet_at (At.Running leg) r = (r.0, subst (λ (o : Option Outcome). RunQuiet mid later leg o) outcome_same (run_quiet leg (outcome_of_run old.run) r.1))
  quiet_at (At.Rejected cause bare) r = r
  quiet_at (At.Interrupted cause) r = r
  quiet_at (At.Starting leg launch body whole) r = r
  quiet_at (At.Finishing text closes) r = r
  quiet_at _ r = tt

  steady_then : is_over mid ≡ true → mid.lost ≡ false → (flags_of mid).shut ≡ false → Steady mid
  steady_then over found unshut = go ((flags_of old).stopped || (flags_of old).gone) refl
    where
      settled : is_settled (acted may v) ≡ true
      settled = (and_parts (is_answered old.stage) (is_settled (acted may v)) over).1

      go : (b : Bool) → ((flags_of old).stopped || (flags_of old).gone) ≡ b → Steady mid
      go false is = let both = or_parts (flags_of old).stopped (flags_of old).gone is in record { unstopped = both.0; here = both.1 }
      go true is =
          let whole : is_answered old.stage ≡ true = (and_parts (is_answered old.stage) (is_settled (acted may v)) over).0 in
          let stays : StaysRun (Some v) = subst (λ (r : Option View). StaysRun r) run (s.inward.stays found unshut is whole) in
          absurd (false≢true (sym (stays_unsettled may v stays) ∙ settled))

  decided_then : IsDecided (Some v) → IsDecided (Some (acted may v))
  decided_then d = ap (λ (o : Option Outcome). is_some o) (acted_outcome may v) ∙ d

  past_then : (t : Stage) → IsPast t (Some v) → IsPast t (Some (acted may v))
  past_then (At.Running leg) p = λ first. decided_then (p first)
  past_then (At.Unstarted hop request) p = p
  past_then (At.Starting leg launch body whole) p = p
  past_then _ p = tt

  stays_then : StaysRun (Some v) → StaysRun (Some (acted may v))
  stays_then t = (stays_unsettled may v t, ap (λ (b : Bool). b && (acted may v).exited) (acted_started may v) ∙ (ap (λ (b : Bool). v.started && b) (acted_exited may v) ∙ t.1))

  pub serves_make : Makes Handled L ev acts e old n (gives_all (acting may v)) mid
  serves_make = record {
    in_step = path_in_step (site_of old) (number_of old) (is_early old) may n s.legs two (acting may v) e v (acting-due may v).path knows;
    right = path_right (site_of old) (number_of old) (is_early old) may n s.legs two (acting may v) e v (acting-due may v).path knows childs;
    turn = served may;
    over = s.over;
    legs = s.legs;
    staged = λ found.
        subst (λ (d : Exchange). Staged mid d s.legs) (sym (moved-gives (site_of old) (number_of old) e (acting may v)))
        (serves_staged old e s.legs may v two (s.staged found) (calm_quiet old e s.legs old.stage (λ at. some_legs) (q.found found).quiet) run);
    lost = λ is. lost_kept old.stage (s.lost is);
    memory = λ is shut. inl (is, shut);
    children = deals;
    heard = λ found. let h = heard_gives old e (acting may v) childs (s.heard found) in record { bodies = h.bodies; looked = h.looked; handed = h.handed };
    inward = record {
      calm = s.inward.calm;
      calm_found = s.inward.calm_found;
      accepted = s.inward.accepted;
      http = s.inward.http;
      lost_in = s.inward.lost_in;
      left = λ found is. s.inward.left found (ap is_left outcome_same ∙ is);
      decided = λ found r. decided_then (subst (λ (r : Option View). IsDecided r) run (s.inward.decided found r));
      cut_is = λ found. subst (λ (o : Option Outcome). CutIs old.stage o old.cut) outcome_same (s.inward.cut_is found);
      held = λ shut. decided_then (subst (λ (r : Option View). IsDecided r) run (s.inward.held shut));
      stays = λ found unshut ends whole. stays_then (subst (λ (r : Option View). StaysRun r) run (s.inward.stays found unshut ends whole));
      closes_is = s.inward.closes_is;
      room = s.inward.room;
      asked = s.inward.asked;
      within = λ found open_yet either. let was = s.inward.within found open_yet either in record { untaken = was.untaken; looked = was.looked };
      past = λ found open_yet unshut ended. past_then old.stage (subst (λ (r : Option View). IsPast old.stage r) run (s.inward.past found open_yet unshut ended));
    };
    starts_first = starts_gives (site_of old) (number_of old) e (acting may v) childs s.starts_first;
    accepted = child_accepted L ev acts waiting e old n s v run;
    post = record {
      steady = steady_then;
      quiet = λ unover. record {
        unover = unover;
        found = λ found. record {
          quiet = quiet_at old.stage (q.found found).quiet;
          let_on = λ u first awaited.
              let was = (q.found found).let_on u first (sym (awaited_gives (site_of old) (number_of old) e (acting may v) childs) ∙ awaited) in
              (ends_same ∙ was.0, was.1, was.2);
        };
      };
      awake = tt;
      even = λ undecided unsettled. refl;
    };
  }
