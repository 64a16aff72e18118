-- What a Shut leaves as it was.
use Rattle.std.proofs.Common.{◌≡◌, ◌≤◌, ℕ, ◌==◌, Bool, true, false, ◌&&◌, ◌||◌, not, List, [], ◌∷◌, ◌++◌, Option, Some, None, is_some, refl, sym, ap, ◌∙◌, subst}
use Rattle.std.proofs.lemmas.Bool.{and_parts, and_right, eq-eqb, false≢true, not-true, or_left}
use Rattle.host_trace.specs.declared.items.Act.{Act}
use Rattle.host_trace.specs.declared.items.Act.TheVariants.{Shut}
use Rattle.host_trace.specs.declared.items.Event.{Event}
use Rattle.host_trace.specs.declared.items.Item.{Item}
use Rattle.host_trace.specs.declared.items.Item.TheVariants.{Out}
use Rattle.host_trace.specs.declared.items.Why.{Why}
use Rattle.host_trace.specs.Kinds.{is_no_memory}
use Rattle.trace_child.specs.Words.{is_filled}
use Rattle.child_core.specs.declared.ending.Ending.TheVariants.{Dropped}
use Rattle.child_core.specs.declared.ending.Outcome.{Outcome}
use Rattle.child_core.specs.declared.ending.Outcome.TheVariants as Ended
use Rattle.child_core.specs.Calls.{ended}
use Rattle.child_core.specs.View.{View}
use Rattle.trace_model.specs.Exchange.{Exchange, pushed, request_bytes}
use Rattle.trace_model.specs.Exchanges.{has_ended}
use Rattle.exchange_stage.specs.declared.stage.Leg.{Leg}
use Rattle.exchange_stage.specs.declared.stage.Stage.{Stage}
use Rattle.exchange_stage.specs.declared.stage.Stage.TheVariants as At
use Rattle.exchange_laws.specs.Items.{ActsKeep}
use Rattle.exchange_laws.specs.StageIs.{LostIs}
use Rattle.exchange_laws.proofs.PassLaws.{quiet_acts_keep}
use Rattle.conn_flags.specs.View.{is_live, may_write, noted}
use Rattle.child_laws.specs.Children.{HeldAs, KnowsChildren}
use Rattle.child_laws.specs.Step.{Turn, begun, served, waiting}
use Rattle.child_laws.specs.Moves.{Deals}
use Rattle.child_laws.proofs.MoveLaws.{acts_move, shuts_move}
use Rattle.child_laws.proofs.SpentLaws.{dropped_twice}
use Rattle.http_conn.specs.HttpConn.{HttpConn}
use Rattle.http_conn.specs.Kept.{flags_of, number_of, site_of}
use Rattle.http_conn.specs.Moves.{ended_run, given_up_by}
use Rattle.http_conn.specs.Ready.{outcome_of_run}
use Rattle.http_conn.specs.Reasons.{is_done_with}
use Rattle.http_conn.specs.Settles.{is_answered, is_over}
use Rattle.http_conn.specs.Slot.{run_settled}
use Rattle.http_stage_laws.specs.Inward.{IsDecided, is_running}
use Rattle.http_step_laws.specs.Standing.{EvenAt, IsAwake, QuietBy, Rest, RunQuiet, Standing, ends_at, is_early}
use Rattle.http_step_laws.proofs.HandleLaws.{lost_decided}
use Rattle.http_step_laws.proofs.QuietWords.{quiet_goes_on, some_last}
use Rattle.http_step_laws.proofs.StageWords.{known_now}
use Rattle.http_step_laws.proofs.WhyWords.{no_memory_is}

-- where it is shut for want of memory the run was given up before
ended_again : (early : Bool) (held view : View) → early ≡ true → HeldAs early held view → ended held Dropped ≡ held
ended_again false held view e h = absurd (false≢true e)
ended_again true held view e h = ap (λ (v : View). ended v Dropped) h ∙ (dropped_twice view ∙ sym h)

pub some_answered : (L : List Item) (ev : Event) (acts : List Act) (turn : Turn) (e : Exchange) (conn : HttpConn) (n : ℕ) (s : Standing L ev acts turn n e conn) → is_over conn ≡ false → conn.stage ≡ At.Answered
    → is_filled s.legs ≡ true
some_answered L ev acts turn e conn n s unover at = go conn.run refl
  where
    go : (run : Option View) → conn.run ≡ run → is_filled s.legs ≡ true
    go None is = absurd (false≢true (sym unover ∙ (ap (λ (t : Stage). is_answered t && run_settled conn.run) at ∙ ap run_settled is)))
    go (Some v) is =
        let knows : KnowsChildren (site_of conn) (number_of conn) e (is_early conn) n s.legs (Some v) =
        subst (λ (r : Option View). KnowsChildren (site_of conn) (number_of conn) e (is_early conn) n s.legs r) is (known_now L ev acts turn n e conn s) in
        some_last knows.runs.older knows.runs.leg s.legs knows.runs.are

module _ (L : List Item) (ev : Event) (acts : List Act) (turn : Turn) (e : Exchange) (old : HttpConn) (n : ℕ) (s : Standing L ev acts turn n e old) (two : 2 ≤ (site_of old).limits.head)
    (rest : Rest turn e old) (live : is_live (flags_of old) ≡ true) (why : Why) (memory : is_no_memory why ≡ old.lost) (ends : ends_at old e ≡ true) where
  abbrev act : Act
  act = Shut (number_of old) why

  abbrev mid : HttpConn
  mid = record old { flags = noted (flags_of old) (Out act); run = given_up_by (is_no_memory why) old.run }

  pub ended_not : has_ended (site_of old) (number_of old) e ≡ false
  ended_not = quiet_goes_on L ev acts turn e old n s rest.1

  pub unshut : (flags_of old).shut ≡ false
  unshut = not-true (flags_of old).shut (and_parts (flags_of old).accepted (not (flags_of old).shut) live).1

  pub shut_now : (flags_of mid).shut ≡ true
  shut_now = or_left (number_of old == number_of old) (flags_of old).shut (eq-eqb (number_of old) (number_of old) refl)

  early_not : is_early mid ≡ false
  early_not = and_right old.lost (not (flags_of mid).shut) (ap not shut_now)

  early_then : old.lost ≡ true → is_early old ≡ true
  early_then is = ap (λ (b : Bool). b && not (flags_of old).shut) is ∙ ap not unshut

  pub run_same : given_up_by (is_no_memory why) old.run ≡ old.run
  run_same = go old.lost refl
    where
      ended_run_same : old.lost ≡ true → (run : Option View) → old.run ≡ run → ended_run Dropped run ≡ run
      ended_run_same is None run = refl
      ended_run_same is (Some v) run =
          let knows : KnowsChildren (site_of old) (number_of old) e (is_early old) n s.legs (Some v) =
          subst (λ (r : Option View). KnowsChildren (site_of old) (number_of old) e (is_early old) n s.legs r) run (known_now L ev acts turn n e old s) in
          ap (λ (w : View). Some w) (ended_again (is_early old) v knows.runs.view (early_then is) knows.runs.held_as)

      go : (b : Bool) → old.lost ≡ b → given_up_by (is_no_memory why) old.run ≡ old.run
      go true is = ap (λ (b : Bool). given_up_by b old.run) (memory ∙ is) ∙ ended_run_same is old.run refl
      go false is = ap (λ (b : Bool). given_up_by b old.run) (memory ∙ is)

  pub decided_now : IsDecided old.run
  decided_now = go old.lost refl
    where
      by_run : (run : Option View) → old.run ≡ run → old.lost ≡ true → IsDecided run
      by_run None run is = tt
      by_run (Some v) run is = lost_decided L ev acts turn e old n s is v run

      of_outcome : (leg : Leg) (run : Option View) → RunQuiet old e leg (outcome_of_run run) → IsDecided run
      of_outcome leg None r = tt
      of_outcome leg (Some v) r = of_some v.outcome r
        where
          of_some : (o : Option Outcome) → RunQuiet old e leg o → is_some o ≡ true
          of_some None q = absurd (false≢true (sym q.2 ∙ ends))
          of_some (Some o) q = refl

      by_stage : (t : Stage) → old.stage ≡ t → QuietBy old e t → old.lost ≡ false → IsDecided old.run
      by_stage (At.Running leg) at q found = of_outcome leg old.run q.1
      by_stage (At.Rejected cause bare) at q found = absurd q
      by_stage (At.Interrupted cause) at q found = absurd q
      by_stage (At.Starting leg launch body whole) at q found = absurd q
      by_stage (At.Finishing text closes) at q found = absurd q
      by_stage _ at q found = s.inward.decided found (ap is_running at)

      go : (b : Bool) → old.lost ≡ b → IsDecided old.run
      go true is = by_run old.run refl is
      go false found = by_stage old.stage refl (rest.1.found found).quiet found

  pub deals : Deals (site_of old) (number_of old) L ev (acts ++ act ∷ []) (pushed e (Out act)) s.over (is_early mid) turn n s.legs (given_up_by (is_no_memory why) old.run)
  deals =
      subst (λ (r : Option View). Deals (site_of old) (number_of old) L ev (acts ++ act ∷ []) (pushed e (Out act)) s.over (is_early mid) turn n s.legs r) (sym run_same)
      (subst (λ (b : Bool). Deals (site_of old) (number_of old) L ev (acts ++ act ∷ []) (pushed e (Out act)) s.over b turn n s.legs old.run) (sym early_not) (go old.lost refl))
    where
      go : (b : Bool) → old.lost ≡ b → Deals (site_of old) (number_of old) L ev (acts ++ act ∷ []) (pushed e (Out act)) s.over false turn n s.legs old.run
      go true is =
          subst (λ (w : Why). Deals (site_of old) (number_of old) L ev (acts ++ Shut (number_of old) w ∷ []) (pushed e (Out (Shut (number_of old) w))) s.over false turn n s.legs old.run) (sym (no_memory_is why (memory ∙ is)))
          (shuts_move (site_of old) (number_of old) L ev acts e s.over turn n s.legs old.run two ended_not
          (subst (λ (b : Bool). Deals (site_of old) (number_of old) L ev acts e s.over b turn n s.legs old.run) (early_then is) s.children))
      go false is =
          acts_move (site_of old) (number_of old) L ev acts e s.over act false turn n s.legs old.run two refl (ap not (memory ∙ is)) ended_not
          (subst (λ (b : Bool). Deals (site_of old) (number_of old) L ev acts e s.over b turn n s.legs old.run) (ap (λ (b : Bool). b && not (flags_of old).shut) is) s.children)

  keeps : ActsKeep (site_of old) (number_of old) e s.legs old.continued false (old.closing || old.closes) [] (act ∷ [])
  keeps = quiet_acts_keep (site_of old) (number_of old) e s.legs old.continued false (old.closing || old.closes) [] (act ∷ []) two (refl, refl, tt)

  pub lost_kept : (t : Stage) → old.stage ≡ t → LostIs (site_of old) (number_of old) e s.legs old.continued (old.closing || old.closes) t
      → LostIs (site_of old) (number_of old) (pushed e (Out act)) s.legs old.continued (old.closing || old.closes) t
  lost_kept At.Answered at l = keeps.kept At.Answered (some_answered L ev acts turn e old n s rest.1.unover at) l
  lost_kept _ at l = keeps.lost l

  pub dead : is_live (flags_of mid) ≡ false
  dead = and_right (flags_of mid).accepted (not (flags_of mid).shut) (ap not shut_now)

  pub ends_now : (d : Exchange) → ends_at mid d ≡ true
  ends_now d = go (may_write (flags_of mid)) (ap (λ (b : Bool). b && not (flags_of mid).upgraded) dead)
    where
      first : (a b c f h i j k l : Bool) → a ≡ false → (not a || b || c || f || h || i || j || k || l) ≡ true
      first false b c f h i j k l e = refl
      first true b c f h i j k l e = absurd (false≢true (sym e))

      go : (b : Bool) → may_write (flags_of mid) ≡ false → ends_at mid d ≡ true
      go b is =
          first (may_write (flags_of mid)) (flags_of mid).stopped (flags_of mid).gone mid.lost mid.idled mid.closing mid.closes (is_some mid.cut) (is_done_with mid (request_bytes (number_of old) d)) is

  run_quiet : (leg : Leg) (run : Option View) → IsDecided run → RunQuiet old e leg (outcome_of_run run) → RunQuiet mid (pushed e (Out act)) leg (outcome_of_run run)
  run_quiet leg None d r = absurd (false≢true (sym r.2 ∙ ends))
  run_quiet leg (Some v) d r = go v.outcome d r
    where
      go : (o : Option Outcome) → is_some o ≡ true → RunQuiet old e leg o → RunQuiet mid (pushed e (Out act)) leg o
      go None d q = absurd (false≢true d)
      go (Some Ended.Output) d q = q
      go (Some _) d q = ends_now (pushed e (Out act))

  pub quiet_at : (t : Stage) → QuietBy old e t → QuietBy mid (pushed e (Out act)) t
  quiet_at (At.Running leg) q =
      (q.0, subst (λ (r : Option View). RunQuiet mid (pushed e (Out act)) leg (outcome_of_run r)) (sym run_same) (run_quiet leg old.run decided_now q.1))
  quiet_at (At.Rejected cause bare) q = q
  quiet_at (At.Interrupted cause) q = q
  quiet_at (At.Starting leg launch body whole) q = q
  quiet_at (At.Finishing text closes) q = q
  quiet_at _ q = tt

  pub even_decided : (room : Bool) (t : Turn) (run : Option View) → IsAwake t → IsDecided run → EvenAt room t run
  even_decided room t None awake d = tt
  even_decided room waiting (Some v) awake d = absurd awake
  even_decided room begun (Some v) awake d = tt
  even_decided room (served may) (Some v) awake d = λ undecided. absurd (false≢true (sym undecided ∙ d))
