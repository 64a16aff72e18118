-- What is known of a connection behind the exit of a child: nothing is due, or the next hop may come, or the exchange end, or one has ended.
use Rattle.std.specs.Prelude.{nat_le}
use Rattle.std.proofs.Common.{◌≡◌, ◌⊎◌, ℕ, Bool, true, false, ◌&&◌, ◌||◌, not, List, [], ◌∷◌, ◌++◌, Option, Some, None, is_some, option_map, refl, sym, ap, ◌∙◌, subst, inl, inr, append-nil}
use Rattle.std.proofs.lemmas.Bool.{false≢true, or_from}
use Rattle.host_base.specs.declared.cause.Cause.{Cause}
use Rattle.host_base.specs.declared.site.Site.{Site}
use Rattle.host_trace.specs.declared.items.Event.TheVariants.{Exited}
use Rattle.host_trace.specs.declared.items.Item.{Item}
use Rattle.host_trace.specs.declared.items.Item.TheVariants.{In}
use Rattle.own_traces.specs.OwnFits.{fits_own}
use Rattle.trace_child.specs.Words.{is_filled}
use Rattle.child_core.specs.declared.ending.Outcome.{Outcome}
use Rattle.child_core.specs.declared.ending.Outcome.TheVariants as Ended
use Rattle.child_core.specs.Due.{is_feed_due}
use Rattle.child_core.specs.Knows.{read}
use Rattle.child_core.specs.View.{View}
use Rattle.trace_model.specs.Exchange.{Exchange, pushed, request_bytes}
use Rattle.trace_model.specs.Exchanges.{current, ended_after, ended_by, following, has_ended}
use Rattle.trace_model.specs.Legs.{Leg as Started}
use Rattle.exchange_request.specs.Knows.{is_looked_at}
use Rattle.exchange_stage.specs.declared.stage.Stage.{Stage}
use Rattle.exchange_stage.specs.declared.stage.Stage.TheVariants as At
use Rattle.exchange_laws.specs.OfRun.{is_cut_short}
use Rattle.exchange_laws.specs.StageIs.{IsSilent}
use Rattle.exchange_laws.proofs.UnansweredLaws.{awaited-quiet}
use Rattle.conn_flags.specs.View.{count_sent, has_room, is_live, less_by, more_by, noted}
use Rattle.child_laws.specs.Children.{KnowsRuns, NoMore}
use Rattle.child_laws.proofs.OverLaws.{new_unended}
use Rattle.conn_laws.specs.Moves.{AreInStep, Move, moved, settles}
use Rattle.http_conn.specs.HttpConn.{HttpConn}
use Rattle.http_conn.specs.Hears.{Hears, HearsOwn, heard_run, keeps_of, told_run}
use Rattle.http_conn.specs.Kept.{is_reading, flags_of, number_of, site_of}
use Rattle.http_conn.specs.Ready.{outcome_of_run, undrained}
use Rattle.http_conn.specs.Reasons.{is_done_with}
use Rattle.http_conn.specs.Settles.{Follows, ending_of, is_over}
use Rattle.http_conn.specs.Slot.{run_settled}
use Rattle.http_stage_laws.specs.HeardStages.{AtRest}
use Rattle.http_stage_laws.specs.Inward.{CutBy, CutIs, is_left, is_running}
use Rattle.http_stage_laws.proofs.HeardRest.{at_stage}
use Rattle.http_stage_laws.proofs.StagedLaws.{no_last, outcome_told}
use Rattle.http_step_laws.specs.Standing.{ends_at}
use Rattle.http_step_laws.proofs.EndWords.{Going}
use Rattle.http_step_laws.proofs.PushWords.{bytes_quiet}
use Rattle.good_step_laws.specs.Events.Events.{Heard}
use Rattle.good_step_laws.proofs.Events.BehindWords.{found_before}
use Rattle.good_step_laws.proofs.Events.EventLaws.{events_stand, moves_on, moves_over}
use Rattle.good_step_laws.proofs.Events.RestWords.{going_now}
use Rattle.good_step_laws.specs.Shuts.Memory.{Calm, CalmAt, CalmRun, IsLeft, LeftAt, LetOn, Resting, Unfed}
use Rattle.good_step_laws.proofs.Steps.MemoryWords.{calm_before, calm_run, unfed_before}
use Rattle.good_step_laws.proofs.Steps.TickWords.{at_exit, exit_outcome, exit_undrained, exit_unfed}

-- ---- a live connection doesn't rest where its run was cut short

module _ (old : HttpConn) (L : List Item) (e : Exchange) (legs : List Started) (n : ℕ) (rest : AtRest old L e legs n) (found : old.lost ≡ false) (live : is_live (flags_of old) ≡ true) where
  g : Going old (is_done_with old (request_bytes (number_of old) e))
  g = going_now old L e legs n rest found live

  speaks : old.stage ≡ At.Silent → ⊥
  speaks at = go (outcome_of_run old.run) refl
    where
      is : IsSilent (site_of old) (number_of old) e legs old.continued
      is = (at_stage old L e legs n rest (rest.found found) At.Silent at).0

      cut : is_cut_short (option_map read (outcome_of_run old.run)) ≡ true
      cut = sym (ap is_cut_short (outcome_told (site_of old) (number_of old) e n legs old.run rest.children is.leg is.last)) ∙ is.cut

      unleft : (o : Outcome) → outcome_of_run old.run ≡ Some o → is_left (Some o) ≡ true → ⊥
      unleft o was left = false≢true (sym (or_from (flags_of old).stopped (flags_of old).gone g.unstopped g.here) ∙ rest.inward.left found (ap is_left was ∙ left))

      failed_by : (cause : Cause) → CutBy (Some (Ended.Failed cause)) old.cut → ⊥
      failed_by cause by = no_cause (sym g.uncut ∙ by)
        where
          no_cause : None ≡ Some cause → ⊥
          no_cause e = absurd (cc)

      go : (o : Option Outcome) → outcome_of_run old.run ≡ o → ⊥
      go None was = false≢true (sym (ap (λ (p : Option Outcome). is_cut_short (option_map read p)) was) ∙ cut)
      go (Some Ended.Output) was = false≢true (sym (ap (λ (p : Option Outcome). is_cut_short (option_map read p)) was) ∙ cut)
      go (Some (Ended.Failed cause)) was =
          failed_by cause (subst (λ (p : Option Outcome). CutBy p old.cut) was (subst (λ (s : Stage). CutIs s (outcome_of_run old.run) old.cut) at (rest.inward.cut_is found)))
      go (Some Ended.Gone) was = unleft Ended.Gone was refl
      go (Some Ended.Stopped) was = unleft Ended.Stopped was refl
      go (Some Ended.Dropped) was = unleft Ended.Dropped was refl

-- ---- behind it

never_kept : (k : ℕ) (run : Option View) → keeps_of run (Exited k) ≡ false
never_kept k None = refl
never_kept k (Some v) = refl

module _ (old : HttpConn) (L : List Item) (e : Exchange) (legs : List Started) (n k : ℕ) (rest : AtRest old L e legs n) (fits : fits_own (site_of old).limits.children L (Exited k) ≡ true)
    (new : HttpConn) (h : Hears old (Exited k) new) where
  abbrev x : Item
  x = In (Exited k)

  abbrev first : HttpConn
  first = record old { flags = noted old.flags x; run = heard_run (Exited k) true old.run }

  found_is : h.found ≡ true
  found_is = go h.found refl
    where
      go : (b : Bool) → h.found ≡ b → h.found ≡ true
      go true is = is
      go false is = absurd (false≢true (sym (never_kept k old.run) ∙ h.memory is))

  leads : h.mid ≡ first
  leads = subst (λ (b : Bool). HearsOwn (Exited k) (told_run (Exited k) b (record old { flags = noted old.flags x })) h.mid) found_is h.own

  abbrev later : Exchange
  later = pushed e x

  abbrev heard : Heard old L e n (Exited k) new
  heard = events_stand old new L e legs n (Exited k) rest fits h

  unfed : Unfed first.run
  unfed v is = go old.run refl is
    where
      the_view : {a b : View} → Some a ≡ Some b → a ≡ b
      the_view e = cc

      go : (run : Option View) → old.run ≡ run → heard_run (Exited k) true old.run ≡ Some v → is_feed_due v ≡ false
      go None none some = absurd (let bad : None ≡ Some v = sym (ap (heard_run (Exited k) true) none) ∙ some in cc)
      go (Some w) was some =
          subst (λ (u : View). is_feed_due u ≡ false) (the_view (sym (ap (heard_run (Exited k) true) was) ∙ some)) (exit_unfed k w (unfed_before old L e legs n rest w was))

  -- of a connection that is not live
  dead : (conn : HttpConn) (d : Exchange) → flags_of conn ≡ flags_of first → is_live (flags_of old) ≡ false → ends_at conn d ≡ true
  dead conn d same none =
      ap (λ (b : Bool). not b || (flags_of conn).stopped || (flags_of conn).gone || conn.lost || conn.idled || conn.closing || conn.closes || is_some conn.cut
      || is_done_with conn (request_bytes (number_of conn) d))
      (ap (λ (b : Bool). b && not (flags_of conn).upgraded) (ap is_live same ∙ none))

  -- ---- its exchange goes on

  module _ (found : old.lost ≡ false) where
    let_on : LetOn later first
    let_on first_written = awaited-quiet (site_of old) (number_of old) e x refl ∙ (rest.found found).let_on first_written

    room_same : has_room (flags_of first) ≡ has_room (flags_of old)
    room_same = ap (λ (p : ℕ). (flags_of old).shut || nat_le p 262144) (ap (λ (b : Bool). less_by 0 (more_by (count_sent b (number_of old) x) (flags_of old).pending)) rest.inward.http)

    module _ (live : is_live (flags_of old) ≡ true) where
      calm : Calm e old
      calm = calm_before old L e legs n rest found live

      left : LeftAt first heard.standing.over old.stage → Resting later first ⊎ IsLeft later first heard.standing.over
      left at = inr (record { unfed = unfed; let_on = λ away. let_on; at = at })

      here : (t : Stage) → old.stage ≡ t → CalmAt old e t
      here t at = subst (λ (s : Stage). CalmAt old e s) at calm.at

      still : (t : Stage) → old.stage ≡ t → CalmRun (is_running t) (has_room (flags_of first)) first.run → CalmAt first later t → Resting later first ⊎ IsLeft later first heard.standing.over
      still t at run calm_then =
          inl (inr (record {
            run = subst (λ (s : Stage). CalmRun (is_running s) (has_room (flags_of first)) first.run) (sym at) run;
            let_on = let_on;
            at = subst (λ (s : Stage). CalmAt first later s) (sym at) calm_then;
          }))

      none_run : old.run ≡ None → CalmRun false (has_room (flags_of first)) first.run
      none_run none = subst (λ (r : Option View). CalmRun false (has_room (flags_of first)) (heard_run (Exited k) true r)) (sym none) tt

      no_child : old.stage ≡ At.Reading → old.run ≡ None
      no_child at = go old.run rest.children.runs
        where
          go : (run : Option View) → KnowsRuns NoMore (site_of old) (number_of old) e false legs run → run ≡ None
          go None q = refl
          go (Some v) q = absurd (no_last q.older q.leg (sym (at_stage old L e legs n rest (rest.found found) At.Reading at).0.none ∙ q.are))

      by_stage : (t : Stage) → old.stage ≡ t → Resting later first ⊎ IsLeft later first heard.standing.over
      by_stage At.Reading at = still At.Reading at (none_run (no_child at)) (either (here At.Reading at))
        where
          either : (is_looked_at old.request ≡ true) ⊎ (request_bytes (number_of old) e ≡ []) → (is_looked_at old.request ≡ true) ⊎ (request_bytes (number_of old) later ≡ [])
          either (inl looked) = inl looked
          either (inr none) = inr (bytes_quiet (number_of old) e x refl ∙ none)
      by_stage (At.Refused cause) at = left (subst (λ (s : Stage). LeftAt first heard.standing.over s) (sym at) tt)
      by_stage (At.Unstarted hop request) at = by_run old.run refl
        where
          by_run : (run : Option View) → old.run ≡ run → Resting later first ⊎ IsLeft later first heard.standing.over
          by_run None none =
              still (At.Unstarted hop request) at (none_run none)
              (ap (λ (r : Option View). run_settled (heard_run (Exited k) true r) && has_room (flags_of first)) none
              ∙ (ap (λ (b : Bool). true && b) room_same ∙ (sym (ap (λ (r : Option View). run_settled r && has_room (flags_of old)) none) ∙ here (At.Unstarted hop request) at)))
          by_run (Some v) some =
              left (subst (λ (s : Stage). LeftAt first heard.standing.over s) (sym at) (ap (λ (r : Option View). is_some (heard_run (Exited k) true r)) some))
      by_stage (At.Running leg) at = still (At.Running leg) at (run_calm old.run refl) (none_came old.run refl (here (At.Running leg) at))
        where
          run_calm : (run : Option View) → old.run ≡ run → CalmRun true (has_room (flags_of first)) first.run
          run_calm None none = subst (λ (r : Option View). CalmRun true (has_room (flags_of first)) (heard_run (Exited k) true r)) (sym none) tt
          run_calm (Some v) some =
              subst (λ (r : Option View). CalmRun true (has_room (flags_of first)) (heard_run (Exited k) true r)) (sym some)
              (calm_run true (has_room (flags_of first)) (at_exit k v) (exit_unfed k v (unfed_before old L e legs n rest v some)) (λ other. absurd (false≢true (sym other))))

          none_came : (run : Option View) → old.run ≡ run → (outcome_of_run old.run ≡ None) × (undrained old.run ≡ []) × (leg.ticked ≡ false)
              → (outcome_of_run first.run ≡ None) × (undrained first.run ≡ []) × (leg.ticked ≡ false)
          none_came None none c =
              (ap (λ (r : Option View). outcome_of_run (heard_run (Exited k) true r)) none, ap (λ (r : Option View). undrained (heard_run (Exited k) true r)) none, c.2)
          none_came (Some v) some c = (
            ap (λ (r : Option View). outcome_of_run (heard_run (Exited k) true r)) some ∙ (exit_outcome k v ∙ (sym (ap outcome_of_run some) ∙ c.0)),
            ap (λ (r : Option View). undrained (heard_run (Exited k) true r)) some ∙ (exit_undrained k v ∙ (sym (ap undrained some) ∙ c.1)),
            c.2,
          )
      by_stage At.Answered at = left (subst (λ (s : Stage). LeftAt first heard.standing.over s) (sym at) tt)
      by_stage At.Silent at = absurd (speaks old L e legs n rest found live at)
      by_stage (At.Rejected cause bare) at = absurd (here (At.Rejected cause bare) at)
      by_stage (At.Interrupted cause) at = absurd (here (At.Interrupted cause) at)
      by_stage (At.Starting leg launch body whole) at = absurd (here (At.Starting leg launch body whole) at)
      by_stage (At.Finishing text closes) at = absurd (here (At.Finishing text closes) at)

    goes_on : Resting later first ⊎ IsLeft later first heard.standing.over
    goes_on = go (is_live (flags_of old)) refl
      where
        go : (b : Bool) → is_live (flags_of old) ≡ b → Resting later first ⊎ IsLeft later first heard.standing.over
        go true live = by_stage live old.stage refl
        go false none = inl (inl (dead first later refl none, unfed))

  -- ---- or it is over

  abbrev then_e : Exchange
  then_e = moved (site_of old) (number_of old) later heard.moves

  module _ (over : is_over h.mid ≡ true) where
    follows : Follows h.mid new
    follows = h.settles.over over

    moves_is : heard.moves ≡ settles (ending_of h.mid) ∷ []
    moves_is = moves_over old L e legs n (Exited k) rest fits new h over

    ended : has_ended (site_of old) (number_of old) later ≡ true
    ended = (subst (λ (ms : List Move). AreInStep (site_of old) (number_of old) later ms) moves_is heard.in_step).0.over

    begun : then_e ≡ following (site_of old) (number_of old) later
    begun = ap (λ (ms : List Move). moved (site_of old) (number_of old) later ms) moves_is

    one_over : is_filled heard.standing.over ≡ true
    one_over =
        let gone : ended_after (site_of new) (number_of new) (current (site_of new) (number_of new) L) (In (Exited k) ∷ []) ≡ heard.standing.over ++ ended_by then_e (has_ended (site_of new) (number_of new) then_e) =
        heard.standing.children.gone in
        let unended : has_ended (site_of new) (number_of new) then_e ≡ false = new_unended (site_of new) (number_of new) then_e (ap (λ (d : Exchange). d.items) begun) in
        let now : ended_after (site_of new) (number_of new) (current (site_of new) (number_of new) L) (In (Exited k) ∷ []) ≡ later ∷ [] =
        ap (λ (t : Site). ended_after t (number_of new) (current t (number_of new) L) (In (Exited k) ∷ [])) heard.site
        ∙ (ap (λ (c : ℕ). ended_after (site_of old) c (current (site_of old) c L) (In (Exited k) ∷ [])) heard.number
        ∙ (ap (λ (d : Exchange). ended_after (site_of old) (number_of old) d (In (Exited k) ∷ [])) (sym rest.now)
        ∙ ap (λ (b : Bool). ended_by later b ++ []) ended)) in
        sym (ap is_filled (append-nil heard.standing.over))
        ∙ (sym (ap (λ (b : Bool). is_filled (heard.standing.over ++ ended_by then_e b)) unended)
        ∙ (sym (ap is_filled gone) ∙ ap is_filled now))

    left_over : Resting then_e new ⊎ IsLeft then_e new heard.standing.over
    left_over =
        inr (record {
          unfed = λ v some. absurd (let bad : None ≡ Some v = sym follows.run ∙ some in cc);
          let_on = λ away. absurd (false≢true (sym away ∙ ap is_reading follows.stage));
          at = subst (λ (s : Stage). LeftAt new heard.standing.over s) (sym follows.stage) one_over;
        })

  -- Behind the exit of a child.
  pub exit_known : new.lost ≡ false → Resting (moved (site_of old) (number_of old) later (events_stand old new L e legs n (Exited k) rest fits h).moves) new
      ⊎ IsLeft (moved (site_of old) (number_of old) later (events_stand old new L e legs n (Exited k) rest fits h).moves) new (events_stand old new L e legs n (Exited k) rest fits h).standing.over
  exit_known f = go (is_over h.mid) refl
    where
      go : (b : Bool) → is_over h.mid ≡ b → Resting then_e new ⊎ IsLeft then_e new heard.standing.over
      go true over = left_over over
      go false on =
          let same : new ≡ first = h.settles.on on ∙ leads in
          let found : old.lost ≡ false = found_before old L e legs n (Exited k) rest fits new h (ap (λ (c : HttpConn). c.lost) (sym (h.settles.on on)) ∙ f) in
          subst (λ (c : HttpConn). Resting then_e c ⊎ IsLeft then_e c heard.standing.over) (sym same)
          (subst (λ (ms : List Move). Resting (moved (site_of old) (number_of old) later ms) first ⊎ IsLeft (moved (site_of old) (number_of old) later ms) first heard.standing.over)
          (sym (moves_on old L e legs n (Exited k) rest fits new h on)) (goes_on found))
