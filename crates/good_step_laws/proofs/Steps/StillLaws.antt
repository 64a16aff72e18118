-- Behind an event that brings nothing, something ends the connection or nothing is due.
use Rattle.std.proofs.Common.{◌≡◌, ℕ, ◌==◌, Bool, true, false, ◌&&◌, ◌||◌, not, List, [], ◌++◌, Option, Some, None, inl, inr, refl, sym, ap, ◌∙◌, subst}
use Rattle.std.proofs.lemmas.Bool.{and_from, and_parts, false≢true, not-true, or_from, or_parts, true_from_ne_false}
use Rattle.host_trace.specs.declared.items.Event.{Event}
use Rattle.host_trace.specs.declared.items.Event.TheVariants.{Accepted, ClientBytes, InputGone}
use Rattle.host_trace.specs.declared.items.Item.{Item}
use Rattle.host_trace.specs.declared.items.Item.TheVariants.{In}
use Rattle.host_trace.specs.Kinds.{bytes_heard, is_accepted, is_client_bytes, is_client_gone, is_stop, is_ws_bad}
use Rattle.host_trace.specs.Projections.{stopped}
use Rattle.own_traces.specs.OwnFits.{fits_own, was_accepted}
use Rattle.child_core.specs.Calls.{may_come}
use Rattle.child_core.specs.Due.{is_feed_due}
use Rattle.child_core.specs.View.{View}
use Rattle.child_core.proofs.EndLaws.{rests_of}
use Rattle.trace_model.specs.Exchange.{Exchange, request_bytes}
use Rattle.trace_model.specs.Legs.{Leg as Started}
use Rattle.exchange_request.specs.Knows.{is_looked_at}
use Rattle.exchange_stage.specs.declared.stage.Stage.{Stage}
use Rattle.exchange_stage.specs.declared.stage.Stage.TheVariants as At
use Rattle.exchange_laws.specs.Unanswered.{is_awaited}
use Rattle.exchange_laws.proofs.UnansweredLaws.{awaited-quiet}
use Rattle.conn_flags.specs.View.{View as Flags, has_room}
use Rattle.child_laws.specs.Heard.{last_hop, run_heard}
use Rattle.child_laws.specs.Setting.{setting}
use Rattle.child_laws.proofs.ItemLaws.{fits_it}
use Rattle.http_conn.specs.HttpConn.{HttpConn}
use Rattle.http_conn.specs.Hears.{Hears}
use Rattle.http_conn.specs.Kept.{is_reading, flags_of, number_of, site_of}
use Rattle.http_conn.specs.Ready.{outcome_of_run, undrained}
use Rattle.http_conn.specs.Reasons.{is_done_with}
use Rattle.http_conn.specs.Settles.{is_answered, is_over}
use Rattle.http_conn.specs.Slot.{run_settled}
use Rattle.http_stage_laws.specs.HeardStages.{AtRest}
use Rattle.http_stage_laws.specs.Inward.{IsDecided, is_running}
use Rattle.http_stage_laws.proofs.HeardRest.{known_at, same_list}
use Rattle.http_step_laws.specs.Standing.{ends_at}
use Rattle.http_step_laws.proofs.EndWords.{Going, accepted_of, going, unshut_of}
use Rattle.http_step_laws.proofs.PushWords.{bytes_quiet}
use Rattle.http_step_laws.proofs.ReadLaws.{is_at_reading}
use Rattle.good_step_laws.proofs.Events.AptLaws.{no_bytes}
use Rattle.good_step_laws.proofs.Events.BehindWords.{found_before, gone_is, keeps, no_binary, own, shut_same, stopped_is, well}
use Rattle.good_step_laws.proofs.Events.HeedLaws.{told, told_keeps}
use Rattle.good_step_laws.proofs.Events.OutlineWords.{answered_still}
use Rattle.good_step_laws.proofs.Events.RestWords.{input}
use Rattle.good_step_laws.proofs.Events.RunWords.{ends, settled_alike}
use Rattle.good_step_laws.specs.Shuts.Memory.{Calm, CalmAt, CalmRun, NoTurn, Resting, Unfed}
use Rattle.good_step_laws.proofs.Steps.FollowWords.{known_on, later, not_over, then_e}
use Rattle.good_step_laws.proofs.Steps.MemoryWords.{calm_before, calm_run, run_quiet, unfed_before}
use Rattle.good_step_laws.proofs.Steps.StillWords.{gone_at, gone_input, gone_of, gone_settled, gone_unfed, input_gone, is_gone, is_still, room_same, run_same, stage_same, unfed_heard}

still_bytes : (c : ℕ) (ev : Event) → is_still ev ≡ true → is_client_bytes c (In ev) ≡ false
still_bytes c (ClientBytes d bytes) still = absurd (false≢true still)
still_bytes c ev still = refl

-- a connection is accepted once
fresh : (limit : ℕ) (L : List Item) (ev : Event) → fits_own limit L ev ≡ true → is_accepted (In ev) ≡ true → was_accepted L ≡ false
fresh limit L (Accepted peer) fit is = not-true (was_accepted L) (and_parts (not (stopped L)) (not (was_accepted L)) fit).1
fresh limit L ev fit is = absurd (false≢true is)

some_same : {v w : View} → Some v ≡ Some w → v ≡ w
some_same e = cc

-- what is left of a run, whose script runs or not: nothing is due that takes memory or settles it
record Alike (running : Bool) (run then_run : Option View) : Type 0 where
  calm : (may : Bool) → CalmRun running may then_run
  settled : running ≡ false → run_settled then_run ≡ run_settled run
  outcome : outcome_of_run then_run ≡ outcome_of_run run
  output : undrained then_run ≡ undrained run

module _ (old new : HttpConn) (L : List Item) (e : Exchange) (legs : List Started) (n : ℕ) (ev : Event) (rest : AtRest old L e legs n) (fits : fits_own (site_of old).limits.children L ev ≡ true)
    (h : Hears old ev new) (still : is_still ev ≡ true) (f : h.mid.lost ≡ false) where
  abbrev pushed_e : Exchange
  pushed_e = later old new L e legs n ev rest fits h

  found : old.lost ≡ false
  found = found_before old L e legs n ev rest fits new h f

  at : h.mid.stage ≡ old.stage
  at = stage_same ev (told old ev h.found) h.mid still h.own ∙ (told_keeps old ev h.found).stage

  request_is : h.mid.request ≡ old.request
  request_is = (own old L e legs n ev rest fits new h).request (still_bytes (number_of old) ev still)

  quiet : bytes_heard (number_of old) (In ev) ≡ []
  quiet = no_bytes (number_of old) ev (still_bytes (number_of old) ev still)

  run_is : h.mid.run ≡ run_heard (site_of old) (number_of old) e legs true ev old.run
  run_is = (well old L e legs n ev rest fits new h f).run

  room_is : has_room (flags_of h.mid) ≡ has_room (flags_of old)
  room_is = ap has_room (keeps old L e legs n ev rest fits new h).flags ∙ room_same (flags_of old) ev still

  unfed_then : Unfed h.mid.run
  unfed_then v is = go old.run refl (sym run_is ∙ is)
    where
      go : (run : Option View) → old.run ≡ run → run_heard (site_of old) (number_of old) e legs true ev run ≡ Some v → is_feed_due v ≡ false
      go None none eq = absurd (let never : None ≡ Some v = eq in cc)
      go (Some u) some eq =
          subst (λ (x : View). is_feed_due x ≡ false) (some_same eq)
          (unfed_heard (site_of old) (number_of old) e (last_hop legs) ev still u (unfed_before old L e legs n rest u some))

  -- ---- its run

  alike_same : h.mid.run ≡ old.run → Alike (is_running old.stage) old.run h.mid.run
  alike_same same =
      subst (λ (r : Option View). Alike (is_running old.stage) old.run r) (sym same)
      (record { calm = λ may. run_quiet old L e legs n rest (is_running old.stage) may; settled = λ other. refl; outcome = refl; output = refl })

  -- the input of its child is gone
  module _ (k : ℕ) (is : ev ≡ InputGone k) where
    started : (v : View) → old.run ≡ Some v → (v.number == k) ≡ true → v.started ≡ true
    started v some mine =
        let runs = (known_at old L e legs n rest (Some v) some).runs in
        let fit : fits_own (site_of old).limits.children (e.before ++ e.items) (InputGone k) ≡ true =
        ap (λ (l : List Item). fits_own (site_of old).limits.children l (InputGone k)) (same_list old L e legs n rest) ∙ (ap (λ (x : Event). fits_own (site_of old).limits.children L x) (sym is) ∙ fits) in
        let all = fits_it false (setting (site_of old) (number_of old) e runs.leg.hop) runs.view e.before e.items (InputGone k) runs.known.unnamed runs.known.knows fit in
        let named : (runs.view.number == k) ≡ true = ap (λ (w : View). w.number == k) (sym runs.held_as) ∙ mine in
        let comes : may_come runs.view (InputGone k) ≡ true = sym (ap (λ (b : Bool). not b || may_come runs.view (InputGone k)) named) ∙ all in
        ap (λ (w : View). w.started) runs.held_as ∙ (and_parts runs.view.started (not runs.view.input_ended) comes).0

    gone_alike : (run : Option View) → old.run ≡ run → Alike (is_running old.stage) old.run h.mid.run
    gone_alike None none = alike_same (run_is ∙ (ap (λ (r : Option View). run_heard (site_of old) (number_of old) e legs true ev r) none ∙ sym none))
    gone_alike (Some v) some =
        let then_is : h.mid.run ≡ Some (gone_at k v) =
        run_is ∙ (ap (λ (r : Option View). run_heard (site_of old) (number_of old) e legs true ev r) some
        ∙ (ap (λ (x : Event). run_heard (site_of old) (number_of old) e legs true x (Some v)) is ∙ ap (λ (w : View). Some w) (input_gone v k))) in
        let none = rests_of (has_room (flags_of old)) v (rest.even v some) in
        subst (λ (r : Option View). Alike (is_running old.stage) r h.mid.run) (sym some)
        (subst (λ (r : Option View). Alike (is_running old.stage) (Some v) r) (sym then_is)
        (record {
          calm = λ may. calm_run (is_running old.stage) may (gone_at k v) (gone_unfed k v none.feed) (λ other exited. (gone_input k v none.input, none.release));
          settled = λ other. gone_settled k v (λ mine exited.
              input v (has_room (flags_of old)) (rest.even v some) (subst (λ (r : Option View). IsDecided r) some (rest.inward.decided found other)) (started v some mine) exited);
          outcome = refl;
          output = refl;
        }))

  alike : ends (number_of old) ev ≡ false → Alike (is_running old.stage) old.run h.mid.run
  alike on = go (is_gone ev) refl
    where
      same : is_gone ev ≡ false → (run : Option View) → run_heard (site_of old) (number_of old) e legs true ev run ≡ run
      same other None = refl
      same other (Some v) =
          ap (λ (w : View). Some w) (run_same (site_of old) (number_of old) e (last_hop legs) ev still on (no_binary old L e legs n ev rest fits new h ev fits) other v)

      go : (b : Bool) → is_gone ev ≡ b → Alike (is_running old.stage) old.run h.mid.run
      go true gone = let k = gone_of ev gone in gone_alike k.0 k.1 old.run refl
      go false other = alike_same (run_is ∙ same other old.run)

  -- its exchange goes on
  unover : is_over h.mid ≡ false
  unover = not_over old new L e legs n ev rest fits h (λ answered. go answered (ends (number_of old) ev) refl)
    where
      go : is_answered old.stage ≡ true → (b : Bool) → ends (number_of old) ev ≡ b → run_settled h.mid.run ≡ run_settled old.run
      go answered true is = ap run_settled run_is ∙ settled_alike (site_of old) (number_of old) e legs true ev old.run is
      go answered false on = (alike on).settled (answered_still old.stage answered)

  -- ---- nothing ends it

  module _ (on : ends_at h.mid pushed_e ≡ false) where
    abbrev done : Bool
    done = is_done_with h.mid (request_bytes (number_of h.mid) pushed_e)

    g : Going h.mid done
    g = going h.mid done on

    goes_on : ends (number_of old) ev ≡ false
    goes_on =
        or_from (is_stop (In ev)) (is_client_gone (number_of old) (In ev) || is_ws_bad (number_of old) (In ev))
        (or_parts (is_stop (In ev)) (flags_of old).stopped (sym (stopped_is old L e legs n ev rest fits new h) ∙ g.unstopped)).0
        (or_parts (is_client_gone (number_of old) (In ev) || is_ws_bad (number_of old) (In ev)) (flags_of old).gone (sym (gone_is old L e legs n ev rest fits new h) ∙ g.here)).0

    a : Alike (is_running old.stage) old.run h.mid.run
    a = alike goes_on

    -- it was live, or is accepted
    was : Calm e old
    was = go (is_accepted (In ev)) refl
      where
        go : (b : Bool) → is_accepted (In ev) ≡ b → Calm e old
        go false other =
            let accepted : (flags_of old).accepted ≡ true =
            sym (ap (λ (m : Flags). m.accepted) (keeps old L e legs n ev rest fits new h).flags ∙ ap (λ (b : Bool). b || (flags_of old).accepted) other) ∙ accepted_of h.mid done g in
            calm_before old L e legs n rest found
            (and_from (flags_of old).accepted (not (flags_of old).shut) accepted (ap not (sym (shut_same old L e legs n ev rest fits new h) ∙ unshut_of h.mid done g)))
        go true is =
            let none : (flags_of old).accepted ≡ false = rest.flags.accepted ∙ fresh (site_of old).limits.children L ev fits is in
            let reads : is_reading old.stage ≡ true = true_from_ne_false (is_reading old.stage) (λ away. false≢true (sym none ∙ rest.inward.accepted away)) in
            record {
              run = run_quiet old L e legs n rest (is_running old.stage) (has_room (flags_of old));
              let_on = (rest.found found).let_on;
              at = subst (λ (t : Stage). CalmAt old e t) (sym (is_at_reading old.stage reads)) (inr (rest.unheard none).0);
            }

    no_turn : is_running old.stage ≡ false → NoTurn old → NoTurn h.mid
    no_turn other none =
        ap (λ (b : Bool). b && has_room (flags_of h.mid)) (a.settled other) ∙ (ap (λ (b : Bool). run_settled old.run && b) room_is ∙ none)

    calm_at : (t : Stage) → old.stage ≡ t → CalmAt old e t → CalmAt h.mid pushed_e t
    calm_at At.Reading is (inl looked) = inl (ap is_looked_at request_is ∙ looked)
    calm_at At.Reading is (inr none) =
        inr (ap (λ (c : ℕ). request_bytes c pushed_e) (keeps old L e legs n ev rest fits new h).same.number ∙ (bytes_quiet (number_of old) e (In ev) quiet ∙ none))
    calm_at (At.Refused cause) is none = no_turn (ap is_running is) none
    calm_at (At.Unstarted hop request) is none = no_turn (ap is_running is) none
    calm_at (At.Running leg) is q = (a.outcome ∙ q.0, a.output ∙ q.1, q.2)
    calm_at At.Answered is q = tt
    calm_at At.Silent is q = tt
    calm_at (At.Rejected cause bare) is q = absurd q
    calm_at (At.Interrupted cause) is q = absurd q
    calm_at (At.Starting leg launch body whole) is q = absurd q
    calm_at (At.Finishing text closes) is q = absurd q

    calm_then : Calm pushed_e h.mid
    calm_then = record {
      run = subst (λ (t : Stage). CalmRun (is_running t) (has_room (flags_of h.mid)) h.mid.run) (sym at) (a.calm (has_room (flags_of h.mid)));
      let_on = λ first.
          let s = (keeps old L e legs n ev rest fits new h).same in
          ap (λ t. is_awaited t (number_of h.mid) pushed_e) s.site
          ∙ (ap (λ (c : ℕ). is_awaited (site_of old) c pushed_e) s.number ∙ (awaited-quiet (site_of old) (number_of old) e (In ev) quiet ∙ was.let_on (sym s.continued ∙ first)));
      at = subst (λ (t : Stage). CalmAt h.mid pushed_e t) (sym at) (calm_at old.stage refl was.at);
    }

  resting : Resting pushed_e h.mid
  resting = go (ends_at h.mid pushed_e) refl
    where
      go : (b : Bool) → ends_at h.mid pushed_e ≡ b → Resting pushed_e h.mid
      go true is = inl (is, unfed_then)
      go false on = inr (calm_then on)

  pub still_rests : Resting (then_e old new L e legs n ev rest fits h) new
  still_rests = known_on old new L e legs n ev rest fits h (λ (d : Exchange) (conn : HttpConn). Resting d conn) unover resting
