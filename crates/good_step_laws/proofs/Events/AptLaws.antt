-- Behind an event an answer may be made ready, or waits.
use Rattle.std.proofs.Common.{◌≡◌, ℕ, Bool, true, false, ◌&&◌, ◌||◌, not, List, [], Option, Some, None, is_some, ◌⊎◌, inl, inr, if◌then◌else◌, refl, sym, ap, ◌∙◌, subst}
use Rattle.std.proofs.lemmas.Bool.{and_from, and_parts, eqb-true, false≢true, false_from_ne_true, not-true, or_from, or_parts, true_from_ne_false}
use Rattle.host_base.specs.declared.cause.Cause.{Cause}
use Rattle.host_trace.specs.declared.items.Event.{Event}
use Rattle.host_trace.specs.declared.items.Event.TheVariants.{ClientBytes}
use Rattle.host_trace.specs.declared.items.Item.{Item}
use Rattle.host_trace.specs.declared.items.Item.TheVariants.{In}
use Rattle.host_trace.specs.Fits.{is_asked, is_piece}
use Rattle.host_trace.specs.Kinds.{bytes_heard, is_client_bytes, is_client_eof, is_client_gone, is_stop, is_tick, is_ws_bad}
use Rattle.host_trace.specs.Projections.{client_wanted, shut, upgraded}
use Rattle.own_traces.specs.OwnFits.{fits_own}
use Rattle.child_core.specs.declared.ending.Outcome.{Outcome}
use Rattle.child_core.specs.declared.ending.Outcome.TheVariants as Ended
use Rattle.child_core.specs.View.{View}
use Rattle.request_reader.specs.Request.{is_begun, Reading}
use Rattle.trace_model.specs.Exchange.{Exchange, pushed, request_bytes}
use Rattle.trace_model.specs.Legs.{Leg as Started}
use Rattle.trace_model.specs.Readings.{is_due}
use Rattle.exchange_stage.specs.declared.stage.Leg.{Leg}
use Rattle.exchange_stage.specs.declared.stage.Stage.{Stage}
use Rattle.exchange_stage.specs.declared.stage.Stage.TheVariants as At
use Rattle.exchange_laws.specs.Unanswered.{is_awaited, is_open}
use Rattle.exchange_laws.proofs.ReasonParts.{no_more}
use Rattle.conn_flags.specs.View.{is_live}
use Rattle.child_laws.specs.Heard.{last_hop, run_heard}
use Rattle.child_laws.proofs.NoteLaws.{reading_same}
use Rattle.http_conn.specs.HttpConn.{HttpConn}
use Rattle.http_conn.specs.Hears.{Hears}
use Rattle.http_conn.specs.Kept.{is_reading, flags_of, number_of, site_of}
use Rattle.http_conn.specs.Ready.{outcome_of_run}
use Rattle.http_conn.specs.Reasons.{is_done_with}
use Rattle.http_stage_laws.specs.HeardStages.{AtRest}
use Rattle.http_stage_laws.specs.Inward.{Inward, IsDecided, is_running}
use Rattle.http_stage_laws.proofs.HeardBreaks.{begun_is}
use Rattle.http_stage_laws.proofs.HeardEnd.{running_leg}
use Rattle.http_stage_laws.proofs.HeardRest.{asked_live, no_run}
use Rattle.http_step_laws.specs.Standing.{AptAt, AptFound, ends_at, goes_by, must_go}
use Rattle.http_step_laws.proofs.EndWords.{Going, accepted_of, goes, unshut_of}
use Rattle.good_step_laws.proofs.Events.ShortWords.{short_then}
use Rattle.good_step_laws.proofs.Events.BehindWords.{found_before, gone_is, keeps, more_accepted, own, shut_same, stopped_is, well}
use Rattle.good_step_laws.proofs.Events.ClientLaws.{bytes_asked}
use Rattle.good_step_laws.proofs.Events.InwardLaws.{inward_then}
use Rattle.good_step_laws.proofs.Events.OutlineWords.{is_calm, running_at, running_away, same_calm, same_running}
use Rattle.good_step_laws.proofs.Events.HeedLaws.{ends_stays}
use Rattle.good_step_laws.proofs.Events.OwnLaws.{Broken, IdledBy, StageBy, broken, calm, idles, kept, lacked}
use Rattle.good_step_laws.proofs.Events.RestWords.{calm_now, going_now, not_output, rested}
use Rattle.good_step_laws.proofs.Events.RunWords.{decided_stays, ends, ends_stop}

-- ---- bytes of the client

pub no_bytes : (c : ℕ) (x : Event) → is_client_bytes c (In x) ≡ false → bytes_heard c (In x) ≡ []
no_bytes c (ClientBytes d bytes) other = ap (λ (b : Bool). if b then bytes else []) other
no_bytes c x other = refl

record OnlyBytes (c : ℕ) (x : Event) : Type 0 where
  ends_none : ends c x ≡ false
  untimed : is_tick (In x) ≡ false

only_bytes : (c : ℕ) (x : Event) → is_client_bytes c (In x) ≡ true → OnlyBytes c x
only_bytes c (ClientBytes d bytes) is = record { ends_none = refl; untimed = refl }
only_bytes c x is = absurd (false≢true is)

module _ (old : HttpConn) (L : List Item) (e : Exchange) (legs : List Started) (next : ℕ) (ev : Event) (rest : AtRest old L e legs next)
    (fits : fits_own (site_of old).limits.children L ev ≡ true) (new : HttpConn) (h : Hears old ev new) (f : h.mid.lost ≡ false) where
  abbrev later : Exchange
  later = pushed e (In ev)

  found : old.lost ≡ false
  found = found_before old L e legs next ev rest fits new h f

  inward : Inward h.mid
  inward = inward_then old L e legs next ev rest fits new h

  -- nothing ended the connection before, and the event doesn't
  going_on : is_live (flags_of old) ≡ true → ends (number_of old) ev ≡ false → h.mid.idled ≡ false → is_done_with h.mid (request_bytes (number_of h.mid) later) ≡ false → ends_at h.mid later ≡ false
  going_on live on awake undone =
      let done : Bool = is_done_with old (request_bytes (number_of old) e) in
      let g : Going old done = going_now old L e legs next rest found live in
      let parts = or_parts (is_stop (In ev)) (is_client_gone (number_of old) (In ev) || is_ws_bad (number_of old) (In ev)) on in
      goes h.mid (is_done_with h.mid (request_bytes (number_of h.mid) later)) (record {
        may = and_from (is_live (flags_of h.mid)) (not (flags_of h.mid).upgraded)
            (and_from (flags_of h.mid).accepted (not (flags_of h.mid).shut) (more_accepted old L e legs next ev rest fits new h (accepted_of old done g))
            (ap not (shut_same old L e legs next ev rest fits new h ∙ unshut_of old done g)))
            (ap not inward.http);
        unstopped = stopped_is old L e legs next ev rest fits new h ∙ or_from (is_stop (In ev)) (flags_of old).stopped parts.0 g.unstopped;
        here = gone_is old L e legs next ev rest fits new h ∙ or_from (is_client_gone (number_of old) (In ev) || is_ws_bad (number_of old) (In ev)) (flags_of old).gone parts.1 g.here;
        found = f;
        calm = awake;
        open_yet = (keeps old L e legs next ev rest fits new h).same.closing ∙ g.open_yet;
        unclosed = (keeps old L e legs next ev rest fits new h).same.closes ∙ g.unclosed;
        uncut = (keeps old L e legs next ev rest fits new h).same.cut ∙ g.uncut;
        undone = undone;
      })

  -- ---- its stage is as calm as before, or its request was broken

  calm_or_broken : (is_calm h.mid.stage ≡ true) ⊎ Broken old h.mid
  calm_or_broken = go (own old L e legs next ev rest fits new h).stage
    where
      go : StageBy old h.mid → (is_calm h.mid.stage ≡ true) ⊎ Broken old h.mid
      go (kept alike) = inl (same_calm old.stage h.mid.stage alike ∙ calm_now old L e legs next rest found)
      go (broken b) = inr b
      go (lacked lost alike) = absurd (false≢true (sym f ∙ lost))

  restless : (s : Stage) → h.mid.stage ≡ s → is_calm s ≡ false → Broken old h.mid
  restless s at other = go calm_or_broken
    where
      go : (is_calm h.mid.stage ≡ true) ⊎ Broken old h.mid → Broken old h.mid
      go (inl is) = absurd (false≢true (sym other ∙ (ap is_calm (sym at) ∙ is)))
      go (inr b) = b

  broken_live : Broken old h.mid → is_live (flags_of old) ≡ true
  broken_live b =
      let begun : true ≡ is_begun (request_bytes (number_of old) e) = begun_is old L e legs next rest found (rested old L e legs next rest found) b.unshut true b.tells in
      and_from (flags_of old).accepted (not (flags_of old).shut)
      (true_from_ne_false (flags_of old).accepted (λ none. false≢true (sym (ap is_begun (rest.unheard none).0) ∙ sym begun)))
      (ap not b.unshut)

  broken_goes : Broken old h.mid → ends_at h.mid later ≡ false
  broken_goes b =
      let g = going_now old L e legs next rest found (broken_live b) in
      going_on (broken_live b)
      (false_from_ne_true (ends (number_of old) ev) (λ is.
      let was : old.stage ≡ At.Interrupted b.cause = sym (ends_stays (number_of old) old new ev h is) ∙ b.at in
      false≢true (sym (ap is_calm was) ∙ calm_now old L e legs next rest found)))
      (b.calm ∙ g.calm)
      (ap (λ (s : Stage). (flags_of h.mid).ended && is_reading s && not (is_begun (request_bytes (number_of h.mid) later))) b.at
      ∙ no_more (flags_of h.mid).ended (not (is_begun (request_bytes (number_of h.mid) later))))

  -- ---- its script runs

  module _ (leg : Leg) (at : h.mid.stage ≡ At.Running leg) where
    ran : is_running old.stage ≡ true
    ran = go (own old L e legs next ev rest fits new h).stage
      where
        go : StageBy old h.mid → is_running old.stage ≡ true
        go (kept alike) = sym (same_running old.stage h.mid.stage alike) ∙ ap is_running at
        go (broken b) = let never : At.Running leg ≡ At.Interrupted b.cause = sym at ∙ b.at in absurd (cc)
        go (lacked lost alike) = absurd (false≢true (sym f ∙ lost))

    -- nothing has decided its run
    undecided_goes : (v : View) → old.run ≡ Some v → v.outcome ≡ None → goes_by (outcome_of_run h.mid.run) ≡ true → ends_at h.mid later ≡ false
    undecided_goes v is none on =
        going_on
        (and_from (flags_of old).accepted (not (flags_of old).shut) (rest.inward.accepted (running_away old.stage ran))
        (ap not (false_from_ne_true (flags_of old).shut (λ shut_now.
        false≢true (sym (ap (λ (o : Option Outcome). is_some o) none) ∙ subst (λ (r : Option View). IsDecided r) is (rest.inward.held shut_now))))))
        (false_from_ne_true (ends (number_of old) ev) (λ ended.
        false≢true (sym (ends_stop (site_of old) (number_of old) e (last_hop legs) true v none ev ended)
        ∙ (sym (ap (λ (r : Option View). goes_by (outcome_of_run r)) ((well old L e legs next ev rest fits new h f).run ∙ ap (λ (r : Option View). run_heard (site_of old) (number_of old) e legs true ev r) is)) ∙ on))))
        (false_from_ne_true h.mid.idled (λ idle. false≢true (sym (inward.calm_found f idle) ∙ ap is_running at)))
        (ap (λ (s : Stage). (flags_of h.mid).ended && is_reading s && not (is_begun (request_bytes (number_of h.mid) later))) at
        ∙ no_more (flags_of h.mid).ended (not (is_begun (request_bytes (number_of h.mid) later))))

    only_output : (o : Outcome) → goes_by (Some o) ≡ true → o ≡ Ended.Output
    only_output Ended.Output on = refl
    only_output o on = absurd (false≢true on)

    running_goes : goes_by (outcome_of_run h.mid.run) ≡ true → ends_at h.mid later ≡ false
    running_goes on = by_run old.run refl
      where
        by_run : (run : Option View) → old.run ≡ run → ends_at h.mid later ≡ false
        by_run None none =
            absurd (running_leg old L e legs next rest found (rested old L e legs next rest found) (running_at old.stage ran).0 (running_at old.stage ran).1 (no_run old L e legs next rest none))
        by_run (Some v) is = by_outcome v.outcome refl
          where
            by_outcome : (o : Option Outcome) → v.outcome ≡ o → ends_at h.mid later ≡ false
            by_outcome None none = undecided_goes v is none on
            by_outcome (Some o) decided =
                let stays : outcome_of_run h.mid.run ≡ Some o =
                ap outcome_of_run ((well old L e legs next ev rest fits new h f).run ∙ ap (λ (r : Option View). run_heard (site_of old) (number_of old) e legs true ev r) is)
                ∙ decided_stays (site_of old) (number_of old) e (last_hop legs) true v o decided ev in
                absurd (not_output old L e legs next rest found ran v is (decided ∙ ap (λ (p : Outcome). Some p) (only_output o (sym (ap goes_by stays) ∙ on))))

  -- ---- an answer is due only where nothing ends the connection

  goes_then : must_go h.mid.stage (outcome_of_run h.mid.run) ≡ true → ends_at h.mid later ≡ false
  goes_then must = go h.mid.stage refl must
    where
      go : (s : Stage) → h.mid.stage ≡ s → must_go s (outcome_of_run h.mid.run) ≡ true → ends_at h.mid later ≡ false
      go (At.Running leg) at on = running_goes leg at on
      go (At.Interrupted cause) at on = broken_goes (restless (At.Interrupted cause) at refl)
      go (At.Rejected cause bare) at on = broken_goes (restless (At.Rejected cause bare) at refl)
      go s at on = absurd (false≢true on)

  -- .. and so is 100 Continue

  bytes_live : (x : Event) → fits_own (site_of old).limits.children L x ≡ true → is_client_bytes (number_of old) (In x) ≡ true → is_live (flags_of old) ≡ true
  bytes_live (ClientBytes d bytes) fit mine =
      let asks : is_asked L (number_of old) ≡ true = subst (λ (k : ℕ). is_asked L k ≡ true) (sym (eqb-true (number_of old) d mine)) (and_parts (is_asked L d) (is_piece bytes) fit).0 in
      let parts = and_parts (not (shut L (number_of old)) && not (upgraded L (number_of old))) (client_wanted L (number_of old)) asks in
      asked_live old L e legs next rest parts.1 (not-true (shut L (number_of old)) (and_parts (not (shut L (number_of old))) (not (upgraded L (number_of old))) parts.0).0)
  bytes_live x fit mine = absurd (false≢true mine)

  bytes_go : is_client_bytes (number_of old) (In ev) ≡ true → ends_at h.mid later ≡ false
  bytes_go mine =
      let live = bytes_live ev fits mine in
      let g = going_now old L e legs next rest found live in
      let only = only_bytes (number_of old) ev mine in
      let was = bytes_asked old L e legs next ev rest fits new h ev fits mine in
      let unended : (flags_of h.mid).ended ≡ false =
      ap (λ m. m.ended) (keeps old L e legs next ev rest fits new h).flags ∙ or_from (is_client_eof (number_of old) (In ev)) (flags_of old).ended was.1 (rest.inward.asked was.0).1 in
      going_on live only.ends_none (by_idled only.untimed g.calm (own old L e legs next ev rest fits new h).idled)
      (ap (λ (b : Bool). b && is_reading h.mid.stage && not (is_begun (request_bytes (number_of h.mid) later))) unended)
    where
      by_idled : is_tick (In ev) ≡ false → old.idled ≡ false → IdledBy ev old h.mid → h.mid.idled ≡ false
      by_idled untimed awake (calm alike) = alike ∙ awake
      by_idled untimed awake (idles i) = absurd (false≢true (sym untimed ∙ i.tick))

  let_on_then : h.mid.continued ≡ false → is_awaited (site_of h.mid) (number_of h.mid) later ≡ true → ends_at h.mid later ≡ false
  let_on_then first awaited = go (is_client_bytes (number_of old) (In ev)) refl
    where
      go : (b : Bool) → is_client_bytes (number_of old) (In ev) ≡ b → ends_at h.mid later ≡ false
      go true mine = bytes_go mine
      go false other =
          let s = (keeps old L e legs next ev rest fits new h).same in
          let none : is_awaited (site_of old) (number_of old) e ≡ false = (rested old L e legs next rest found).let_on (sym s.continued ∙ first) in
          let same_read : is_awaited (site_of old) (number_of old) later ≡ is_awaited (site_of old) (number_of old) e =
          ap (λ (r : Reading). is_open (number_of old) e && is_due r) (reading_same (site_of old) (number_of old) e (In ev) (no_bytes (number_of old) ev other)) in
          let same_conn : is_awaited (site_of h.mid) (number_of h.mid) later ≡ is_awaited (site_of old) (number_of old) later =
          ap (λ t. is_awaited t (number_of h.mid) later) s.site ∙ ap (λ (d : ℕ). is_awaited (site_of old) d later) s.number in
          absurd (false≢true (sym none ∙ (sym same_read ∙ (sym same_conn ∙ awaited))))

  -- ---- by its stage

  at_then : AptAt h.mid later h.mid.stage
  at_then = go h.mid.stage refl
    where
      never : {A : Type 0} (s : Stage) → h.mid.stage ≡ s → is_calm s ≡ false → ((cause : Cause) → s ≡ At.Interrupted cause → A) → A
      never s at other not = let b = restless s at other in not b.cause (sym at ∙ b.at)

      go : (s : Stage) → h.mid.stage ≡ s → AptAt h.mid later s
      go (At.Starting leg launch body whole) at = never (At.Starting leg launch body whole) at refl (λ cause is. absurd (cc))
      go (At.Finishing text closes) at = never (At.Finishing text closes) at refl (λ cause is. absurd (cc))
      go (At.Interrupted cause) at = (well old L e legs next ev rest fits new h f).bare cause at
      go (At.Running leg) at =
          ((well old L e legs next ev rest fits new h f).written leg at, (λ none ticked. (well old L e legs next ev rest fits new h f).apart leg at ticked), short_then old L e legs next ev rest fits new h f)
      go s at = tt

  pub apt_found : AptFound later h.mid
  apt_found = record { at = at_then; goes = goes_then; let_on = λ waits. let_on_then }
