-- What is known of a connection behind a Tick: nothing is due, or a request was broken, its run failed, or a reply may be due.
use Rattle.std.proofs.Common.{◌≡◌, ◌⊎◌, ℕ, ◌==◌, ◌-◌, Bool, true, false, ◌&&◌, ◌||◌, not, List, [], Option, Some, None, is_some, refl, sym, ap, ◌∙◌, subst, inl, inr}
use Rattle.std.specs.Prelude.{nat_le}
use Rattle.std.proofs.lemmas.Bool.{and_parts, false≢true, not-true}
use Rattle.host_base.specs.declared.cause.Cause.{Cause}
use Rattle.host_base.specs.declared.cause.Cause.TheVariants as Causes
use Rattle.host_trace.specs.declared.items.Event.TheVariants.{Tick}
use Rattle.host_trace.specs.declared.items.Item.{Item}
use Rattle.host_trace.specs.declared.items.Item.TheVariants.{In}
use Rattle.host_trace.specs.Decider.{is_websocket}
use Rattle.own_traces.specs.OwnFits.{fits_own}
use Rattle.child_core.specs.Due.{is_feed_due}
use Rattle.child_core.specs.View.{View}
use Rattle.child_core.proofs.EndLaws.{rests_of}
use Rattle.trace_model.specs.Exchange.{Exchange, pushed, request_bytes}
use Rattle.trace_model.specs.Legs.{Leg as Started}
use Rattle.exchange_request.specs.Knows.{is_looked_at}
use Rattle.exchange_stage.specs.declared.stage.Leg.{Leg}
use Rattle.exchange_stage.specs.declared.stage.Stage.{Stage}
use Rattle.exchange_stage.specs.declared.stage.Stage.TheVariants as At
use Rattle.exchange_laws.specs.Unanswered.{is_awaited}
use Rattle.exchange_laws.proofs.UnansweredLaws.{awaited-quiet}
use Rattle.conn_flags.specs.View.{View as Flags, count_sent, has_room, is_live, less_by, more_by, noted}
use Rattle.conn_laws.specs.Moves.{Move, moved}
use Rattle.http_conn.specs.HttpConn.{HttpConn}
use Rattle.http_conn.specs.Hears.{BreaksBy, CountsDown, broken_if, Hears, HearsOwn, HearsTick, IdlesBy, TicksBy, heard_run, is_untouched, is_untouched_at, keeps_of, told_run}
use Rattle.http_conn.specs.Kept.{flags_of, number_of, site_of}
use Rattle.http_conn.specs.Moves.{ticked_stage}
use Rattle.http_conn.specs.Ready.{outcome_of_run, undrained}
use Rattle.http_conn.specs.Reasons.{is_done_with}
use Rattle.http_conn.specs.Settles.{is_answered, is_over}
use Rattle.http_conn.specs.Slot.{run_settled}
use Rattle.http_stage_laws.specs.HeardStages.{AtRest}
use Rattle.http_stage_laws.proofs.HeardEnd.{running_leg}
use Rattle.http_stage_laws.proofs.HeardRest.{no_run}
use Rattle.http_stage_laws.specs.Inward.{IsDecided, is_running}
use Rattle.http_step_laws.specs.Standing.{ends_at}
use Rattle.http_step_laws.proofs.PushWords.{bytes_quiet}
use Rattle.good_step_laws.proofs.Events.BehindWords.{found_before}
use Rattle.good_step_laws.proofs.Events.EventLaws.{events_stand, moves_on}
use Rattle.good_step_laws.proofs.Events.RestWords.{busy}
use Rattle.good_step_laws.specs.Shuts.Memory.{Calm, CalmAt, CalmRun, IsTicked, LetOn, NoTurn, Resting, RunTicked, TickedAt, Unfed}
use Rattle.good_step_laws.proofs.Steps.MemoryWords.{calm_before, calm_run, unfed_before}
use Rattle.good_step_laws.proofs.Steps.TickWords.{at_tick, some_is, tick_input, tick_release, tick_unfed}

-- ---- what it makes of the connection

-- the request is broken, for which nothing was done
pub record Breaks (old new : HttpConn) : Type 0 where
  pub cause : Cause
  pub at : new.stage ≡ At.Interrupted cause
  pub none : is_some old.run ≡ false

pub record Ticked (old new : HttpConn) : Type 0 where
  pub flags : new.flags ≡ old.flags
  pub site : site_of new ≡ site_of old
  pub request : new.request ≡ old.request
  pub continued : new.continued ≡ old.continued
  pub run : new.run ≡ old.run
  pub stage : (new.stage ≡ ticked_stage old.stage) ⊎ Breaks old new

module _ (old : HttpConn) where
  abbrev ticked : HttpConn
  ticked = record old { stage = ticked_stage old.stage }

  abbrev counted : HttpConn
  counted = record ticked { idle_left = old.idle_left - 1 }

  kept : (mid new : HttpConn) → Ticked old mid → new ≡ mid → Ticked old new
  kept mid new t is = subst (λ (c : HttpConn). Ticked old c) (sym is) t

  plain : Ticked old ticked
  plain = record { flags = refl; site = refl; request = refl; continued = refl; run = refl; stage = inl refl }

  counts : Ticked old counted
  counts = record { flags = refl; site = refl; request = refl; continued = refl; run = refl; stage = inl refl }

  broken : (b : Bool) → (is_untouched counted && not old.flags.shut) ≡ b → (new : HttpConn) → BreaksBy b Causes.IdleTime counted new → Ticked old new
  broken false none new is = kept counted new counts is
  broken true may new by = go by.begun by.is
    where
      bare : not (is_some old.run) ≡ true
      bare = (and_parts (is_untouched_at (ticked_stage old.stage)) (not (is_some old.run)) (and_parts (is_untouched counted) (not old.flags.shut) may).0).1

      go : (begun : Bool) → new ≡ broken_if begun Causes.IdleTime counted → Ticked old new
      go false is = kept counted new counts is
      go true is =
          kept (record counted { stage = At.Interrupted Causes.IdleTime }) new
          (record { flags = refl; site = refl; request = refl; continued = refl; run = refl; stage = inr (record { cause = Causes.IdleTime; at = refl; none = not-true (is_some old.run) bare }) }) is

  idles : (b : Bool) (new : HttpConn) → IdlesBy b counted new → Ticked old new
  idles true new i = broken (is_untouched counted && not old.flags.shut) refl new i
  idles false new is = kept (record counted { idled = old.idled || is_some old.peer }) new (record { flags = refl; site = refl; request = refl; continued = refl; run = refl; stage = inl refl }) is

  downs : (b : Bool) (new : HttpConn) → CountsDown b counted new → Ticked old new
  downs true new i = idles i.begun new i.by
  downs false new is = kept counted new counts is

  pub tick_leads : (new : HttpConn) → HearsTick old new → Ticked old new
  tick_leads new h = go (run_settled old.run) h
    where
      go : (b : Bool) → TicksBy b ticked new → Ticked old new
      go false is = kept ticked new plain is
      go true by = downs (old.idle_left == 1) new by

never_kept : (secs : ℕ) (run : Option View) → keeps_of run (Tick secs) ≡ false
never_kept secs None = refl
never_kept secs (Some v) = refl

settled_same : (secs : ℕ) (run : Option View) → run_settled (heard_run (Tick secs) true run) ≡ run_settled run
settled_same secs None = refl
settled_same secs (Some v) = refl

answered_same : (s : Stage) → is_answered (ticked_stage s) ≡ is_answered s
answered_same (At.Running leg) = refl
answered_same s = refl

-- ---- behind it

module _ (old : HttpConn) (L : List Item) (e : Exchange) (legs : List Started) (n : ℕ) (secs : ℕ) (rest : AtRest old L e legs n) (fits : fits_own (site_of old).limits.children L (Tick secs) ≡ true)
    (new : HttpConn) (h : Hears old (Tick secs) new) where
  abbrev x : Item
  x = In (Tick secs)

  abbrev first : HttpConn
  first = record old { flags = noted old.flags x; run = heard_run (Tick secs) true old.run }

  found_is : h.found ≡ true
  found_is = go h.found refl
    where
      go : (b : Bool) → h.found ≡ b → h.found ≡ true
      go true is = is
      go false is = absurd (false≢true (sym (never_kept secs old.run) ∙ h.memory is))

  leads : Ticked first h.mid
  leads = tick_leads first h.mid (subst (λ (b : Bool). HearsOwn (Tick secs) (told_run (Tick secs) b (record old { flags = noted old.flags x })) h.mid) found_is h.own)

  -- no exchange ends with it
  unover : is_over h.mid ≡ false
  unover = go leads.stage
    where
      by_answer : (b : Bool) → is_answered old.stage ≡ b → (is_answered old.stage && run_settled old.run) ≡ false
      by_answer true whole = ap (λ (b : Bool). b && run_settled old.run) whole ∙ busy old L e legs n rest whole
      by_answer false other = ap (λ (b : Bool). b && run_settled old.run) other

      go : (h.mid.stage ≡ ticked_stage old.stage) ⊎ Breaks first h.mid → is_over h.mid ≡ false
      go (inl at) =
          ap (λ (t : Stage). is_answered t && run_settled h.mid.run) at
          ∙ (ap (λ (b : Bool). b && run_settled h.mid.run) (answered_same old.stage)
          ∙ (ap (λ (r : Option View). is_answered old.stage && run_settled r) leads.run
          ∙ (ap (λ (b : Bool). is_answered old.stage && b) (settled_same secs old.run) ∙ by_answer (is_answered old.stage) refl)))
      go (inr b) = ap (λ (t : Stage). is_answered t && run_settled h.mid.run) b.at

  abbrev later : Exchange
  later = pushed e x

  number : number_of h.mid ≡ number_of old
  number = ap (λ (m : Flags). m.c) leads.flags

  unfed : Unfed h.mid.run
  unfed v is = go old.run refl (sym leads.run ∙ is)
    where
      go : (run : Option View) → old.run ≡ run → heard_run (Tick secs) true old.run ≡ Some v → is_feed_due v ≡ false
      go None none some = absurd (let bad : None ≡ Some v = sym (ap (heard_run (Tick secs) true) none) ∙ some in cc)
      go (Some w) was some =
          let same : at_tick secs w ≡ v = the_view (sym (ap (heard_run (Tick secs) true) was) ∙ some) in
          subst (λ (u : View). is_feed_due u ≡ false) same (tick_unfed secs w (unfed_before old L e legs n rest w was))
        where
          the_view : {a b : View} → Some a ≡ Some b → a ≡ b
          the_view e = cc

  module _ (f : h.mid.lost ≡ false) where
    found : old.lost ≡ false
    found = found_before old L e legs n (Tick secs) rest fits new h f

    let_on : LetOn later h.mid
    let_on first_written =
        ap (λ t. is_awaited t (number_of h.mid) later) leads.site
        ∙ (ap (λ (c : ℕ). is_awaited (site_of old) c later) number
        ∙ (awaited-quiet (site_of old) (number_of old) e x refl ∙ (rest.found found).let_on (sym leads.continued ∙ first_written)))

    -- of a connection that is not live
    dead : is_live (flags_of old) ≡ false → ends_at h.mid later ≡ true
    dead none =
        ap (λ (b : Bool). not b || (flags_of h.mid).stopped || (flags_of h.mid).gone || h.mid.lost || h.mid.idled || h.mid.closing || h.mid.closes || is_some h.mid.cut
        || is_done_with h.mid (request_bytes (number_of h.mid) later))
        (ap (λ (b : Bool). b && not (flags_of h.mid).upgraded) (ap is_live leads.flags ∙ none))

    module _ (live : is_live (flags_of old) ≡ true) where
      calm : Calm e old
      calm = calm_before old L e legs n rest found live

      -- a run that is decided, where its script doesn't run any more
      run_then : is_running old.stage ≡ false → CalmRun false (has_room (flags_of h.mid)) h.mid.run
      run_then still =
          subst (λ (r : Option View). CalmRun false (has_room (flags_of h.mid)) r) (sym leads.run) (go old.run refl (rest.inward.decided found still))
        where
          go : (run : Option View) → old.run ≡ run → IsDecided run → CalmRun false (has_room (flags_of h.mid)) (heard_run (Tick secs) true run)
          go None is decided = tt
          go (Some v) is decided =
              let o = some_is v.outcome decided in
              let quiet = rests_of (has_room (flags_of old)) v (rest.even v is) in
              calm_run false (has_room (flags_of h.mid)) (at_tick secs v) (tick_unfed secs v quiet.feed)
              (λ still exited. (tick_input secs v o.0 o.1 ∙ quiet.input, tick_release secs v o.0 o.1 ∙ quiet.release))

      room_same : has_room (flags_of h.mid) ≡ has_room (flags_of old)
      room_same =
          ap has_room leads.flags
          ∙ ap (λ (p : ℕ). (flags_of old).shut || nat_le p 262144) (ap (λ (b : Bool). less_by 0 (more_by (count_sent b (number_of old) x) (flags_of old).pending)) rest.inward.http)

      no_turn : NoTurn old → NoTurn h.mid
      no_turn none =
          ap (λ (r : Option View). run_settled r && has_room (flags_of h.mid)) leads.run
          ∙ (ap (λ (b : Bool). b && has_room (flags_of h.mid)) (settled_same secs old.run) ∙ (ap (λ (b : Bool). run_settled old.run && b) room_same ∙ none))

      -- by the stage before, which the Tick leaves
      module _ (t : Stage) (at : old.stage ≡ t) (stage : h.mid.stage ≡ ticked_stage old.stage) where
        here : CalmAt old e t
        here = subst (λ (s : Stage). CalmAt old e s) at calm.at

        abbrev then_at : h.mid.stage ≡ ticked_stage t
        then_at = stage ∙ ap ticked_stage at

        resting : is_running t ≡ false → ticked_stage t ≡ t → CalmAt h.mid later t → Resting later h.mid ⊎ IsTicked later h.mid
        resting still same calm_then =
            inl (inr (record {
              run = subst (λ (b : Bool). CalmRun b (has_room (flags_of h.mid)) h.mid.run) (sym (ap is_running (then_at ∙ same) ∙ still)) (run_then (ap is_running at ∙ still));
              let_on = let_on;
              at = subst (λ (s : Stage). CalmAt h.mid later s) (sym (then_at ∙ same)) calm_then;
            }))

      running : (leg : Leg) → old.stage ≡ At.Running leg → h.mid.stage ≡ At.Running (record leg { ticked = true }) → (outcome_of_run old.run ≡ None) × (undrained old.run ≡ []) × (leg.ticked ≡ false)
          → Resting later h.mid ⊎ IsTicked later h.mid
      running leg at stage calm_then =
          inr (record {
            unfed = unfed;
            let_on = let_on;
            at = subst (λ (s : Stage). TickedAt h.mid s) (sym stage) (by_run old.run refl calm_then.0 calm_then.1);
          })
        where
          ticked_by : (v : View) → v.outcome ≡ None → v.output ≡ [] → RunTicked (at_tick secs v).outcome (at_tick secs v).output true
          ticked_by v none empty = by_time (not (is_websocket v.kind) && v.run_left == 1) refl
            where
              by_time : (b : Bool) → (not (is_websocket v.kind) && v.run_left == 1) ≡ b → RunTicked (at_tick secs v).outcome (at_tick secs v).output true
              by_time true over = rw (none, over) tt
              by_time false on = rw (none, on) (empty, refl)

          by_run : (run : Option View) → old.run ≡ run → outcome_of_run old.run ≡ None → undrained old.run ≡ [] → RunTicked (outcome_of_run h.mid.run) (undrained h.mid.run) true
          by_run None is none empty = absurd (running_leg old L e legs n rest found (rest.found found) leg at (no_run old L e legs n rest is))
          by_run (Some v) is none empty =
              subst (λ (r : Option View). RunTicked (outcome_of_run r) (undrained r) true) (sym (leads.run ∙ ap (heard_run (Tick secs) true) is))
              (ticked_by v (sym (ap outcome_of_run is) ∙ none) (sym (ap undrained is) ∙ empty))

      by_stage : (t : Stage) → old.stage ≡ t → h.mid.stage ≡ ticked_stage old.stage → Resting later h.mid ⊎ IsTicked later h.mid
      by_stage At.Reading at stage = resting At.Reading at stage refl refl (either (here At.Reading at stage))
        where
          either : (is_looked_at old.request ≡ true) ⊎ (request_bytes (number_of old) e ≡ []) → (is_looked_at h.mid.request ≡ true) ⊎ (request_bytes (number_of h.mid) later ≡ [])
          either (inl looked) = inl (ap is_looked_at leads.request ∙ looked)
          either (inr none) = inr (ap (λ (c : ℕ). request_bytes c later) number ∙ (bytes_quiet (number_of old) e x refl ∙ none))
      by_stage (At.Refused cause) at stage = resting (At.Refused cause) at stage refl refl (no_turn (here (At.Refused cause) at stage))
      by_stage (At.Unstarted hop request) at stage = resting (At.Unstarted hop request) at stage refl refl (no_turn (here (At.Unstarted hop request) at stage))
      by_stage (At.Running leg) at stage = running leg at (stage ∙ ap ticked_stage at) (here (At.Running leg) at stage)
      by_stage At.Answered at stage = resting At.Answered at stage refl refl tt
      by_stage At.Silent at stage = resting At.Silent at stage refl refl tt
      by_stage (At.Rejected cause bare) at stage = absurd (here (At.Rejected cause bare) at stage)
      by_stage (At.Interrupted cause) at stage = absurd (here (At.Interrupted cause) at stage)
      by_stage (At.Starting leg launch body whole) at stage = absurd (here (At.Starting leg launch body whole) at stage)
      by_stage (At.Finishing text closes) at stage = absurd (here (At.Finishing text closes) at stage)

      by_leads : (h.mid.stage ≡ ticked_stage old.stage) ⊎ Breaks first h.mid → Resting later h.mid ⊎ IsTicked later h.mid
      by_leads (inl stage) = by_stage old.stage refl stage
      by_leads (inr b) = inr (record { unfed = unfed; let_on = let_on; at = subst (λ (s : Stage). TickedAt h.mid s) (sym b.at) tt })

    at_mid : Resting later h.mid ⊎ IsTicked later h.mid
    at_mid = go (is_live (flags_of old)) refl
      where
        go : (b : Bool) → is_live (flags_of old) ≡ b → Resting later h.mid ⊎ IsTicked later h.mid
        go true live = by_leads live leads.stage
        go false none = inl (inl (dead none, unfed))

  -- Behind a Tick.
  pub tick_known : new.lost ≡ false → Resting (moved (site_of old) (number_of old) later (events_stand old new L e legs n (Tick secs) rest fits h).moves) new
      ⊎ IsTicked (moved (site_of old) (number_of old) later (events_stand old new L e legs n (Tick secs) rest fits h).moves) new
  tick_known f =
      let same : new ≡ h.mid = h.settles.on unover in
      subst (λ (c : HttpConn). Resting (moved (site_of old) (number_of old) later (events_stand old new L e legs n (Tick secs) rest fits h).moves) c
      ⊎ IsTicked (moved (site_of old) (number_of old) later (events_stand old new L e legs n (Tick secs) rest fits h).moves) c) (sym same)
      (subst (λ (ms : List Move). Resting (moved (site_of old) (number_of old) later ms) h.mid ⊎ IsTicked (moved (site_of old) (number_of old) later ms) h.mid)
      (sym (moves_on old L e legs n (Tick secs) rest fits new h unover)) (at_mid (ap (λ (c : HttpConn). c.lost) (sym same) ∙ f)))
