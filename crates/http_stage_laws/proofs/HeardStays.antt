-- Each event between two steps of a connection for which memory ran out.
use Rattle.std.proofs.Common.{◌≡◌, ℕ, ◌==◌, ◌-◌, Bool, true, false, ◌&&◌, ◌||◌, not, List, [], Option, Some, None, is_some, ◌⊎◌, if◌then◌else◌, refl, sym, ap, ◌∙◌, subst, inl, inr}
use Rattle.std.proofs.lemmas.Bool.{and_parts, cases_Bool, eqb-true, false≢true}
use Rattle.host_base.specs.declared.cause.Cause.TheVariants as Causes
use Rattle.host_trace.specs.declared.items.Event.{Event}
use Rattle.host_trace.specs.declared.items.Event.TheVariants.{Accepted, ClientBytes, ClientEof, ClientGone, Wrote, Started, StartFailed, StartFull, ChildBytes, ChildEof, ChildBroken, Took, InputGone, Exited, WsText, WsBinary, WsClosed, WsBad, NoRoom, Tick, Stop}
use Rattle.host_trace.specs.declared.items.Item.{Item}
use Rattle.host_trace.specs.declared.items.Item.TheVariants.{In}
use Rattle.host_trace.specs.Fits.{is_asked, is_piece}
use Rattle.host_trace.specs.Kinds.{bytes_heard}
use Rattle.host_trace.specs.Projections.{client_wanted, shut, upgraded}
use Rattle.own_traces.specs.OwnFits.{fits_own, was_accepted}
use Rattle.child_core.specs.declared.ending.Ending.TheVariants.{Dropped, Gone, Refused}
use Rattle.child_core.specs.Calls.{ended, heard}
use Rattle.child_core.specs.View.{View}
use Rattle.conn_flags.specs.View.{noted}
use Rattle.trace_model.specs.Exchange.{Exchange, pushed}
use Rattle.trace_model.specs.Legs.{Leg as StartedLeg}
use Rattle.exchange_stage.specs.declared.stage.Stage.{Stage}
use Rattle.exchange_stage.specs.declared.stage.Stage.TheVariants as At
use Rattle.child_laws.specs.Heard.{cut_by, heard_by, last_hop, offered_by, run_heard}
use Rattle.http_conn.specs.HttpConn.{HttpConn}
use Rattle.http_conn.specs.Hears.{BreaksBy, CountsDown, Goes, HearsBytes, HearsEnd, HearsOwn, HearsTick, IdlesBy, Loses, TicksBy, When, accepted, heard_run, is_untouched, keeps_of, told_run}
use Rattle.http_conn.specs.Kept.{flags_of, number_of, site_of}
use Rattle.http_conn.specs.Moves.{ticked_stage}
use Rattle.http_conn.specs.Settles.{is_answered}
use Rattle.http_conn.specs.Slot.{run_settled}
use Rattle.http_stage_laws.specs.HeardStages.{AtRest, EventsStayLost, HeardStill, RestedLost, SameAs}
use Rattle.http_stage_laws.proofs.HeardLose.{lost_by}
use Rattle.http_stage_laws.proofs.HeardLosses.{unkept}
use Rattle.http_stage_laws.proofs.HeardStill.{is_shut, kept_undecided, still_lost}

ticked_answered : (s : Stage) → is_answered (ticked_stage s) ≡ is_answered s
ticked_answered (At.Running held) = refl
ticked_answered _ = refl

not_true : (b : Bool) → not b ≡ true → b ≡ false
not_true true e = sym e
not_true false e = refl

and_none : (b : Bool) → (b && false) ≡ false
and_none true = refl
and_none false = refl

module _ (old : HttpConn) (L : List Item) (e : Exchange) (legs : List StartedLeg) (next : ℕ) (rest : AtRest old L e legs next) (was : RestedLost old e legs) where
  abbrev told : Event → HttpConn
  told ev = told_run ev true (record old { flags = noted old.flags (In ev) })

  abbrev FitsIn : Event → Type 0
  FitsIn ev = fits_own (site_of old).limits.children L ev ≡ true

  abbrev Still : Event → HttpConn → Type 0
  Still ev mid = HeardStill old mid e ev legs

  run_by : (ev : Event) → ((v : View) → heard v ev true ≡ heard_by (site_of old) (number_of old) e (last_hop legs) true ev v) → (run : Option View)
      → heard_run ev true run ≡ run_heard (site_of old) (number_of old) e legs true ev run
  run_by ev same None = refl
  run_by ev same (Some v) = ap (λ (w : View). Some w) (same v)

  stays : (ev : Event) → bytes_heard (number_of old) (In ev) ≡ [] → ((v : View) → heard v ev true ≡ heard_by (site_of old) (number_of old) e (last_hop legs) true ev v)
      → (mid : HttpConn) → SameAs old mid → is_answered mid.stage ≡ is_answered old.stage → mid.run ≡ heard_run ev true old.run → Still ev mid
  stays ev quiet idle mid same answered run = record {
    lost = lost_by old mid (pushed e (In ev)) legs old.stage same answered (still_lost old L e legs next rest was ev quiet);
    run = run ∙ run_by ev idle old.run;
  }

  plain : (ev : Event) → bytes_heard (number_of old) (In ev) ≡ [] → ((v : View) → heard v ev true ≡ heard_by (site_of old) (number_of old) e (last_hop legs) true ev v)
      → (mid : HttpConn) → mid ≡ told ev → Still ev mid
  plain ev quiet idle mid is =
      subst (λ (conn : HttpConn). HeardStill old conn e ev legs) (sym is)
      (stays ev quiet idle (told ev) (record { site = refl; number = refl; cut = refl; closing = refl; closes = refl; continued = refl }) refl refl)

  -- ---- the client of a connection that is shut is not heard

  shut_mine : (d : ℕ) → (number_of old == d) ≡ true → not (shut L d) ≡ true → ⊥
  shut_mine d mine unshut =
      absurd (false≢true (sym (not_true (shut L d) unshut) ∙ (ap (λ (k : ℕ). shut L k) (sym (eqb-true (number_of old) d mine)) ∙ is_shut old L e legs next rest was)))

  another : (d : ℕ) → not (shut L d) ≡ true → (number_of old == d) ≡ false
  another d unshut = go (cases_Bool (number_of old == d))
    where
      go : ((number_of old == d) ≡ true) ⊎ ((number_of old == d) ≡ false) → (number_of old == d) ≡ false
      go (inl mine) = absurd (shut_mine d mine unshut)
      go (inr other) = other

  asked_unshut : (d : ℕ) → is_asked L d ≡ true → not (shut L d) ≡ true
  asked_unshut d fits = (and_parts (not (shut L d)) (not (upgraded L d)) (and_parts (not (shut L d) && not (upgraded L d)) (client_wanted L d) fits).0).0

  upgraded_unshut : (d : ℕ) → (not (shut L d) && upgraded L d && client_wanted L d) ≡ true → not (shut L d) ≡ true
  upgraded_unshut d fits = (and_parts (not (shut L d)) (upgraded L d) (and_parts (not (shut L d) && upgraded L d) (client_wanted L d) fits).0).0

  elsewhere : (By : HttpConn → HttpConn → Type 0) (d : ℕ) (first mid : HttpConn) → (number_of old == d) ≡ false → When (number_of old == d) By first mid → mid ≡ first
  elsewhere By d first mid other w = subst (λ (b : Bool). When b By first mid) other w

  -- ---- a Tick

  abbrev Keeps : ℕ → HttpConn → Type 0
  Keeps secs mid = SameAs old mid × (is_answered mid.stage ≡ is_answered old.stage) × (mid.run ≡ heard_run (Tick secs) true old.run)

  abbrev ticked : ℕ → HttpConn
  ticked secs = record (told (Tick secs)) { stage = ticked_stage old.stage }

  keeps_by : (secs : ℕ) (mid was_then : HttpConn) → Keeps secs was_then → mid ≡ was_then → Keeps secs mid
  keeps_by secs mid was_then keeps is = subst (λ (conn : HttpConn). Keeps secs conn) (sym is) keeps

  tick_keeps : (secs : ℕ) (mid : HttpConn) → HearsTick (told (Tick secs)) mid → Keeps secs mid
  tick_keeps secs mid h = by_settled (run_settled (ticked secs).run) h
    where
      same : (left : ℕ) → SameAs old (record (ticked secs) { idle_left = left })
      same left = record { site = refl; number = refl; cut = refl; closing = refl; closes = refl; continued = refl }

      shut_is : (is_untouched (record (ticked secs) { idle_left = old.idle_left - 1 }) && not (flags_of old).shut) ≡ false
      shut_is =
          ap (λ (b : Bool). is_untouched (record (ticked secs) { idle_left = old.idle_left - 1 }) && not b) was.shut
          ∙ and_none (is_untouched (record (ticked secs) { idle_left = old.idle_left - 1 }))

      idles : (b : Bool) → IdlesBy b (record (ticked secs) { idle_left = old.idle_left - 1 }) mid → Keeps secs mid
      idles true i =
          keeps_by secs mid (record (ticked secs) { idle_left = old.idle_left - 1 }) (same (old.idle_left - 1), ticked_answered old.stage, refl)
          (subst (λ (b : Bool). BreaksBy b Causes.IdleTime (record (ticked secs) { idle_left = old.idle_left - 1 }) mid) shut_is i)
      idles false is =
          keeps_by secs mid (record (ticked secs) { idle_left = old.idle_left - 1; idled = old.idled || is_some old.peer })
          (record { site = refl; number = refl; cut = refl; closing = refl; closes = refl; continued = refl }, ticked_answered old.stage, refl) is

      counts : (b : Bool) → CountsDown b (record (ticked secs) { idle_left = old.idle_left - 1 }) mid → Keeps secs mid
      counts true i = idles i.begun i.by
      counts false is = keeps_by secs mid (record (ticked secs) { idle_left = old.idle_left - 1 }) (same (old.idle_left - 1), ticked_answered old.stage, refl) is

      by_settled : (b : Bool) → TicksBy b (ticked secs) mid → Keeps secs mid
      by_settled true by = counts (old.idle_left == 1) by
      by_settled false is = keeps_by secs mid (ticked secs) (same old.idle_left, ticked_answered old.stage, refl) is

  -- ---- each event

  event_still : (ev : Event) → FitsIn ev → (mid : HttpConn) → HearsOwn ev (told ev) mid → Still ev mid
  event_still (ClientBytes d bytes) fits mid own =
      let other : (number_of old == d) ≡ false = another d (asked_unshut d (and_parts (is_asked L d) (is_piece bytes) fits).0) in
      plain (ClientBytes d bytes) (ap (λ (b : Bool). if b then bytes else []) other)
      (λ v. sym (ap (λ (b : Bool). if b then offered_by (site_of old) (number_of old) e (last_hop legs) (In (ClientBytes d bytes)) v else v) other)) mid
      (elsewhere (HearsBytes bytes) d (told (ClientBytes d bytes)) mid other own)
  event_still (ClientEof d) fits mid own =
      let other : (number_of old == d) ≡ false = another d (asked_unshut d fits) in
      plain (ClientEof d) refl (λ v. sym (ap (λ (b : Bool). if b then cut_by (site_of old) (number_of old) e (last_hop legs) v else v) other)) mid (elsewhere HearsEnd d (told (ClientEof d)) mid other own)
  event_still (ClientGone d) fits mid own =
      let other : (number_of old == d) ≡ false = another d (and_parts (was_accepted L) (not (shut L d)) fits).1 in
      plain (ClientGone d) refl (λ v. sym (ap (λ (b : Bool). if b then ended v Gone else v) other)) mid (elsewhere Goes d (told (ClientGone d)) mid other own)
  event_still (NoRoom d) fits mid own =
      let other : (number_of old == d) ≡ false = another d (and_parts (was_accepted L) (not (shut L d)) fits).1 in
      plain (NoRoom d) refl (λ v. sym (ap (λ (b : Bool). if b then ended v Dropped else v) other)) mid (elsewhere Loses d (told (NoRoom d)) mid other own)
  event_still (WsBad d) fits mid own =
      let other : (number_of old == d) ≡ false = another d (upgraded_unshut d fits) in
      plain (WsBad d) refl (λ v. sym (ap (λ (b : Bool). if b then ended v Gone else v) other)) mid (elsewhere Goes d (told (WsBad d)) mid other own)
  event_still (WsBinary d) fits mid own =
      let other : (number_of old == d) ≡ false = another d (upgraded_unshut d fits) in
      plain (WsBinary d) refl (λ v. sym (ap (λ (b : Bool). if b then ended v Refused else v) other)) mid own
  event_still (Accepted peer) fits mid own =
      subst (λ (conn : HttpConn). HeardStill old conn e (Accepted peer) legs) (sym own)
      (stays (Accepted peer) refl (λ v. refl) (accepted peer (told (Accepted peer))) (record { site = refl; number = refl; cut = refl; closing = refl; closes = refl; continued = refl }) refl refl)
  event_still (Tick secs) fits mid own =
      let keeps = tick_keeps secs mid own in stays (Tick secs) refl (λ v. refl) mid keeps.0 keeps.1 keeps.2
  event_still (Wrote d n) fits mid own = plain (Wrote d n) refl (λ v. refl) mid own
  event_still (Started k) fits mid own = plain (Started k) refl (λ v. refl) mid own
  event_still (StartFailed k) fits mid own = plain (StartFailed k) refl (λ v. refl) mid own
  event_still (StartFull k seen) fits mid own = plain (StartFull k seen) refl (λ v. refl) mid own
  event_still (ChildBytes k bytes) fits mid own = plain (ChildBytes k bytes) refl (λ v. refl) mid own
  event_still (ChildEof k) fits mid own = plain (ChildEof k) refl (λ v. refl) mid own
  event_still (ChildBroken k) fits mid own = plain (ChildBroken k) refl (λ v. refl) mid own
  event_still (Took k n) fits mid own = plain (Took k n) refl (λ v. refl) mid own
  event_still (InputGone k) fits mid own = plain (InputGone k) refl (λ v. refl) mid own
  event_still (Exited k) fits mid own = plain (Exited k) refl (λ v. refl) mid own
  event_still (WsText d bytes) fits mid own = plain (WsText d bytes) refl (λ v. refl) mid own
  event_still (WsClosed d) fits mid own = plain (WsClosed d) refl (λ v. refl) mid own
  event_still Stop fits mid own = plain Stop refl (λ v. refl) mid own

  -- there is room for all that comes
  room : (ev : Event) → FitsIn ev → keeps_of old.run ev ≡ true → ⊥
  room (ChildBytes k bytes) fits keeps = go old.run refl keeps
    where
      go : (run : Option View) → old.run ≡ run → keeps_of run (ChildBytes k bytes) ≡ true → ⊥
      go None is kept = absurd (false≢true kept)
      go (Some v) is kept = kept_undecided old L e legs next rest k bytes fits v is (was.decided v is) kept
  room (Accepted peer) fits keeps = unkept old.run (Accepted peer) (λ v. refl) keeps
  room (ClientBytes d bytes) fits keeps = unkept old.run (ClientBytes d bytes) (λ v. refl) keeps
  room (ClientEof d) fits keeps = unkept old.run (ClientEof d) (λ v. refl) keeps
  room (ClientGone d) fits keeps = unkept old.run (ClientGone d) (λ v. refl) keeps
  room (WsBad d) fits keeps = unkept old.run (WsBad d) (λ v. refl) keeps
  room (NoRoom d) fits keeps = unkept old.run (NoRoom d) (λ v. refl) keeps
  room (Tick secs) fits keeps = unkept old.run (Tick secs) (λ v. refl) keeps
  room (WsBinary d) fits keeps = unkept old.run (WsBinary d) (λ v. refl) keeps
  room (Wrote d n) fits keeps = unkept old.run (Wrote d n) (λ v. refl) keeps
  room (Started k) fits keeps = unkept old.run (Started k) (λ v. refl) keeps
  room (StartFailed k) fits keeps = unkept old.run (StartFailed k) (λ v. refl) keeps
  room (StartFull k seen) fits keeps = unkept old.run (StartFull k seen) (λ v. refl) keeps
  room (ChildEof k) fits keeps = unkept old.run (ChildEof k) (λ v. refl) keeps
  room (ChildBroken k) fits keeps = unkept old.run (ChildBroken k) (λ v. refl) keeps
  room (Took k n) fits keeps = unkept old.run (Took k n) (λ v. refl) keeps
  room (InputGone k) fits keeps = unkept old.run (InputGone k) (λ v. refl) keeps
  room (Exited k) fits keeps = unkept old.run (Exited k) (λ v. refl) keeps
  room (WsText d bytes) fits keeps = unkept old.run (WsText d bytes) (λ v. refl) keeps
  room (WsClosed d) fits keeps = unkept old.run (WsClosed d) (λ v. refl) keeps
  room Stop fits keeps = unkept old.run Stop (λ v. refl) keeps

  pub still_by : (ev : Event) → FitsIn ev → (b : Bool) → (b ≡ false → keeps_of old.run ev ≡ true) → (mid : HttpConn) → HearsOwn ev (told_run ev b (record old { flags = noted old.flags (In ev) })) mid → Still ev mid
  still_by ev fits true memory mid own = event_still ev fits mid own
  still_by ev fits false memory mid own = absurd (room ev fits (memory refl))

pub events_stay_lost : EventsStayLost
events_stay_lost old new L e legs next ev rest fits lost h =
    (h.lasts (told_lost h.found), still_by old L e legs next rest (rest.lost lost) ev fits h.found h.memory h.mid h.own)
  where
    told_lost : (b : Bool) → (told_run ev b old).lost ≡ true
    told_lost true = lost
    told_lost false = refl
