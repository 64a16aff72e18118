-- What no event changes of a connection.
use Rattle.std.proofs.Common.{◌≡◌, ℕ, ◌==◌, ◌-◌, Bool, true, false, ◌||◌, is_some, List, refl, sym, ap, subst}
use Rattle.host_base.specs.declared.cause.Cause.{Cause}
use Rattle.host_trace.specs.declared.items.Event.{Event}
use Rattle.host_trace.specs.declared.items.Event.TheVariants.{Accepted, ClientBytes, ClientEof, ClientGone, Wrote, Started, StartFailed, StartFull, ChildBytes, ChildEof, ChildBroken, Took, InputGone, Exited, WsText, WsBinary, WsClosed, WsBad, NoRoom, Tick, Stop}
use Rattle.host_trace.specs.declared.items.Item.TheVariants.{In}
use Rattle.conn_flags.specs.View.{noted}
use Rattle.exchange_request.specs.Knows.{is_taken}
use Rattle.exchange_stage.specs.declared.stage.Stage.{Stage}
use Rattle.exchange_stage.specs.declared.stage.Stage.TheVariants as At
use Rattle.http_conn.specs.HttpConn.{HttpConn}
use Rattle.http_conn.specs.Hears.{BodyBy, BreaksBy, CountsDown, EndsAt, EndsBy, FeedsBy, Goes, HearsBytes, HearsEnd, HearsOwn, IdlesBy, Loses, TicksBy, When, accepted, awaits_body, broken_if, told_run, with_more}
use Rattle.http_conn.specs.Kept.{flags_of, site_of}
use Rattle.http_conn.specs.Moves.{losing, ticked_stage}
use Rattle.http_conn.specs.Slot.{run_settled}
use Rattle.http_stage_laws.specs.HeardStages.{EventsKeep, KeepsRest}

record Unmoved (old new : HttpConn) : Type 0 where
  pub site : site_of new ≡ site_of old
  pub flags : flags_of new ≡ flags_of old
  pub cut : new.cut ≡ old.cut
  pub closing : new.closing ≡ old.closing
  pub closes : new.closes ≡ old.closes
  pub continued : new.continued ≡ old.continued

-- one that differs from it in nothing of this
by_is : (old new other : HttpConn) → Unmoved old other → new ≡ other → Unmoved old new
by_is old new other u is = subst (λ (conn : HttpConn). Unmoved old conn) (sym is) u

by_breaks : (cause : Cause) (b : Bool) (old new : HttpConn) → BreaksBy b cause old new → Unmoved old new
by_breaks cause true old new by = by_is old new (broken_if by.begun cause old) (go by.begun) by.is
  where
    go : (b : Bool) → Unmoved old (broken_if b cause old)
    go true = record { site = refl; flags = refl; cut = refl; closing = refl; closes = refl; continued = refl }
    go false = record { site = refl; flags = refl; cut = refl; closing = refl; closes = refl; continued = refl }
by_breaks cause false old new is = by_is old new old (record { site = refl; flags = refl; cut = refl; closing = refl; closes = refl; continued = refl }) is

by_stage : (s : Stage) (old new : HttpConn) → EndsAt s old new → Unmoved old new
by_stage (At.Running held) old new is = by_is old new _ (record { site = refl; flags = refl; cut = refl; closing = refl; closes = refl; continued = refl }) is
by_stage At.Reading old new i = by_breaks _ _ old new i
by_stage (At.Rejected cause bare) old new i = by_breaks _ _ old new i
by_stage (At.Interrupted cause) old new i = by_breaks _ _ old new i
by_stage (At.Refused cause) old new i = by_breaks _ _ old new i
by_stage (At.Unstarted hop request) old new i = by_breaks _ _ old new i
by_stage (At.Starting held launch body whole) old new i = by_breaks _ _ old new i
by_stage (At.Finishing text closes) old new i = by_breaks _ _ old new i
by_stage At.Answered old new i = by_breaks _ _ old new i
by_stage At.Silent old new i = by_breaks _ _ old new i

by_end : (b : Bool) (old new : HttpConn) → EndsBy b old new → Unmoved old new
by_end true old new is = by_is old new old (record { site = refl; flags = refl; cut = refl; closing = refl; closes = refl; continued = refl }) is
by_end false old new at = by_stage old.stage old new at

by_idle : (b : Bool) (old new : HttpConn) → IdlesBy b old new → Unmoved old new
by_idle true old new i = by_breaks _ _ old new i
by_idle false old new is = by_is old new (record old { idled = old.idled || is_some old.peer }) (record { site = refl; flags = refl; cut = refl; closing = refl; closes = refl; continued = refl }) is

by_count : (b : Bool) (old new : HttpConn) → CountsDown b old new → Unmoved old new
by_count true old new i = by_idle i.begun old new i.by
by_count false old new is = by_is old new old (record { site = refl; flags = refl; cut = refl; closing = refl; closes = refl; continued = refl }) is

by_tick : (b : Bool) (old new : HttpConn) → TicksBy b old new → Unmoved old new
by_tick true old new i =
    let u : Unmoved (record old { idle_left = old.idle_left - 1 }) new = by_count (old.idle_left == 1) (record old { idle_left = old.idle_left - 1 }) new i in
    record { site = u.site; flags = u.flags; cut = u.cut; closing = u.closing; closes = u.closes; continued = u.continued }
by_tick false old new is = by_is old new old (record { site = refl; flags = refl; cut = refl; closing = refl; closes = refl; continued = refl }) is

by_body : (b found : Bool) (old new : HttpConn) → BodyBy b found old new → Unmoved old new
by_body true true old new by = by_is old new (with_more by.body (record old { request = by.request })) (record { site = refl; flags = refl; cut = refl; closing = refl; closes = refl; continued = refl }) by.is
by_body true false old new out = by_is old new (losing (record old { stage = new.stage; request = new.request })) (record { site = refl; flags = refl; cut = refl; closing = refl; closes = refl; continued = refl }) out.is
by_body false found old new is = by_is old new old (record { site = refl; flags = refl; cut = refl; closing = refl; closes = refl; continued = refl }) is

by_feed : (b : Bool) (bytes : List ℕ) (found : Bool) (old new : HttpConn) → FeedsBy b bytes found old new → Unmoved old new
by_feed true bytes found old new feed =
    let u : Unmoved (record old { idle_left = (site_of old).limits.idle_ticks; request = feed.request }) new =
    by_body (awaits_body (record old { idle_left = (site_of old).limits.idle_ticks; request = feed.request })) found (record old { idle_left = (site_of old).limits.idle_ticks; request = feed.request }) new feed.body in
    record { site = u.site; flags = u.flags; cut = u.cut; closing = u.closing; closes = u.closes; continued = u.continued }
by_feed false bytes found old new is = by_is old new (losing (record old { idle_left = (site_of old).limits.idle_ticks })) (record { site = refl; flags = refl; cut = refl; closing = refl; closes = refl; continued = refl }) is

by_when : (By : HttpConn → HttpConn → Type 0) (b : Bool) (old new : HttpConn) → (By old new → Unmoved old new) → When b By old new → Unmoved old new
by_when By true old new f by = f by
by_when By false old new f is = by_is old new old (record { site = refl; flags = refl; cut = refl; closing = refl; closes = refl; continued = refl }) is

own_keeps : (ev : Event) (old new : HttpConn) → HearsOwn ev old new → Unmoved old new
own_keeps (Accepted peer) old new is = by_is old new (accepted peer old) (record { site = refl; flags = refl; cut = refl; closing = refl; closes = refl; continued = refl }) is
own_keeps (ClientBytes c bytes) old new own = by_when (HearsBytes bytes) (old.flags.c == c) old new (λ h. by_feed h.fed bytes h.found old new h.by) own
own_keeps (ClientEof c) old new own = by_when HearsEnd (old.flags.c == c) old new (λ h. by_end (is_taken old.request) old new h) own
own_keeps (ClientGone c) old new own = by_when Goes (old.flags.c == c) old new (λ is. by_is old new _ (record { site = refl; flags = refl; cut = refl; closing = refl; closes = refl; continued = refl }) is) own
own_keeps (WsBad c) old new own = by_when Goes (old.flags.c == c) old new (λ is. by_is old new _ (record { site = refl; flags = refl; cut = refl; closing = refl; closes = refl; continued = refl }) is) own
own_keeps (NoRoom c) old new own = by_when Loses (old.flags.c == c) old new (λ is. by_is old new (losing old) (record { site = refl; flags = refl; cut = refl; closing = refl; closes = refl; continued = refl }) is) own
own_keeps (Tick secs) old new own =
    let u : Unmoved (record old { stage = ticked_stage old.stage }) new = by_tick (run_settled old.run) (record old { stage = ticked_stage old.stage }) new own in
    record { site = u.site; flags = u.flags; cut = u.cut; closing = u.closing; closes = u.closes; continued = u.continued }
own_keeps (WsBinary d) old new is = by_is old new old (record { site = refl; flags = refl; cut = refl; closing = refl; closes = refl; continued = refl }) is
own_keeps (Wrote d n) old new is = by_is old new old (record { site = refl; flags = refl; cut = refl; closing = refl; closes = refl; continued = refl }) is
own_keeps (Started k) old new is = by_is old new old (record { site = refl; flags = refl; cut = refl; closing = refl; closes = refl; continued = refl }) is
own_keeps (StartFailed k) old new is = by_is old new old (record { site = refl; flags = refl; cut = refl; closing = refl; closes = refl; continued = refl }) is
own_keeps (StartFull k seen) old new is = by_is old new old (record { site = refl; flags = refl; cut = refl; closing = refl; closes = refl; continued = refl }) is
own_keeps (ChildBytes k bytes) old new is = by_is old new old (record { site = refl; flags = refl; cut = refl; closing = refl; closes = refl; continued = refl }) is
own_keeps (ChildEof k) old new is = by_is old new old (record { site = refl; flags = refl; cut = refl; closing = refl; closes = refl; continued = refl }) is
own_keeps (ChildBroken k) old new is = by_is old new old (record { site = refl; flags = refl; cut = refl; closing = refl; closes = refl; continued = refl }) is
own_keeps (Took k n) old new is = by_is old new old (record { site = refl; flags = refl; cut = refl; closing = refl; closes = refl; continued = refl }) is
own_keeps (InputGone k) old new is = by_is old new old (record { site = refl; flags = refl; cut = refl; closing = refl; closes = refl; continued = refl }) is
own_keeps (Exited k) old new is = by_is old new old (record { site = refl; flags = refl; cut = refl; closing = refl; closes = refl; continued = refl }) is
own_keeps (WsText d bytes) old new is = by_is old new old (record { site = refl; flags = refl; cut = refl; closing = refl; closes = refl; continued = refl }) is
own_keeps (WsClosed d) old new is = by_is old new old (record { site = refl; flags = refl; cut = refl; closing = refl; closes = refl; continued = refl }) is
own_keeps Stop old new is = by_is old new old (record { site = refl; flags = refl; cut = refl; closing = refl; closes = refl; continued = refl }) is

pub events_keep : EventsKeep
events_keep old new ev h = go h.found (own_keeps ev (told_run ev h.found (record old { flags = noted old.flags (In ev) })) h.mid h.own)
  where
    go : (b : Bool) → Unmoved (told_run ev b (record old { flags = noted old.flags (In ev) })) h.mid → KeepsRest old ev h.mid
    go true u = record {
      same = record { site = u.site; number = ap (λ m. m.c) u.flags; cut = u.cut; closing = u.closing; closes = u.closes; continued = u.continued };
      flags = u.flags;
    }
    go false u = record {
      same = record { site = u.site; number = ap (λ m. m.c) u.flags; cut = u.cut; closing = u.closing; closes = u.closes; continued = u.continued };
      flags = u.flags;
    }
