-- What an event makes of the stage of a connection and of its idle time, before its exchange is taken for ended.
use Rattle.std.proofs.Common.{◌≡◌, ℕ, ◌==◌, Bool, true, false, Option, Some, None, is_some, refl, sym, ap, ◌∙◌, subst}
use Rattle.std.proofs.lemmas.Bool.{false≢true}
use Rattle.host_trace.specs.declared.items.Event.{Event}
use Rattle.host_trace.specs.declared.items.Event.TheVariants.{ClientGone, WsBad, Stop, Tick}
use Rattle.host_trace.specs.declared.items.Item.TheVariants.{In}
use Rattle.host_trace.specs.Kinds.{is_client_bytes, is_tick}
use Rattle.child_core.specs.View.{View}
use Rattle.conn_flags.specs.View.{noted}
use Rattle.exchange_request.specs.declared.incoming.Incoming.{Incoming}
use Rattle.http_conn.specs.HttpConn.{HttpConn}
use Rattle.http_conn.specs.Hears.{Goes, Hears, HearsOwn, TellsBegun, When, heard_run, is_untouched_at, told_run}
use Rattle.child_core.specs.declared.ending.Ending.TheVariants.{Dropped}
use Rattle.http_conn.specs.Moves.{ended_run}
use Rattle.http_conn.specs.Settles.{is_answered}
use Rattle.http_conn.specs.Slot.{run_settled}
use Rattle.good_step_laws.proofs.Events.OutlineWords.{outline}
use Rattle.good_step_laws.proofs.Events.RunWords.{ends}
use Rattle.http_step_laws.proofs.LossLaws.{settled_dropped}
use Rattle.good_step_laws.proofs.Events.OwnLaws.{IdledBy, Own, StageBy, broken, calm, idles, kept, lacked, own_by}

-- a Tick leaves a child settled or not
tick_settled : (ev : Event) (found : Bool) (run : Option View) → is_tick (In ev) ≡ true → run_settled (heard_run ev found run) ≡ run_settled run
tick_settled (Tick secs) found None tick = refl
tick_settled (Tick secs) found (Some v) tick = refl
tick_settled ev found run tick = absurd (false≢true tick)

none_heard : (ev : Event) (found : Bool) (run : Option View) → is_some (heard_run ev found run) ≡ is_some run
none_heard ev found None = refl
none_heard ev found (Some v) = refl

-- the connection once its flags and its child heard the event
abbrev pub told : HttpConn → Event → Bool → HttpConn
told old ev found = told_run ev found (record old { flags = noted old.flags (In ev) })

dropped_none : (run : Option View) → is_some (ended_run Dropped run) ≡ is_some run
dropped_none None = refl
dropped_none (Some v) = refl

pub none_told : (old : HttpConn) (ev : Event) (found : Bool) → is_some (told old ev found).run ≡ is_some old.run
none_told old ev true = none_heard ev true old.run
none_told old ev false = dropped_none (heard_run ev false old.run) ∙ none_heard ev false old.run

settled_told : (old : HttpConn) (ev : Event) (found : Bool) → is_tick (In ev) ≡ true → run_settled (told old ev found).run ≡ run_settled old.run
settled_told old ev true tick = tick_settled ev true old.run tick
settled_told old ev false tick = settled_dropped (heard_run ev false old.run) ∙ tick_settled ev false old.run tick

-- what it keeps of the connection before
pub record Keeps (old first : HttpConn) : Type 0 where
  pub stage : first.stage ≡ old.stage
  pub idled : first.idled ≡ old.idled
  pub request : first.request ≡ old.request
  pub shut : first.flags.shut ≡ old.flags.shut
  pub number : first.flags.c ≡ old.flags.c

pub told_keeps : (old : HttpConn) (ev : Event) (found : Bool) → Keeps old (told old ev found)
told_keeps old ev true = record { stage = refl; idled = refl; request = refl; shut = refl; number = refl }
told_keeps old ev false = record { stage = refl; idled = refl; request = refl; shut = refl; number = refl }

stage_told : (old mid : HttpConn) (ev : Event) (found : Bool) → StageBy (told old ev found) mid → StageBy old mid
stage_told old mid ev found (kept same) = kept (same ∙ ap outline (told_keeps old ev found).stage)
stage_told old mid ev found (lacked lost same) = lacked lost (same ∙ ap is_answered (told_keeps old ev found).stage)
stage_told old mid ev found (broken b) =
    let k = told_keeps old ev found in
    broken (record {
      cause = b.cause;
      untouched = ap is_untouched_at (sym k.stage) ∙ b.untouched;
      none = sym (none_told old ev found) ∙ b.none;
      unshut = sym k.shut ∙ b.unshut;
      tells = subst (λ (i : Incoming). TellsBegun i true) k.request b.tells;
      at = b.at;
      calm = b.calm ∙ k.idled;
    })

idled_told : (old mid : HttpConn) (ev : Event) (found : Bool) → IdledBy ev (told old ev found) mid → IdledBy ev old mid
idled_told old mid ev found (calm same) = calm (same ∙ (told_keeps old ev found).idled)
idled_told old mid ev found (idles i) =
    idles (record { tick = i.tick; settled = sym (settled_told old ev found i.tick) ∙ i.settled; tells = subst (λ (r : Incoming). TellsBegun r false) (told_keeps old ev found).request i.tells })

pub heeds : (old new : HttpConn) (ev : Event) → (h : Hears old ev new) → Own ev old h.mid
heeds old new ev h =
    let own = own_by ev (told old ev h.found) h.mid h.own in
    let k = told_keeps old ev h.found in
    record {
      stage = stage_told old h.mid ev h.found own.stage;
      idled = idled_told old h.mid ev h.found own.idled;
      request = λ quiet. own.request (ap (λ (c : ℕ). is_client_bytes c (In ev)) k.number ∙ quiet) ∙ k.request;
    }

-- ---- an event that ends the connection leaves the stage

pub when_stays : (By : HttpConn → HttpConn → Type 0) (b : Bool) (old new : HttpConn) → (By old new → new.stage ≡ old.stage) → When b By old new → new.stage ≡ old.stage
when_stays By true old new stays by = stays by
when_stays By false old new stays is = ap (λ (c : HttpConn). c.stage) is

own_stays : (c : ℕ) (ev : Event) (old new : HttpConn) → HearsOwn ev old new → ends c ev ≡ true → new.stage ≡ old.stage
own_stays c (ClientGone d) old new own is = when_stays Goes (old.flags.c == d) old new (λ by. ap (λ (x : HttpConn). x.stage) by) own
own_stays c (WsBad d) old new own is = when_stays Goes (old.flags.c == d) old new (λ by. ap (λ (x : HttpConn). x.stage) by) own
own_stays c Stop old new own is = ap (λ (x : HttpConn). x.stage) own
own_stays c ev old new own is = absurd (false≢true is)

pub ends_stays : (c : ℕ) (old new : HttpConn) (ev : Event) → (h : Hears old ev new) → ends c ev ≡ true → h.mid.stage ≡ old.stage
ends_stays c old new ev h is = own_stays c ev (told old ev h.found) h.mid h.own is ∙ (told_keeps old ev h.found).stage
