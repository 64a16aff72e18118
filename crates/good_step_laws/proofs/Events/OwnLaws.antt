-- What an event makes of the stage of a connection, and of its idle time.
use Rattle.std.proofs.Common.{◌≡◌, ℕ, ◌==◌, ◌-◌, Bool, true, false, ◌&&◌, not, List, Option, is_some, refl, sym, ap, ◌∙◌, subst}
use Rattle.std.proofs.lemmas.Bool.{and_parts, false≢true, not-true}
use Rattle.host_base.specs.declared.cause.Cause.{Cause}
use Rattle.host_base.specs.declared.cause.Cause.TheVariants as Causes
use Rattle.host_trace.specs.declared.items.Event.{Event}
use Rattle.host_trace.specs.declared.items.Event.TheVariants.{Accepted, ClientBytes, ClientEof, ClientGone, WsBad, NoRoom, Tick}
use Rattle.host_trace.specs.declared.items.Item.TheVariants.{In}
use Rattle.host_trace.specs.Kinds.{is_client_bytes, is_tick}
use Rattle.child_core.specs.View.{View}
use Rattle.exchange_request.specs.Knows.{is_taken}
use Rattle.exchange_request.specs.declared.incoming.Incoming.{Incoming}
use Rattle.exchange_stage.specs.declared.stage.Stage.{Stage}
use Rattle.exchange_stage.specs.declared.stage.Stage.TheVariants as At
use Rattle.http_conn.specs.HttpConn.{HttpConn}
use Rattle.http_conn.specs.Hears.{BodyBy, BreaksBy, CountsDown, EndsAt, EndsBy, FeedsBy, Goes, HearsBytes, HearsEnd, HearsOwn, IdlesBy, Interrupts, Loses, TellsBegun, TicksBy, When, awaits_body, broken_if, is_untouched, is_untouched_at, with_more}
use Rattle.http_conn.specs.Kept.{site_of}
use Rattle.http_conn.specs.Moves.{losing, ticked_stage}
use Rattle.http_conn.specs.Settles.{is_answered}
use Rattle.http_conn.specs.Slot.{run_settled}
use Rattle.good_step_laws.proofs.Events.OutlineWords.{outline, outline_grown, outline_ticked, same_answered, same_untouched, untouched_unanswered}

-- ---- what becomes of it

-- a request that has begun is broken, for which nothing was done
pub record Broken (old new : HttpConn) : Type 0 where
  pub cause : Cause
  pub untouched : is_untouched_at old.stage ≡ true
  pub none : is_some old.run ≡ false
  pub unshut : old.flags.shut ≡ false
  pub tells : TellsBegun old.request true
  pub at : new.stage ≡ At.Interrupted cause
  pub calm : new.idled ≡ old.idled

pub data StageBy (old new : HttpConn) : Type 0 where
  kept : outline new.stage ≡ outline old.stage → StageBy old new
  broken : Broken old new → StageBy old new
  lacked : new.lost ≡ true → is_answered new.stage ≡ is_answered old.stage → StageBy old new

-- the idle time is over, while no child is left and no request has begun
pub record Idled (ev : Event) (old : HttpConn) : Type 0 where
  pub tick : is_tick (In ev) ≡ true
  pub settled : run_settled old.run ≡ true
  pub tells : TellsBegun old.request false

pub data IdledBy (ev : Event) (old new : HttpConn) : Type 0 where
  calm : new.idled ≡ old.idled → IdledBy ev old new
  idles : Idled ev old → IdledBy ev old new

pub record Own (ev : Event) (old new : HttpConn) : Type 0 where
  pub stage : StageBy old new
  pub idled : IdledBy ev old new
  -- only bytes of its client go to the request
  pub request : is_client_bytes old.flags.c (In ev) ≡ false → new.request ≡ old.request

pub answered_by : (old new : HttpConn) → StageBy old new → is_answered new.stage ≡ is_answered old.stage
answered_by old new (kept same) = same_answered old.stage new.stage same
answered_by old new (broken b) = ap is_answered b.at ∙ sym (untouched_unanswered old.stage b.untouched)
answered_by old new (lacked lost same) = same

-- ---- beside its child's own events

record Near (old mid : HttpConn) : Type 0 where
  stage : outline mid.stage ≡ outline old.stage
  idled : mid.idled ≡ old.idled
  request : mid.request ≡ old.request
  run : mid.run ≡ old.run
  shut : mid.flags.shut ≡ old.flags.shut

same : (conn : HttpConn) → Near conn conn
same conn = record { stage = refl; idled = refl; request = refl; run = refl; shut = refl }

module _ (ev : Event) (old : HttpConn) where
  still : (mid new : HttpConn) → outline mid.stage ≡ outline old.stage → mid.idled ≡ old.idled → (is_client_bytes old.flags.c (In ev) ≡ false → mid.request ≡ old.request) → new ≡ mid → Own ev old new
  still mid new stage idled request is = record {
    stage = kept (ap (λ (c : HttpConn). outline c.stage) is ∙ stage);
    idled = calm (ap (λ (c : HttpConn). c.idled) is ∙ idled);
    request = λ quiet. ap (λ (c : HttpConn). c.request) is ∙ request quiet;
  }

  by_breaks : (cause : Cause) (mid new : HttpConn) → Near old mid → (b : Bool) → (is_untouched mid && not mid.flags.shut) ≡ b → BreaksBy b cause mid new → Own ev old new
  by_breaks cause mid new near false none is = still mid new near.stage near.idled (λ quiet. near.request) is
  by_breaks cause mid new near true may by = go by.begun refl by.is
    where
      parts : (is_untouched mid ≡ true) × (not mid.flags.shut ≡ true)
      parts = and_parts (is_untouched mid) (not mid.flags.shut) may

      bare : (is_untouched_at mid.stage ≡ true) × (not (is_some mid.run) ≡ true)
      bare = and_parts (is_untouched_at mid.stage) (not (is_some mid.run)) parts.0

      go : (b : Bool) → by.begun ≡ b → new ≡ broken_if b cause mid → Own ev old new
      go false is new_is = still mid new near.stage near.idled (λ quiet. near.request) new_is
      go true is new_is = record {
        stage = broken (record {
          cause = cause;
          untouched = sym (same_untouched old.stage mid.stage near.stage) ∙ bare.0;
          none = ap (λ (r : Option View). is_some r) (sym near.run) ∙ not-true (is_some mid.run) bare.1;
          unshut = sym near.shut ∙ not-true mid.flags.shut parts.1;
          tells = subst (λ (b : Bool). TellsBegun old.request b) is (subst (λ (i : Incoming). TellsBegun i by.begun) near.request by.tells);
          at = ap (λ (c : HttpConn). c.stage) new_is;
          calm = ap (λ (c : HttpConn). c.idled) new_is ∙ near.idled;
        });
        idled = calm (ap (λ (c : HttpConn). c.idled) new_is ∙ near.idled);
        request = λ quiet. ap (λ (c : HttpConn). c.request) new_is ∙ near.request;
      }

  interrupts : (cause : Cause) (mid new : HttpConn) → Near old mid → Interrupts cause mid new → Own ev old new
  interrupts cause mid new near i = by_breaks cause mid new near (is_untouched mid && not mid.flags.shut) refl i

  by_stage : (s : Stage) (new : HttpConn) → EndsAt s old new → Own ev old new
  by_stage (At.Running leg) new is = still _ new refl refl (λ quiet. refl) is
  by_stage s new i = interrupts Causes.Incomplete old new (same old) i

  by_end : (b : Bool) (new : HttpConn) → EndsBy b old new → Own ev old new
  by_end true new is = still old new refl refl (λ quiet. refl) is
  by_end false new at = by_stage old.stage new at

  by_when : (By : HttpConn → HttpConn → Type 0) (b : Bool) (new : HttpConn) → (b ≡ true → By old new → Own ev old new) → When b By old new → Own ev old new
  by_when By true new f by = f refl by
  by_when By false new f is = still old new refl refl (λ quiet. refl) is

  -- ---- bytes of its client

  module _ (mine : is_client_bytes old.flags.c (In ev) ≡ true) where
    fed : {A : Type 0} → is_client_bytes old.flags.c (In ev) ≡ false → A
    fed quiet = absurd (false≢true (sym quiet ∙ mine))

    by_body : (b found : Bool) (mid new : HttpConn) → outline mid.stage ≡ outline old.stage → is_answered mid.stage ≡ is_answered old.stage → mid.idled ≡ old.idled → BodyBy b found mid new → Own ev old new
    by_body true true mid new stage answered idled by =
        still (with_more by.body (record mid { request = by.request })) new (outline_grown by.body mid.stage ∙ stage) idled fed by.is
    by_body true false mid new stage answered idled out = record {
      stage = lacked (ap (λ (c : HttpConn). c.lost) out.is) (out.answered ∙ answered);
      idled = calm (ap (λ (c : HttpConn). c.idled) out.is ∙ idled);
      request = fed;
    }
    by_body false found mid new stage answered idled is = still mid new stage idled fed is

    by_feed : (b : Bool) (bytes : List ℕ) (found : Bool) (new : HttpConn) → FeedsBy b bytes found old new → Own ev old new
    by_feed true bytes found new feed =
        by_body (awaits_body (record old { idle_left = (site_of old).limits.idle_ticks; request = feed.request })) found
        (record old { idle_left = (site_of old).limits.idle_ticks; request = feed.request }) new refl refl refl feed.body
    by_feed false bytes found new is = still (losing (record old { idle_left = (site_of old).limits.idle_ticks })) new refl refl fed is

-- ---- a Tick

module _ (secs : ℕ) (old : HttpConn) where
  abbrev ticked : HttpConn
  ticked = record old { stage = ticked_stage old.stage }

  abbrev counted : HttpConn
  counted = record ticked { idle_left = old.idle_left - 1 }

  near : Near old counted
  near = record { stage = outline_ticked old.stage; idled = refl; request = refl; run = refl; shut = refl }

  by_tick : (b : Bool) (new : HttpConn) → run_settled old.run ≡ b → TicksBy b ticked new → Own (Tick secs) old new
  by_tick false new busy is = still (Tick secs) old ticked new (outline_ticked old.stage) refl (λ quiet. refl) is
  by_tick true new settled by = counts (old.idle_left == 1) by
    where
      idles_by : (begun b : Bool) → begun ≡ b → TellsBegun old.request begun → IdlesBy b counted new → Own (Tick secs) old new
      idles_by begun true some tells i = interrupts (Tick secs) old Causes.IdleTime counted new near i
      idles_by begun false none tells is = record {
        stage = kept (ap (λ (c : HttpConn). outline c.stage) is ∙ outline_ticked old.stage);
        idled = idles (record { tick = refl; settled = settled; tells = subst (λ (b : Bool). TellsBegun old.request b) none tells });
        request = λ quiet. ap (λ (c : HttpConn). c.request) is;
      }

      counts : (b : Bool) → CountsDown b counted new → Own (Tick secs) old new
      counts true i = idles_by i.begun i.begun refl i.tells i.by
      counts false is = still (Tick secs) old counted new (outline_ticked old.stage) refl (λ quiet. refl) is

-- ---- each event

pub own_by : (ev : Event) (old new : HttpConn) → HearsOwn ev old new → Own ev old new
own_by (Accepted peer) old new is = still (Accepted peer) old _ new refl refl (λ quiet. refl) is
own_by (ClientBytes c bytes) old new own =
    by_when (ClientBytes c bytes) old (HearsBytes bytes) (old.flags.c == c) new (λ mine h. by_feed (ClientBytes c bytes) old mine h.fed bytes h.found new h.by) own
own_by (ClientEof c) old new own = by_when (ClientEof c) old HearsEnd (old.flags.c == c) new (λ mine h. by_end (ClientEof c) old (is_taken old.request) new h) own
own_by (ClientGone c) old new own = by_when (ClientGone c) old Goes (old.flags.c == c) new (λ mine is. still (ClientGone c) old _ new refl refl (λ quiet. refl) is) own
own_by (WsBad c) old new own = by_when (WsBad c) old Goes (old.flags.c == c) new (λ mine is. still (WsBad c) old _ new refl refl (λ quiet. refl) is) own
own_by (NoRoom c) old new own = by_when (NoRoom c) old Loses (old.flags.c == c) new (λ mine is. still (NoRoom c) old _ new refl refl (λ quiet. refl) is) own
own_by (Tick secs) old new own = by_tick secs old (run_settled old.run) new refl own
own_by ev old new is = still ev old old new refl refl (λ quiet. refl) is
