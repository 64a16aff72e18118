-- What an event makes of a connection, exactly.
use Rattle.std.proofs.Common.{◌≡◌, ◌≤◌, ℕ, zero, suc, ◌==◌, ◌&&◌, Bool, true, false, not, List, Option, Some, None, Result, Ok, Err, OnOk, OnErr, is_ok, refl, sym, ap, ◌∙◌, subst}
use Rattle.std.proofs.lemmas.Bool.{eq-eqb, ne_eqb}
use Rattle.host_base.specs.declared.launch.Peer.{Peer}
use Rattle.host_base.specs.declared.site.Site.{Site}
use Rattle.host_trace.specs.declared.items.Event.{Event}
use Rattle.host_trace.specs.declared.items.Event.TheVariants.{Accepted, ClientBytes, ClientEof, ClientGone, Wrote, Started, StartFailed, StartFull, ChildBytes, ChildEof, ChildBroken, Took, InputGone, Exited, WsText, WsBinary, WsClosed, WsBad, NoRoom, Tick, Stop}
use Rattle.host_trace.specs.declared.items.Item.TheVariants.{In}
use Rattle.host_trace.specs.Account.{has_unsettled}
use Rattle.host_trace.specs.Kinds.{is_tick}
use Rattle.child_core.specs.declared.ending.Ending.TheVariants.{Dropped}
use Rattle.child_core.specs.View.{View}
use Rattle.conn_flags.specs.View.{View as Flags, noted}
use Rattle.exchange_request.specs.Knows.{HandsOut, KnowsRequest, is_ready, is_taken, limits_of}
use Rattle.exchange_request.specs.declared.incoming.Incoming.{Incoming}
use Rattle.exchange_stage.specs.declared.stage.Stage.{Stage}
use Rattle.exchange_stage.specs.declared.stage.Stage.TheVariants as At
use Rattle.conn_laws.proofs.FrontLaws.{events_known, hears_as, known_same}
use Rattle.http_state.specs.declared.conn.HttpConn.{HttpConn}
use Rattle.http_state.specs.Hears.{BodyBy, Hears, HearsBody, HearsOwn, Offers, awaits_body, RunsOut, When, keeps_of, offered_run, takes_body, told_run}
use Rattle.http_state.specs.Kept.{HeardOwn, Kept, StandsFor, front_of, is_reading, is_settled_as, flags_of, number_of, peer_of, site_of}
use Rattle.http_state.specs.Moves.{ended_run, grown_stage, losing}
use Rattle.http_state.specs.Settles.{Settles, is_answered}
use Rattle.http_state.specs.Slot.{run_settled}

-- what was offered to a run that is given up doesn't matter
offered_lost : (takes whole : Bool) (body : List ℕ) (run : Option View) → ended_run Dropped (offered_run takes body whole run) ≡ ended_run Dropped run
offered_lost true whole body None = refl
offered_lost true whole body (Some v) = refl
offered_lost false whole body run = refl

runs_out : (old : HttpConn) (stage : Stage) (run : Option View) → is_answered stage ≡ is_answered old.stage → ended_run Dropped run ≡ ended_run Dropped old.run
    → RunsOut old (losing (record old { stage = stage; run = run }))
runs_out old stage run answered dropped = record {
  is = ap (λ (r : Option View). record old { stage = stage; lost = true; run = r }) dropped;
  answered = answered;
}

takes_same : (body : List ℕ) (s : Stage) (run : Option View) → takes_body (grown_stage body s) run ≡ takes_body s run
takes_same body (At.Unstarted (suc hop) request) run = refl
takes_same body _ run = refl

-- the child, where it takes it, is offered a body
abbrev offered_to : List ℕ → HttpConn → HttpConn
offered_to body conn = record conn { run = offered_run (takes_body conn.stage conn.run) body (is_taken conn.request) conn.run }

-- a body was kept and offered, or memory ran out for one of both
pub offers_by : {A E : Type 0} (old mid late new : HttpConn) (body : List ℕ) (kept offered : Result A E) (found : Bool)
    → OnOk kept (mid ≡ record old { stage = grown_stage body old.stage }) → mid ≡ record old { stage = mid.stage } → is_answered mid.stage ≡ is_answered old.stage
    → OnOk offered (late ≡ offered_to body mid) → OnErr offered (late ≡ mid) → found ≡ (is_ok kept && is_ok offered)
    → (found ≡ true → new ≡ late) → (found ≡ false → new ≡ losing late) → Offers found body old new
offers_by old mid late new body (Ok x) (Ok y) found grown rest answered given none both there lost =
    subst (λ (b : Bool). Offers b body old new) (sym both)
    (there both ∙ (given ∙ (ap (offered_to body) grown
    ∙ ap (λ (b : Bool). record old { stage = grown_stage body old.stage; run = offered_run b body (is_taken old.request) old.run }) (takes_same body old.stage old.run))))
offers_by old mid late new body (Ok x) (Err y) found grown rest answered given none both there lost =
    subst (λ (b : Bool). Offers b body old new) (sym both)
    (subst (λ (conn : HttpConn). RunsOut old conn) (sym (lost both ∙ ap losing (none ∙ rest))) (runs_out old mid.stage old.run answered refl))
offers_by old mid late new body (Err x) (Ok y) found grown rest answered given none both there lost =
    subst (λ (b : Bool). Offers b body old new) (sym both)
    (subst (λ (conn : HttpConn). RunsOut old conn) (sym (lost both ∙ ap losing (given ∙ ap (offered_to body) rest)))
    (runs_out old mid.stage (offered_run (takes_body mid.stage old.run) body (is_taken old.request) old.run) answered
    (offered_lost (takes_body mid.stage old.run) (is_taken old.request) body old.run)))
offers_by old mid late new body (Err x) (Err y) found grown rest answered given none both there lost =
    subst (λ (b : Bool). Offers b body old new) (sym both)
    (subst (λ (conn : HttpConn). RunsOut old conn) (sym (lost both ∙ ap losing (none ∙ rest))) (runs_out old mid.stage old.run answered refl))

-- ---- by whose client it is

pub own_elsewhere : (By : HttpConn → HttpConn → Type 0) (old : HttpConn) (d : ℕ) → (old.flags.c ≡ d → ⊥) → When (old.flags.c == d) By old old
own_elsewhere By old d other = subst (λ (b : Bool). When b By old old) (sym (ne_eqb old.flags.c d other)) refl

pub own_here : (By : HttpConn → HttpConn → Type 0) (old new : HttpConn) (d : ℕ) → old.flags.c ≡ d → By old new → When (old.flags.c == d) By old new
own_here By old new d same by = subst (λ (b : Bool). When b By old new) (sym (eq-eqb old.flags.c d same)) by

-- an event that no part but the flags and the child takes into account
pub own_other : (old : HttpConn) (ev : Event) → ((p : Peer) → ev ≡ Accepted p → ⊥) → ((d : ℕ) (bytes : List ℕ) → ev ≡ ClientBytes d bytes → ⊥) → ((d : ℕ) → ev ≡ ClientEof d → ⊥)
    → ((d : ℕ) → ev ≡ ClientGone d → ⊥) → ((d : ℕ) → ev ≡ WsBad d → ⊥) → ((d : ℕ) → ev ≡ NoRoom d → ⊥) → ((secs : ℕ) → ev ≡ Tick secs → ⊥) → HearsOwn ev old old
own_other old (Accepted p) a b e g w n t = absurd (a p refl)
own_other old (ClientBytes d bytes) a b e g w n t = absurd (b d bytes refl)
own_other old (ClientEof d) a b e g w n t = absurd (e d refl)
own_other old (ClientGone d) a b e g w n t = absurd (g d refl)
own_other old (WsBad d) a b e g w n t = absurd (w d refl)
own_other old (NoRoom d) a b e g w n t = absurd (n d refl)
own_other old (Tick secs) a b e g w n t = absurd (t secs refl)
own_other old (Wrote d n) a b e g w m t = refl
own_other old (Started k) a b e g w n t = refl
own_other old (StartFailed k) a b e g w n t = refl
own_other old (StartFull k seen) a b e g w n t = refl
own_other old (ChildBytes k bytes) a b e g w n t = refl
own_other old (ChildEof k) a b e g w n t = refl
own_other old (ChildBroken k) a b e g w n t = refl
own_other old (Took k n) a b e g w m t = refl
own_other old (InputGone k) a b e g w n t = refl
own_other old (Exited k) a b e g w n t = refl
own_other old (WsText d bytes) a b e g w n t = refl
own_other old (WsBinary d) a b e g w n t = refl
own_other old (WsClosed d) a b e g w n t = refl
own_other old Stop a b e g w n t = refl

-- an event, by the parts that take it into account
pub hears_by : (old mid later new : HttpConn) (ev : Event) (m : Flags) (found : Bool) → m ≡ noted (flags_of old) (In ev) → Kept (record old { flags = m }) mid
    → (is_tick (In ev) ≡ true → run_settled mid.run ≡ run_settled old.run) → mid ≡ told_run ev found (record old { flags = m }) → (found ≡ false → keeps_of old.run ev ≡ true)
    → HeardOwn mid ev later → HearsOwn ev mid later → Settles later new → Hears old ev new
hears_by old mid later new ev m found is one same told memory two own three =
    let number : number_of mid ≡ number_of old = ap (λ (v : Flags). v.c) (one.flags ∙ is) in
    let later_number : number_of later ≡ number_of mid = ap (λ (v : Flags). v.c) two.flags in
    record {
      found = found;
      memory = memory;
      mid = later;
      own = subst (λ (conn : HttpConn). HearsOwn ev conn later) (told ∙ ap (λ (v : Flags). told_run ev found (record old { flags = v })) is) own;
      lasts = λ l. two.lost (ap (λ (conn : HttpConn). conn.lost) told ∙ (same_lost found ∙ l));
      keeps = λ e least settled known.
          let first : StandsFor mid e = known_same one.site number one.peer_is one.lost one.reading one.front known in
          let least_then : 2 ≤ (site_of mid).limits.head = subst (λ (t : Site). 2 ≤ t.limits.head) (sym one.site) least in
          let settled_then : run_settled old.run ≡ is_settled_as mid e = subst (λ (d : ℕ). run_settled old.run ≡ not (has_unsettled e.items d)) (sym number) settled in
          let heard = events_known (site_of mid) (number_of mid) (peer_of mid) mid.lost later.lost (is_reading mid.stage) (is_reading later.stage) (front_of mid) (front_of later)
          e ev (run_settled old.run) least_then settled_then two.lost two.reading
          (hears_as (site_of mid).limits (number_of mid) (run_settled mid.run) (run_settled old.run) (peer_of mid) later.lost (front_of mid) (In ev) (front_of later) same two.front) first in
          known_same two.site later_number two.peer_is (λ l. l) (λ r. r) refl heard;
      settles = three;
    }
  where
    same_lost : (f : Bool) → (told_run ev f (record old { flags = m })).lost ≡ (told_run ev f old).lost
    same_lost true = refl
    same_lost false = refl

-- ---- a body

pub not_reading : (s : Stage) → (s ≡ At.Reading → ⊥) → is_reading s ≡ false
not_reading At.Reading other = absurd (other refl)
not_reading _ other = refl

-- bytes of a body came for a request that was found ready and is not whole
pub body_taken : (old new : HttpConn) (found : Bool) (request : Incoming) (body : List ℕ) → is_reading old.stage ≡ false → is_taken old.request ≡ false → is_ready old.request ≡ true
    → limits_of request ≡ limits_of old.request → is_ready request ≡ is_ready old.request
    → ((bytes : List ℕ) (taken : ℕ) → KnowsRequest old.request bytes taken → HandsOut request bytes taken body) → Offers found body (record old { request = request }) new → HearsBody found old new
body_taken old new found request body unread open_yet some limits ready hands offers =
    subst (λ (b : Bool). BodyBy b found old new) (sym awaits) (by_found found offers)
  where
    awaits : awaits_body old ≡ true
    awaits =
        ap (λ (b : Bool). not b && not (is_taken old.request) && is_ready old.request) unread
        ∙ (ap (λ (b : Bool). not b && is_ready old.request) open_yet ∙ some)

    by_found : (b : Bool) → Offers b body (record old { request = request }) new → BodyBy true b old new
    by_found true is = record { request = request; body = body; limits = limits; ready = ready; hands = hands; is = is }
    by_found false out = record { is = out.is; answered = out.answered }
