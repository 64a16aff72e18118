-- What events make of a connection.
use Rattle.std.proofs.Common.{◌≡◌, ◌⊎◌, inl, inr, ◌≤◌, ℕ, ◌-◌, ◌==◌, Bool, true, false, ◌||◌, ◌&&◌, not, List, ◌++◌, [], Option, Some, None, is_some, refl, sym, ap, ◌∙◌, subst, append-nil, if◌then◌else◌}
use Rattle.std.proofs.lemmas.Bool.{false≢true, eq-eqb, ne_eqb}
use Rattle.host_base.specs.declared.launch.Peer.{Peer}
use Rattle.host_trace.specs.declared.items.Event.{Event}
use Rattle.host_trace.specs.declared.items.Event.TheVariants.{Accepted, ClientBytes, ClientEof, ClientGone, Wrote, Started, StartFailed, StartFull, ChildBytes, ChildEof, ChildBroken, Took, InputGone, Exited, WsText, WsBinary, WsClosed, WsBad, NoRoom, Tick, Stop}
use Rattle.host_trace.specs.declared.items.Item.TheVariants.{In}
use Rattle.host_trace.specs.First.{or_else}
use Rattle.host_trace.specs.Kinds.{bytes_heard, is_accepted, is_client_bytes, is_tick}
use Rattle.request_reader.specs.Request.{is_begun}
use Rattle.exchange_request.specs.declared.incoming.Incoming.{Incoming}
use Rattle.exchange_request.specs.Knows.{KnowsRequest, is_ready, limits_of}
use Rattle.exchange_stage.specs.declared.stage.Stage.{Stage}
use Rattle.exchange_stage.specs.declared.stage.Stage.TheVariants.{Reading, Rejected, Interrupted, Refused, Unstarted, Starting, Running, Finishing, Answered, Silent}
use Rattle.conn_laws.specs.Front.{Front}
use Rattle.conn_laws.specs.Hearing.{Hears}
use Rattle.conn_laws.specs.FrontLaws.{peer_after}
use Rattle.http_state.specs.declared.conn.HttpConn.{HttpConn}
use Rattle.http_state.specs.Kept.{HasChildIn, HeardOwn, Kept, front_of, is_reading, number_of, peer_of, site_of}
use Rattle.http_state.specs.Moves.{IdlesOut, OnlyBody, ticked_stage}
use Rattle.http_state.specs.Slot.{run_settled}

or_false : (b : Bool) → (b || false) ≡ b
or_false true = refl
or_false false = refl

-- ---- an event that is none of Accepted, bytes of the client and a Tick

pub record IsOther (c : ℕ) (peer : Option Peer) (ev : Event) : Type 0 where
  pub anew : (is_accepted (In ev) || is_client_bytes c (In ev)) ≡ false
  pub tick : is_tick (In ev) ≡ false
  pub bytes : bytes_heard c (In ev) ≡ []
  pub peer_is : peer_after peer ev ≡ peer

pub is_other : (c : ℕ) (peer : Option Peer) (ev : Event) → ((p : Peer) → ev ≡ Accepted p → ⊥) → ((d : ℕ) (bytes : List ℕ) → ev ≡ ClientBytes d bytes → ⊥)
    → ((secs : ℕ) → ev ≡ Tick secs → ⊥) → IsOther c peer ev
is_other c peer (Accepted p) a b t = absurd (a p refl)
is_other c peer (ClientBytes d bytes) a b t = absurd (b d bytes refl)
is_other c peer (ChildBytes k bytes) a b t = record { anew = refl; tick = refl; bytes = refl; peer_is = refl }
is_other c peer (WsText d bytes) a b t = record { anew = refl; tick = refl; bytes = refl; peer_is = refl }
is_other c peer (Tick secs) a b t = absurd (t secs refl)
is_other c peer _ a b t = record { anew = refl; tick = refl; bytes = refl; peer_is = refl }

-- the client failed, or a frame of its WebSocket was refused
pub is_gone : (c : ℕ) (peer : Option Peer) (ev : Event) (d : ℕ) → (ev ≡ ClientGone d) ⊎ (ev ≡ WsBad d) → IsOther c peer ev
is_gone c peer ev d (inl is) = subst (λ (e : Event). IsOther c peer e) (sym is) (record { anew = refl; tick = refl; bytes = refl; peer_is = refl })
is_gone c peer ev d (inr is) = subst (λ (e : Event). IsOther c peer e) (sym is) (record { anew = refl; tick = refl; bytes = refl; peer_is = refl })

-- bytes of another's client
pub is_others_bytes : (c : ℕ) (peer : Option Peer) (d : ℕ) (bytes : List ℕ) → (c ≡ d → ⊥) → IsOther c peer (ClientBytes d bytes)
is_others_bytes c peer d bytes other =
    let differs : (c == d) ≡ false = ne_eqb c d other in
    record { anew = differs; tick = refl; bytes = ap (λ (b : Bool). if b then bytes else []) differs; peer_is = refl }

pub heard_kept : {old new : HttpConn} {ev : Event} → IsOther (number_of old) (peer_of old) ev → Kept old new → HeardOwn old ev new
heard_kept {old} {new} {ev} o k = record {
  site = k.site;
  flags = k.flags;
  peer_is = k.peer_is ∙ sym o.peer_is;
  child = k.child;
  lost = k.lost;
  reading = k.reading;
  front = subst (λ (f : Front). Hears (site_of old).limits (number_of old) (run_settled old.run) (peer_of old) new.lost (front_of old) (In ev) f) (sym k.front) (record {
    number = refl;
    limits_then = refl;
    continued = refl;
    closing = refl;
    closes = refl;
    idle_left = sym (still (is_accepted (In ev) || is_client_bytes (number_of old) (In ev)) (is_tick (In ev)) o.anew o.tick);
    ready = refl;
    heard = λ bytes taken two known l. (taken, subst (λ (all : List ℕ). KnowsRequest old.request all taken) (sym (ap (λ (more : List ℕ). bytes ++ more) o.bytes ∙ append-nil bytes)) known);
    idled = λ bytes taken two known.
        sym (or_false old.idled)
        ∙ ap (λ (b : Bool). old.idled || (b && run_settled old.run && old.idle_left == 1 && is_some (peer_of old) && not (is_begun bytes))) (sym o.tick);
  });
}
  where
    still : (anew tick : Bool) → anew ≡ false → tick ≡ false
        → (if anew then (site_of old).limits.idle_ticks else (if tick && run_settled old.run then old.idle_left - 1 else old.idle_left)) ≡ old.idle_left
    still true tick a t = absurd (false≢true (sym a))
    still false true a t = absurd (false≢true (sym t))
    still false false a t = refl

-- ---- Accepted

pub heard_accepted : (old : HttpConn) (peer : Peer) (p : Option Peer) (left : ℕ) → p ≡ or_else (peer_of old) (Some peer) → left ≡ (site_of old).limits.idle_ticks
    → HeardOwn old (Accepted peer) (record old { peer = p; idle_left = left })
heard_accepted old peer p left is anew = record {
  site = refl;
  flags = refl;
  peer_is = is;
  child = λ ks w. w;
  lost = λ l. l;
  reading = λ r. r;
  front = record {
    number = refl;
    limits_then = refl;
    continued = refl;
    closing = refl;
    closes = refl;
    idle_left = anew;
    ready = refl;
    heard = λ bytes taken two known l. (taken, subst (λ (all : List ℕ). KnowsRequest old.request all taken) (sym (append-nil bytes)) known);
    idled = λ bytes taken two known. sym (or_false old.idled);
  };
}

pub first_client : (old : Option Peer) (peer : Peer) → is_some old ≡ false → Some peer ≡ or_else old (Some peer)
first_client None peer none = refl
first_client (Some p) peer none = absurd (false≢true (sym none))

pub same_client : (old : Option Peer) (peer : Peer) → is_some old ≡ true → old ≡ or_else old (Some peer)
same_client None peer some = absurd (false≢true some)
same_client (Some p) peer some = refl

-- ---- bytes of the client

pub only_body : {old new : HttpConn} (i : Incoming) → Kept (record old { request = i }) new → limits_of i ≡ limits_of old.request → is_ready i ≡ is_ready old.request
    → ((bytes : List ℕ) (taken : ℕ) → KnowsRequest old.request bytes taken → (taken' : ℕ) × KnowsRequest i bytes taken') → OnlyBody old new
only_body {old} {new} i k limits ready knows =
    let request : new.request ≡ i = ap (λ (f : Front). f.request) k.front in
    record {
      stays = record {
        site = k.site;
        flags = k.flags;
        peer_is = k.peer_is;
        child = k.child;
        lost = k.lost;
        reading = k.reading;
        front = ap (λ (j : Incoming). record (front_of old) { request = j }) request ∙ sym k.front;
      };
      limits = ap (λ (j : Incoming). limits_of j) request ∙ limits;
      ready = ap (λ (j : Incoming). is_ready j) request ∙ ready;
      knows = λ bytes taken known l.
          let more = knows bytes taken known in
          (more.0, subst (λ (j : Incoming). KnowsRequest j bytes more.0) (sym request) more.1);
    }

-- the request heard them, and what came of its body was offered
pub heard_bytes : {old fed new : HttpConn} (bytes : List ℕ) → fed ≡ record old { idle_left = (site_of old).limits.idle_ticks; request = fed.request }
    → limits_of fed.request ≡ limits_of old.request → is_ready fed.request ≡ is_ready old.request
    → ((all : List ℕ) (taken : ℕ) → KnowsRequest old.request all taken → 2 ≤ (limits_of old.request).head → KnowsRequest fed.request (all ++ bytes) taken)
    → OnlyBody fed new → HeardOwn old (ClientBytes (number_of old) bytes) new
heard_bytes {old} {fed} {new} bytes is limits ready knows body =
    let mine : (number_of old == number_of old) ≡ true = eq-eqb (number_of old) (number_of old) refl in
    record {
      site = body.stays.site ∙ ap (λ (conn : HttpConn). site_of conn) is;
      flags = body.stays.flags ∙ ap (λ (conn : HttpConn). conn.flags) is;
      peer_is = body.stays.peer_is ∙ ap (λ (conn : HttpConn). peer_of conn) is;
      child = λ ks w. body.stays.child ks (subst (λ (conn : HttpConn). HasChildIn conn ks) (sym is) w);
      lost = λ l. body.stays.lost (ap (λ (conn : HttpConn). conn.lost) is ∙ l);
      reading = λ r. body.stays.reading (ap (λ (conn : HttpConn). is_reading conn.stage) is ∙ r);
      front = record {
        number = ap (λ (f : Front). f.number) (sym body.stays.front) ∙ ap (λ (conn : HttpConn). conn.number) is;
        limits_then = body.limits ∙ limits;
        continued = ap (λ (f : Front). f.continued) (sym body.stays.front) ∙ ap (λ (conn : HttpConn). conn.continued) is;
        closing = ap (λ (f : Front). f.closing) (sym body.stays.front) ∙ ap (λ (conn : HttpConn). conn.closing) is;
        closes = ap (λ (f : Front). f.closes) (sym body.stays.front) ∙ ap (λ (conn : HttpConn). conn.closes) is;
        idle_left = ap (λ (f : Front). f.idle_left) (sym body.stays.front) ∙ (ap (λ (conn : HttpConn). conn.idle_left) is
            ∙ ap (λ (b : Bool). if b then (site_of old).limits.idle_ticks else old.idle_left) (sym mine));
        ready = body.ready ∙ ready;
        heard = λ all taken two known l.
            let more = body.knows (all ++ bytes) taken (knows all taken known two) l in
            (more.0, subst (λ (text : List ℕ). KnowsRequest new.request (all ++ text) more.0) (ap (λ (b : Bool). if b then bytes else []) (sym mine)) more.1);
        idled = λ all taken two known.
            ap (λ (f : Front). f.idled) (sym body.stays.front) ∙ (ap (λ (conn : HttpConn). conn.idled) is ∙ sym (or_false old.idled));
      };
    }

-- .. or memory ran out
pub heard_without : {old new : HttpConn} (bytes : List ℕ) → Kept (record old { idle_left = (site_of old).limits.idle_ticks }) new → new.lost ≡ true
    → HeardOwn old (ClientBytes (number_of old) bytes) new
heard_without {old} {new} bytes k lost =
    let mine : (number_of old == number_of old) ≡ true = eq-eqb (number_of old) (number_of old) refl in
    record {
      site = k.site;
      flags = k.flags;
      peer_is = k.peer_is;
      child = k.child;
      lost = k.lost;
      reading = k.reading;
      front = record {
        number = ap (λ (f : Front). f.number) k.front;
        limits_then = ap (λ (f : Front). limits_of f.request) k.front;
        continued = ap (λ (f : Front). f.continued) k.front;
        closing = ap (λ (f : Front). f.closing) k.front;
        closes = ap (λ (f : Front). f.closes) k.front;
        idle_left = ap (λ (f : Front). f.idle_left) k.front ∙ ap (λ (b : Bool). if b then (site_of old).limits.idle_ticks else old.idle_left) (sym mine);
        ready = ap (λ (f : Front). is_ready f.request) k.front;
        heard = λ all taken two known l. absurd (false≢true (sym l ∙ lost));
        idled = λ all taken two known. ap (λ (f : Front). f.idled) k.front ∙ sym (or_false old.idled);
      };
    }

-- ---- a Tick

ticked_reads : (stage : Stage) → is_reading (ticked_stage stage) ≡ is_reading stage
ticked_reads Reading = refl
ticked_reads _ = refl

-- .. that doesn't count
pub heard_tick_idly : (old : HttpConn) (secs : ℕ) → run_settled old.run ≡ false → HeardOwn old (Tick secs) (record old { stage = ticked_stage old.stage })
heard_tick_idly old secs busy = record {
  site = refl;
  flags = refl;
  peer_is = refl;
  child = λ ks w. w;
  lost = λ l. l;
  reading = λ r. ticked_reads old.stage ∙ r;
  front = record {
    number = refl;
    limits_then = refl;
    continued = refl;
    closing = refl;
    closes = refl;
    idle_left = ap (λ (b : Bool). if b then old.idle_left - 1 else old.idle_left) (sym busy);
    ready = refl;
    heard = λ bytes taken two known l. (taken, subst (λ (all : List ℕ). KnowsRequest old.request all taken) (sym (append-nil bytes)) known);
    idled = λ bytes taken two known.
        sym (or_false old.idled) ∙ ap (λ (b : Bool). old.idled || (true && b && old.idle_left == 1 && is_some (peer_of old) && not (is_begun bytes))) (sym busy);
  };
}

-- .. that counts
pub heard_tick_counted : (old : HttpConn) (secs left : ℕ) → run_settled old.run ≡ true → left ≡ old.idle_left - 1 → (old.idle_left == 1) ≡ false
    → HeardOwn old (Tick secs) (record old { idle_left = left; stage = ticked_stage old.stage })
heard_tick_counted old secs left idle counted more = record {
  site = refl;
  flags = refl;
  peer_is = refl;
  child = λ ks w. w;
  lost = λ l. l;
  reading = λ r. ticked_reads old.stage ∙ r;
  front = record {
    number = refl;
    limits_then = refl;
    continued = refl;
    closing = refl;
    closes = refl;
    idle_left = counted ∙ ap (λ (b : Bool). if b then old.idle_left - 1 else old.idle_left) (sym idle);
    ready = refl;
    heard = λ bytes taken two known l. (taken, subst (λ (all : List ℕ). KnowsRequest old.request all taken) (sym (append-nil bytes)) known);
    idled = λ bytes taken two known.
        sym (or_false old.idled)
        ∙ (ap (λ (b : Bool). old.idled || (true && true && b && is_some (peer_of old) && not (is_begun bytes))) (sym more)
        ∙ ap (λ (b : Bool). old.idled || (true && b && old.idle_left == 1 && is_some (peer_of old) && not (is_begun bytes))) (sym idle));
  };
}

-- .. that is the last one of the idle time
pub heard_tick_last : {new : HttpConn} (old : HttpConn) (secs left : ℕ) → run_settled old.run ≡ true → left ≡ old.idle_left - 1 → (old.idle_left == 1) ≡ true
    → IdlesOut (record old { idle_left = left; stage = ticked_stage old.stage }) new → HeardOwn old (Tick secs) new
heard_tick_last {new} old secs left idle counted last o = record {
  site = o.stays.site;
  flags = o.stays.flags;
  peer_is = o.stays.peer_is;
  child = o.stays.child;
  lost = o.stays.lost;
  reading = λ r. o.stays.reading (ticked_reads old.stage ∙ r);
  front = record {
    number = ap (λ (f : Front). f.number) (sym o.stays.front);
    limits_then = ap (λ (f : Front). limits_of f.request) (sym o.stays.front);
    continued = ap (λ (f : Front). f.continued) (sym o.stays.front);
    closing = ap (λ (f : Front). f.closing) (sym o.stays.front);
    closes = ap (λ (f : Front). f.closes) (sym o.stays.front);
    idle_left = ap (λ (f : Front). f.idle_left) (sym o.stays.front) ∙ (counted ∙ ap (λ (b : Bool). if b then old.idle_left - 1 else old.idle_left) (sym idle));
    ready = ap (λ (f : Front). is_ready f.request) (sym o.stays.front);
    heard = λ bytes taken two known l. (
      taken,
      subst (λ (i : Incoming). KnowsRequest i (bytes ++ []) taken) (ap (λ (f : Front). f.request) o.stays.front)
          (subst (λ (all : List ℕ). KnowsRequest old.request all taken) (sym (append-nil bytes)) known),
    );
    idled = λ bytes taken two known.
        o.idled bytes taken two known
        ∙ (ap (λ (b : Bool). old.idled || (true && true && b && is_some (peer_of old) && not (is_begun bytes))) (sym last)
        ∙ ap (λ (b : Bool). old.idled || (true && b && old.idle_left == 1 && is_some (peer_of old) && not (is_begun bytes))) (sym idle));
  };
}
