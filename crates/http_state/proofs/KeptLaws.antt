-- What stays of a connection, and what it stands for.
use Rattle.std.proofs.Common.{◌≡◌, ℕ, Bool, true, false, not, ◌≤◌, List, [], ◌∷◌, ◌++◌, Option, Some, None, refl, sym, ap, ◌∙◌, subst}
use Rattle.host_base.specs.declared.launch.Peer.{Peer}
use Rattle.host_base.specs.declared.site.Site.{Site}
use Rattle.host_trace.specs.declared.items.Event.{Event}
use Rattle.host_trace.specs.declared.items.Item.TheVariants.{In}
use Rattle.child_core.specs.View.{View}
use Rattle.http_state.specs.declared.conn.HttpConn.{HttpConn}
use Rattle.conn_flags.specs.View.{View as Flags, noted}
use Rattle.trace_model.specs.Exchange.{Exchange, pushed}
use Rattle.exchange_stage.specs.declared.stage.Stage.{Stage}
use Rattle.conn_laws.specs.FrontLaws.{peer_after}
use Rattle.conn_laws.specs.Moves.{Move, settles, moved}
use Rattle.conn_laws.proofs.FrontLaws.{events_known, hears_as, known_same, next_known}
use Rattle.conn_laws.proofs.MoveLaws.{belong_together, in_step_parts, moved-append}
use Rattle.http_state.specs.Kept.{Heard, HeardOwn, Kept, Leads, Led, StandsFor, Turned, Within, front_of, is_reading, is_settled_as, flags_of, number_of, peer_of, site_of}
use Rattle.child_core.specs.declared.ending.Ending.TheVariants.{Dropped}
use Rattle.host_trace.specs.Account.{has_unsettled}
use Rattle.host_trace.specs.Kinds.{is_tick}
use Rattle.http_state.specs.Moves.{ended_run, losing}
use Rattle.http_state.specs.Deeds.{Deed, Ends, EndsBy}
use Rattle.http_state.specs.Settles.{Follows, Settles, ending_of, is_over}
use Rattle.http_state.specs.Slot.{run_settled}

pub kept_number : {old new : HttpConn} → Kept old new → number_of new ≡ number_of old
kept_number k = ap (λ (m : Flags). m.c) k.flags

-- ---- what the connection stands for

pub leads_none : (site : Site) (c : ℕ) (old new : HttpConn) → ((e : Exchange) → StandsFor old e → StandsFor new e) → Leads site c old new []
leads_none site c old new keeps e k a = (keeps e k, tt)

-- .. by the same connection
pub leads_as : (site site' : Site) (c c' : ℕ) (old new : HttpConn) (moves : List Move) → site' ≡ site → c' ≡ c → Leads site' c' old new moves → Leads site c old new moves
leads_as site site' c c' old new moves s n l =
    subst (λ (d : ℕ). Leads site d old new moves) n (subst (λ (t : Site). Leads t c' old new moves) s l)

-- .. one after the other
pub led_then : (site : Site) (c : ℕ) (mid new : HttpConn) (e : Exchange) (xs ys : List Move) → Led site c mid e xs → Leads site c mid new ys → Led site c new e (xs ++ ys)
led_then site c mid new e xs ys one two a =
    let parts = in_step_parts site c e xs ys a in
    let first = one parts.0 in
    let later = two (moved site c e xs) first.0 parts.1 in
    (subst (λ (d : Exchange). StandsFor new d) (sym (moved-append site c e xs ys)) later.0, belong_together site c e xs ys first.1 later.1)

pub leads_then : (site site' : Site) (c c' : ℕ) (old mid new : HttpConn) (xs ys : List Move) → site' ≡ site → c' ≡ c → Leads site c old mid xs → Leads site' c' mid new ys
    → Leads site c old new (xs ++ ys)
leads_then site site' c c' old mid new xs ys s n one two e k =
    led_then site c mid new e xs ys (one e k) (leads_as site site' c c' mid new ys s n two)

pub kept_known : {old new : HttpConn} → Kept old new → (e : Exchange) → StandsFor old e → StandsFor new e
kept_known k e = known_same k.site (kept_number k) k.peer_is k.lost k.reading k.front

pub kept_turned : {A : Deed} {old new : HttpConn} → Kept old new → ((n : ℕ) → A old n [] new) → Turned A old new
kept_turned {A} {old} {new} k does = record {
  site = k.site;
  flags = k.flags;
  peer_is = k.peer_is;
  child = k.child;
  moves = [];
  none = refl;
  keeps = leads_none (site_of old) (number_of old) old new (kept_known k);
  does = does;
}

pub kept_same : (conn : HttpConn) → Kept conn conn
kept_same conn = record { site = refl; flags = refl; peer_is = refl; child = λ ks w. w; front = refl; lost = λ l. l; reading = λ r. r }

pub kept_both : {old mid new : HttpConn} → Kept old mid → Kept mid new → Kept old new
kept_both one two = record {
  site = two.site ∙ one.site;
  flags = two.flags ∙ one.flags;
  peer_is = two.peer_is ∙ one.peer_is;
  child = λ ks w. two.child ks (one.child ks w);
  front = two.front ∙ one.front;
  lost = λ l. two.lost (one.lost l);
  reading = λ r. two.reading (one.reading r);
}

pub losing_kept : (conn : HttpConn) → Kept conn (losing conn)
losing_kept conn = record {
  site = refl;
  flags = refl;
  peer_is = refl;
  child = λ ks w. given_up ks conn.run w;
  front = refl;
  lost = λ l. refl;
  reading = λ r. r;
}
  where
    given_up : (ks : List ℕ) (run : Option View) → Within run ks → Within (ended_run Dropped run) ks
    given_up ks None w = w
    given_up ks (Some v) w = w

-- a stage was taken out and put back
pub put_back : {old mid new : HttpConn} {stage was : Stage} → mid ≡ record old { stage = was } → stage ≡ old.stage → new ≡ record mid { stage = stage } → new ≡ old
put_back {old} {mid} {new} {stage} {was} taken is put =
    put ∙ (ap (λ (conn : HttpConn). record conn { stage = stage }) taken ∙ ap (λ (s : Stage). record old { stage = s }) is)

-- ---- the end of an exchange

over_turned : {old new : HttpConn} → is_over old ≡ true → Follows old new → Turned Ends old new
over_turned {old} {new} over f =
    record {
      site = f.site;
      flags = f.flags;
      peer_is = f.peer_is;
      child = λ ks w. subst (λ (r : Option View). Within r ks) (sym f.run) tt;
      moves = settles (ending_of old) ∷ [];
      none = refl;
      keeps = λ e known a.
          let next = next_known (site_of old) (number_of old) (peer_of old) old.lost (is_reading old.stage) (is_reading new.stage) (front_of old) (front_of new) e (ending_of old)
          a.0 refl refl refl refl f.front known in
          (known_same f.site (ap (λ (m : Flags). m.c) f.flags) f.peer_is (λ l. f.lost ∙ l) (λ r. r) refl next, tt);
      does = λ n. subst (λ (b : Bool). EndsBy b old n (settles (ending_of old) ∷ []) new) (sym over) (refl, f);
    }

pub settles_turned : {old new : HttpConn} → Settles old new → Turned Ends old new
settles_turned {old} {new} s = go (is_over old) refl
  where
    go : (b : Bool) → is_over old ≡ b → Turned Ends old new
    go true is = over_turned is (s.over is)
    go false is =
        let same : Turned Ends old old = kept_turned (kept_same old) (λ n. subst (λ (b : Bool). EndsBy b old n [] old) (sym is) (record { none = refl; same = refl })) in
        subst (λ (conn : HttpConn). Turned Ends old conn) (sym (s.on is)) same

-- an event, by the parts that take it into account
pub heard_by : {old mid later new : HttpConn} {ev : Event} (m : Flags) → m ≡ noted (flags_of old) (In ev) → Kept (record old { flags = m }) mid
    → (is_tick (In ev) ≡ true → run_settled mid.run ≡ run_settled old.run) → HeardOwn mid ev later → Settles later new → Heard old ev new
heard_by {old} {mid} {later} {new} {ev} m is one same two three =
    let end : Turned Ends later new = settles_turned three in
    let number : number_of mid ≡ number_of old = ap (λ (v : Flags). v.c) (one.flags ∙ is) in
    let later_number : number_of later ≡ number_of mid = ap (λ (v : Flags). v.c) two.flags in
    record {
      site = end.site ∙ two.site ∙ one.site;
      flags = end.flags ∙ two.flags ∙ one.flags ∙ is;
      peer_is = end.peer_is ∙ two.peer_is ∙ ap (λ (p : Option Peer). peer_after p ev) one.peer_is;
      child = λ ks w. end.child ks (two.child ks (one.child ks w));
      moves = end.moves;
      none = end.none;
      keeps = λ e least settled known.
          let first : StandsFor mid e = known_same one.site number one.peer_is one.lost one.reading one.front known in
          let least_then : 2 ≤ (site_of mid).limits.head = subst (λ (t : Site). 2 ≤ t.limits.head) (sym one.site) least in
          let settled_then : run_settled old.run ≡ is_settled_as mid e = subst (λ (d : ℕ). run_settled old.run ≡ not (has_unsettled e.items d)) (sym number) settled in
          let heard = events_known (site_of mid) (number_of mid) (peer_of mid) mid.lost later.lost (is_reading mid.stage) (is_reading later.stage) (front_of mid) (front_of later)
          e ev (run_settled old.run) least_then settled_then two.lost two.reading
          (hears_as (site_of mid).limits (number_of mid) (run_settled mid.run) (run_settled old.run) (peer_of mid) later.lost (front_of mid) (In ev) (front_of later) same two.front) first in
          let after : StandsFor later (pushed e (In ev)) = known_same two.site later_number two.peer_is (λ l. l) (λ r. r) refl heard in
          leads_as (site_of old) (site_of later) (number_of old) (number_of later) later new end.moves (two.site ∙ one.site) (later_number ∙ number) end.keeps
          (pushed e (In ev)) after;
    }
