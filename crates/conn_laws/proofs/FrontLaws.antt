-- What is known of an exchange, with one item more.
use Rattle.std.proofs.Common.{◌≡◌, ◌≤◌, ◌<◌, ◌^◌, ℕ, ◌+◌, ◌-◌, Bool, true, false, ◌&&◌, ◌||◌, ◌==◌, not, List, [], ◌∷◌, ◌++◌, drop, Option, Some, None, refl, sym, ap, ◌∙◌, subst, append-nil, append_assoc, is_some, if◌then◌else◌, arith, length}
use Rattle.std.specs.Prelude.{nat_eq}
use Rattle.std.specs.List.{list_any, starts_with}
use Rattle.std.proofs.lemmas.Bool.{false≢true, eq-eqb}
use Rattle.host_base.specs.declared.launch.Peer.{Peer}
use Rattle.host_base.specs.declared.limits.Limits.{Limits}
use Rattle.host_base.specs.declared.site.Site.{Site}
use Rattle.host_trace.specs.declared.items.Act.{Act}
use Rattle.host_trace.specs.declared.items.Act.TheVariants.{Write}
use Rattle.host_trace.specs.declared.items.Event.{Event}
use Rattle.host_trace.specs.declared.items.Event.TheVariants.{Accepted, ClientBytes, ClientEof, ClientGone, Wrote, Started, StartFailed, StartFull, ChildBytes, ChildEof, ChildBroken, Took, InputGone, Exited, WsText, WsBinary, WsClosed, WsBad, NoRoom, Tick, Stop}
use Rattle.host_trace.specs.declared.items.Item.{Item}
use Rattle.host_trace.specs.declared.items.Item.TheVariants.{In, Out}
use Rattle.host_trace.specs.Account.{has_unsettled}
use Rattle.host_trace.specs.First.{or_else}
use Rattle.host_trace.specs.Kinds.{bytes_written, is_accepted, is_client_bytes, is_tick, is_upgrade, peer_of_item}
use Rattle.host_trace.specs.Projections.{peers, upgraded}
use Rattle.host_trace.proofs.FirstLaws.{first_front-push, flat_map-push}
use Rattle.host_trace.proofs.ProjectionLaws.{client_out-push, upgraded-push}
use Rattle.reply_writer.proofs.FrontLaws.{front_is, front_stands}
use Rattle.request_reader.specs.Request.{is_begun, read_request, used_by}
use Rattle.trace_model.specs.Breaks.{idled, idles_out, is_idle, is_idle_end}
use Rattle.trace_model.specs.Exchange.{Exchange, all_of, continue_text, first_exchange, pushed, request_bytes, written}
use Rattle.trace_model.specs.Exchanges.{following, left_over}
use Rattle.trace_model.proofs.ExchangeLaws.{request_bytes-push}
use Rattle.exchange_request.specs.declared.incoming.Incoming.{Incoming}
use Rattle.exchange_request.specs.Knows.{KnowsRequest, StandsBy, is_ready, is_taken, limits_of, reading_of}
use Rattle.exchange_request.specs.declared.found.Manner.{Manner}
use Rattle.conn_laws.specs.Idle.{IsLeft, left_after}
use Rattle.conn_laws.proofs.IdleLaws.{counted_down, idle_end}
use Rattle.conn_laws.specs.Front.{Front, IsHeard, KnowsFront, counted, first_peer}
use Rattle.conn_laws.specs.Hearing.{Hears, GoesOn}
use Rattle.conn_laws.specs.FrontLaws.{IsFresh, peer_after}
use Rattle.conn_laws.specs.Moves.{Ending, HasEnded}

-- ---- words

and_true : (b : Bool) → (b && true) ≡ b
and_true true = refl
and_true false = refl

was_false : (old new : Bool) → (old ≡ true → new ≡ true) → new ≡ false → old ≡ false
was_false true new h n = absurd (false≢true (sym n ∙ h refl))
was_false false new h n = refl

was_true : (old new : Bool) → (old ≡ false → new ≡ false) → new ≡ true → old ≡ true
was_true true new h n = refl
was_true false new h n = absurd (false≢true (sym (h refl) ∙ n))

left_false : (a b : Bool) → (a || b) ≡ false → a ≡ false
left_false true b e = e
left_false false b e = refl

or_none : {X : Type 0} (x : Option X) → or_else x None ≡ x
or_none (Some y) = refl
or_none None = refl

some_or : {X : Type 0} (x : Option X) (y : X) (b : Bool) → is_some (or_else x (if b then Some y else None)) ≡ (is_some x || b)
some_or (Some z) y b = refl
some_or None y true = refl
some_or None y false = refl

some_either : {X : Type 0} (x y : Option X) → is_some (or_else x y) ≡ (is_some x || is_some y)
some_either (Some z) y = refl
some_either None y = refl

starts_more : (all more head : List ℕ) → starts_with nat_eq all head ≡ true → starts_with nat_eq (all ++ more) head ≡ true
starts_more all more head is =
    let parts : all ++ more ≡ head ++ (drop (length head) all ++ more) =
    ap (λ (l : List ℕ). l ++ more) (front_is all head is) ∙ append_assoc head (drop (length head) all) more in
    subst (λ (l : List ℕ). starts_with nat_eq l head ≡ true) (sym parts) (front_stands head (drop (length head) all ++ more))

-- ---- the client

first_peer-append : (xs ys : List Peer) → first_peer (xs ++ ys) ≡ or_else (first_peer xs) (first_peer ys)
first_peer-append [] ys = refl
first_peer-append (x ∷ xs) ys = refl

peers-push : (e : Exchange) (x : Item) → peers (all_of (pushed e x)) ≡ peers (all_of e) ++ peer_of_item x
peers-push e x = ap (λ (l : List Item). peers l) (sym (append_assoc e.before e.items (x ∷ []))) ∙ flat_map-push peer_of_item (all_of e) x

-- an item more, and the client that came first
first_peer-push : (peer : Option Peer) (e : Exchange) (x : Item) → peer ≡ first_peer (peers (all_of e))
    → or_else peer (first_peer (peer_of_item x)) ≡ first_peer (peers (all_of (pushed e x)))
first_peer-push peer e x is =
    ap (λ (p : Option Peer). or_else p (first_peer (peer_of_item x))) is
    ∙ sym (first_peer-append (peers (all_of e)) (peer_of_item x)) ∙ ap first_peer (sym (peers-push e x))

peer_then : (peer : Option Peer) (ev : Event) → peer_after peer ev ≡ or_else peer (first_peer (peer_of_item (In ev)))
peer_then peer (Accepted p) = refl
peer_then peer _ = sym (or_none peer)

item_accepts : (x : Item) → is_some (first_peer (peer_of_item x)) ≡ is_accepted x
item_accepts (In (Accepted peer)) = refl
item_accepts (Out act) = refl
item_accepts (In _) = refl

any_accepted : (L : List Item) → is_some (first_peer (peers L)) ≡ list_any is_accepted L
any_accepted [] = refl
any_accepted (x ∷ L) =
    ap is_some (first_peer-append (peer_of_item x) (peers L))
    ∙ (some_either (first_peer (peer_of_item x)) (first_peer (peers L))
    ∙ (ap (λ (b : Bool). b || is_some (first_peer (peers L))) (item_accepts x) ∙ ap (λ (b : Bool). is_accepted x || b) (any_accepted L)))

-- ---- the idle time

idled-push : (site : Site) (c : ℕ) (e : Exchange) (x : Item) → is_some (idled site c (pushed e x)) ≡ (is_some (idled site c e) || idles_out c site e e.items x)
idled-push site c e x =
    ap is_some (first_front-push (idles_out c site e) e.items x) ∙ some_or (idled site c e) (e.items ++ x ∷ []) (idles_out c site e e.items x)

idle_is : (c : ℕ) (items : List Item) (settled : Bool) → settled ≡ not (has_unsettled items c) → upgraded items c ≡ false → settled ≡ is_idle c items
idle_is c items settled is http = is ∙ (sym (and_true (not (has_unsettled items c))) ∙ ap (λ (b : Bool). not (has_unsettled items c) && not b) (sym http))

-- a Tick that idles out
abbrev fires : Item → Bool → ℕ → Bool → Bool → Bool
fires x settled left accepted begun = is_tick x && settled && left == 1 && accepted && not begun

same_order : (s l p n : Bool) → (true && s && l && p && n) ≡ ((s && l) && p && n)
same_order true true p n = refl
same_order true false p n = refl
same_order false l p n = refl

ticks_out : (site : Site) (c : ℕ) (e : Exchange) (ev : Event) (settled : Bool) (left : ℕ) (peer : Option Peer) → settled ≡ not (has_unsettled e.items c)
    → upgraded e.items c ≡ false → IsLeft site.limits c left e.items → peer ≡ first_peer (peers (all_of e))
    → fires (In ev) settled left (is_some peer) (is_begun (request_bytes c e)) ≡ idles_out c site e e.items (In ev)
ticks_out site c e (Tick secs) settled left peer is http idle peer_is =
    same_order settled (left == 1) (is_some peer) (not (is_begun (request_bytes c e)))
    ∙ (ap (λ (b : Bool). b && is_some peer && not (is_begun (request_bytes c e)))
    (ap (λ (b : Bool). b && left == 1) (idle_is c e.items settled is http) ∙ sym (idle_end site.limits c left e.items idle))
    ∙ ap (λ (b : Bool). is_idle_end site.limits c e.items && b && not (is_begun (request_bytes c e))) (ap is_some peer_is ∙ any_accepted (all_of e)))
ticks_out site c e _ settled left peer is http idle peer_is = refl

-- ---- an act

pub acts_keep : (site : Site) (c : ℕ) (peer : Option Peer) (lost reading : Bool) (f : Front) (e : Exchange) (act : Act) → is_upgrade c (Out act) ≡ false
    → KnowsFront site c peer lost reading f e → KnowsFront site c peer lost reading f (pushed e (Out act))
acts_keep site c peer lost reading f e act none k = record {
  number = k.number;
  peer_is = sym (or_none peer) ∙ first_peer-push peer e (Out act) k.peer_is;
  limits = k.limits;
  closing = k.closing;
  idle = counted_down site.limits c f.idle_left e.items (Out act) k.idle;
  http = upgraded-push e.items (Out act) c ∙ rw (k.http, none) refl;
  request = λ l o.
      let r : IsHeard f.request reading (request_bytes c e) = k.request l o in
      subst (λ (bytes : List ℕ). IsHeard f.request reading bytes) (sym (request_bytes-push c e (Out act) ∙ append-nil (request_bytes c e))) r;
  said = λ s.
      subst (λ (bytes : List ℕ). starts_with nat_eq bytes continue_text ≡ true) (sym (client_out-push e.items (Out act) c))
      (starts_more (written c e) (bytes_written c (Out act)) continue_text (k.said s));
  idled_is = λ l o. k.idled_is l o ∙ (sym (or_false (is_some (idled site c e))) ∙ sym (idled-push site c e (Out act)));
}
  where
    or_false : (b : Bool) → (b || false) ≡ b
    or_false true = refl
    or_false false = refl

pub continues_known : (site : Site) (c : ℕ) (peer : Option Peer) (lost reading : Bool) (f : Front) (e : Exchange) → written c e ≡ []
    → KnowsFront site c peer lost reading f e → KnowsFront site c peer lost reading (record f { continued = true }) (pushed e (Out (Write c continue_text)))
continues_known site c peer lost reading f e none k =
    let r = acts_keep site c peer lost reading f e (Write c continue_text) refl k in
    let text : written c (pushed e (Out (Write c continue_text))) ≡ continue_text ++ [] =
    client_out-push e.items (Out (Write c continue_text)) c
    ∙ (ap (λ (l : List ℕ). l ++ bytes_written c (Out (Write c continue_text))) none
    ∙ (ap (λ (b : Bool). if b then continue_text else []) (eq-eqb c c refl) ∙ sym (append-nil continue_text))) in
    record {
      number = r.number;
      peer_is = r.peer_is;
      limits = r.limits;
      closing = r.closing;
      idle = r.idle;
      http = r.http;
      request = r.request;
      said = λ s. subst (λ (bytes : List ℕ). starts_with nat_eq bytes continue_text ≡ true) (sym text) (front_stands continue_text []);
      idled_is = r.idled_is;
    }

-- ---- an event

pub events_known : (site : Site) (c : ℕ) (peer : Option Peer) (lost lost' reading reading' : Bool) (f g : Front) (e : Exchange) (ev : Event) (settled : Bool)
    → 2 ≤ site.limits.head → settled ≡ not (has_unsettled e.items c) → (lost ≡ true → lost' ≡ true) → (reading ≡ false → reading' ≡ false)
    → Hears site.limits c settled peer lost' f (In ev) g → KnowsFront site c peer lost reading f e
    → KnowsFront site c (peer_after peer ev) lost' reading' g (pushed e (In ev))
events_known site c peer lost lost' reading reading' f g e ev settled two is monotone reads h k =
    let two_then : 2 ≤ (limits_of f.request).head = subst (λ (l : Limits). 2 ≤ l.head) (sym k.limits) two in
    record {
      number = h.number ∙ k.number;
      peer_is = peer_then peer ev ∙ first_peer-push peer e (In ev) k.peer_is;
      limits = h.limits_then ∙ k.limits;
      closing = h.closing ∙ k.closing;
      idle = h.idle_left
          ∙ (ap (λ (b : Bool). left_after c site.limits.idle_ticks b f.idle_left (In ev)) (idle_is c e.items settled is k.http)
          ∙ counted_down site.limits c f.idle_left e.items (In ev) k.idle);
      http = upgraded-push e.items (In ev) c ∙ ap (λ (b : Bool). b || false) k.http;
      request = λ l o.
          let r : IsHeard f.request reading (request_bytes c e) = k.request (was_false lost lost' monotone l) o in
          let more = h.heard (request_bytes c e) r.taken two_then r.knows l in
          record {
            taken = more.0;
            knows = subst (λ (bytes : List ℕ). KnowsRequest g.request bytes more.0) (sym (request_bytes-push c e (In ev))) more.1;
            unready = λ t. h.ready ∙ r.unready (was_true reading reading' reads t);
          };
      said = λ s.
          subst (λ (bytes : List ℕ). starts_with nat_eq bytes continue_text ≡ true) (sym (client_out-push e.items (In ev) c))
          (starts_more (written c e) (bytes_written c (In ev)) continue_text (k.said (sym h.continued ∙ s)));
      idled_is = λ l o.
          let r : IsHeard f.request reading (request_bytes c e) = k.request (was_false lost lost' monotone l) o in
          h.idled (request_bytes c e) r.taken two_then r.knows
          ∙ (ap (λ (b : Bool). b || fires (In ev) settled f.idle_left (is_some peer) (is_begun (request_bytes c e))) (k.idled_is (was_false lost lost' monotone l) o)
          ∙ (ap (λ (b : Bool). is_some (idled site c e) || b) (ticks_out site c e ev settled f.idle_left peer is k.http k.idle k.peer_is)
          ∙ sym (idled-push site c e (In ev))));
    }

-- ---- the next exchange

left_all : (ticks left : ℕ) → left ≡ ticks → left ≡ ticks - 0
left_all ticks left is = omega (arith, is)

counted-next : (n : ℕ) → counted (counted n + 1) ≡ counted (n + 1)
counted-next n = omega arith

pub next_known : (site : Site) (c : ℕ) (peer : Option Peer) (lost reading reading' : Bool) (f g : Front) (e : Exchange) (ending : Ending)
    → HasEnded site c e ending → ending.closes ≡ f.closes → ending.idled ≡ f.idled → ending.lost ≡ lost → ending.taken ≡ is_taken f.request
    → GoesOn site.limits f g → KnowsFront site c peer lost reading f e → KnowsFront site c peer lost reading' g (following site c e)
next_known site c peer lost reading reading' f g e ending over closes idle lost_is taken on k = record {
  number = on.number ∙ (ap (λ (n : ℕ). counted (n + 1)) k.number ∙ counted-next e.number);
  peer_is = k.peer_is ∙ ap (λ (l : List Item). first_peer (peers l)) (sym (append-nil (all_of e)));
  limits = on.limits_then ∙ k.limits;
  closing = on.closing ∙ (ap (λ (b : Bool). b || f.closes) k.closing ∙ ap (λ (b : Bool). e.closed || b) (sym closes ∙ over.closes));
  idle = left_all site.limits.idle_ticks g.idle_left on.idle_left;
  http = refl;
  request = λ l o.
      let open_yet : (e.closed || ending.closes) ≡ false = ap (λ (b : Bool). e.closed || b) over.closes ∙ o in
      let r : IsHeard f.request reading (request_bytes c e) = k.request l (left_false e.closed ending.closes open_yet) in
      let left : KnowsRequest g.request (drop (used_by (reading_of f.request (request_bytes c e))) (request_bytes c e)) 0 =
      on.left_over (request_bytes c e) r.taken r.knows (sym taken ∙ over.taken (lost_is ∙ l) open_yet) in
      let same : drop (used_by (reading_of f.request (request_bytes c e))) (request_bytes c e) ≡ request_bytes c (following site c e) =
      ap (λ (m : Limits). drop (used_by (read_request m (request_bytes c e))) (request_bytes c e)) k.limits ∙ sym (append-nil (left_over site c e)) in
      record {
        taken = 0;
        knows = subst (λ (bytes : List ℕ). KnowsRequest g.request bytes 0) same left;
        unready = λ t. on.ready;
      };
  said = λ s. absurd (false≢true (sym on.continued ∙ s));
  idled_is = λ l o. on.idled ∙ (sym idle ∙ over.idled);
}

-- ---- the first exchange

pub starts_known : (site : Site) (c : ℕ) (f : Front) → IsFresh site f → KnowsFront site c None false true f first_exchange
starts_known site c f is = record {
  number = is.number;
  peer_is = refl;
  limits = is.limits_then;
  closing = is.closing;
  idle = left_all site.limits.idle_ticks f.idle_left is.idle_left;
  http = refl;
  request = λ l o. record { taken = 0; knows = is.request; unready = λ t. is.ready };
  said = λ s. absurd (false≢true (sym is.continued ∙ s));
  idled_is = λ l o. is.idled;
}

-- ---- the same front

-- memory that was wanting stays so, and no request is read anew
pub known_less : (site : Site) (c : ℕ) (peer : Option Peer) (lost lost' reading reading' : Bool) (f : Front) (e : Exchange) → (lost ≡ true → lost' ≡ true)
    → (reading ≡ false → reading' ≡ false) → KnowsFront site c peer lost reading f e → KnowsFront site c peer lost' reading' f e
known_less site c peer lost lost' reading reading' f e monotone reads k = record {
  number = k.number;
  peer_is = k.peer_is;
  limits = k.limits;
  closing = k.closing;
  idle = k.idle;
  http = k.http;
  request = λ l o.
      let r : IsHeard f.request reading (request_bytes c e) = k.request (was_false lost lost' monotone l) o in
      record { taken = r.taken; knows = r.knows; unready = λ t. r.unready (was_true reading reading' reads t) };
  said = k.said;
  idled_is = λ l o. k.idled_is (was_false lost lost' monotone l) o;
}

pub known_same : {site site' : Site} {c c' : ℕ} {peer peer' : Option Peer} {lost lost' reading reading' : Bool} {f f' : Front} {e : Exchange} → site' ≡ site → c' ≡ c
    → peer' ≡ peer → (lost ≡ true → lost' ≡ true) → (reading ≡ false → reading' ≡ false) → f' ≡ f → KnowsFront site c peer lost reading f e
    → KnowsFront site' c' peer' lost' reading' f' e
known_same {site} {site'} {c} {c'} {peer} {peer'} {lost} {lost'} {reading} {reading'} {f} {f'} {e} s n p monotone reads same k =
    subst (λ (t : Site). KnowsFront t c' peer' lost' reading' f' e) (sym s)
    (subst (λ (d : ℕ). KnowsFront site d peer' lost' reading' f' e) (sym n)
    (subst (λ (q : Option Peer). KnowsFront site c q lost' reading' f' e) (sym p)
    (subst (λ (g : Front). KnowsFront site c peer lost' reading' g e) (sym same) (known_less site c peer lost lost' reading reading' f e monotone reads k))))

-- the answer of the exchange closes or doesn't, and the request is read no more
pub known_stood : (site : Site) (c : ℕ) (peer : Option Peer) (lost reading : Bool) (f : Front) (e : Exchange) (closes : Bool)
    → KnowsFront site c peer lost reading f e → KnowsFront site c peer lost false (record f { closes = closes }) e
known_stood site c peer lost reading f e closes k = record {
  number = k.number;
  peer_is = k.peer_is;
  limits = k.limits;
  closing = k.closing;
  idle = k.idle;
  http = k.http;
  request = λ l o.
      let r : IsHeard f.request reading (request_bytes c e) = k.request l o in
      record { taken = r.taken; knows = r.knows; unready = λ t. absurd (false≢true t) };
  said = k.said;
  idled_is = k.idled_is;
}

-- another request of the same bytes is known
pub known_request : (site : Site) (c : ℕ) (peer : Option Peer) (lost lost' reading reading' : Bool) (f : Front) (i : Incoming) (e : Exchange) → (lost ≡ true → lost' ≡ true)
    → limits_of i ≡ limits_of f.request
    → (lost' ≡ false → (taken : ℕ) → KnowsRequest f.request (request_bytes c e) taken → (reading ≡ true → is_ready f.request ≡ false) → IsHeard i reading' (request_bytes c e))
    → KnowsFront site c peer lost reading f e → KnowsFront site c peer lost' reading' (record f { request = i }) e
known_request site c peer lost lost' reading reading' f i e monotone limits next k = record {
  number = k.number;
  peer_is = k.peer_is;
  limits = limits ∙ k.limits;
  closing = k.closing;
  idle = k.idle;
  http = k.http;
  request = λ l o.
      let r : IsHeard f.request reading (request_bytes c e) = k.request (was_false lost lost' monotone l) o in
      next l r.taken r.knows r.unready;
  said = k.said;
  idled_is = λ l o. k.idled_is (was_false lost lost' monotone l) o;
}

-- ---- the number

-- below the greatest it is that of the exchange
pub counted_all : (n m : ℕ) → n ≡ counted m → n < 2 ^ 128 - 1 → n ≡ m
counted_all n m is less = omega (arith, is, less)

-- ---- a request that was not found ready

unready_by : (i : Incoming) (bytes : List ℕ) (taken : ℕ) (m : Option Manner) (w : Bool) → is_some m ≡ false → StandsBy i m w bytes taken → taken ≡ 0
unready_by i bytes taken None false none s = s.none_taken
unready_by i bytes taken None true none s = absurd s
unready_by i bytes taken (Some manner) w none s = absurd (false≢true (sym none))

-- nothing was handed out of its body
pub unready_none : (i : Incoming) (bytes : List ℕ) (taken : ℕ) → is_ready i ≡ false → KnowsRequest i bytes taken → KnowsRequest i bytes 0
unready_none i bytes taken none k = subst (λ (n : ℕ). KnowsRequest i bytes n) (unready_by i bytes taken i.manner i.whole none k.stands) k

-- ---- an event but a Tick

-- whether the children are settled says nothing there
pub hears_as : (limits : Limits) (c : ℕ) (settled other : Bool) (peer : Option Peer) (lost : Bool) (f : Front) (x : Item) (g : Front)
    → (is_tick x ≡ true → settled ≡ other) → Hears limits c settled peer lost f x g → Hears limits c other peer lost f x g
hears_as limits c settled other peer lost f x g same h = go (is_tick x) refl
  where
    left_is : (s : Bool) → is_tick x ≡ false → left_after c limits.idle_ticks s f.idle_left x ≡ (if is_accepted x || is_client_bytes c x then limits.idle_ticks else f.idle_left)
    left_is s none = ap (λ (b : Bool). if is_accepted x || is_client_bytes c x then limits.idle_ticks else (if b && s then f.idle_left - 1 else f.idle_left)) none

    fires_not : (s begun : Bool) → is_tick x ≡ false → fires x s f.idle_left (is_some peer) begun ≡ false
    fires_not s begun none = ap (λ (b : Bool). b && s && f.idle_left == 1 && is_some peer && not begun) none

    go : (b : Bool) → is_tick x ≡ b → Hears limits c other peer lost f x g
    go true is = subst (λ (s : Bool). Hears limits c s peer lost f x g) (same is) h
    go false is = record {
      number = h.number;
      limits_then = h.limits_then;
      continued = h.continued;
      closing = h.closing;
      closes = h.closes;
      idle_left = h.idle_left ∙ (left_is settled is ∙ sym (left_is other is));
      ready = h.ready;
      heard = h.heard;
      idled = λ bytes taken two known.
          h.idled bytes taken two known
          ∙ ap (λ (b : Bool). f.idled || b) (fires_not settled (is_begun bytes) is ∙ sym (fires_not other (is_begun bytes) is));
    }
