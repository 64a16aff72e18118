-- The handshake of a request for which no script was started is accepted.
use Rattle.std.proofs.Common.{◌≡◌, ◌≤◌, ℕ, zero, suc, Bool, true, false, List, [], ◌∷◌, Option, Some, None, Ok, Err, refl, ap, subst, ◌∙◌, arith}
use Rattle.std.specs.Prelude.{not, if◌then◌else◌, unwrap_or}
use Rattle.std.proofs.lemmas.Bool.{and_parts, false≢true}
use Rattle.host_base.specs.declared.cause.Cause.TheVariants.{BadHandshake, OriginRefused, UpgradeNeeded}
use Rattle.host_base.specs.declared.launch.Peer.{Peer}
use Rattle.host_base.specs.declared.request.Framing.{Framing}
use Rattle.host_base.specs.declared.request.Framing.TheVariants.{Empty, Length, Chunked}
use Rattle.host_base.specs.declared.request.Request.{Request}
use Rattle.host_base.specs.declared.site.Mapped.{Mapped}
use Rattle.host_base.specs.declared.site.Site.{Site}
use Rattle.meta_variables.specs.Launch.{launch_of}
use Rattle.request_reader.specs.Request.{is_length, with_body}
use Rattle.ws_handshake.specs.Handshake.{accept_value, asks_version_13, asks_websocket, brings_key, handshake, is_bodyless, is_key, is_origin_taken, key_of, passes}
use Rattle.host_trace.specs.Projections.{peers}
use Rattle.trace_model.specs.Exchange.{Exchange, all_of, reading, request_bytes}
use Rattle.trace_model.specs.Launches.{launch_by}
use Rattle.trace_model.specs.Legs.{Leg}
use Rattle.trace_model.specs.Places.{origins_of, place_of}
use Rattle.conn_laws.specs.Hops.{Leads, SameLegs, StillReaches}
use Rattle.trace_model.specs.Answer.{request_of_hop}
use Rattle.exchange_laws.specs.Walked.{HasChildren}
use Rattle.talk_laws.specs.Welcome.{HandshakesAreWelcome}
use Rattle.talk_laws.proofs.WholeLaws.{IsRead, bodyless_read}

-- ---- no local redirect led to it

leads_up : (site : Site) (c : ℕ) (e : Exchange) (left hop : ℕ) (request : Request) (legs : List Leg) (left' hop' : ℕ) (request' : Request)
    → Leads site c e left hop request legs left' hop' request' → hop ≤ hop'
leads_up site c e left hop request [] left' hop' request' l = omega (arith, l.1)
leads_up site c e zero hop request (leg ∷ legs) left' hop' request' l = absurd l
leads_up site c e (suc left) hop request (leg ∷ legs) left' hop' request' l =
    let up : suc hop ≤ hop' = leads_up site c e left (suc hop) (request_of_hop request l.0) legs left' hop' request' l.2 in
    omega (arith, up)

leads_none : (site : Site) (c : ℕ) (e : Exchange) (left : ℕ) (request : Request) (legs : List Leg) (left' : ℕ) (request' : Request)
    → Leads site c e left 0 request legs left' 0 request' → (legs ≡ []) × (request ≡ request')
leads_none site c e left request [] left' request' l = (refl, l.2)
leads_none site c e zero request (leg ∷ legs) left' request' l = absurd l
leads_none site c e (suc left) request (leg ∷ legs) left' request' l =
    let up : 1 ≤ 0 = leads_up site c e left 1 (request_of_hop request l.0) legs left' 0 request' l.2 in
    absurd (omega (arith, up))

same_none : (legs legs_then : List Leg) → legs_then ≡ [] → SameLegs legs legs_then → legs ≡ []
same_none [] legs_then none same = refl
same_none (leg ∷ legs) [] none same = absurd same
same_none (leg ∷ legs) (first ∷ rest) none same = absurd (cc)

-- ---- the request has no body

taken_bodyless : (request : Request) (origins : Option (List (List ℕ))) (value : List ℕ) → handshake request origins ≡ Ok value → is_bodyless request.framing ≡ true
unfolding handshake
taken_bodyless request origins value = go (asks_websocket request) (asks_version_13 request) (brings_key request) refl (is_origin_taken origins request)
  where
    go : (a b k : Bool) → brings_key request ≡ k → (o : Bool)
        → (if not a then Err UpgradeNeeded else if not b then Err UpgradeNeeded else if not k then Err BadHandshake else if not o then Err OriginRefused else Ok (accept_value (unwrap_or (key_of request) []))) ≡ Ok value
        → is_bodyless request.framing ≡ true
    go false b k key o is = absurd (cc)
    go true false k key o is = absurd (cc)
    go true true false key o is = absurd (cc)
    go true true true key o is = (and_parts (passes is_key (key_of request)) (is_bodyless request.framing) key).1

-- the body changes nothing of it
handshake_same : (request : Request) (body : List ℕ) (origins : Option (List (List ℕ))) → handshake (with_body request body) origins ≡ handshake request origins
unfolding handshake
handshake_same request body None = refl
handshake_same request body (Some origins) = refl

same_by_framing : (site : Site) (peer : Peer) (request : Request) (mapped : Mapped) (body : List ℕ) (framing : Framing) → is_length framing ≡ true
    → launch_of site peer (record request { framing = framing; body = body }) mapped ≡ launch_of site peer (record request { framing = framing }) mapped
same_by_framing site peer request mapped body Empty long = absurd (false≢true long)
same_by_framing site peer request mapped body (Length n) long = refl
same_by_framing site peer request mapped body Chunked long = absurd (false≢true long)

launch_same : (site : Site) (others : List Peer) (request : Request) (mapped : Mapped) (body : List ℕ) → is_length request.framing ≡ true
    → launch_by site others (with_body request body) mapped ≡ launch_by site others request mapped
launch_same site [] request mapped body long = refl
launch_same site (peer ∷ others) request mapped body long = same_by_framing site peer request mapped body request.framing long

launch_then : (site : Site) (others : List Peer) (request then_is : Request) (mapped : Mapped) → then_is ≡ with_body request then_is.body
    → (is_length request.framing ≡ false → then_is.body ≡ request.body) → launch_by site others then_is mapped ≡ launch_by site others request mapped
launch_then site others request then_is mapped same stays = go (is_length request.framing) refl
  where
    go : (b : Bool) → is_length request.framing ≡ b → launch_by site others then_is mapped ≡ launch_by site others request mapped
    go true long = ap (λ q. launch_by site others q mapped) same ∙ launch_same site others request mapped then_is.body long
    go false chunked = ap (λ q. launch_by site others q mapped) (same ∙ ap (with_body request) (stays chunked))

module _ (site : Site) (c : ℕ) (e : Exchange) (legs : List Leg) (left : ℕ) (request : Request) (mapped : Mapped) (value : List ℕ) (r : StillReaches site c e legs left 0 request)
    (taken : handshake request (origins_of site mapped) ≡ Ok value) where
  alone : (r.legs_then ≡ []) × (r.reaches.first ≡ r.request_then)
  alone = leads_none site c e site.limits.redirects r.reaches.first r.legs_then left r.request_then r.reaches.leads

  no_legs : legs ≡ []
  no_legs = same_none legs r.legs_then alone.0 r.same_legs

  taken_then : handshake r.request_then (origins_of site mapped) ≡ Ok value
  taken_then = ap (λ q. handshake q (origins_of site mapped)) r.same_request ∙ handshake_same request r.request_then.body (origins_of site mapped) ∙ taken

  read_then : IsRead (reading site c e) r.request_then
  read_then =
      bodyless_read site.limits (request_bytes c e) r.request_then (taken_bodyless r.request_then (origins_of site mapped) value taken_then)
      (r.reaches.start ∙ ap (λ (q : Request). Some q) alone.1)

pub handshakes_are_welcome : HandshakesAreWelcome
handshakes_are_welcome site c e legs continued looked closing more request mapped value launch is let_on unclosed place kind taken launched calm going unshut staying http =
    let a = is.0.at_hop in
    let r = a.reached in
    let none : legs ≡ [] = no_legs site c e legs is.0.left request mapped value r taken in
    let read = read_then site c e legs is.0.left request mapped value r taken in
    record {
      value = value;
      request = r.request_then;
      mapped = mapped;
      accepted = record {
        used = read.used;
        due = read.due;
        reads = read.is;
        unbroken = r.reaches.unbroken;
        place = ap (place_of site) r.same_request ∙ place;
        kind = kind;
        taken = taken_then site c e legs is.0.left request mapped value r taken;
      };
      text_is = refl;
      launch_is = launch_then site (peers (all_of e)) request r.request_then mapped r.same_request is.0.body_stays ∙ launched;
      unclosed = unclosed;
      unanswered = is.0.unanswered;
      let_on = let_on;
      calm = calm;
      going = going;
      unshut = unshut;
      staying = staying;
      http = http;
      none = none;
      no_child = subst (HasChildren c e) none a.children_are;
      new = a.new;
    }
