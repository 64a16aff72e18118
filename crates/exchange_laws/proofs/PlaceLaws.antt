-- The script of a hop is found, and its Start is the one that is due.
use Rattle.std.proofs.Common.{◌≡◌, ℕ, Bool, true, false, List, [], ◌∷◌, Some, None, refl, sym, ap, subst, ◌∙◌, le_refl}
use Rattle.std.specs.Prelude.{◌&&◌, ◌==◌, not, if◌then◌else◌, bytes_eq}
use Rattle.std.proofs.lemmas.Bool.{false≢true, and_from, eq-eqb}
use Rattle.host_base.specs.declared.launch.Launch.{Launch}
use Rattle.host_base.specs.declared.launch.Pair.{Pair}
use Rattle.host_base.specs.declared.launch.Peer.{Peer}
use Rattle.host_base.specs.declared.request.Framing.{Framing}
use Rattle.host_base.specs.declared.request.Framing.TheVariants.{Empty, Length, Chunked}
use Rattle.host_base.specs.declared.request.Request.{Request}
use Rattle.host_base.specs.declared.site.Mapped.{Mapped}
use Rattle.host_base.specs.declared.site.Site.{Site}
use Rattle.host_trace.specs.Decider.{is_websocket}
use Rattle.host_trace.specs.Projections.{peers, shut, stopped}
use Rattle.meta_variables.specs.Launch.{launch_of}
use Rattle.reply_stream.specs.declared.asked.Asked.{Asked}
use Rattle.request_reader.specs.Request.{is_length, with_body}
use Rattle.trace_model.specs.Answer.{unstarted, stage}
use Rattle.trace_model.specs.Demands.{may_go_on}
use Rattle.trace_model.specs.Exchange.{Exchange, all_of, up_to}
use Rattle.trace_model.specs.Launches.{is_launch, launch_at, launch_by}
use Rattle.trace_model.specs.Legs.{Leg, offered_at}
use Rattle.trace_model.specs.Places.{place_of}
use Rattle.trace_model.specs.Readings.{is_head_request}
use Rattle.trace_model.specs.Sameness.{are_same, is_same_launch, is_same_pair}
use Rattle.conn_laws.specs.Hops.{Reaches}
use Rattle.conn_laws.proofs.HopLaws.{reaches_stands}
use Rattle.exchange_reply.specs.Leg.{IsMadeFor}
use Rattle.exchange_reply.proofs.AgreementLaws.{bytes_same}
use Rattle.exchange_stage.specs.declared.stage.Leg.{Leg as Held}
use Rattle.exchange_laws.specs.Walked.{AtHop, IsNew}
use Rattle.exchange_laws.specs.OfRun.{leg_held}
use Rattle.exchange_laws.specs.StageIs.{IsStarting}
use Rattle.exchange_laws.specs.Moves.{PlacesAreFound}
use Rattle.exchange_laws.specs.Rules.{StartsAreRight}
use Rattle.exchange_laws.proofs.RunLaws.{reaches_ask}

-- ---- a launch has of a body of known length its length alone

same_by_framing : (site : Site) (peer : Peer) (request : Request) (mapped : Mapped) (body : List ℕ) (framing : Framing) → is_length framing ≡ true
    → launch_of site peer (record request { framing = framing; body = body }) mapped ≡ launch_of site peer (record request { framing = framing }) mapped
same_by_framing site peer request mapped body Empty long = absurd (false≢true long)
same_by_framing site peer request mapped body (Length n) long = refl
same_by_framing site peer request mapped body Chunked long = absurd (false≢true long)

launch_same : (site : Site) (others : List Peer) (request : Request) (mapped : Mapped) (body : List ℕ) → is_length request.framing ≡ true
    → launch_by site others (with_body request body) mapped ≡ launch_by site others request mapped
launch_same site [] request mapped body long = refl
launch_same site (peer ∷ others) request mapped body long = same_by_framing site peer request mapped body request.framing long

launch_then : (site : Site) (others : List Peer) (request then_is : Request) (mapped : Mapped) → then_is ≡ with_body request then_is.body
    → (is_length request.framing ≡ false → then_is.body ≡ request.body) → launch_by site others then_is mapped ≡ launch_by site others request mapped
launch_then site others request then_is mapped same stays = go (is_length request.framing) refl
  where
    go : (b : Bool) → is_length request.framing ≡ b → launch_by site others then_is mapped ≡ launch_by site others request mapped
    go true long = ap (λ q. launch_by site others q mapped) same ∙ launch_same site others request mapped then_is.body long
    go false chunked = ap (λ q. launch_by site others q mapped) (same ∙ ap (with_body request) (stays chunked))

-- ---- a script is found

module _ (site : Site) (c : ℕ) (e : Exchange) (legs : List Leg) (hop : ℕ) (request : Request) (held : Held) (left : ℕ) (a : AtHop site c e legs left hop request)
    (hop_is : held.hop ≡ hop) (request_is : held.request ≡ record request { body = [] }) where
  held_reaches : Reaches site c e a.reached.legs_then left held.hop a.reached.request_then
  held_reaches = subst (λ h. Reaches site c e a.reached.legs_then left h a.reached.request_then) (sym hop_is) a.reached.reaches

  held_new : IsNew c e held.hop
  held_new = subst (λ h. IsNew c e h) (sym hop_is) a.new

  held_same : a.reached.request_then ≡ with_body held.request a.reached.request_then.body
  held_same = a.reached.same_request ∙ ap (λ q. with_body q a.reached.request_then.body) (sym request_is)

  held_made : (asked : Asked) → held.kind ≡ asked.kind → asked.version ≡ request.version → asked.head_only ≡ is_head_request (Some request)
      → IsMadeFor site c e (leg_held held 0) asked
  held_made asked kind version head_only =
      let asks = reaches_ask site c e a.reached.legs_then left hop a.reached.request_then a.reached.reaches in
      record {
        kind = kind;
        version = asks.version ∙ ap (λ (q : Request). q.version) a.reached.same_request ∙ sym version;
        head_only = asks.head_only ∙ ap (λ (q : Request). is_head_request (Some q)) a.reached.same_request ∙ sym head_only;
      }

pub places_are_found : PlacesAreFound
places_are_found site c e legs continued looked closing more hop request mapped held asked launch body whole is let_on unclosed place plain h launched offered =
    let a = is.0.at_hop in (
      record {
        unclosed = unclosed;
        unanswered = is.0.unanswered;
        let_on = let_on;
        left = is.0.left;
        at_hop = record {
          reached = record {
            legs_then = a.reached.legs_then;
            request_then = a.reached.request_then;
            reaches = held_reaches site c e legs hop request held is.0.left a h.hop_is h.request_is;
            same_legs = a.reached.same_legs;
            same_request = held_same site c e legs hop request held is.0.left a h.hop_is h.request_is;
          };
          children_are = a.children_are;
          new = held_new site c e legs hop request held is.0.left a h.hop_is h.request_is;
        };
        mapped = mapped;
        place = ap (place_of site) h.request_is ∙ place;
        kind = sym h.kind_is;
        plain = ap is_websocket h.kind_is ∙ plain;
        launch_is = launch_then site (peers (all_of e)) request a.reached.request_then mapped a.reached.same_request is.0.body_stays ∙ launched;
        offers = ap (λ n. offered_at site c (up_to e []) n e.items) h.hop_is ∙ offered;
        asked = asked;
        reply = h.reply;
        made =
            held_made site c e legs hop request held is.0.left a h.hop_is h.request_is asked (h.kind_is ∙ sym h.asks_kind) h.version h.head_only;
        text = h.text;
        unticked = h.unticked;
      },
      is.1,
    )

-- ---- it is the Start that is due

lists_same : {X : Type 0} (test : X → X → Bool) → ((x : X) → test x x ≡ true) → (xs : List X) → are_same test xs xs ≡ true
lists_same test same [] = refl
lists_same test same (x ∷ xs) = and_from (test x x) (are_same test xs xs) (same x) (lists_same test same xs)

pair_same : (p : Pair) → is_same_pair p p ≡ true
pair_same p = and_from (bytes_eq p.name p.name) (bytes_eq p.value p.value) (bytes_same p.name) (bytes_same p.value)

pub launches_same : (launch : Launch) → is_same_launch launch launch ≡ true
launches_same launch =
    and_from (bytes_eq launch.program launch.program && bytes_eq launch.dir launch.dir && are_same bytes_eq launch.args launch.args)
    (are_same is_same_pair launch.env launch.env)
    (and_from (bytes_eq launch.program launch.program && bytes_eq launch.dir launch.dir) (are_same bytes_eq launch.args launch.args)
    (and_from (bytes_eq launch.program launch.program) (bytes_eq launch.dir launch.dir) (bytes_same launch.program) (bytes_same launch.dir))
    (lists_same bytes_eq bytes_same launch.args))
    (lists_same is_same_pair pair_same launch.env)

six : (a b d f s u : Bool) → a ≡ true → b ≡ true → d ≡ true → f ≡ false → s ≡ false → u ≡ false → (a && b && d && not f && not s && not u) ≡ true
six true true true false false false a b d f s u = refl
six false b' d' f' s' u' a b d f s u = absurd (false≢true a)
six true false d' f' s' u' a b d f s u = absurd (false≢true b)
six true true false f' s' u' a b d f s u = absurd (false≢true d)
six true true true true s' u' a b d f s u = absurd (false≢true (sym f))
six true true true false true u' a b d f s u = absurd (false≢true (sym s))
six true true true false false true a b d f s u = absurd (false≢true (sym u))

starting_stage : (site : Site) (c : ℕ) (e : Exchange) (legs : List Leg) (continued : Bool) (held : Held) (launch : Launch) (body : List ℕ) (whole : Bool)
    → (is : IsStarting site c e legs continued held launch body whole) → stage site c e ≡ unstarted held.hop is.at_hop.reached.request_then is.mapped
starting_stage site c e legs continued held launch body whole is =
    (reaches_stands site c e is.at_hop.reached.legs_then is.left held.hop is.at_hop.reached.request_then is.at_hop.reached.reaches).not_started is.mapped
    (ap (place_of site) is.at_hop.reached.same_request ∙ is.place) (ap is_websocket is.kind ∙ is.plain) (is.at_hop.new held.hop (le_refl held.hop))

pub starts_are_right : StartsAreRight
starts_are_right site c e legs continued looked closing more held launch body whole k is may running live =
    let due : launch_at site c e held.hop (stage site c e) ≡ Some launch =
    ap (launch_at site c e held.hop) (starting_stage site c e legs continued held launch body whole is.0)
    ∙ ap (λ (b : Bool). if b then launch_by site (peers (all_of e)) is.0.at_hop.reached.request_then is.0.mapped else None) (eq-eqb held.hop held.hop refl)
    ∙ is.0.launch_is in
    six (e.number == e.number) (is_launch launch (launch_at site c e held.hop (stage site c e))) (may_go_on c e) e.closed (stopped (all_of e)) (shut (all_of e) c)
    (eq-eqb e.number e.number refl) (ap (is_launch launch) due ∙ launches_same launch) may is.0.unclosed running live
