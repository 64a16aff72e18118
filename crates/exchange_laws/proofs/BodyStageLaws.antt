-- The body of a request whose script waits for its turn.
use Rattle.std.proofs.Common.{◌≡◌, ℕ, zero, suc, Bool, true, false, List, [], ◌∷◌, ◌++◌, drop, length, append-nil, Some, None, refl, sym, ap, ◌∙◌}
use Rattle.std.specs.Prelude.{if◌then◌else◌}
use Rattle.std.proofs.Math.Seq.{drop-append_seam}
use Rattle.std.proofs.lemmas.Bool.{false≢true}
use Rattle.host_base.specs.declared.request.Request.{Request}
use Rattle.host_base.specs.declared.site.Site.{Site}
use Rattle.host_trace.specs.declared.items.Item.{Item}
use Rattle.host_trace.specs.Kinds.{bytes_heard}
use Rattle.request_reader.specs.Request.{Reading, Whole, More, Bad, is_length}
use Rattle.request_reader.specs.RequestLaws.{Becomes}
use Rattle.trace_model.specs.Exchange.{Exchange, pushed, reading}
use Rattle.trace_model.specs.Legs.{Leg}
use Rattle.trace_model.specs.Readings.{body_of, headed, is_whole, startable}
use Rattle.trace_model.proofs.AnswerLaws.{grown}
use Rattle.conn_laws.proofs.QuietLaws.{reading-quiet}
use Rattle.conn_laws.specs.Hops.{StillReaches}
use Rattle.exchange_laws.proofs.HopStageLaws.{no_legs_first}
use Rattle.exchange_laws.proofs.ItemLaws.{first_of}
use Rattle.exchange_laws.specs.Bodies.{BodiesAreHeard, BodiesMayGrow, HasBody, OffersAreBodies, body_heard}

some_is : (a b : Request) → Some a ≡ Some b → a ≡ b
some_is a b is = cc

found_body : (r : Reading) (request : Request) → startable r ≡ Some request → request.body ≡ body_of (headed r)
found_body (Whole first used due) request is = ap (λ (q : Request). q.body) (sym (some_is first request is))
found_body (More None due) request is = absurd (cc)
found_body (More (Some first) due) request is = go (is_length first.framing) is
  where
    go : (b : Bool) → (if b then Some first else None) ≡ Some request → request.body ≡ first.body
    go true is = ap (λ (q : Request). q.body) (sym (some_is first request is))
    go false is = absurd (cc)
found_body (Bad cause bare) request is = absurd (cc)

first_body : (site : Site) (c : ℕ) (e : Exchange) (legs : List Leg) (left : ℕ) (request : Request) → legs ≡ [] → (r : StillReaches site c e legs left 0 request)
    → r.request_then.body ≡ body_heard site c e
first_body site c e [] left request none r = found_body (reading site c e) r.request_then (first_of site c e left 0 request r)
first_body site c e (leg ∷ legs) left request none r = absurd (cc)

pub bodies_may_grow : BodiesMayGrow
bodies_may_grow site c e legs continued looked closing more request body heard is = (
  record {
    unanswered = is.0.unanswered;
    left = is.0.left;
    at_hop = record {
      reached = record {
        legs_then = is.0.at_hop.reached.legs_then;
        request_then = is.0.at_hop.reached.request_then;
        reaches = is.0.at_hop.reached.reaches;
        same_legs = is.0.at_hop.reached.same_legs;
        same_request = is.0.at_hop.reached.same_request;
      };
      children_are = is.0.at_hop.children_are;
      new = is.0.at_hop.new;
    };
    body_stays = λ chunked.
        first_body site c e legs is.0.left request (no_legs_first site c e legs is.0.left request is.0.at_hop) is.0.at_hop.reached ∙ sym heard;
  },
  is.1,
)

joined : (front some : List ℕ) → front ++ drop (length front) (front ++ some) ≡ front ++ some
joined front some = ap (λ l. front ++ l) (drop-append_seam front some)

-- what was heard begins what is heard later
grown_body : (was now : Reading) (first : Request) → startable was ≡ Some first → Becomes was now
    → body_of (headed was) ++ drop (length (body_of (headed was))) (body_of (headed now)) ≡ body_of (headed now)
grown_body (Whole request used due) now first start grows =
    let same : body_of (headed now) ≡ request.body = ap (λ r. body_of (headed r)) grows in
    ap (λ l. request.body ++ drop (length request.body) l) (same ∙ sym (append-nil request.body))
    ∙ joined request.body [] ∙ append-nil request.body ∙ sym same
grown_body (More None due) now first start grows = absurd (cc)
grown_body (More (Some request) due) (Whole request' used due') first start grows =
    let same : request'.body ≡ request.body ++ grows.0.0 = ap (λ (q : Request). q.body) grows.0.1 in
    ap (λ l. request.body ++ drop (length request.body) l) same ∙ joined request.body grows.0.0 ∙ sym same
grown_body (More (Some request) due) (More (Some request') due') first start grows =
    let same : request'.body ≡ request.body ++ grows.0.0 = ap (λ (q : Request). q.body) grows.0.1 in
    ap (λ l. request.body ++ drop (length request.body) l) same ∙ joined request.body grows.0.0 ∙ sym same
grown_body (More (Some request) due) (More None due') first start grows = absurd grows
grown_body (More (Some request) due) (Bad cause bare) first start grows = go (is_length request.framing) refl start
  where
    go : (b : Bool) → is_length request.framing ≡ b → (if b then Some request else None) ≡ Some first
        → request.body ++ drop (length request.body) [] ≡ []
    go true long is = absurd (false≢true (sym grows.0 ∙ long))
    go false short is = absurd (cc)
grown_body (Bad cause bare) now first start grows = absurd (cc)

quiet_body : (site : Site) (c : ℕ) (e : Exchange) (x : Item) (request : Request) (hop : ℕ) → bytes_heard c x ≡ [] → HasBody site c e hop request
    → HasBody site c (pushed e x) hop request
quiet_body site c e x request zero none has = has ∙ sym (ap (λ r. body_of (headed r)) (reading-quiet site c e x none))
quiet_body site c e x request (suc hop) none has = has

pub bodies_are_heard : BodiesAreHeard
bodies_are_heard site c e x request = record {
  found = λ start. found_body (reading site c e) request start;
  quiet = λ hop none has. quiet_body site c e x request hop none has;
  grows = λ legs continued looked closing more two is has.
      ap (λ b. b ++ drop (length b) (body_heard site c (pushed e x))) has
      ∙ grown_body (reading site c e) (reading site c (pushed e x)) is.0.at_hop.reached.reaches.first is.0.at_hop.reached.reaches.start (grown site c e x two);
}

pub offers_are_bodies : OffersAreBodies
offers_are_bodies site c e zero request has = ap (λ b. record { body = b; whole = is_whole (reading site c e) }) (sym has)
offers_are_bodies site c e (suc hop) request none = ap (λ b. record { body = b; whole = true }) (sym none)
