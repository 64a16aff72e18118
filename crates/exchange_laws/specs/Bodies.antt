-- The body of a request whose script waits for its turn.
use Rattle.std.specs.Prelude.{ℕ, zero, suc, ◌≡◌, ◌≤◌, Bool, true, List, [], ◌++◌, drop, length, Some}
use Rattle.host_base.specs.declared.request.Request.{Request}
use Rattle.host_base.specs.declared.site.Site.{Site}
use Rattle.host_trace.specs.declared.items.Item.{Item}
use Rattle.host_trace.specs.Kinds.{bytes_heard}
use Rattle.request_reader.specs.Request.{with_body}
use Rattle.trace_model.specs.Exchange.{Exchange, pushed, reading, up_to}
use Rattle.trace_model.specs.Legs.{Leg, offered_at}
use Rattle.trace_model.specs.Readings.{body_of, headed, is_whole, startable}
use Rattle.exchange_stage.specs.declared.stage.Stage.TheVariants as At
use Rattle.exchange_laws.specs.StageIs.{StageIs}

-- the body of the request as far as it was heard
abbrev pub body_heard : Site → ℕ → Exchange → List ℕ
body_heard site c e = body_of (headed (reading site c e))

-- the first hop's request has its body as far as it was heard; that of a local redirect has none (RFC 3875 6.2.2)
abbrev pub HasBody : Site → ℕ → Exchange → ℕ → Request → Type 0
HasBody site c e zero request = request.body ≡ body_heard site c e
HasBody site c e (suc hop) request = request.body ≡ []

-- The request of the first hop stands for the exchange with the body that was heard.
abbrev pub BodiesMayGrow : Type 0
BodiesMayGrow = (site : Site) (c : ℕ) (e : Exchange) (legs : List Leg) (continued looked closing : Bool) (more : List ℕ) (request : Request) (body : List ℕ)
    → body ≡ body_heard site c e → StageIs site c e legs continued looked closing more (At.Unstarted 0 request)
    → StageIs site c e legs continued looked closing more (At.Unstarted 0 (with_body request body))

-- how it goes on
pub record BodiesGoOn (site : Site) (c : ℕ) (e : Exchange) (x : Item) (request : Request) : Type 0 where
  pub found : startable (reading site c e) ≡ Some request → HasBody site c e 0 request
  pub quiet : (hop : ℕ) → bytes_heard c x ≡ [] → HasBody site c e hop request → HasBody site c (pushed e x) hop request
  -- what came of it is what stands behind what had come
  pub grows : (legs : List Leg) (continued looked closing : Bool) (more : List ℕ) → 2 ≤ site.limits.head
      → StageIs site c e legs continued looked closing more (At.Unstarted 0 request) → HasBody site c e 0 request
      → HasBody site c (pushed e x) 0 (with_body request (request.body ++ drop (length request.body) (body_heard site c (pushed e x))))

abbrev pub BodiesAreHeard : Type 0
BodiesAreHeard = (site : Site) (c : ℕ) (e : Exchange) (x : Item) (request : Request) → BodiesGoOn site c e x request

-- the request is whole, or no body is awaited after a local redirect
abbrev pub is_offered_whole : Site → ℕ → Exchange → ℕ → Bool
is_offered_whole site c e zero = is_whole (reading site c e)
is_offered_whole site c e (suc hop) = true

-- That is what there is for the input of its script.
abbrev pub OffersAreBodies : Type 0
OffersAreBodies = (site : Site) (c : ℕ) (e : Exchange) (hop : ℕ) (request : Request) → HasBody site c e hop request
    → offered_at site c (up_to e []) hop e.items ≡ record { body = request.body; whole = is_offered_whole site c e hop }
