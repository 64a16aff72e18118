-- What a connection knows of its exchange beside its script: its number, its request, and what its client is told of it.
use Rattle.std.specs.Prelude.{ℕ, ◌≡◌, ◌-◌, ◌^◌, Bool, true, false, min, nat_eq, List, [], ◌∷◌, Option, Some, None, is_some}
use Rattle.std.specs.List.{starts_with}
use Rattle.host_base.specs.declared.launch.Peer.{Peer}
use Rattle.host_base.specs.declared.site.Site.{Site}
use Rattle.host_trace.specs.Projections.{peers, upgraded}
use Rattle.trace_model.specs.Breaks.{idled}
use Rattle.trace_model.specs.Exchange.{Exchange, all_of, continue_text, request_bytes, written}
use Rattle.exchange_request.specs.declared.incoming.Incoming.{Incoming}
use Rattle.exchange_request.specs.Knows.{KnowsRequest, is_ready, limits_of}
use Rattle.conn_laws.specs.Idle.{IsLeft}

pub record Front : Type 0 where
  pub number : ℕ
  pub idle_left : ℕ  -- Ticks until the client has sent nothing for the idle time
  pub request : Incoming
  pub continued : Bool  -- 100 Continue was written
  pub closing : Bool  -- an earlier answer closes the connection
  pub closes : Bool  -- the answer of this exchange stands whole, and closes it
  pub idled : Bool  -- no request began within the idle time

-- exchanges are counted up to here
abbrev pub most_counted : ℕ
most_counted = 2 ^ 128 - 1

abbrev pub counted : ℕ → ℕ
counted n = min n most_counted

-- the client that was accepted first
abbrev pub first_peer : List Peer → Option Peer
first_peer [] = None
first_peer (peer ∷ others) = Some peer

-- the bytes were heard for the request, which was not found ready while it is being read
pub record IsHeard (i : Incoming) (reading : Bool) (bytes : List ℕ) : Type 0 where
  pub taken : ℕ
  pub knows : KnowsRequest i bytes taken
  pub unready : reading ≡ true → is_ready i ≡ false

-- The front is that of this exchange of connection c. Once memory ran out, and after an answer that closes, nothing
-- is known of the request.
pub record KnowsFront (site : Site) (c : ℕ) (peer : Option Peer) (lost reading : Bool) (f : Front) (e : Exchange) : Type 0 where
  pub number : f.number ≡ counted e.number
  pub peer_is : peer ≡ first_peer (peers (all_of e))
  pub limits : limits_of f.request ≡ site.limits
  pub closing : f.closing ≡ e.closed
  pub idle : IsLeft site.limits c f.idle_left e.items
  pub http : upgraded e.items c ≡ false
  pub request : lost ≡ false → e.closed ≡ false → IsHeard f.request reading (request_bytes c e)
  pub said : f.continued ≡ true → starts_with nat_eq (written c e) continue_text ≡ true
  pub idled_is : lost ≡ false → e.closed ≡ false → f.idled ≡ is_some (idled site c e)
