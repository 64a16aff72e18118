-- What an event, an answer and the end of an exchange make of what is known of it.
use Rattle.std.specs.Prelude.{ℕ, ◌≡◌, ◌≤◌, ◌+◌, ◌++◌, ◌==◌, ◌&&◌, ◌||◌, not, drop, Bool, true, false, List, Option, is_some}
use Rattle.host_base.specs.declared.launch.Peer.{Peer}
use Rattle.host_base.specs.declared.limits.Limits.{Limits}
use Rattle.host_trace.specs.declared.items.Item.{Item}
use Rattle.host_trace.specs.Kinds.{bytes_heard, is_tick}
use Rattle.request_reader.specs.Request.{is_begun, used_by}
use Rattle.exchange_request.specs.Knows.{KnowsRequest, is_looked_at, is_ready, is_taken, limits_of, reading_of}
use Rattle.conn_laws.specs.Idle.{left_after}
use Rattle.conn_laws.specs.Front.{Front, counted}

-- The event was taken into account, where it found the children of the exchange settled or not, and this client.
pub record Hears (limits : Limits) (c : ℕ) (settled : Bool) (peer : Option Peer) (lost : Bool) (old : Front) (x : Item) (new : Front) : Type 0 where
  pub number : new.number ≡ old.number
  pub limits_then : limits_of new.request ≡ limits_of old.request
  pub continued : new.continued ≡ old.continued
  pub closing : new.closing ≡ old.closing
  pub closes : new.closes ≡ old.closes
  pub idle_left : new.idle_left ≡ left_after c limits.idle_ticks settled old.idle_left x
  pub ready : is_ready new.request ≡ is_ready old.request
  pub heard : (bytes : List ℕ) (taken : ℕ) → 2 ≤ (limits_of old.request).head → KnowsRequest old.request bytes taken → (lost ≡ false → (taken' : ℕ) × KnowsRequest new.request (bytes ++ bytes_heard c x) taken')
  pub idled : (bytes : List ℕ) (taken : ℕ) → 2 ≤ (limits_of old.request).head → KnowsRequest old.request bytes taken
      → new.idled ≡ (old.idled || (is_tick x && settled && old.idle_left == 1 && is_some peer && not (is_begun bytes)))

-- The exchange was taken for ended, and the next one begins.
pub record GoesOn (limits : Limits) (old new : Front) : Type 0 where
  pub number : new.number ≡ counted (old.number + 1)
  pub idle_left : new.idle_left ≡ limits.idle_ticks
  pub continued : new.continued ≡ false
  pub closing : new.closing ≡ (old.closing || old.closes)
  pub closes : new.closes ≡ false
  pub idled : new.idled ≡ old.idled
  pub limits_then : limits_of new.request ≡ limits_of old.request
  pub ready : is_ready new.request ≡ false
  pub looked : is_looked_at new.request ≡ false
  pub left_over : (bytes : List ℕ) (taken : ℕ) → KnowsRequest old.request bytes taken → is_taken old.request ≡ true
      → KnowsRequest new.request (drop (used_by (reading_of old.request bytes)) bytes) 0
