-- One connection, as far as the log follows it.
use Rattle.std.specs.Prelude.{codes, ℕ, ◌≡◌, ◌⊎◌, ◌-◌, Bool, false, not, ◌&&◌, List, [], Option, Some, None, bytes_eq}
use Rattle.log_line.specs.declared.entry.Entry.{Entry}
use Rattle.log_line.specs.declared.entry.Remark.{Remark}
use Rattle.log_line.specs.Requests.{request_line}
use Rattle.log_outside.specs.declared.client.Client.{Client}
use Rattle.log_outside.specs.declared.client.Stamp.{Stamp}
use Rattle.log_outside.specs.declared.exchange.Exchange.{Exchange}
use Rattle.log_outside.specs.Exchanges.{new_exchange}

-- when it began, or now
abbrev pub begun_at : Option Stamp → Stamp → Stamp
begun_at None now = now
begun_at (Some began) now = began

-- a new exchange has the request line at the front of what was heard, or none for want of memory
abbrev pub Opens : List ℕ → Stamp → Exchange → Type 0
Opens bytes began e = (e ≡ new_exchange began (request_line bytes)) ⊎ (e ≡ new_exchange began [])

abbrev pub remark_of : Option Remark → Remark → Remark
remark_of None own = own
remark_of (Some remark) own = remark

-- what is told of an exchange that ends now
abbrev pub entry_of : List ℕ → Exchange → Option Remark → Stamp → Entry
entry_of peer e remark now = record {
  peer = peer;
  began = e.began.secs;
  request = e.request;
  status = e.status;
  bytes = e.bytes;
  script = e.script;
  millis = now.millis - e.began.millis;
  remark = remark_of remark e.remark;
  dropped = 0;
}

-- the entry of the exchange that went on, where one did; for want of memory without the peer
abbrev pub EndsAs : Option Remark → Stamp → List ℕ → Option Exchange → Option Entry → Type 0
EndsAs remark now peer None entry = entry ≡ None
EndsAs remark now peer (Some e) entry = (entry ≡ Some (entry_of peer e remark now)) ⊎ (entry ≡ Some (entry_of [] e remark now))

abbrev pub Closes : Option Remark → Stamp → Client → Option Entry → Type 0
Closes remark now client entry = EndsAs remark now client.peer client.exchange entry

-- (RFC 9110 15.2.1)
abbrev pub continue_text : List ℕ
continue_text = codes "HTTP/1.1 100 Continue\r\n\r\n"

abbrev pub has_reply : Option Exchange → Bool
has_reply None = false
has_reply (Some e) = e.has_reply

-- 100 Continue, where no byte of a reply stands
abbrev pub is_interim : Option Exchange → List ℕ → Bool
is_interim exchange bytes = not (has_reply exchange) && bytes_eq bytes continue_text
