-- A reply as it is written.
use Rattle.std.specs.Prelude.{ℕ, ◌≡◌, ◌+◌, ◌-◌, ◌^◌, min, Bool, true, false, not, ◌&&◌, ◌||◌, ◌==◌, nat_le, if◌then◌else◌, List, [], ◌∷◌, length, Option, Some, None}
use Rattle.host_base.specs.declared.cause.Cause.{Cause}
use Rattle.log_line.specs.declared.entry.Remark.{Remark}
use Rattle.log_line.specs.declared.entry.Remark.TheVariants.{Whole, Own, Bare, Cut, Gone, Stopped, NoMemory}
use Rattle.log_line.specs.Replies.{said_by, status_of}
use Rattle.log_line.specs.Requests.{is_head_only}
use Rattle.log_outside.specs.declared.client.Stamp.{Stamp}
use Rattle.log_outside.specs.declared.exchange.Exchange.{Exchange}

abbrev pub new_exchange : Stamp → List ℕ → Exchange
new_exchange began request = record {
  began = began;
  request = request;
  script = [];
  is_running = false;
  has_reply = false;
  status = None;
  bytes = 0;
  remark = Whole;
}

abbrev pub is_status : Option ℕ → ℕ → Bool
is_status None code = false
is_status (Some other) code = other == code

-- an error status (RFC 9110 15.5)
abbrev pub is_error : Option ℕ → Bool
is_error None = false
is_error (Some code) = nat_le 400 code

-- the host's own
abbrev pub is_own : Remark → Bool
is_own (Own cause) = true
is_own Bare = true
is_own _ = false

-- A cause is remarked only of an error that says it; a bare reply only of an error without a script; and nothing is only
-- where it is no error, or a script was started.
abbrev pub IsRemarked : Option ℕ → List ℕ → Bool → Remark → Type 0
IsRemarked None reply is_scripted remark = remark ≡ Whole
IsRemarked (Some code) reply is_scripted (Own cause) = (nat_le 400 code ≡ true) × (said_by cause code reply ≡ true)
IsRemarked (Some code) reply is_scripted Bare = (nat_le 400 code ≡ true) × (is_scripted ≡ false)
IsRemarked (Some code) reply is_scripted Whole = (nat_le 400 code && not is_scripted) ≡ false
IsRemarked (Some code) reply is_scripted _ = false ≡ true

-- so many bytes more, up to the last value of a u64
abbrev pub counted : ℕ → ℕ → ℕ
counted bytes count = min (bytes + count) (2 ^ 64 - 1)

abbrev pub added : ℕ → Exchange → Exchange
added count e = record e { bytes = counted e.bytes count }

abbrev pub is_filled : List ℕ → Bool
is_filled [] = false
is_filled (b ∷ bs) = true

-- with the first bytes it is known what reply it is, and nothing changes that
pub record BeginsWith (bytes : List ℕ) (old new : Exchange) : Type 0 where
  pub status : new.status ≡ status_of bytes
  pub remark : IsRemarked new.status bytes (is_filled old.script) new.remark
  pub rest : new ≡ added (length bytes) (record old { has_reply = true; status = new.status; remark = new.remark })

abbrev pub Writes : List ℕ → Exchange → Exchange → Type 0
Writes bytes old new = (old.has_reply ≡ true → new ≡ added (length bytes) old) × (old.has_reply ≡ false → BeginsWith bytes old new)

-- nothing follows what was written: its script gives nothing more, or it is the host's own; and it is no WebSocket
abbrev pub is_over : Exchange → Bool
is_over e = e.has_reply && not (is_status e.status 101) && (not e.is_running || is_own e.remark)

-- at the end of the output nothing is written of a reply that has begun and has no body (RFC 9110 6.4.1)
abbrev pub is_over_at_end : Exchange → Bool
is_over_at_end e = e.has_reply && (is_head_only e.request || (is_status e.status 204 || is_status e.status 304))
