-- What the first bytes that were written of a reply tell of it.
use Rattle.std.specs.Prelude.{ℕ, ◌+◌, ◌*◌, ◌-◌, Bool, true, false, ◌&&◌, ◌||◌, ◌==◌, nat_le, if◌then◌else◌, List, [], ◌∷◌, length, take, drop, codes, bytes_eq, Option, Some, None}
use Rattle.head_lines.specs.Lines.{front_len}
use Rattle.host_base.specs.declared.cause.Cause.{Cause}
use Rattle.host_base.specs.declared.cause.Cause.TheVariants.{Full}
use Rattle.host_base.specs.CauseText.{status_of as cause_status, text_of}

abbrev pub is_digit : ℕ → Bool
is_digit b = nat_le 48 b && nat_le b 57

abbrev pub number_of : List ℕ → Option ℕ
number_of (a ∷ b ∷ c ∷ []) = if is_digit a && (is_digit b && is_digit c) then Some (100 * (a - 48) + 10 * (b - 48) + (c - 48)) else None
number_of _ = None

-- a status line is the version, of eight bytes, a space and three digits (RFC 9112 4)
abbrev pub status_of : List ℕ → Option ℕ
status_of reply = if bytes_eq (take 5 reply) (codes "HTTP/") then number_of (take 3 (drop 9 reply)) else None

abbrev pub after : Option ℕ → List ℕ → List ℕ
after None reply = []
after (Some len) reply = drop len reply

-- what follows the first empty line
abbrev pub body_of : List ℕ → List ℕ
body_of reply = after (front_len reply) reply

abbrev pub is_full : Cause → Bool
is_full (Full seen) = true
is_full _ = false

-- what follows the text at the front of the body, where it stands there
abbrev pub after_text : List ℕ → List ℕ → Option (List ℕ)
after_text text body = if bytes_eq (take (length text) body) text then Some (drop (length text) body) else None

-- for a full book the text is followed by a number, else by the line end alone
abbrev pub ends_well : Cause → Option (List ℕ) → Bool
ends_well cause None = false
ends_well cause (Some rest) = is_full cause || bytes_eq rest (codes "\n")

-- the body is the cause's text as a line
abbrev pub is_said : Cause → List ℕ → Bool
is_said cause body = ends_well cause (after_text (text_of cause) body)

-- a reply of this status that begins with these bytes is the host's own for the cause
abbrev pub said_by : Cause → ℕ → List ℕ → Bool
said_by cause status reply = (cause_status cause == status) && is_said cause (body_of reply)
