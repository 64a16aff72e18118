-- One exchange of a connection c: a request, and what is done for it. All of it is read off the exchange alone.
use Rattle.std.specs.Prelude.{ℕ, Bool, false, not, ◌&&◌, ◌||◌, if◌then◌else◌, List, [], ◌∷◌, ◌++◌, length, drop, codes}
use Rattle.host_base.specs.declared.site.Site.{Site}
use Rattle.host_trace.specs.declared.items.Item.{Item}
use Rattle.host_trace.specs.Kinds.{bytes_heard}
use Rattle.host_trace.specs.Projections.{client_in, client_out, children, shut}
use Rattle.request_reader.specs.Request.{Reading, read_request}
use Rattle.trace_child.specs.Words.{is_filled}
use Rattle.trace_model.specs.Readings.{is_due}

-- the items of the connection that stand before it, and those in it; the bytes that the earlier requests left over; and
-- whether an earlier answer closes the connection
pub record Exchange : Type 0 where
  pub number : ℕ
  pub before : List Item
  pub rest : List ℕ
  pub closed : Bool
  pub items : List Item

abbrev pub first_exchange : Exchange
first_exchange = record { number = 0; before = []; rest = []; closed = false; items = [] }

-- the exchange with one more item
abbrev pub pushed : Exchange → Item → Exchange
pushed e x = record e { items = e.items ++ x ∷ [] }

-- the exchange as it was when these were its items
abbrev pub up_to : Exchange → List Item → Exchange
up_to e front = record e { items = front }

-- all items of the connection up to its end
abbrev pub all_of : Exchange → List Item
all_of e = e.before ++ e.items

-- ---- the request

-- what the client sent that no earlier request used
abbrev pub request_bytes : ℕ → Exchange → List ℕ
request_bytes c e = e.rest ++ client_in e.items c

abbrev pub reading : Site → ℕ → Exchange → Reading
reading site c e = read_request site.limits (request_bytes c e)

-- ---- what was written

abbrev pub written : ℕ → Exchange → List ℕ
written c e = client_out e.items c

-- (RFC 9110 15.2.1)
abbrev pub continue_text : List ℕ
continue_text = codes "HTTP/1.1 100 Continue\r\n\r\n"

-- 100 Continue was due when these bytes were heard, or once one of these items was
abbrev pub was_due : Site → ℕ → List ℕ → List Item → Bool
was_due site c bytes [] = is_due (read_request site.limits bytes)
was_due site c bytes (x ∷ items) = is_due (read_request site.limits bytes) || was_due site c (bytes ++ bytes_heard c x) items

-- 100 Continue was due at the end of a step of the exchange before which the connection was not shut. What was heard is
-- the same from an event up to the end of its step, and no bytes are heard of a connection that is shut.
abbrev pub continues : Site → ℕ → Exchange → Bool
continues site c e = not e.closed && not (shut e.before c) && was_due site c e.rest e.items

abbrev pub continue_part : Site → ℕ → Exchange → List ℕ
continue_part site c e = if continues site c e then continue_text else []

-- what was written of its final answer
abbrev pub final : Site → ℕ → Exchange → List ℕ
final site c e = drop (length (continue_part site c e)) (written c e)

-- ---- whether it has begun

abbrev pub has_final : Site → ℕ → Exchange → Bool
has_final site c e = is_filled (final site c e)

abbrev pub has_start : ℕ → Exchange → Bool
has_start c e = is_filled (children e.items c)

-- a child was started for it, or a byte of its final answer was written
abbrev pub has_begun : Site → ℕ → Exchange → Bool
has_begun site c e = has_start c e || has_final site c e
