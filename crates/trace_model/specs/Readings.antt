-- What a request is as far as it was read, and what there is for the input of its script.
use Rattle.std.specs.Prelude.{ℕ, Bool, true, false, if◌then◌else◌, List, [], codes, bytes_eq, Option, Some, None}
use Rattle.host_base.specs.declared.request.Request.{Request}
use Rattle.request_reader.specs.Request.{Reading, Whole, More, Bad, is_length}
use Rattle.trace_child.specs.Run.{Offer}

abbrev pub is_whole : Reading → Bool
is_whole (Whole request used due) = true
is_whole (More request due) = false
is_whole (Bad cause bare) = false

abbrev pub is_more : Reading → Bool
is_more (Whole request used due) = false
is_more (More request due) = true
is_more (Bad cause bare) = false

-- 100 Continue is due (RFC 9110 10.1.1)
abbrev pub is_due : Reading → Bool
is_due (Whole request used due) = due
is_due (More request due) = due
is_due (Bad cause bare) = false

-- the request, where its head is whole
abbrev pub headed : Reading → Option Request
headed (Whole request used due) = Some request
headed (More request due) = request
headed (Bad cause bare) = None

abbrev pub if_length : Option Request → Option Request
if_length None = None
if_length (Some request) = if is_length request.framing then Some request else None

-- the request, where a script may be started for it: it is whole, or its head is, and the length of its body is known
abbrev pub startable : Reading → Option Request
startable (Whole request used due) = Some request
startable (More request due) = if_length request
startable (Bad cause bare) = None

-- a reply to it has no body, since its head was whole and its method is HEAD (RFC 9110 9.3.2)
abbrev pub is_head_request : Option Request → Bool
is_head_request None = false
is_head_request (Some request) = bytes_eq request.method (codes "HEAD")

abbrev pub is_bare : Reading → Bool
is_bare (Whole request used due) = is_head_request (Some request)
is_bare (More request due) = is_head_request request
is_bare (Bad cause bare) = bare

-- the body as far as it was heard
abbrev pub body_of : Option Request → List ℕ
body_of None = []
body_of (Some request) = request.body

-- what there is for the input of the script that a request was started with
abbrev pub offer_of : Reading → Offer
offer_of r = record { body = body_of (headed r); whole = is_whole r }
