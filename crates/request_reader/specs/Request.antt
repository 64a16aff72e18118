-- A request (RFC 9112 2.1) and what is read from bytes of which more may come.
use Rattle.std.specs.Prelude.{ℕ, zero, suc, ◌+◌, Bool, true, false, not, ◌&&◌, ◌||◌, List, [], ◌∷◌, length, take, drop, filter, Option, Some, None, Result, Ok, Err, if◌then◌else◌, nat_lt, nat_le, codes, bytes_eq}
use Rattle.std.specs.List.{list_any}
use Rattle.std.specs.Str.{str_eq_ignore_ascii_case}
use Rattle.host_base.specs.FieldLists.{is_named, field_words}
use Rattle.host_base.specs.declared.cause.Cause.{Cause}
use Rattle.host_base.specs.declared.cause.Cause.TheVariants.{BadExpect}
use Rattle.host_base.specs.declared.fields.Field.{Field}
use Rattle.host_base.specs.declared.limits.Limits.{Limits}
use Rattle.host_base.specs.declared.request.Framing.{Framing}
use Rattle.host_base.specs.declared.request.Framing.TheVariants.{Empty, Length, Chunked}
use Rattle.host_base.specs.declared.request.Head.{Head}
use Rattle.host_base.specs.declared.request.Request.{Request}
use Rattle.host_base.specs.declared.request.Target.{Target}
use Rattle.host_base.specs.declared.request.Version.{Version}
use Rattle.host_base.specs.declared.request.Version.TheVariants.{V10, V11}
use Rattle.head_reader.specs.RequestHead.{leading_crlf, read_head, is_whole}
use Rattle.head_reader.specs.declared.step.HeadStep.{HeadStep}
use Rattle.head_reader.specs.declared.step.HeadStep.TheVariants as Step
use Rattle.body_framing.specs.Chunked.{BodyReading, ended, unended, refused, read_chunked}
use Rattle.body_framing.specs.Framing.{framing_of, is_other_word}
use Rattle.script_map.specs.Targets.{target_of}
use Rattle.request_reader.specs.declared.asked.Asked.{Asked}
use Rattle.request_reader.specs.declared.step.ReqStep.{ReqStep}
use Rattle.request_reader.specs.declared.step.ReqStep.TheVariants as Answer

-- ---- what a head asks for

-- whether a reply to it has no body (RFC 9110 9.3.2)
abbrev pub is_head_method : Head → Bool
is_head_method head = bytes_eq head.method (codes "HEAD")

-- whether bytes of a body are to come
abbrev pub has_content : Framing → Bool
has_content Empty = false
has_content (Length zero) = false
has_content (Length (suc n)) = true
has_content Chunked = true

-- 100-continue is the one expectation that can be met (RFC 9110 10.1.1)
abbrev pub expects_by_words : List (List ℕ) → Framing → Result Bool Cause
expects_by_words [] framing = Ok false
expects_by_words (word ∷ words) framing = if list_any (is_other_word (codes "100-continue")) (word ∷ words) then Err BadExpect else Ok (has_content framing)

-- whether 100 Continue is due; in HTTP/1.0 no expectation is heard
abbrev pub expects_continue : Version → List Field → Framing → Result Bool Cause
expects_continue V10 fields framing = Ok false
expects_continue V11 fields framing = expects_by_words (field_words (codes "Expect") fields) framing

abbrev pub request_with : Head → Target → Framing → List ℕ → Request
request_with head target framing body = record {
  method = head.method;
  target = target;
  version = head.version;
  fields = head.fields;
  framing = framing;
  body = body;
}

abbrev pub with_body : Request → List ℕ → Request
with_body request body = record request { body = body }

abbrev pub asked_expecting : Request → Result Bool Cause → Result Asked Cause
asked_expecting request (Ok due) = Ok (record { request = request; due = due })
asked_expecting request (Err cause) = Err cause

abbrev pub asked_framed : Head → Target → Result Framing Cause → Result Asked Cause
asked_framed head target (Ok framing) =
    asked_expecting (request_with head target framing []) (expects_continue head.version head.fields framing)
asked_framed head target (Err cause) = Err cause

abbrev pub asked_at : Limits → Head → Result Target Cause → Result Asked Cause
asked_at limits head (Ok target) = asked_framed head target (framing_of head limits)
asked_at limits head (Err cause) = Err cause

-- what a head asks for, or the first cause to refuse it: of its target, of its framing, of its expectation
abbrev pub asked_by : Limits → Head → Result Asked Cause
asked_by limits head = asked_at limits head (target_of head)

-- ---- what is read

-- how many bytes a body of known length has
abbrev pub counted_len : Framing → ℕ
counted_len Empty = 0
counted_len (Length n) = n
counted_len Chunked = 0

-- a body of so many bytes
abbrev pub read_counted : ℕ → List ℕ → BodyReading
read_counted n bytes = if nat_le n (length bytes) then ended (take n bytes) n else unended bytes

-- what bytes are as a body, by how it is delimited (RFC 9112 6.3)
abbrev pub read_body : ℕ → Framing → List ℕ → BodyReading
read_body limit Empty bytes = read_counted 0 bytes
read_body limit (Length n) bytes = read_counted n bytes
read_body limit Chunked bytes = read_chunked limit bytes

-- what bytes are as a request
pub data Reading : Type 0 where
  -- a request, how many bytes it took with a CRLF before it, and whether 100 Continue is due for it
  Whole : Request → ℕ → Bool → Reading
  -- it has not ended yet: the request so far where its head is whole, with the body that has come
  More : Option Request → Bool → Reading
  -- no request that is served, whatever follows, and whether a reply to it has no body
  Bad : Cause → Bool → Reading

abbrev pub with_read : ℕ → Bool → Asked → BodyReading → Reading
with_read used bare asked (ended body count) = Whole (with_body asked.request body) (used + count) asked.due
with_read used bare asked (unended body) = More (Some (with_body asked.request body)) asked.due
with_read used bare asked (refused cause) = Bad cause bare

-- the reading where the head took so many bytes, by what follows it
abbrev pub after_asked : ℕ → ℕ → Bool → List ℕ → Result Asked Cause → Reading
after_asked limit used bare bytes (Ok asked) = with_read used bare asked (read_body limit asked.request.framing bytes)
after_asked limit used bare bytes (Err cause) = Bad cause bare

-- the causes of the head come first, and a reply to one of them is written as to GET
abbrev pub after_head : Limits → List ℕ → HeadStep → Reading
after_head limits bytes (Step.Whole head used) =
    after_asked limits.body used (is_head_method head) (drop used bytes) (asked_by limits head)
after_head limits bytes Step.More = More None false
after_head limits bytes (Step.Bad cause) = Bad cause false

-- What the bytes from the first of a request on are.
unfoldable pub read_request : Limits → List ℕ → Reading
read_request limits bytes = after_head limits bytes (read_head limits bytes)

-- ---- what a reader answers

-- whether a request has begun: a CRLF before a head is none of it, and a lone CR may be its first byte
abbrev pub is_begun : List ℕ → Bool
is_begun bytes = nat_lt 0 (length (drop (leading_crlf bytes) bytes)) && (if bytes_eq bytes (13 ∷ []) then false else true)

abbrev pub is_whole_head : Limits → List ℕ → Bool
is_whole_head limits bytes = is_whole (read_head limits bytes)

-- the bytes that a reading took
abbrev pub used_by : Reading → ℕ
used_by (Whole request used due) = used
used_by (More request due) = 0
used_by (Bad cause bare) = 0

-- the request without the first so many bytes of its body, which were handed out
abbrev pub without_taken : ℕ → Request → Request
without_taken taken request = with_body request (drop taken request.body)

-- what a reader answers that handed out so many bytes of the body
abbrev pub step_of : ℕ → Reading → ReqStep
step_of taken (Whole request used due) = Answer.Whole (without_taken taken request)
step_of taken (More request due) = Answer.More due
step_of taken (Bad cause bare) = Answer.Bad cause bare

abbrev pub is_chunked : Framing → Bool
is_chunked Empty = false
is_chunked (Length n) = false
is_chunked Chunked = true

abbrev pub is_length : Framing → Bool
is_length Empty = false
is_length (Length n) = true
is_length Chunked = false

-- the request, where its body has a known length
abbrev pub if_length : ℕ → Request → Option Request
if_length taken request = if is_length request.framing then Some (without_taken taken request) else None

abbrev pub early_so_far : ℕ → Option Request → Option Request
early_so_far taken None = None
early_so_far taken (Some request) = if_length taken request

-- The request that can be served before its body has ended: its head is whole and nothing is wrong with
-- it, and its length is known. Its body is what has come and was not handed out.
abbrev pub early_of : ℕ → Reading → Option Request
early_of taken (Whole request used due) = if_length taken request
early_of taken (More request due) = early_so_far taken request
early_of taken (Bad cause bare) = None

-- ---- what is asked of a request

abbrev pub is_v11 : Version → Bool
is_v11 V10 = false
is_v11 V11 = true

-- whether the client may send another request on the connection (RFC 9112 9.3)
abbrev pub persists : Request → Bool
persists request =
    is_v11 request.version
    && (if list_any (str_eq_ignore_ascii_case (codes "close")) (field_words (codes "Connection") request.fields) then false else true)

-- names that begin with it, without regard to ASCII case
abbrev pub begins_name : List ℕ → Field → Bool
begins_name front f = str_eq_ignore_ascii_case front (take (length front) f.name)

-- a field line that is about the first request's body or connection, and not about the resource
abbrev pub is_left_out : Field → Bool
is_left_out f =
    is_named (codes "Content-Length") f || (is_named (codes "Content-Type") f || (is_named (codes "Transfer-Encoding") f
    || (is_named (codes "Expect") f || (is_named (codes "Upgrade") f || (is_named (codes "Connection") f
    || begins_name (codes "Sec-WebSocket-") f)))))

abbrev pub is_kept : Field → Bool
is_kept f = not (is_left_out f)

-- HEAD stays HEAD
abbrev pub redirected_method : List ℕ → List ℕ
redirected_method method = if bytes_eq method (codes "HEAD") then codes "HEAD" else codes "GET"

-- The request that a local redirect makes of one (RFC 3875 6.2.2): a GET or HEAD of the new target without a body.
abbrev pub redirected : Request → Target → Request
redirected request target = record {
  method = redirected_method request.method;
  target = target;
  version = request.version;
  fields = filter is_kept request.fields;
  framing = Empty;
  body = [];
}
