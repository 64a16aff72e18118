-- What holds of the reading of requests.
use Rattle.std.specs.Prelude.{◌≡◌, ◌↔◌, ◌⊎◌, ℕ, ◌-◌, ◌<◌, ◌≤◌, ◌+◌, ◌++◌, Bool, true, false, List, [], ◌∷◌, take, drop, length, All, Some, None, Ok, codes, bytes_eq}
use Rattle.std.specs.Str.{str_eq_ignore_ascii_case}
use Rattle.host_base.specs.FieldLists.{field_words}
use Rattle.host_base.specs.declared.cause.Cause.{Cause}
use Rattle.host_base.specs.declared.limits.Limits.{Limits}
use Rattle.host_base.specs.declared.request.Framing.{Framing}
use Rattle.host_base.specs.declared.request.Framing.TheVariants.{Empty, Length, Chunked}
use Rattle.host_base.specs.declared.request.Head.{Head}
use Rattle.host_base.specs.declared.request.Request.{Request}
use Rattle.host_base.specs.declared.request.Version.TheVariants.{V11}
use Rattle.head_reader.specs.RequestHead.{leading_crlf, most_fields, read_head}
use Rattle.head_reader.specs.HeadLaws.{IsHead}
use Rattle.head_reader.specs.declared.step.HeadStep.TheVariants as Step
use Rattle.body_framing.specs.Chunked.{IsChunkedBody}
use Rattle.body_framing.specs.Framing.{framing_of}
use Rattle.script_map.specs.Targets.{target_of}
use Rattle.request_reader.specs.Request.{Reading, Whole, More, Bad, after_asked, asked_by, is_begun, is_head_method, is_length, persists, read_request, request_with, used_by, with_body}

-- the same request with more of its body, perhaps
abbrev pub HasGrown : Request → Bool → Request → Bool → Type 0
HasGrown request due request' due' = ((some : List ℕ) × (request' ≡ with_body request (request.body ++ some))) × (due' ≡ due)

-- what becomes of a request whose head is whole: only a body in chunks may still turn out to be none
abbrev pub GoesOn : Request → Bool → Reading → Type 0
GoesOn request due (Whole request' used due') = HasGrown request due request' due'
GoesOn request due (More (Some request') due') = HasGrown request due request' due'
GoesOn request due (More None due') = ⊥
GoesOn request due (Bad cause bare) = (is_length request.framing ≡ false) × (bare ≡ bytes_eq request.method (codes "HEAD"))

abbrev pub Becomes : Reading → Reading → Type 0
Becomes (Whole request used due) next = next ≡ Whole request used due
Becomes (More None due) next = Unit {0}
Becomes (More (Some request) due) next = GoesOn request due next
Becomes (Bad cause bare) next = next ≡ Bad cause bare

-- What the bytes are once more have come: a whole request and a fault stay, and a request whose head is
-- whole keeps it.
abbrev pub ReadingsBecome : Type 0
ReadingsBecome = (limits : Limits) (bytes more : List ℕ) → 2 ≤ limits.head → Becomes (read_request limits bytes) (read_request limits (bytes ++ more))

-- What follows a reading's bytes is still there, and what comes later follows it.
abbrev pub RestsStay : Type 0
RestsStay = (limits : Limits) (bytes more : List ℕ)
    → drop (used_by (read_request limits bytes)) (bytes ++ more) ≡ drop (used_by (read_request limits bytes)) bytes ++ more

-- the bytes are a body as the framing says (RFC 9112 6.3), and this is what it carries
abbrev pub IsBodyText : ℕ → Framing → List ℕ → List ℕ → Type 0
IsBodyText limit Empty bytes body = (bytes ≡ []) × (body ≡ [])
IsBodyText limit (Length n) bytes body = (length bytes ≡ n) × (body ≡ bytes)
IsBodyText limit Chunked bytes body = IsChunkedBody limit bytes body

-- the first so many bytes are a head of the grammar, after one CRLF at most, and its body, and the request
-- is what they say
pub record IsRequest (limits : Limits) (bytes : List ℕ) (used : ℕ) (request : Request) : Type 0 where
  pub head : Head
  pub len : ℕ
  pub some : 0 < len
  pub ordered : len ≤ used
  pub inside : used ≤ length bytes
  pub reads : IsHead most_fields (take (len - leading_crlf bytes) (drop (leading_crlf bytes) bytes)) head
  pub target : target_of head ≡ Ok request.target
  pub framing : framing_of head limits ≡ Ok request.framing
  pub body : IsBodyText limits.body request.framing (take (used - len) (drop len bytes)) request.body
  pub says : request ≡ request_with head request.target request.framing request.body

-- What is read as whole is a request.
abbrev pub WholesAreRequests : Type 0
WholesAreRequests = (limits : Limits) (bytes : List ℕ) (request : Request) (used : ℕ) (due : Bool)
    → read_request limits bytes ≡ Whole request used due → IsRequest limits bytes used request

-- Each head of the grammar within the limits is answered, with or without a CRLF before it: by its target,
-- its framing and its expectation, and then by the body that follows it.
abbrev pub HeadsAreAnswered : Type 0
HeadsAreAnswered = (limits : Limits) (bytes more : List ℕ) (head : Head) → IsHead most_fields bytes head
    → length bytes ≤ limits.head → length head.target ≤ limits.target
    → (read_request limits (bytes ++ more) ≡ after_asked limits.body (length bytes) (is_head_method head) more (asked_by limits head))
    × (read_request limits (13 ∷ 10 ∷ bytes ++ more) ≡ after_asked limits.body (2 + length bytes) (is_head_method head) more (asked_by limits head))

-- A reply to a fault has no body exactly where the head was whole and its method is HEAD (RFC 9110 9.3.2).
abbrev pub BareIsHead : Type 0
BareIsHead = (limits : Limits) (bytes : List ℕ) (cause : Cause) (bare : Bool) → read_request limits bytes ≡ Bad cause bare
    → (bare ≡ true) ↔ ((head : Head) × ((used : ℕ) × ((read_head limits bytes ≡ Step.Whole head used) × (head.method ≡ codes "HEAD"))))

-- No request has begun exactly where there is nothing, or one CRLF or a CR that may be its first byte
-- (RFC 9112 2.2).
abbrev pub BegunIsMore : Type 0
BegunIsMore = (bytes : List ℕ) → (is_begun bytes ≡ false) ↔ ((bytes ≡ []) ⊎ ((bytes ≡ 13 ∷ []) ⊎ (bytes ≡ 13 ∷ 10 ∷ [])))

-- A connection persists in HTTP/1.1 unless a word of Connection is close (RFC 9112 9.3).
abbrev pub PersistsUnlessClosed : Type 0
PersistsUnlessClosed = (request : Request) → (persists request ≡ true)
    ↔ ((request.version ≡ V11) × All (λ word. str_eq_ignore_ascii_case (codes "close") word ≡ false) (field_words (codes "Connection") request.fields))
