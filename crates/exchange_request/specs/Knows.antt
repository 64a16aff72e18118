-- What is known of the request of an exchange, by the bytes heard for it and by how many bytes of its body were handed out.
use Rattle.std.specs.Prelude.{ℕ, ◌+◌, ◌≡◌, ◌≤◌, Bool, true, false, not, ◌||◌, List, length, drop, Option, Some, None, is_some, codes, bytes_eq}
use Rattle.host_base.specs.declared.limits.Limits.{Limits}
use Rattle.host_base.specs.declared.request.Request.{Request}
use Rattle.head_reader.specs.RequestHead.{read_head}
use Rattle.head_reader.specs.declared.step.HeadStep.{HeadStep}
use Rattle.head_reader.specs.declared.step.HeadStep.TheVariants as Head
use Rattle.request_reader.specs.Reader.{IsHeard, is_unread}
use Rattle.request_reader.specs.Request.{Reading, Whole, More, Bad, is_length, read_request}
use Rattle.trace_model.specs.Readings.{body_of, headed, if_length, is_due, is_whole, startable}
use Rattle.exchange_request.specs.declared.found.Found.{Found}
use Rattle.exchange_request.specs.declared.found.Found.TheVariants as Seen
use Rattle.exchange_request.specs.declared.found.Manner.{Manner}
use Rattle.exchange_request.specs.Manner.{manner_of}
use Rattle.exchange_request.specs.declared.incoming.Incoming.{Incoming}

abbrev pub limits_of : Incoming → Limits
limits_of i = i.limits

-- the request was found ready
abbrev pub is_ready : Incoming → Bool
is_ready i = is_some i.manner

-- .. and was read to its end
abbrev pub is_taken : Incoming → Bool
is_taken i = i.whole

-- all that was heard was looked at
abbrev pub is_looked_at : Incoming → Bool
is_looked_at i = not i.fresh

-- .. or the request was read to its end: what came since is of a later one
abbrev pub is_read : Incoming → Bool
is_read i = is_looked_at i || is_taken i

-- what the bytes are as a request
abbrev pub reading_of : Incoming → List ℕ → Reading
reading_of i bytes = read_request i.limits bytes

-- no request that is served, whatever follows
abbrev pub is_refused : Reading → Bool
is_refused (Whole request used due) = false
is_refused (More request due) = false
is_refused (Bad cause bare) = true

-- how many bytes are kept
abbrev pub kept_of : Incoming → ℕ
kept_of i = length i.reader.rest

-- by the head at the front of what is kept, where it is whole
abbrev pub is_bare_head : HeadStep → Bool
is_bare_head (Head.Whole head used) = bytes_eq head.method (codes "HEAD")
is_bare_head Head.More = false
is_bare_head (Head.Bad cause) = false

abbrev pub bare_by : Incoming → Option Manner → Bool
bare_by i None = is_bare_head (read_head i.limits i.reader.rest)
bare_by i (Some manner) = manner.head_only

-- a reply has no body
abbrev pub bare_of : Incoming → Bool
bare_of i = bare_by i i.manner

-- none was found ready
pub record IsUnready (i : Incoming) (bytes : List ℕ) (taken : ℕ) : Type 0 where
  pub heard : IsHeard i.reader bytes 0
  pub none_taken : taken ≡ 0
  pub looked : i.fresh ≡ false → startable (reading_of i bytes) ≡ None
  pub due : i.fresh ≡ false → i.due ≡ is_due (reading_of i bytes)

-- it was found ready, and had not ended then
pub record IsAwaited (i : Incoming) (manner : Manner) (bytes : List ℕ) (taken : ℕ) : Type 0 where
  pub request : Request
  pub heard : IsHeard i.reader bytes taken
  pub head : headed (reading_of i bytes) ≡ Some request
  pub long : is_length request.framing ≡ true
  pub manner_is : manner ≡ manner_of request
  pub due : i.due ≡ is_due (reading_of i bytes)
  pub some : taken ≤ length request.body
  pub looked : i.fresh ≡ false → is_whole (reading_of i bytes) ≡ false

-- it is whole, and its bytes were taken off
pub record IsTaken (i : Incoming) (manner : Manner) (bytes : List ℕ) (taken : ℕ) : Type 0 where
  pub request : Request
  pub used : ℕ
  pub is : reading_of i bytes ≡ Whole request used i.due
  pub rest : IsHeard i.reader (drop used bytes) 0
  pub unread : is_unread i.reader ≡ true
  pub manner_is : manner ≡ manner_of request
  pub all : taken ≡ length request.body

abbrev pub StandsBy : Incoming → Option Manner → Bool → List ℕ → ℕ → Type 0
StandsBy i None false bytes taken = IsUnready i bytes taken
StandsBy i None true bytes taken = ⊥
StandsBy i (Some manner) false bytes taken = IsAwaited i manner bytes taken
StandsBy i (Some manner) true bytes taken = IsTaken i manner bytes taken

-- These bytes were heard, and so many of the body were handed out.
pub record KnowsRequest (i : Incoming) (bytes : List ℕ) (taken : ℕ) : Type 0 where
  pub limits : i.reader.limits ≡ i.limits
  pub stands : StandsBy i i.manner i.whole bytes taken

-- ---- what a look finds

pub record FindsMore (i : Incoming) (bytes : List ℕ) : Type 0 where
  pub request : Option Request
  pub due : Bool
  pub is : reading_of i bytes ≡ More request due
  pub unready : if_length request ≡ None
  pub knows : KnowsRequest i bytes 0
  pub ready : is_ready i ≡ false
  pub looked : is_looked_at i ≡ true

pub record FindsReady (i : Incoming) (bytes : List ℕ) (request : Request) : Type 0 where
  pub is : startable (reading_of i bytes) ≡ Some request
  pub knows : KnowsRequest i bytes (length request.body)
  pub ready : is_ready i ≡ true
  pub looked : is_looked_at i ≡ true

pub record FindsRefused (i : Incoming) (bytes : List ℕ) (reading : Reading) : Type 0 where
  pub is : reading_of i bytes ≡ reading
  pub knows : KnowsRequest i bytes 0
  pub ready : is_ready i ≡ false
  pub looked : is_looked_at i ≡ true

abbrev pub Finds : List ℕ → Found → Incoming → Type 0
Finds bytes Seen.More i = FindsMore i bytes
Finds bytes (Seen.Ready request) i = FindsReady i bytes request
Finds bytes (Seen.Refused cause bare) i = FindsRefused i bytes (Bad cause bare)

-- these bytes came of the body since
pub record HandsOut (i : Incoming) (bytes : List ℕ) (taken : ℕ) (body : List ℕ) : Type 0 where
  pub is : body ≡ drop taken (body_of (headed (reading_of i bytes)))
  pub knows : KnowsRequest i bytes (taken + length body)
  pub ready : is_ready i ≡ true
  pub looked : is_looked_at i ≡ true
