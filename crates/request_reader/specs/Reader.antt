-- What callers see of a reader, and what it keeps.
use Rattle.std.specs.Prelude.{◌≡◌, ℕ, ◌+◌, ◌<◌, ◌≤◌, Bool, false, not, ◌||◌, List, [], ◌++◌, length, take, drop, Option, Some, None, is_some, Ok}
use Rattle.host_base.specs.declared.limits.Limits.{Limits}
use Rattle.host_base.specs.declared.request.Framing.{Framing}
use Rattle.host_base.specs.declared.request.Framing.TheVariants.{Empty, Length, Chunked}
use Rattle.host_base.specs.declared.request.Head.{Head}
use Rattle.head_lines.specs.declared.search.Search.{Search}
use Rattle.head_reader.specs.RequestHead.{IsSearchedHead, read_head}
use Rattle.head_reader.specs.declared.step.HeadStep.TheVariants as Step
use Rattle.body_framing.specs.Chunked.{at_start, read_len, standing_after}
use Rattle.request_reader.specs.declared.fault.Fault.{Fault}
use Rattle.request_reader.specs.declared.opened.Opened.{Opened}
use Rattle.request_reader.specs.declared.step.ReqStep.{ReqStep}
use Rattle.request_reader.specs.declared.step.ReqStep.TheVariants as Answer
use Rattle.request_reader.specs.Request.{Reading, Whole, More, Bad, asked_by, is_length, read_request, with_body}

-- the limits, the request whose head was read, the fault that was found, and the bytes that were not read
-- into a body, with those of the head
pub record Reader : Type 0 where
  pub limits : Limits
  pub opened : Option Opened
  pub fault : Option Fault
  pub rest : List ℕ

-- a reader that was fed these bytes and has read none of them
abbrev pub unread : Limits → List ℕ → Reader
unread limits bytes = record { limits = limits; opened = None; fault = None; rest = bytes }

-- whether a reader has read none of the bytes that it was fed since the last whole request
abbrev pub is_unread : Reader → Bool
is_unread r = not (is_some r.opened || is_some r.fault)

-- a body of n bytes, of which some were read: what was not handed out of them, and how many are left
pub record IsCounted (n : ℕ) (o : Opened) (read : List ℕ) (taken : ℕ) : Type 0 where
  pub left : o.left + length read ≡ n
  pub kept : o.request.body ≡ drop taken read
  pub some : taken ≤ length read

-- a body in chunks, of which some bytes were read up to its end at most
pub record IsInChunks (limit : ℕ) (o : Opened) (read : List ℕ) (taken : ℕ) : Type 0 where
  pub stands : o.chunks ≡ standing_after limit read
  pub all : read_len (at_start limit) read ≡ length read
  pub plain : o.request.body ≡ []
  pub none_left : o.left ≡ 0
  pub none_taken : taken ≡ 0

-- so many bytes of the body were handed out, and the request keeps what was read behind them
abbrev pub IsInBody : Framing → ℕ → Opened → List ℕ → ℕ → Type 0
IsInBody Empty limit o read taken = IsCounted 0 o read taken
IsInBody (Length n) limit o read taken = IsCounted n o read taken
IsInBody Chunked limit o read taken = IsInChunks limit o read taken

-- the data of the body that was read and not handed out
abbrev pub data_kept : Framing → Opened → List ℕ
data_kept Empty o = o.request.body
data_kept (Length n) o = o.request.body
data_kept Chunked o = o.chunks.decoded

-- the head was read, and the bytes behind it are what was read of the body, and others behind these, of
-- which there is none where bytes of a body of known length are to come
pub record IsOpened (limits : Limits) (o : Opened) (rest bytes : List ℕ) (taken : ℕ) : Type 0 where
  pub head : Head
  pub read : List ℕ
  pub behind : List ℕ
  pub whole : read_head limits bytes ≡ Step.Whole head o.used
  pub asks : asked_by limits head ≡ Ok (record { request = with_body o.request []; due = o.due })
  pub body_is : drop o.used bytes ≡ read ++ behind
  pub rest_is : rest ≡ take o.used bytes ++ behind
  pub body : IsInBody o.request.framing limits.body o read taken
  pub waits : 0 < o.left → behind ≡ []

-- the head and what stands behind the bytes that were read of a body in which a fault was found
pub record IsLeftOf (o : Opened) (rest bytes : List ℕ) : Type 0 where
  pub read : List ℕ
  pub behind : List ℕ
  pub inside : o.used ≤ length bytes
  pub body_is : drop o.used bytes ≡ read ++ behind
  pub rest_is : rest ≡ take o.used bytes ++ behind
  pub none_left : o.left ≡ 0

-- what is left where a fault was found: all bytes, if it was found in the head
abbrev pub IsLeft : Option Opened → List ℕ → List ℕ → Type 0
IsLeft None rest bytes = rest ≡ bytes
IsLeft (Some o) rest bytes = IsLeftOf o rest bytes

-- a fault was found that stays whatever follows
pub record IsFaulty (limits : Limits) (f : Fault) (opened : Option Opened) (rest bytes : List ℕ) : Type 0 where
  pub is : read_request limits bytes ≡ Bad f.cause f.bare
  pub lasts : 2 ≤ limits.head
  pub left : IsLeft opened rest bytes

abbrev pub IsUnfaulty : Limits → Option Opened → List ℕ → List ℕ → ℕ → Type 0
IsUnfaulty limits None rest bytes taken = (rest ≡ bytes) × (taken ≡ 0)
IsUnfaulty limits (Some o) rest bytes taken = IsOpened limits o rest bytes taken

abbrev pub IsHeardBy : Limits → Option Fault → Option Opened → List ℕ → List ℕ → ℕ → Type 0
IsHeardBy limits None opened rest bytes taken = IsUnfaulty limits opened rest bytes taken
IsHeardBy limits (Some f) opened rest bytes taken = IsFaulty limits f opened rest bytes

-- These bytes were fed since the last whole request and its rest, and so many bytes of the body were
-- handed out.
abbrev pub IsHeard : Reader → List ℕ → ℕ → Type 0
IsHeard r bytes taken = IsHeardBy r.limits r.fault r.opened r.rest bytes taken

abbrev pub is_early_opened : Option Opened → Bool
is_early_opened None = false
is_early_opened (Some o) = is_length o.request.framing

-- whether a request was handed out early, or can be without taking memory
abbrev pub is_early : Reader → Bool
is_early r = is_early_opened r.opened

-- What a reader is behind an answer: a whole request is taken off, and only its rest is left.
abbrev pub IsBehind : Limits → List ℕ → ℕ → Reading → Reader → Type 0
IsBehind limits bytes taken (Whole request used due) r = r ≡ unread limits (drop used bytes)
IsBehind limits bytes taken (More request due) r = (r.limits ≡ limits) × IsHeard r bytes taken
IsBehind limits bytes taken (Bad cause bare) r = (r.limits ≡ limits) × IsHeard r bytes taken

-- where a fault is answered nothing is taken off, and what is left stays
abbrev pub BadKeeps : ReqStep → Reader → Reader → Type 0
BadKeeps (Answer.Whole request) old new = Unit {0}
BadKeeps (Answer.More due) old new = Unit {0}
BadKeeps (Answer.Bad cause bare) old new = new.rest ≡ old.rest

-- the bytes of an opened request's head are there
abbrev pub HasHead : Option Opened → List ℕ → Type 0
HasHead None rest = Unit {0}
HasHead (Some o) rest = o.used ≤ length rest

-- The bytes before `begin` were taken off, and the search goes on whatever follows.
pub record IsSound (limits : Limits) (buffer : List ℕ) (begin : ℕ) (search : Search) (opened : Option Opened) : Type 0 where
  pub inside : begin ≤ length buffer
  pub searched : (more : List ℕ) → IsSearchedHead limits (drop begin buffer ++ more) search
  pub headed : HasHead opened (drop begin buffer)
