-- What a look at a request finds, and what the reader is behind it.
use Rattle.std.specs.Prelude.{◌≡◌, ℕ, ◌+◌, Bool, List, ◌++◌, take, drop, Option, Some, None, if◌then◌else◌, bytes_eq, codes}
use Rattle.host_base.specs.declared.cause.Cause.{Cause}
use Rattle.host_base.specs.declared.limits.Limits.{Limits}
use Rattle.host_base.specs.declared.request.Request.{Request}
use Rattle.body_framing.specs.declared.step.ChunkStep.{ChunkStep}
use Rattle.body_framing.specs.declared.step.ChunkStep.TheVariants as Told
use Rattle.request_reader.specs.declared.fault.Fault.{Fault}
use Rattle.request_reader.specs.declared.look.Look.{Look}
use Rattle.request_reader.specs.declared.look.Look.TheVariants as Seen
use Rattle.request_reader.specs.declared.opened.Opened.{Opened}
use Rattle.request_reader.specs.Request.{Whole, More, Bad, early_so_far, is_length, read_request, with_body, without_taken}
use Rattle.request_reader.specs.Reader.{Reader, IsHeard, data_kept}

-- the request that an opened one is, where its length is known
abbrev pub early_opened : Option Opened → Option Request
early_opened None = None
early_opened (Some o) = if is_length o.request.framing then Some o.request else None

-- the fault of a body
abbrev pub body_fault : Opened → Cause → Fault
body_fault o cause = record { cause = cause; bare = bytes_eq o.request.method (codes "HEAD") }

-- how a reader keeps an opened request: what was read of its body is dropped
abbrev pub settled : Reader → Opened → ChunkStep → Reader
settled r o Told.More = record r { opened = Some o; rest = take o.used r.rest }
settled r o (Told.End count) = record r { opened = Some o; rest = take o.used r.rest ++ drop (o.used + count) r.rest }
settled r o (Told.Bad cause) = record r { opened = Some o; fault = Some (body_fault o cause) }

abbrev pub look_of : Opened → ChunkStep → Look
look_of o Told.More = Seen.More o.due
look_of o (Told.End count) = Seen.Whole
look_of o (Told.Bad cause) = Seen.Fault (body_fault o cause)

-- a look that finds a fault leaves what is left
abbrev pub FaultsKeep : Look → Reader → Reader → Type 0
FaultsKeep (Seen.More due) old new = Unit {0}
FaultsKeep Seen.Whole old new = Unit {0}
FaultsKeep (Seen.Fault f) old new = new.rest ≡ old.rest

-- so many bytes behind the head were read
abbrev pub read_count : ChunkStep → ℕ
read_count Told.More = 0
read_count (Told.End count) = count
read_count (Told.Bad cause) = 0

pub record SeesMore (limits : Limits) (bytes : List ℕ) (taken : ℕ) (due : Bool) (r : Reader) : Type 0 where
  pub request : Option Request
  pub reads : read_request limits bytes ≡ More request due
  pub early : early_so_far taken request ≡ early_opened r.opened
  pub limits_are : r.limits ≡ limits
  pub heard : IsHeard r bytes taken

pub record SeesWhole (limits : Limits) (bytes : List ℕ) (taken : ℕ) (r : Reader) : Type 0 where
  pub request : Request
  pub used : ℕ
  pub due : Bool
  pub o : Opened
  pub reads : read_request limits bytes ≡ Whole request used due
  pub opened : r.opened ≡ Some o
  pub unfaulty : r.fault ≡ None
  pub says : with_body o.request (data_kept o.request.framing o) ≡ without_taken taken request
  pub behind : drop o.used r.rest ≡ drop used bytes
  pub limits_are : r.limits ≡ limits
  pub heard : IsHeard r bytes taken

pub record SeesFault (limits : Limits) (bytes : List ℕ) (taken : ℕ) (f : Fault) (r : Reader) : Type 0 where
  pub reads : read_request limits bytes ≡ Bad f.cause f.bare
  pub limits_are : r.limits ≡ limits
  pub heard : IsHeard r bytes taken

abbrev pub LookSays : Limits → List ℕ → ℕ → Look → Reader → Type 0
LookSays limits bytes taken (Seen.More due) r = SeesMore limits bytes taken due r
LookSays limits bytes taken Seen.Whole r = SeesWhole limits bytes taken r
LookSays limits bytes taken (Seen.Fault f) r = SeesFault limits bytes taken f r
