-- What the first look at a request finds.
use Rattle.std.specs.Prelude.{◌≡◌, ℕ, ◌≤◌, List, [], length, drop, None, Ok, Err, false}
use Rattle.host_base.specs.declared.limits.Limits.{Limits}
use Rattle.host_base.specs.declared.request.Head.{Head}
use Rattle.head_reader.specs.RequestHead.{read_head}
use Rattle.head_reader.specs.declared.step.HeadStep.TheVariants as Step
use Rattle.body_framing.specs.declared.step.ChunkStep.{ChunkStep}
use Rattle.request_reader.specs.declared.fault.Fault.{Fault}
use Rattle.request_reader.specs.declared.opened.Opened.{Opened}
use Rattle.request_reader.specs.declared.start.Start.{Start}
use Rattle.request_reader.specs.declared.start.Start.TheVariants as Found
use Rattle.request_reader.specs.Request.{Bad, More, asked_by, is_head_method, read_request, with_body}
use Rattle.request_reader.specs.Advance.{AdvancesTo}

-- the head took so many bytes, and these follow it
pub record IsOpening (limits : Limits) (head : Head) (used : ℕ) (bytes : List ℕ) (o : Opened) (step : ChunkStep) : Type 0 where
  pub head_len : o.used ≡ used
  pub asks : asked_by limits head ≡ Ok (record { request = with_body o.request []; due = o.due })
  pub advances : AdvancesTo limits.body o.request.framing [] bytes 0 step o

-- a head that is refused
pub record IsRefusal (limits : Limits) (head : Head) (f : Fault) : Type 0 where
  pub cause : asked_by limits head ≡ Err f.cause
  pub bare : f.bare ≡ is_head_method head

abbrev pub StartsAs : Limits → Head → ℕ → List ℕ → Start → Type 0
StartsAs limits head used bytes Found.More = ⊥
StartsAs limits head used bytes (Found.Fault f) = IsRefusal limits head f
StartsAs limits head used bytes (Found.Opened o step) = IsOpening limits head used bytes o step

-- the head at the front of the bytes, and what was opened of it
pub record IsOpeningOf (limits : Limits) (bytes : List ℕ) (o : Opened) (step : ChunkStep) : Type 0 where
  pub head : Head
  pub inside : o.used ≤ length bytes
  pub whole : read_head limits bytes ≡ Step.Whole head o.used
  pub opens : IsOpening limits head o.used (drop o.used bytes) o step

abbrev pub IsStart : Limits → List ℕ → Start → Type 0
IsStart limits bytes Found.More = read_request limits bytes ≡ More None false
IsStart limits bytes (Found.Fault f) = read_request limits bytes ≡ Bad f.cause f.bare
IsStart limits bytes (Found.Opened o step) = IsOpeningOf limits bytes o step
