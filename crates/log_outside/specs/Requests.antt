-- What is left of a client's bytes behind a request.
use Rattle.std.specs.Prelude.{ℕ, ◌-◌, List, [], drop, length, Result, Ok, Err}
use Rattle.host_base.specs.declared.cause.Cause.{Cause}
use Rattle.host_base.specs.declared.limits.Limits.{Limits}
use Rattle.host_base.specs.declared.request.Framing.{Framing}
use Rattle.host_base.specs.declared.request.Framing.TheVariants.{Empty, Length, Chunked}
use Rattle.body_framing.specs.Chunked.{chunk_step, read_chunked}
use Rattle.body_framing.specs.declared.step.ChunkStep.{ChunkStep}
use Rattle.body_framing.specs.declared.step.ChunkStep.TheVariants as Answer
use Rattle.body_framing.specs.Framing.{framing_of}
use Rattle.head_reader.specs.RequestHead.{read_head}
use Rattle.head_reader.specs.declared.step.HeadStep.{HeadStep}
use Rattle.head_reader.specs.declared.step.HeadStep.TheVariants as Step
use Rattle.log_outside.specs.declared.heard.Heard.{Heard}

abbrev pub nothing : Heard
nothing = record { bytes = []; skip = 0 }

-- a body of so many bytes (RFC 9112 6.2): what stands behind it, or how many of its bytes are to come
abbrev pub after_body : ℕ → List ℕ → Heard
after_body count bytes = record { bytes = drop count bytes; skip = count - length bytes }

-- behind a body that has come whole; of another one nothing is left
abbrev pub after_step : List ℕ → ChunkStep → Heard
after_step bytes (Answer.End used) = record { bytes = drop used bytes; skip = 0 }
after_step bytes Answer.More = nothing
after_step bytes (Answer.Bad cause) = nothing

-- one in chunks (RFC 9112 7.1), which has come whole
abbrev pub after_chunks : ℕ → List ℕ → Heard
after_chunks limit bytes = after_step bytes (chunk_step 0 (read_chunked limit bytes))

abbrev pub after_framing : Limits → List ℕ → Result Framing Cause → Heard
after_framing limits bytes (Ok Empty) = after_body 0 bytes
after_framing limits bytes (Ok (Length count)) = after_body count bytes
after_framing limits bytes (Ok Chunked) = after_chunks limits.body bytes
after_framing limits bytes (Err cause) = nothing

abbrev pub after_head : Limits → List ℕ → HeadStep → Heard
after_head limits bytes (Step.Whole head used) = after_framing limits (drop used bytes) (framing_of head limits)
after_head limits bytes Step.More = nothing
after_head limits bytes (Step.Bad cause) = nothing

-- what is left behind the request at the front, where one stands there
abbrev pub after_request : Limits → List ℕ → Heard
after_request limits bytes = after_head limits bytes (read_head limits bytes)
