-- A request whose head was read, as it is opened and as bytes of a body of known length are read.
use Rattle.std.specs.Prelude.{ℕ, ◌-◌, min, List, [], ◌++◌, length, nat_le, Option, Some, None, if◌then◌else◌}
use Rattle.host_base.specs.declared.limits.Limits.{Limits}
use Rattle.body_framing.specs.Chunked.{at_start}
use Rattle.body_framing.specs.declared.step.ChunkStep.{ChunkStep}
use Rattle.body_framing.specs.declared.step.ChunkStep.TheVariants as Told
use Rattle.request_reader.specs.declared.asked.Asked.{Asked}
use Rattle.request_reader.specs.declared.opened.Opened.{Opened}
use Rattle.request_reader.specs.Request.{counted_len, with_body}

-- nothing of the body was read yet
abbrev pub opened_of : Limits → Asked → ℕ → Opened
opened_of limits asked used = record {
  request = asked.request;
  used = used;
  due = asked.due;
  left = counted_len asked.request.framing;
  chunks = at_start limits.body;
}

-- bytes of a body of known length were read
abbrev pub with_bytes : Opened → List ℕ → Opened
with_bytes o bytes = record o { request = with_body o.request (o.request.body ++ bytes); left = o.left - length bytes }

-- what is told of bytes of a body of known length, of which so many are left
abbrev pub counted_step : ℕ → ℕ → ChunkStep
counted_step left len = if nat_le left len then Told.End left else Told.More

-- how many of so many bytes belong to an opened request
abbrev pub wanted_by : Option Opened → ℕ → ℕ
wanted_by None len = 0
wanted_by (Some o) len = min o.left len

-- what is kept of a body of known length
abbrev pub kept_of : Option Opened → List ℕ
kept_of None = []
kept_of (Some o) = o.request.body

abbrev pub emptied : Opened → Opened
emptied o = record o { request = with_body o.request [] }
