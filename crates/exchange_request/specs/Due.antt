-- Whether 100 Continue is due for a request whose head was taken (RFC 9110 10.1.1).
use Rattle.std.specs.Prelude.{Bool, false, Result, Ok, Err}
use Rattle.host_base.specs.declared.cause.Cause.{Cause}
use Rattle.host_base.specs.declared.request.Request.{Request}
use Rattle.request_reader.specs.Request.{expects_continue}

abbrev pub due_by : Result Bool Cause → Bool
due_by (Ok due) = due
due_by (Err cause) = false

abbrev pub due_of : Request → Bool
due_of request = due_by (expects_continue request.version request.fields request.framing)
