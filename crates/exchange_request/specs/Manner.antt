-- What a reply to a request depends on.
use Rattle.std.specs.Prelude.{codes, bytes_eq}
use Rattle.host_base.specs.declared.request.Request.{Request}
use Rattle.request_reader.specs.Request.{persists}
use Rattle.exchange_request.specs.declared.found.Manner.{Manner}

abbrev pub manner_of : Request → Manner
manner_of request =
    record { version = request.version; head_only = bytes_eq request.method (codes "HEAD"); persists = persists request }
