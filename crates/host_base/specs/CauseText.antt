-- The status code and the text of each cause.
use Rattle.std.specs.Prelude.{ℕ, List, codes}
use Rattle.host_base.specs.declared.cause.Cause.{Cause}
use Rattle.host_base.specs.declared.cause.Cause.TheVariants.{BadHead, Incomplete, BadTarget, BadHost, BadFraming, BadChunk, BadPath, BadHandshake, BadScgi, BadParams, BadRecord, OriginRefused, NoScript, IdleTime, BodyTooLong, TargetTooLong, BadExpect, UnknownHost, UpgradeNeeded, HeadTooLong, TooManyFields, RedirectLoop, NotServed, CodingUnknown, StartFailed, OutputBroken, OutputTooLarge, NoOutput, HeaderIncomplete, HeaderTooLarge, HeaderLine, HeaderRepeated, BadStatus, BadLocation, NoneOfThree, Full, RunTime}

-- the status code (RFC 9110 15)
abbrev pub status_of : Cause → ℕ
status_of BadHead = 400
status_of Incomplete = 400
status_of BadTarget = 400
status_of BadHost = 400
status_of BadFraming = 400
status_of BadChunk = 400
status_of BadPath = 400
status_of BadHandshake = 400
status_of BadScgi = 400
status_of BadParams = 400
status_of BadRecord = 400
status_of OriginRefused = 403
status_of NoScript = 404
status_of IdleTime = 408
status_of BodyTooLong = 413
status_of TargetTooLong = 414
status_of BadExpect = 417
status_of UnknownHost = 421
status_of UpgradeNeeded = 426
status_of HeadTooLong = 431
status_of TooManyFields = 431
status_of RedirectLoop = 500
status_of NotServed = 501
status_of CodingUnknown = 501
status_of StartFailed = 502
status_of OutputBroken = 502
status_of OutputTooLarge = 502
status_of NoOutput = 502
status_of HeaderIncomplete = 502
status_of HeaderTooLarge = 502
status_of HeaderLine = 502
status_of HeaderRepeated = 502
status_of BadStatus = 502
status_of BadLocation = 502
status_of NoneOfThree = 502
status_of (Full seen) = 503
status_of RunTime = 504

-- the text of the reply, without its line end; for Full the words before the number of children
abbrev pub text_of : Cause → List ℕ
text_of BadHead = codes "bad request head"
text_of Incomplete = codes "request ended early"
text_of BadTarget = codes "bad target"
text_of BadHost = codes "bad host"
text_of BadFraming = codes "bad body framing"
text_of BadChunk = codes "bad chunk"
text_of BadPath = codes "bad path"
text_of BadHandshake = codes "bad websocket handshake"
text_of BadScgi = codes "bad scgi request"
text_of BadParams = codes "bad parameters"
text_of BadRecord = codes "bad record"
text_of OriginRefused = codes "origin refused"
text_of NoScript = codes "no script for this path"
text_of IdleTime = codes "request took too long"
text_of BodyTooLong = codes "request body too large"
text_of TargetTooLong = codes "target too long"
text_of BadExpect = codes "expectation not met"
text_of UnknownHost = codes "host not served"
text_of UpgradeNeeded = codes "websocket version 13 required"
text_of HeadTooLong = codes "request head too large"
text_of TooManyFields = codes "too many header fields"
text_of RedirectLoop = codes "too many local redirects"
text_of NotServed = codes "method or target not served"
text_of CodingUnknown = codes "transfer coding not served"
text_of StartFailed = codes "script could not be started"
text_of OutputBroken = codes "script output broken"
text_of OutputTooLarge = codes "script output too large"
text_of NoOutput = codes "script gave no output"
text_of HeaderIncomplete = codes "script header incomplete"
text_of HeaderTooLarge = codes "script header too large"
text_of HeaderLine = codes "script header line refused"
text_of HeaderRepeated = codes "script header field repeated"
text_of BadStatus = codes "script status refused"
text_of BadLocation = codes "script location refused"
text_of NoneOfThree = codes "script sent no type, status or location"
text_of (Full seen) = codes "children running: "
text_of RunTime = codes "script took too long"
