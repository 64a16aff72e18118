-- How a trace is spelled: a line for each item, `<` before an event and `>` before an act, and its tokens, each with a
-- space before it: its name and its fields in their order. A number is decimal; bytes and texts are `x` and two lower-case
-- hex digits for each byte; a list is its length and its elements.
use Rattle.std.specs.Prelude.{ℕ, ◌/◌, ◌%◌, Bool, true, false, List, [], ◌∷◌, ◌++◌, length, codes}
use Rattle.std.specs.Fmt.{decimal, digit_glyph}
use Rattle.std.specs.List.{flat_map}
use Rattle.host_base.specs.declared.cause.Cause.{Cause}
use Rattle.host_base.specs.declared.cause.Cause.TheVariants as cause
use Rattle.host_base.specs.declared.launch.Launch.{Launch}
use Rattle.host_base.specs.declared.launch.Pair.{Pair}
use Rattle.host_trace.specs.declared.items.Event.{Event}
use Rattle.host_trace.specs.declared.items.Event.TheVariants as event
use Rattle.host_trace.specs.declared.items.Act.{Act}
use Rattle.host_trace.specs.declared.items.Act.TheVariants as act
use Rattle.host_trace.specs.declared.items.Item.{Item}
use Rattle.host_trace.specs.declared.items.Item.TheVariants.{In, Out}
use Rattle.host_trace.specs.declared.items.Why.{Why}
use Rattle.host_trace.specs.declared.items.Why.TheVariants as why

abbrev pub Tokens : Type 0
Tokens = List (List ℕ)

-- ---- fields

abbrev pub hex_byte : ℕ → List ℕ
hex_byte b = digit_glyph false (b / 16) ∷ digit_glyph false (b % 16) ∷ []

abbrev pub hex : List ℕ → List ℕ
hex bytes = codes "x" ++ flat_map hex_byte bytes

abbrev pub text_token : List ℕ → Tokens
text_token text = hex text ∷ []

abbrev pub texts : List (List ℕ) → Tokens
texts list = flat_map text_token list

abbrev pub pair_tokens : Pair → Tokens
pair_tokens pair = hex pair.name ∷ hex pair.value ∷ []

abbrev pub pairs : List Pair → Tokens
pairs list = flat_map pair_tokens list

abbrev pub launch_tokens : Launch → Tokens
launch_tokens launch =
    hex launch.program ∷ hex launch.dir ∷ decimal (length launch.args) ∷ (texts launch.args
    ++ decimal (length launch.env) ∷ pairs launch.env)

abbrev pub cause_name : Cause → List ℕ
cause_name cause.BadHead = codes "BadHead"
cause_name cause.Incomplete = codes "Incomplete"
cause_name cause.BadTarget = codes "BadTarget"
cause_name cause.BadHost = codes "BadHost"
cause_name cause.BadFraming = codes "BadFraming"
cause_name cause.BadChunk = codes "BadChunk"
cause_name cause.BadPath = codes "BadPath"
cause_name cause.BadHandshake = codes "BadHandshake"
cause_name cause.BadScgi = codes "BadScgi"
cause_name cause.BadParams = codes "BadParams"
cause_name cause.BadRecord = codes "BadRecord"
cause_name cause.OriginRefused = codes "OriginRefused"
cause_name cause.NoScript = codes "NoScript"
cause_name cause.IdleTime = codes "IdleTime"
cause_name cause.BodyTooLong = codes "BodyTooLong"
cause_name cause.TargetTooLong = codes "TargetTooLong"
cause_name cause.BadExpect = codes "BadExpect"
cause_name cause.UnknownHost = codes "UnknownHost"
cause_name cause.UpgradeNeeded = codes "UpgradeNeeded"
cause_name cause.HeadTooLong = codes "HeadTooLong"
cause_name cause.TooManyFields = codes "TooManyFields"
cause_name cause.RedirectLoop = codes "RedirectLoop"
cause_name cause.NotServed = codes "NotServed"
cause_name cause.CodingUnknown = codes "CodingUnknown"
cause_name cause.StartFailed = codes "StartFailed"
cause_name cause.OutputBroken = codes "OutputBroken"
cause_name cause.OutputTooLarge = codes "OutputTooLarge"
cause_name cause.NoOutput = codes "NoOutput"
cause_name cause.HeaderIncomplete = codes "HeaderIncomplete"
cause_name cause.HeaderTooLarge = codes "HeaderTooLarge"
cause_name cause.HeaderLine = codes "HeaderLine"
cause_name cause.HeaderRepeated = codes "HeaderRepeated"
cause_name cause.BadStatus = codes "BadStatus"
cause_name cause.BadLocation = codes "BadLocation"
cause_name cause.NoneOfThree = codes "NoneOfThree"
cause_name cause.RunTime = codes "RunTime"
cause_name (cause.Full seen) = codes "Full"

abbrev pub cause_tokens : Cause → Tokens
cause_tokens (cause.Full seen) = codes "Full" ∷ decimal seen ∷ []
cause_tokens other = cause_name other ∷ []

abbrev pub why_tokens : Why → Tokens
why_tokens why.Done = codes "Done" ∷ []
why_tokens why.Gone = codes "Gone" ∷ []
why_tokens why.Idle = codes "Idle" ∷ []
why_tokens why.Full = codes "Full" ∷ []
why_tokens why.Stopped = codes "Stopped" ∷ []
why_tokens why.NoMemory = codes "NoMemory" ∷ []
why_tokens (why.Cut told) = codes "Cut" ∷ cause_tokens told

-- ---- items

abbrev pub event_tokens : Event → Tokens
event_tokens (event.Accepted peer) = codes "Accepted" ∷ hex peer.0 ∷ []
event_tokens (event.ClientBytes c bytes) = codes "ClientBytes" ∷ decimal c ∷ hex bytes ∷ []
event_tokens (event.ClientEof c) = codes "ClientEof" ∷ decimal c ∷ []
event_tokens (event.ClientGone c) = codes "ClientGone" ∷ decimal c ∷ []
event_tokens (event.Wrote c n) = codes "Wrote" ∷ decimal c ∷ decimal n ∷ []
event_tokens (event.Started k) = codes "Started" ∷ decimal k ∷ []
event_tokens (event.StartFailed k) = codes "StartFailed" ∷ decimal k ∷ []
event_tokens (event.StartFull k seen) = codes "StartFull" ∷ decimal k ∷ decimal seen ∷ []
event_tokens (event.ChildBytes k bytes) = codes "ChildBytes" ∷ decimal k ∷ hex bytes ∷ []
event_tokens (event.ChildEof k) = codes "ChildEof" ∷ decimal k ∷ []
event_tokens (event.ChildBroken k) = codes "ChildBroken" ∷ decimal k ∷ []
event_tokens (event.Took k n) = codes "Took" ∷ decimal k ∷ decimal n ∷ []
event_tokens (event.InputGone k) = codes "InputGone" ∷ decimal k ∷ []
event_tokens (event.Exited k) = codes "Exited" ∷ decimal k ∷ []
event_tokens (event.WsText c bytes) = codes "WsText" ∷ decimal c ∷ hex bytes ∷ []
event_tokens (event.WsBinary c) = codes "WsBinary" ∷ decimal c ∷ []
event_tokens (event.WsClosed c) = codes "WsClosed" ∷ decimal c ∷ []
event_tokens (event.WsBad c) = codes "WsBad" ∷ decimal c ∷ []
event_tokens (event.NoRoom c) = codes "NoRoom" ∷ decimal c ∷ []
event_tokens (event.Tick secs) = codes "Tick" ∷ decimal secs ∷ []
event_tokens event.Stop = codes "Stop" ∷ []

abbrev pub act_tokens : Act → Tokens
act_tokens (act.WantClient c) = codes "WantClient" ∷ decimal c ∷ []
act_tokens (act.Write c bytes) = codes "Write" ∷ decimal c ∷ hex bytes ∷ []
act_tokens (act.Shut c told) = codes "Shut" ∷ decimal c ∷ why_tokens told
act_tokens (act.Start k c j hop launch) =
    codes "Start" ∷ decimal k ∷ decimal c ∷ decimal j ∷ decimal hop ∷ launch_tokens launch
act_tokens (act.Feed k bytes) = codes "Feed" ∷ decimal k ∷ hex bytes ∷ []
act_tokens (act.EndInput k) = codes "EndInput" ∷ decimal k ∷ []
act_tokens (act.WantChild k) = codes "WantChild" ∷ decimal k ∷ []
act_tokens (act.Kill k) = codes "Kill" ∷ decimal k ∷ []
act_tokens (act.Release k) = codes "Release" ∷ decimal k ∷ []
act_tokens (act.Upgrade c rest) = codes "Upgrade" ∷ decimal c ∷ hex rest ∷ []
act_tokens (act.Says c list) = codes "Says" ∷ decimal c ∷ decimal (length list) ∷ texts list
act_tokens (act.CloseWs c code) = codes "CloseWs" ∷ decimal c ∷ decimal code ∷ []

abbrev pub mark_of : Item → List ℕ
mark_of (In e) = codes "<"
mark_of (Out a) = codes ">"

abbrev pub tokens_of : Item → Tokens
tokens_of (In e) = event_tokens e
tokens_of (Out a) = act_tokens a

abbrev pub spaced : List ℕ → List ℕ
spaced token = 32 ∷ token

abbrev pub spelled : Tokens → List ℕ
spelled tokens = flat_map spaced tokens

-- the line of an item, without its LF
abbrev pub line_of : Item → List ℕ
line_of x = mark_of x ++ spelled (tokens_of x)

-- .. and with it
abbrev pub ended_line : Item → List ℕ
ended_line x = line_of x ++ 10 ∷ []

-- the text of a trace
abbrev pub text_of : List Item → List ℕ
text_of items = flat_map ended_line items

-- the first item is an event
abbrev pub begins_with_event : List Item → Bool
begins_with_event [] = true
begins_with_event (In e ∷ items) = true
begins_with_event (Out a ∷ items) = false
