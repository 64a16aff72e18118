-- The item that a line spells. The tokens are first taken for what they are most like; the line is that item's where
-- its own line is the same. So each item has one spelling, and a number with a leading zero, a digit in upper case or a
-- token too many is none.
use denote.Ref.{Bor}
use Rattle.std.specs.Prelude.{◌≡◌, ℕ, ◌+◌, ◌*◌, ◌%◌, ◌^◌, ◌==◌, nat_lt, Bool, List, [], ◌∷◌, map, take, drop, length, codes, Option, Some, None, Result, Ok, Err, bytes_eq, count_by, slice_index_or, if◌then◌else◌}
use Rattle.std.specs.Char.{digit_value}
use Rattle.std.specs.List.{slice_split}
use Rattle.std.specs.Str.{is_utf8}
use Rattle.std.specs.Str.Parse.{digits_value}
use Rattle.host_base.specs.declared.cause.Cause.{Cause}
use Rattle.host_base.specs.declared.cause.Cause.TheVariants as cause
use Rattle.host_base.specs.declared.launch.Launch.{Launch}
use Rattle.host_base.specs.declared.launch.Pair.{Pair}
use Rattle.host_trace.specs.declared.items.Event.{Event}
use Rattle.host_trace.specs.declared.items.Event.TheVariants as event
use Rattle.host_trace.specs.declared.items.Act.{Act}
use Rattle.host_trace.specs.declared.items.Act.TheVariants as act
use Rattle.host_trace.specs.declared.items.Item.{Item}
use Rattle.host_trace.specs.declared.items.Item.TheVariants.{In, Out}
use Rattle.host_trace.specs.declared.items.Why.{Why}
use Rattle.host_trace.specs.declared.items.Why.TheVariants as why
use Rattle.trace_text.specs.declared.fault.TextFault.{TextFault}
use Rattle.trace_text.specs.declared.fault.TextFault.TheVariants as fault
use Rattle.trace_text.specs.Spelling.{Tokens, line_of}

abbrev pub is_space : ℕ → Bool
is_space b = b == 32

abbrev pub is_lf : ℕ → Bool
is_lf b = b == 10

-- ---- tokens, read so that each has a value

-- the number, if it is below 2 ^ bits
abbrev pub number : ℕ → List ℕ → ℕ
number bits token = if nat_lt (digits_value 10 token) (2 ^ bits) then digits_value 10 token else 0

abbrev pub byte_of : ℕ → ℕ → ℕ
byte_of high low = (16 * digit_value high + digit_value low) % 256

abbrev pub unhex : List ℕ → List ℕ
unhex [] = []
unhex (high ∷ []) = []
unhex (high ∷ low ∷ rest) = byte_of high low ∷ unhex rest

abbrev pub bytes_in : List ℕ → List ℕ
bytes_in token = unhex (drop 1 token)

abbrev pub at : Tokens → ℕ → List ℕ
at tokens i = slice_index_or tokens i []

abbrev pub now_of : Bor (List ℕ) → List ℕ
now_of token = token.now

abbrev pub given : {X : Type 0} → Option X → X → X
given (Some x) other = x
given None other = other

-- a text is UTF-8
abbrev pub utf8_of : List ℕ → Option (List ℕ)
utf8_of bytes = if is_utf8 bytes then Some bytes else None

abbrev pub text_by : List ℕ → List ℕ
text_by bytes = given (utf8_of bytes) []

abbrev pub text_in : List ℕ → List ℕ
text_in token = text_by (bytes_in token)

abbrev pub pairs_in : Tokens → List Pair
pairs_in [] = []
pairs_in (name ∷ []) = []
pairs_in (name ∷ value ∷ rest) = record { name = text_in name; value = text_in value } ∷ pairs_in rest

-- as many texts as the count says, and the pairs behind their own count
abbrev pub launch_in : Tokens → Launch
launch_in tokens = record {
  program = text_in (at tokens 0);
  dir = text_in (at tokens 1);
  args = map text_in (take (number 64 (at tokens 2)) (drop 3 tokens));
  env = pairs_in (drop 1 (drop (number 64 (at tokens 2)) (drop 3 tokens)));
}

abbrev pub malformed_cause : List ℕ → Option Cause
malformed_cause name =
    if bytes_eq name (codes "BadHead") then Some cause.BadHead
    else if bytes_eq name (codes "Incomplete") then Some cause.Incomplete
    else if bytes_eq name (codes "BadTarget") then Some cause.BadTarget
    else if bytes_eq name (codes "BadHost") then Some cause.BadHost
    else if bytes_eq name (codes "BadFraming") then Some cause.BadFraming
    else if bytes_eq name (codes "BadChunk") then Some cause.BadChunk
    else if bytes_eq name (codes "BadPath") then Some cause.BadPath
    else if bytes_eq name (codes "BadHandshake") then Some cause.BadHandshake
    else if bytes_eq name (codes "BadScgi") then Some cause.BadScgi
    else if bytes_eq name (codes "BadParams") then Some cause.BadParams
    else if bytes_eq name (codes "BadRecord") then Some cause.BadRecord
    else None

abbrev pub refused_cause : List ℕ → Option Cause
refused_cause name =
    if bytes_eq name (codes "OriginRefused") then Some cause.OriginRefused
    else if bytes_eq name (codes "NoScript") then Some cause.NoScript
    else if bytes_eq name (codes "IdleTime") then Some cause.IdleTime
    else if bytes_eq name (codes "BodyTooLong") then Some cause.BodyTooLong
    else if bytes_eq name (codes "TargetTooLong") then Some cause.TargetTooLong
    else if bytes_eq name (codes "BadExpect") then Some cause.BadExpect
    else if bytes_eq name (codes "UnknownHost") then Some cause.UnknownHost
    else if bytes_eq name (codes "UpgradeNeeded") then Some cause.UpgradeNeeded
    else if bytes_eq name (codes "HeadTooLong") then Some cause.HeadTooLong
    else if bytes_eq name (codes "TooManyFields") then Some cause.TooManyFields
    else None

abbrev pub script_cause : List ℕ → Option Cause
script_cause name =
    if bytes_eq name (codes "RedirectLoop") then Some cause.RedirectLoop
    else if bytes_eq name (codes "NotServed") then Some cause.NotServed
    else if bytes_eq name (codes "CodingUnknown") then Some cause.CodingUnknown
    else if bytes_eq name (codes "StartFailed") then Some cause.StartFailed
    else if bytes_eq name (codes "OutputBroken") then Some cause.OutputBroken
    else if bytes_eq name (codes "OutputTooLarge") then Some cause.OutputTooLarge
    else if bytes_eq name (codes "NoOutput") then Some cause.NoOutput
    else None

abbrev pub header_cause : List ℕ → ℕ → Cause
header_cause name seen =
    if bytes_eq name (codes "HeaderIncomplete") then cause.HeaderIncomplete
    else if bytes_eq name (codes "HeaderTooLarge") then cause.HeaderTooLarge
    else if bytes_eq name (codes "HeaderLine") then cause.HeaderLine
    else if bytes_eq name (codes "HeaderRepeated") then cause.HeaderRepeated
    else if bytes_eq name (codes "BadStatus") then cause.BadStatus
    else if bytes_eq name (codes "BadLocation") then cause.BadLocation
    else if bytes_eq name (codes "NoneOfThree") then cause.NoneOfThree
    else if bytes_eq name (codes "Full") then cause.Full seen
    else cause.RunTime

abbrev pub cause_in : List ℕ → ℕ → Cause
cause_in name seen = given (malformed_cause name) (given (refused_cause name) (given (script_cause name) (header_cause name seen)))

abbrev pub why_in : List ℕ → Cause → Why
why_in name told =
    if bytes_eq name (codes "Gone") then why.Gone
    else if bytes_eq name (codes "Idle") then why.Idle
    else if bytes_eq name (codes "Full") then why.Full
    else if bytes_eq name (codes "Stopped") then why.Stopped
    else if bytes_eq name (codes "NoMemory") then why.NoMemory
    else if bytes_eq name (codes "Cut") then why.Cut told
    else why.Done

-- ---- items

abbrev pub client_event : List ℕ → ℕ → Option Event
client_event name c =
    if bytes_eq name (codes "ClientEof") then Some (event.ClientEof c)
    else if bytes_eq name (codes "ClientGone") then Some (event.ClientGone c)
    else if bytes_eq name (codes "WsBinary") then Some (event.WsBinary c)
    else if bytes_eq name (codes "WsClosed") then Some (event.WsClosed c)
    else if bytes_eq name (codes "WsBad") then Some (event.WsBad c)
    else if bytes_eq name (codes "NoRoom") then Some (event.NoRoom c)
    else None

abbrev pub child_event : List ℕ → ℕ → Option Event
child_event name k =
    if bytes_eq name (codes "Started") then Some (event.Started k)
    else if bytes_eq name (codes "StartFailed") then Some (event.StartFailed k)
    else if bytes_eq name (codes "ChildEof") then Some (event.ChildEof k)
    else if bytes_eq name (codes "ChildBroken") then Some (event.ChildBroken k)
    else if bytes_eq name (codes "InputGone") then Some (event.InputGone k)
    else if bytes_eq name (codes "Exited") then Some (event.Exited k)
    else None

abbrev pub counted_event : List ℕ → ℕ → List ℕ → Option Event
counted_event name i token =
    if bytes_eq name (codes "Wrote") then Some (event.Wrote i (number 64 token))
    else if bytes_eq name (codes "Took") then Some (event.Took i (number 64 token))
    else if bytes_eq name (codes "StartFull") then Some (event.StartFull i (number 32 token))
    else None

abbrev pub bytes_event : List ℕ → ℕ → List ℕ → Option Event
bytes_event name i token =
    if bytes_eq name (codes "ClientBytes") then Some (event.ClientBytes i (bytes_in token))
    else if bytes_eq name (codes "ChildBytes") then Some (event.ChildBytes i (bytes_in token))
    else if bytes_eq name (codes "WsText") then Some (event.WsText i (bytes_in token))
    else None

abbrev pub other_event : List ℕ → List ℕ → Event
other_event name token =
    if bytes_eq name (codes "Accepted") then event.Accepted (record { 0 = text_in token })
    else if bytes_eq name (codes "Tick") then event.Tick (number 64 token)
    else event.Stop

abbrev pub event_by : List ℕ → List ℕ → List ℕ → Event
event_by name first second =
    given (client_event name (number 64 first)) (given (child_event name (number 64 first)) (given (counted_event name (number 64 first) second)
    (given (bytes_event name (number 64 first) second) (other_event name first))))

abbrev pub event_in : Tokens → Event
event_in tokens = event_by (at tokens 1) (at tokens 2) (at tokens 3)

abbrev pub plain_act : List ℕ → ℕ → Option Act
plain_act name i =
    if bytes_eq name (codes "WantClient") then Some (act.WantClient i)
    else if bytes_eq name (codes "EndInput") then Some (act.EndInput i)
    else if bytes_eq name (codes "WantChild") then Some (act.WantChild i)
    else if bytes_eq name (codes "Kill") then Some (act.Kill i)
    else if bytes_eq name (codes "Release") then Some (act.Release i)
    else None

abbrev pub bytes_act : List ℕ → ℕ → List ℕ → Option Act
bytes_act name i token =
    if bytes_eq name (codes "Write") then Some (act.Write i (bytes_in token))
    else if bytes_eq name (codes "Feed") then Some (act.Feed i (bytes_in token))
    else if bytes_eq name (codes "Upgrade") then Some (act.Upgrade i (bytes_in token))
    else None

abbrev pub start_in : Tokens → Act
start_in tokens =
    act.Start (number 64 (at tokens 2)) (number 64 (at tokens 3)) (number 128 (at tokens 4)) (number 32 (at tokens 5)) (launch_in (drop 6 tokens))

abbrev pub other_act : Tokens → Act
other_act tokens =
    if bytes_eq (at tokens 1) (codes "Start") then start_in tokens
    else if bytes_eq (at tokens 1) (codes "Shut") then act.Shut (number 64 (at tokens 2)) (why_in (at tokens 3) (cause_in (at tokens 4) (number 32 (at tokens 5))))
    else if bytes_eq (at tokens 1) (codes "Says") then act.Says (number 64 (at tokens 2)) (map text_in (drop 4 tokens))
    else act.CloseWs (number 64 (at tokens 2)) (number 16 (at tokens 3))

abbrev pub act_in : Tokens → Act
act_in tokens =
    given (plain_act (at tokens 1) (number 64 (at tokens 2))) (given (bytes_act (at tokens 1) (number 64 (at tokens 2)) (at tokens 3)) (other_act tokens))

abbrev pub likely : Tokens → Item
likely tokens = if bytes_eq (at tokens 0) (codes "<") then In (event_in tokens) else Out (act_in tokens)

abbrev pub if_line_of : List ℕ → Item → Option Item
if_line_of line x = if bytes_eq (line_of x) line then Some x else None

-- the item whose line this is
unfoldable pub item_in : List ℕ → Option Item
item_in line = if_line_of line (likely (slice_split is_space line))

-- ---- a text

abbrev pub event_only : Option Item → Option Item
event_only (Some (In e)) = Some (In e)
event_only other = None

-- the item of the line with this number, from 0: the first line is an event's
abbrev pub item_at : ℕ → List ℕ → Option Item
item_at number line = if number == 0 then event_only (item_in line) else item_in line

abbrev pub with_item : Item → Result (List Item) TextFault → Result (List Item) TextFault
with_item x (Ok items) = Ok (x ∷ items)
with_item x (Err told) = Err told

abbrev pub with_line : ℕ → Option Item → Result (List Item) TextFault → Result (List Item) TextFault
with_line number None later = Err (fault.Line number)
with_line number (Some x) later = with_item x later

-- what lines spell, of which the first has this number; behind the last LF stands nothing
abbrev pub lines_in : ℕ → Tokens → Result (List Item) TextFault
lines_in number [] = Ok []
lines_in number (rest ∷ []) = if length rest == 0 then Ok [] else Err (fault.Line number)
lines_in number (line ∷ next ∷ lines) = with_line number (item_at number line) (lines_in (number + 1) (next ∷ lines))

-- the trace that a text spells, of 2,048 lines at most
abbrev pub trace_in : List ℕ → Result (List Item) TextFault
trace_in text = if nat_lt 2048 (count_by is_lf text) then Err fault.TooLong else lines_in 0 (slice_split is_lf text)

-- what reading gives is this, except for want of memory
abbrev pub ReadsAs : Result (List Item) TextFault → Result (List Item) TextFault → Type 0
ReadsAs (Ok items) told = told ≡ Ok items
ReadsAs (Err fault.NoMemory) told = Unit {0}
ReadsAs (Err fault.TooLong) told = told ≡ Err fault.TooLong
ReadsAs (Err (fault.Line number)) told = told ≡ Err (fault.Line number)

abbrev pub Reads : Result (List Item) TextFault → List ℕ → Type 0
Reads result text = ReadsAs result (trace_in text)
