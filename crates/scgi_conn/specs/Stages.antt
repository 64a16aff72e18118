-- What comes next, by what was heard.
use Rattle.std.specs.Prelude.{ℕ, Bool, true, false, ◌==◌, List, [], ◌∷◌, ◌++◌, Option, Some, None, Result, Ok, Err, if◌then◌else◌}
use Rattle.host_base.specs.declared.cause.Cause.{Cause}
use Rattle.host_base.specs.declared.cause.Cause.TheVariants.{IdleTime, Incomplete, NoOutput}
use Rattle.host_base.specs.declared.launch.Launch.{Launch}
use Rattle.host_base.specs.declared.limits.Limits.{Limits}
use Rattle.host_base.specs.declared.site.VHost.{VHost}
use Rattle.host_trace.specs.declared.items.Event.{Event}
use Rattle.host_trace.specs.declared.items.Event.TheVariants.{ClientBytes, ClientEof, ClientGone, WsBad, NoRoom, Tick, Stop}
use Rattle.scgi_conn.specs.declared.stage.End.{End}
use Rattle.scgi_conn.specs.declared.stage.End.TheVariants as For
use Rattle.child_core.specs.declared.ending.Outcome.{Outcome}
use Rattle.child_core.specs.declared.ending.Outcome.TheVariants.{Output, Failed, Gone, Stopped, Dropped}
use Rattle.meta_variables.specs.Gateway.{gateway_launch_of}
use Rattle.reply_writer.specs.FaultReply.{fault_text}
use Rattle.scgi_reader.specs.declared.reader.ScgiRequest.{ScgiRequest}
use Rattle.scgi_reader.specs.declared.reader.ScgiStep.{ScgiStep}
use Rattle.scgi_reader.specs.declared.reader.ScgiStep.TheVariants.{Whole, More, Bad}
use Rattle.scgi_reader.specs.Scgi.{scgi_of}
use Rattle.scgi_reader.specs.View.{View as Read}
use Rattle.scgi_conn.specs.declared.stage.Stage.{Stage}
use Rattle.scgi_conn.specs.declared.stage.Stage.TheVariants.{Hearing, Starting, Answered, Over, Running}

abbrev pub faulty : Cause → Stage
faulty cause = Answered (fault_text cause)

-- ---- one more piece of the request

abbrev pub by_launch : ScgiRequest → Result Launch Cause → Stage
by_launch request (Ok launch) = Starting launch request
by_launch request (Err cause) = faulty cause

abbrev pub by_reading : List VHost → Limits → List ℕ → ScgiStep → Stage
by_reading hosts limits bytes More = Hearing (record { limits = limits; bytes = bytes })
by_reading hosts limits bytes (Whole request used) = by_launch request (gateway_launch_of hosts request.fields)
by_reading hosts limits bytes (Bad cause) = faulty cause

abbrev pub after_bytes : List VHost → Read → List ℕ → Stage
after_bytes hosts r piece = by_reading hosts r.limits (r.bytes ++ piece) (scgi_of r.limits (r.bytes ++ piece))

-- ---- no more of it comes

-- by whether a byte of it was heard
abbrev pub broken_off : List ℕ → Cause → End → Stage
broken_off [] cause end = Over end
broken_off (byte ∷ bytes) cause end = faulty cause

-- ---- an event, while more of the request is to come; `met`: it is the Tick by which the client was idle as long as it may be

abbrev pub after_event : List VHost → ℕ → Bool → Event → Read → Stage
after_event hosts c met (ClientBytes d bytes) r = if c == d then after_bytes hosts r bytes else Hearing r
after_event hosts c met (ClientEof d) r = if c == d then broken_off r.bytes Incomplete For.Done else Hearing r
after_event hosts c met (ClientGone d) r = if c == d then Over For.Gone else Hearing r
after_event hosts c met (WsBad d) r = if c == d then Over For.Gone else Hearing r
after_event hosts c met (NoRoom d) r = if c == d then Over For.NoMemory else Hearing r
after_event hosts c met (Tick secs) r = if met then broken_off r.bytes IdleTime For.Idle else Hearing r
after_event hosts c met Stop r = Over For.Stopped
after_event hosts c met _ r = Hearing r

-- ---- its script's run was decided

-- the output is the answer
abbrev pub after_output : List ℕ → Stage
after_output [] = faulty NoOutput
after_output (byte ∷ output) = Answered (byte ∷ output)

-- .. of which this is the output so far
abbrev pub after_run : List ℕ → Option Outcome → Stage
after_run output None = Running
after_run output (Some Output) = after_output output
after_run output (Some (Failed cause)) = faulty cause
after_run output (Some Gone) = Over For.Gone
after_run output (Some Stopped) = Over For.Stopped
after_run output (Some Dropped) = Over For.NoMemory
