-- In which steps no memory is taken, so that none can be wanting.
use Rattle.std.specs.Prelude.{ℕ, Bool, true, false, not, ◌&&◌, ◌||◌, ◌==◌, List, filter}
use Rattle.std.specs.List.{list_any}
use Rattle.host_base.specs.declared.site.Site.{Site}
use Rattle.host_trace.specs.declared.items.Act.{Act}
use Rattle.host_trace.specs.declared.items.Act.TheVariants.{Start}
use Rattle.host_trace.specs.declared.items.Event.{Event}
use Rattle.host_trace.specs.declared.items.Event.TheVariants.{Accepted, ClientGone, InputGone, WsBinary, WsClosed, WsBad, Stop, Tick, Exited}
use Rattle.host_trace.specs.declared.items.Item.TheVariants.{Out}
use Rattle.host_trace.specs.Kinds.{is_shut_for_memory, is_write}
use Rattle.host_trace.specs.Trace.{Step, step_of}
use Rattle.trace_child.specs.Words.{implies, is_filled}
use Rattle.trace_model.specs.Answer.{stage}
use Rattle.trace_model.specs.Demands.{must_answer, must_hop, is_unstarted, must_stream}
use Rattle.trace_model.specs.Exchange.{Exchange, request_bytes, has_final}
use Rattle.trace_model.specs.Standing.{stands_whole}
use Rattle.trace_model.specs.Steps.{goes_on, ended_in}

abbrev pub is_shut_act : ℕ → Act → Bool
is_shut_act c act = is_shut_for_memory c (Out act)

-- the step without its Shut for want of memory
abbrev pub unshut : ℕ → Step → Step
unshut c s = step_of s.before s.event (filter (λ act. not (is_shut_act c act)) s.acts)

-- bytes of a reply are written in the step
abbrev pub writes : ℕ → List Act → Bool
writes c acts = list_any (λ act. is_write c (Out act)) acts

-- a reply is demanded of the exchange, and doesn't stand
abbrev pub lacks_reply : Site → ℕ → Exchange → Bool
lacks_reply site c e = must_answer site c e && not (stands_whole site c e) || must_stream site c e && not (has_final site c e)

abbrev pub is_reply_due : Site → ℕ → Step → Bool
is_reply_due site c s = writes c s.acts || lacks_reply site c (goes_on site c (unshut c s))

abbrev pub is_hop_act : Act → Bool
is_hop_act (Start k c j hop launch) = not (hop == 0)
is_hop_act _ = false

-- a hop is demanded of the exchange, and isn't started
abbrev pub lacks_hop : Site → ℕ → Exchange → Bool
lacks_hop site c e = must_hop site c e && is_unstarted (stage site c e)

abbrev pub is_hop_due : Site → ℕ → Step → Bool
is_hop_due site c s = list_any is_hop_act s.acts || lacks_hop site c (goes_on site c (unshut c s))

-- no exchange ends in the step, or none after whose request a byte was heard
abbrev pub leaves_nothing : Site → ℕ → Step → Bool
leaves_nothing site c s = not (is_filled (ended_in site c (unshut c s))) || not (is_filled (request_bytes c (goes_on site c (unshut c s))))

-- no memory is taken in the step
abbrev pub takes_none : Site → ℕ → Step → Event → Bool
takes_none site c s (Accepted peer) = true
takes_none site c s (ClientGone d) = true
takes_none site c s (InputGone k) = true
takes_none site c s (WsBinary d) = true
takes_none site c s (WsClosed d) = true
takes_none site c s (WsBad d) = true
takes_none site c s Stop = true
takes_none site c s (Tick secs) = not (is_reply_due site c s)
takes_none site c s (Exited k) = not (is_reply_due site c s) && not (is_hop_due site c s) && leaves_nothing site c s
takes_none site c s _ = false

-- None is wanting there. (After NoRoom none is taken either, and the connection is shut for want of memory.)
abbrev pub takes_no_memory : Site → ℕ → Step → Bool
takes_no_memory site c s = implies (takes_none site c s s.event) (not (list_any (is_shut_act c) s.acts))
