-- The items that end a request before anything is done for it: the end of the client's input, and the idle Tick.
use Rattle.std.specs.Prelude.{ℕ, Bool, false, not, ◌&&◌, ◌||◌, ◌+◌, ◌==◌, if◌then◌else◌, List, [], ◌∷◌, ◌++◌, Option, Some, None}
use Rattle.std.specs.List.{list_any}
use Rattle.host_base.specs.declared.cause.Cause.{Cause}
use Rattle.host_base.specs.declared.cause.Cause.TheVariants.{Incomplete, IdleTime}
use Rattle.host_base.specs.declared.limits.Limits.{Limits}
use Rattle.host_base.specs.declared.site.Site.{Site}
use Rattle.host_trace.specs.declared.items.Event.TheVariants.{ClientEof, Tick}
use Rattle.host_trace.specs.declared.items.Item.{Item}
use Rattle.host_trace.specs.declared.items.Item.TheVariants.{In}
use Rattle.host_trace.specs.Kinds.{is_accepted, is_client_bytes, is_tick}
use Rattle.host_trace.specs.Projections.{shut, upgraded}
use Rattle.host_trace.specs.Account.{has_unsettled}
use Rattle.host_trace.specs.First.{first_front, last_of}
use Rattle.request_reader.specs.Request.{is_begun}
use Rattle.trace_model.specs.Readings.{is_whole}
use Rattle.trace_model.specs.Exchange.{Exchange, up_to, request_bytes, reading, has_begun}

-- ---- the idle Tick

-- a Tick after these items counts: no child is unsettled, and the client speaks HTTP
abbrev pub is_idle : ℕ → List Item → Bool
is_idle c front = not (has_unsettled front c) && not (upgraded front c)

-- the count after one more item: it begins anew with Accepted and with each byte of the client
abbrev pub idle_step : ℕ → List Item → ℕ → Item → ℕ
idle_step c front count x =
    if is_accepted x || is_client_bytes c x then 0 else (if is_tick x && is_idle c front then count + 1 else count)

abbrev pub idle_after : ℕ → List Item → ℕ → List Item → ℕ
idle_after c front count [] = count
idle_after c front count (x ∷ items) = idle_after c (front ++ x ∷ []) (idle_step c front count x) items

-- how many Ticks without a byte of the client there are at the end of an exchange's items; the count begins anew with
-- the step in which the earlier exchange ended
abbrev pub idle_count : ℕ → List Item → ℕ
idle_count c items = idle_after c [] 0 items

-- a Tick after these items of the exchange is the one by which the count reaches its limit
abbrev pub is_idle_end : Limits → ℕ → List Item → Bool
is_idle_end limits c front = is_idle c front && idle_count c front + 1 == limits.idle_ticks

-- ---- the items that break a request

-- before any byte and any Start of its own the request had begun, on a connection that was not shut
abbrev pub is_breakable : Site → ℕ → Exchange → List Item → Bool
is_breakable site c e front =
    not (shut e.before c || shut front c) && not (has_begun site c (up_to e front)) && is_begun (request_bytes c (up_to e front))

-- x, after these items of the exchange, breaks its request: the client ended its input within it, or sent nothing for
-- the idle time
abbrev pub breaks : Site → ℕ → Exchange → List Item → Item → Bool
breaks site c e front (In (ClientEof d)) = c == d && not (is_whole (reading site c (up_to e front))) && is_breakable site c e front
breaks site c e front (In (Tick secs)) = is_idle_end site.limits c front && is_breakable site c e front
breaks site c e front _ = false

-- the items up to the one that breaks it
abbrev pub broken : Site → ℕ → Exchange → Option (List Item)
broken site c e = first_front (breaks site c e) e.items

abbrev pub break_cause_by : Option Item → Cause
break_cause_by None = IdleTime
break_cause_by (Some x) = if is_tick x then IdleTime else Incomplete

abbrev pub break_cause : List Item → Cause
break_cause front = break_cause_by (last_of front)

-- ---- the idle Tick of a connection that has sent nothing

-- x, after these items of the exchange, is the idle Tick of a connection that was accepted, and no request is begun
abbrev pub idles_out : ℕ → Site → Exchange → List Item → Item → Bool
idles_out c site e front (In (Tick secs)) =
    is_idle_end site.limits c front && list_any is_accepted (e.before ++ front) && not (is_begun (request_bytes c (up_to e front)))
idles_out c site e front _ = false

abbrev pub idled : Site → ℕ → Exchange → Option (List Item)
idled site c e = first_front (idles_out c site e) e.items
