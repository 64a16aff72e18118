-- When the first byte of the final answer was written, and what depends on it: whether the answer closes the connection,
-- its Date, and how its length is told.
use Rattle.std.specs.Prelude.{ℕ, Bool, true, false, not, ◌&&◌, ◌||◌, ◌==◌, nat_lt, List, [], ◌∷◌, ◌++◌, length, Option, Some, None, unwrap_or}
use Rattle.host_base.specs.declared.cause.Cause.{Cause}
use Rattle.host_base.specs.declared.cause.Cause.TheVariants.{Incomplete, IdleTime}
use Rattle.host_base.specs.declared.request.Request.{Request}
use Rattle.host_base.specs.declared.request.Version.{Version}
use Rattle.host_base.specs.declared.request.Version.TheVariants.{V11}
use Rattle.host_base.specs.declared.site.ScriptKind.{ScriptKind}
use Rattle.host_base.specs.declared.site.ScriptKind.TheVariants.{Cgi, Nph, WebSocket}
use Rattle.host_base.specs.declared.site.Site.{Site}
use Rattle.host_trace.specs.declared.items.Act.TheVariants.{Write}
use Rattle.host_trace.specs.declared.items.Item.{Item}
use Rattle.host_trace.specs.declared.items.Item.TheVariants.{Out}
use Rattle.host_trace.specs.Projections.{client_out, last_secs}
use Rattle.host_trace.specs.First.{first_front}
use Rattle.request_reader.specs.Request.{persists}
use Rattle.reply_writer.specs.WholeReply.{Way}
use Rattle.trace_model.specs.Readings.{is_whole, headed, is_bare}
use Rattle.trace_model.specs.Exchange.{Exchange, up_to, all_of, reading, continue_part}
use Rattle.trace_model.specs.Answer.{Stage, running, broken_off, answered, Answer, faulted, answer, is_undecided, stage}

-- x, after these items, is the Write of the first byte of the final answer, before which so many bytes stand
abbrev pub is_first_byte : ℕ → ℕ → List Item → Item → Bool
is_first_byte c skipped front (Out (Write d bytes)) = c == d && nat_lt skipped (length (client_out (front ++ Out (Write d bytes) ∷ []) c))
is_first_byte c skipped front _ = false

-- the items up to and with that Write, or all items so far, where there is none yet
abbrev pub answer_front : Site → ℕ → Exchange → List Item
answer_front site c e = unwrap_or (first_front (is_first_byte c (length (continue_part site c e))) e.items) e.items

-- the exchange as it was when that byte was written, or as it is, where none is yet. What the answer looks like is
-- decided there, and stays.
abbrev pub as_begun : Site → ℕ → Exchange → Exchange
as_begun site c e = up_to e (answer_front site c e)

-- ---- it closes

abbrev pub persists_by : Option Request → Bool
persists_by None = false
persists_by (Some request) = persists request

abbrev pub is_nph : ScriptKind → Bool
is_nph Cgi = false
is_nph Nph = true
is_nph WebSocket = false

-- the answer comes from the run of an nph script (RFC 3875 5)
abbrev pub is_by_nph : Stage → Bool
is_by_nph (running leg) = is_nph leg.kind
is_by_nph (broken_off leg cause stood) = is_nph leg.kind
is_by_nph (answered leg output) = is_nph leg.kind
is_by_nph _ = false

abbrev pub is_closing_cause : Cause → Bool
is_closing_cause Incomplete = true
is_closing_cause IdleTime = true
is_closing_cause _ = false

abbrev pub is_closing_fault : Answer → Bool
is_closing_fault (faulted cause) = is_closing_cause cause
is_closing_fault _ = false

-- an answer that begins now closes the connection: the request asks for it or was refused as it was read, the script is
-- nph, the request ended early, or it is not whole (RFC 9112 9.3 and 9.6)
abbrev pub closes_now : Site → ℕ → Exchange → Bool
closes_now site c e =
    not (persists_by (headed (reading site c e))) || is_by_nph (stage site c e) || is_closing_fault (answer site c e)
    || not (is_whole (reading site c e))

abbrev pub closes : Site → ℕ → Exchange → Bool
closes site c e = closes_now site c (as_begun site c e)

-- ---- its Date (RFC 9110 6.6.1)

-- what the clock showed at the last Tick up to the step in which the first byte of the final answer was written
abbrev pub stamp : Site → ℕ → Exchange → Option ℕ
stamp site c e = last_secs (all_of (as_begun site c e))

-- ---- the way in which it is spelled

abbrev pub version_by : Option Request → Version
version_by None = V11
version_by (Some request) = request.version

-- the way of an answer that begins now; it is known as a whole where it is decided
abbrev pub way_now : Site → ℕ → Exchange → Way
way_now site c e = record {
  version = version_by (headed (reading site c e));
  head_only = is_bare (reading site c e);
  close = closes_now site c e;
  stamp = last_secs (all_of e);
  known = not (is_undecided (answer site c e));
}

abbrev pub way : Site → ℕ → Exchange → Way
way site c e = way_now site c (as_begun site c e)

-- the way of the host's own reply, which always counts as known
abbrev pub fault_way : Site → ℕ → Exchange → Way
fault_way site c e = record (way site c e) { known = true }
