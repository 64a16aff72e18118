-- What is demanded of a connection c at a step's end at which the exchange e goes on. Its items up to there are those of
-- the exchange and those before it.
use Rattle.std.specs.Prelude.{ℕ, zero, Bool, true, false, not, ◌&&◌, ◌||◌, ◌==◌, nat_lt, List, length, bytes_eq, is_some}
use Rattle.std.specs.List.{list_any}
use Rattle.host_base.specs.declared.site.Site.{Site}
use Rattle.host_trace.specs.declared.items.Event.TheVariants.{Tick}
use Rattle.host_trace.specs.declared.items.Item.{Item}
use Rattle.host_trace.specs.declared.items.Item.TheVariants.{In}
use Rattle.host_trace.specs.Kinds.{is_accepted, is_client_eof}
use Rattle.host_trace.specs.First.{first_front}
use Rattle.host_trace.specs.Projections.{child_out, is_pending_high, shut, upgraded}
use Rattle.host_trace.specs.Account.{has_unsettled}
use Rattle.reply_kinds.specs.Derived.{is_header_whole, is_streamable}
use Rattle.ws_handshake.specs.Handshake.{accept_text}
use Rattle.trace_child.specs.Words.{is_filled}
use Rattle.trace_child.specs.ChildDemands.{is_all_taken, takes_text}
use Rattle.trace_model.specs.Readings.{is_whole, is_more, is_due}
use Rattle.trace_model.specs.Exchange.{Exchange, all_of, reading, final, has_start, has_begun}
use Rattle.trace_model.specs.Legs.{Leg, run_of}
use Rattle.trace_model.specs.Answer.{Stage, rejected, interrupted, unready, refused, welcomed, unstarted, running, answer, is_final, stage, legs}
use Rattle.trace_model.specs.Standing.{stands_whole}

-- ---- the connection

-- it was accepted and is not shut
abbrev pub is_live : ℕ → List Item → Bool
is_live c L = list_any is_accepted L && not (shut L c)

-- not too much waits to be sent
abbrev pub has_room : ℕ → List Item → Bool
has_room c L = not (is_pending_high L c)

abbrev pub client_ended : ℕ → List Item → Bool
client_ended c L = list_any (is_client_eof c) L

-- ---- the exchange is to have begun

-- the request is startable, and neither refused as it was read nor broken
abbrev pub is_ready : Stage → Bool
is_ready (rejected cause) = false
is_ready (interrupted cause) = false
is_ready unready = false
is_ready _ = true

abbrev pub must_begin : Site → ℕ → Exchange → Bool
must_begin site c e = is_live c (all_of e) && has_room c (all_of e) && is_ready (stage site c e)

-- the accept text stands
abbrev pub is_welcomed : Site → ℕ → Exchange → Stage → Bool
is_welcomed site c e (welcomed value request mapped) = bytes_eq (final site c e) (accept_text value)
is_welcomed site c e _ = false

-- its Start stands; or the fault reply, whole; or the accept text with Upgrade and Start
abbrev pub begins_at : Site → ℕ → Exchange → Stage → Bool
begins_at site c e (unstarted zero request mapped) = false
begins_at site c e (refused cause) = has_start c e || stands_whole site c e
begins_at site c e (welcomed value request mapped) =
    is_welcomed site c e (welcomed value request mapped) && upgraded e.items c && has_start c e
begins_at site c e _ = true

-- ---- its answer

-- the answer was found on the way to a hop, at a refused target or an accepted handshake, and waits as a Start would
abbrev pub waits_its_turn : Stage → Bool
waits_its_turn (refused cause) = true
waits_its_turn (welcomed value request mapped) = true
waits_its_turn _ = false

-- a Start, and an answer that waits as one would, may come: no child is unsettled, and not too much waits to be sent
abbrev pub may_go_on : ℕ → Exchange → Bool
may_go_on c e = has_room c (all_of e) && not (has_unsettled e.items c)

-- the whole answer is to stand
abbrev pub must_answer : Site → ℕ → Exchange → Bool
must_answer site c e =
    is_live c (all_of e) && is_final (answer site c e) && (not (waits_its_turn (stage site c e)) || may_go_on c e)

-- the next hop is to have begun, where a run led to one
abbrev pub must_hop : Site → ℕ → Exchange → Bool
must_hop site c e = is_live c (all_of e) && is_filled (legs site c e) && may_go_on c e

abbrev pub is_unstarted : Stage → Bool
is_unstarted (unstarted hop request mapped) = true
is_unstarted _ = false

-- 100 Continue is to stand
abbrev pub must_continue : Site → ℕ → Exchange → Bool
must_continue site c e = is_live c (all_of e) && is_due (reading site c e)

-- ---- the client is to be asked

-- within a request, before anything is done for it
abbrev pub hears_request : Site → ℕ → Exchange → Bool
hears_request site c e = not (has_begun site c e) && is_more (reading site c e) && not (client_ended c (all_of e))

-- within the body of a request whose script runs
abbrev pub hears_body : Site → ℕ → Exchange → Stage → Bool
hears_body site c e (running leg) = leg.hop == 0 && not (is_whole (reading site c e)) && is_all_taken e.items leg.child
hears_body site c e _ = false

-- in a talk
abbrev pub hears_text : Site → ℕ → Exchange → Bool
hears_text site c e = upgraded e.items c && list_any (λ leg. takes_text (run_of site c e leg) e.items) (legs site c e)

abbrev pub must_hear : Site → ℕ → Exchange → Bool
must_hear site c e =
    is_live c (all_of e) && has_room c (all_of e)
    && (hears_request site c e || hears_body site c e (stage site c e) || hears_text site c e)

-- ---- a reply that is streamed

-- x is a Tick, and the script header was whole before it
abbrev pub is_tick_after_header : Leg → List Item → Item → Bool
is_tick_after_header leg front (In (Tick secs)) = is_header_whole leg.kind (child_out front leg.child)
is_tick_after_header leg front _ = false

-- more than 8,192 bytes of output, or a Tick after the header, were heard
abbrev pub is_long_enough : Exchange → Leg → Bool
is_long_enough e leg =
    nat_lt 8192 (length (child_out e.items leg.child)) || is_some (first_front (is_tick_after_header leg) e.items)

-- the reply is to have begun, though its output has not ended
abbrev pub is_to_stream : Exchange → Stage → Bool
is_to_stream e (running leg) = is_streamable leg.kind (child_out e.items leg.child) && is_long_enough e leg
is_to_stream e _ = false

abbrev pub must_stream : Site → ℕ → Exchange → Bool
must_stream site c e = is_live c (all_of e) && is_to_stream e (stage site c e)
