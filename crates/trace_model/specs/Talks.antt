-- What stands of a WebSocket.
use Rattle.std.specs.Prelude.{ℕ, Bool, true, not, ◌&&◌, if◌then◌else◌, List, bytes_eq, nat_eq}
use Rattle.std.specs.List.{list_all, list_any, starts_with}
use Rattle.host_base.specs.declared.site.Site.{Site}
use Rattle.host_trace.specs.declared.items.Act.{Act}
use Rattle.host_trace.specs.declared.items.Act.TheVariants.{CloseWs, Says, Upgrade}
use Rattle.host_trace.specs.declared.items.Item.{Item}
use Rattle.host_trace.specs.Projections.{said, shut_for_memory, upgraded}
use Rattle.host_trace.specs.Decider.{is_websocket}
use Rattle.trace_child.specs.Words.{implies}
use Rattle.trace_child.specs.Run.{Run}
use Rattle.trace_model.specs.Exchange.{Exchange, all_of}
use Rattle.trace_model.specs.Legs.{Leg, run_of}
use Rattle.trace_model.specs.Answer.{stage, legs}
use Rattle.trace_model.specs.Demands.{is_welcomed}
use Rattle.trace_model.specs.Exchanges.{left_over}
use Rattle.trace_model.specs.Sameness.{are_same, begins_list}
use Rattle.trace_model.specs.Talk.{texts_due, input_due, pieces_fed, code_due, codes_sent}

-- the program of a WebSocket was started
abbrev pub has_talk : Site → ℕ → Exchange → Bool
has_talk site c e = list_any (λ leg. is_websocket leg.kind) (legs site c e)

-- an Upgrade follows the accept text, and its rest is what the client sent after the handshake; and before the program
-- was started no text is said and no close frame is sent
abbrev pub is_right_talk_act : Site → ℕ → Exchange → Act → Bool
is_right_talk_act site c e (Upgrade d rest) = is_welcomed site c e (stage site c e) && bytes_eq rest (left_over site c e)
is_right_talk_act site c e (Says d texts) = has_talk site c e
is_right_talk_act site c e (CloseWs d code) = has_talk site c e
is_right_talk_act site c e _ = true

-- the Upgrade stands in the step of the accept text
abbrev pub upgrades : Site → ℕ → Exchange → Bool
upgrades site c e = implies (is_welcomed site c e (stage site c e) && not (shut_for_memory (all_of e) c)) (upgraded e.items c)

-- the texts said, the input, line by line, and the code of the close frame are those that the talk names
abbrev pub is_talked : Run → List Item → Bool
is_talked run items =
    are_same bytes_eq (said items run.conn) (texts_due run items)
    && are_same bytes_eq (pieces_fed items run.child) (input_due run items)
    && bytes_eq (codes_sent items run.conn) (code_due run items)

-- .. or, where memory was wanting, a front of these
abbrev pub is_talked_in_part : Run → List Item → Bool
is_talked_in_part run items =
    begins_list bytes_eq (said items run.conn) (texts_due run items)
    && begins_list bytes_eq (pieces_fed items run.child) (input_due run items)
    && starts_with nat_eq (code_due run items) (codes_sent items run.conn)

abbrev pub talks_by : Run → List Item → Bool → Bool
talks_by run items wanting = if wanting then is_talked_in_part run items else is_talked run items

abbrev pub is_right_talk : Site → ℕ → Exchange → Leg → Bool
is_right_talk site c e leg =
    implies (is_websocket leg.kind) (talks_by (run_of site c e leg) e.items (shut_for_memory (all_of e) c))

abbrev pub talks : Site → ℕ → Exchange → Bool
talks site c e = list_all (is_right_talk site c e) (legs site c e)
