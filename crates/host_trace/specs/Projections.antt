-- What a trace says of a connection c or a child k: filters, counts and tests of its items.
use Rattle.std.specs.Prelude.{ℕ, Bool, List, [], ◌∷◌, ◌++◌, ◌==◌, ◌-◌, ◌&&◌, ◌||◌, nat_lt, length, count_by, sum_by, Option, if◌then◌else◌}
use Rattle.std.specs.List.{flat_map, list_any, slice_get}
use Rattle.host_base.specs.declared.launch.Peer.{Peer}
use Rattle.host_trace.specs.declared.items.Item.{Item}
use Rattle.host_trace.specs.Kinds.{is_event, is_accepted, is_tick, tick_secs, is_stop, is_client_answer, is_want_client, is_shut, is_shut_for_memory, is_upgrade, is_start, is_started, is_start_answer, is_child_answer, is_want_child, is_input_end, is_output_end, is_kill, is_release, is_exited, is_child_eof, bytes_heard, bytes_written, output_heard, input_fed, texts_said, texts_heard, count_wrote, count_took, child_started, start_number, child_of, peer_of_item, names, names_child}
use Rattle.host_trace.specs.First.{since, last_of}

-- ---- whole strings

-- the bytes that the client sent
abbrev pub client_in : List Item → ℕ → List ℕ
client_in T c = flat_map (bytes_heard c) T

-- the bytes that were written for the client
abbrev pub client_out : List Item → ℕ → List ℕ
client_out T c = flat_map (bytes_written c) T

-- the child's output
abbrev pub child_out : List Item → ℕ → List ℕ
child_out T k = flat_map (output_heard k) T

-- the child's input
abbrev pub child_in : List Item → ℕ → List ℕ
child_in T k = flat_map (input_fed k) T

-- the texts said over a WebSocket, and those heard
abbrev pub said : List Item → ℕ → List (List ℕ)
said T c = flat_map (texts_said c) T

abbrev pub heard : List Item → ℕ → List (List ℕ)
heard T c = flat_map (texts_heard c) T

-- ---- how many events, connections and starts

abbrev pub event_count : List Item → ℕ
event_count T = count_by is_event T

abbrev pub tick_count : List Item → ℕ
tick_count T = count_by is_tick T

-- what the clock showed at the last Tick
abbrev pub last_secs : List Item → Option ℕ
last_secs T = last_of (flat_map tick_secs T)

-- the first Accepted is connection 0, the next is connection 1
abbrev pub accepted_count : List Item → ℕ
accepted_count T = count_by is_accepted T

abbrev pub is_known : List Item → ℕ → Bool
is_known T c = nat_lt c (accepted_count T)

-- ---- what has happened

abbrev pub stopped : List Item → Bool
stopped T = list_any is_stop T

abbrev pub shut : List Item → ℕ → Bool
shut T c = list_any (is_shut c) T

abbrev pub shut_for_memory : List Item → ℕ → Bool
shut_for_memory T c = list_any (is_shut_for_memory c) T

abbrev pub upgraded : List Item → ℕ → Bool
upgraded T c = list_any (is_upgrade c) T

abbrev pub start_stands : List Item → ℕ → Bool
start_stands T k = list_any (is_start k) T

abbrev pub start_answered : List Item → ℕ → Bool
start_answered T k = list_any (is_start_answer k) T

abbrev pub started : List Item → ℕ → Bool
started T k = list_any (is_started k) T

abbrev pub output_eof : List Item → ℕ → Bool
output_eof T k = list_any (is_child_eof k) T

abbrev pub output_ended : List Item → ℕ → Bool
output_ended T k = list_any (is_output_end k) T

abbrev pub input_ended : List Item → ℕ → Bool
input_ended T k = list_any (is_input_end k) T

abbrev pub killed : List Item → ℕ → Bool
killed T k = list_any (is_kill k) T

abbrev pub released : List Item → ℕ → Bool
released T k = list_any (is_release k) T

abbrev pub exited : List Item → ℕ → Bool
exited T k = list_any (is_exited k) T

-- ---- questions without an answer

abbrev pub client_wanted : List Item → ℕ → Bool
client_wanted T c = nat_lt (count_by (is_client_answer c) T) (count_by (is_want_client c) T)

abbrev pub child_wanted : List Item → ℕ → Bool
child_wanted T k = nat_lt (count_by (is_child_answer k) T) (count_by (is_want_child k) T)

-- ---- bytes on their way

abbrev pub wrote_sum : List Item → ℕ → ℕ
wrote_sum T c = sum_by (count_wrote c) T

abbrev pub took_sum : List Item → ℕ → ℕ
took_sum T k = sum_by (count_took k) T

abbrev pub said_len : List Item → ℕ → ℕ
said_len T c = sum_by length (said T c)

-- what was written, or after Upgrade said, in this phase, and how much of that left for the client
abbrev pub sent_of_phase : List Item → ℕ → ℕ
sent_of_phase T c = if upgraded T c then said_len (since (is_upgrade c) T) c else length (client_out T c)

abbrev pub left_of_phase : List Item → ℕ → ℕ
left_of_phase T c = if upgraded T c then wrote_sum (since (is_upgrade c) T) c else wrote_sum T c

-- written or said and not yet reported by Wrote
abbrev pub pending : List Item → ℕ → ℕ
pending T c = if shut T c then 0 else sent_of_phase T c - left_of_phase T c

abbrev pub is_pending_high : List Item → ℕ → Bool
is_pending_high T c = nat_lt 262144 (pending T c)

-- ---- the items of one connection

-- the children that were started for c, in order
abbrev pub children : List Item → ℕ → List ℕ
children T c = flat_map (child_started c) T

-- the numbers of all Starts, in order, and how many there are
abbrev pub start_numbers : List Item → List ℕ
start_numbers T = flat_map start_number T

abbrev pub start_count : List Item → ℕ
start_count T = length (start_numbers T)

-- the children that were started for exchange j of c after `hop` local redirects
abbrev pub children_of : List Item → ℕ → ℕ → ℕ → List ℕ
children_of T c j hop = flat_map (child_of c j hop) T

-- the clients that connected, in order
abbrev pub peers : List Item → List Peer
peers T = flat_map peer_of_item T

abbrev pub peer_of : List Item → ℕ → Option Peer
peer_of T c = slice_get (peers T) c

-- x names one of these children
abbrev pub names_one_of : List ℕ → Item → Bool
names_one_of ks x = list_any (λ k. names_child k x) ks

-- x is the Accepted of c, names c or one of its children, or is a Tick or Stop; `ks` are the children
-- started for c before x, and `count` is how many connections were accepted before x
abbrev pub is_own : ℕ → List ℕ → ℕ → Item → Bool
is_own c ks count x = is_accepted x && count == c || names c x || names_one_of ks x || is_tick x || is_stop x

-- the items of c in what follows `before`
abbrev pub own_after : List Item → ℕ → List Item → List Item
own_after before c [] = []
own_after before c (x ∷ items) =
    if is_own c (children before c) (accepted_count before) x
    then x ∷ own_after (before ++ x ∷ []) c items
    else own_after (before ++ x ∷ []) c items

abbrev pub own : List Item → ℕ → List Item
own T c = own_after [] c T
