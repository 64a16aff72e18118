-- What one item is: tests, and what it carries.
use Rattle.std.specs.Prelude.{ℕ, Bool, true, false, List, [], ◌∷◌, ◌==◌, ◌&&◌, ◌||◌, if◌then◌else◌}
use Rattle.host_base.specs.declared.launch.Peer.{Peer}
use Rattle.host_trace.specs.declared.items.Event.TheVariants.{Accepted, ClientBytes, ClientEof, ClientGone, Wrote, Started, StartFailed, StartFull, ChildBytes, ChildEof, ChildBroken, Took, InputGone, Exited, WsText, WsBinary, WsClosed, WsBad, NoRoom, Tick, Stop}
use Rattle.host_trace.specs.declared.items.Act.TheVariants.{WantClient, Write, Shut, Start, Feed, EndInput, WantChild, Kill, Release, Upgrade, Says, CloseWs}
use Rattle.host_trace.specs.declared.items.Item.{Item}
use Rattle.host_trace.specs.declared.items.Item.TheVariants.{In, Out}
use Rattle.host_trace.specs.declared.items.Why.{Why}
use Rattle.host_trace.specs.declared.items.Why.TheVariants.{NoMemory}

abbrev pub is_event : Item → Bool
is_event (In event) = true
is_event (Out act) = false

-- ---- events of no connection

abbrev pub is_accepted : Item → Bool
is_accepted (In (Accepted peer)) = true
is_accepted _ = false

abbrev pub is_tick : Item → Bool
is_tick (In (Tick secs)) = true
is_tick _ = false

-- the Unix seconds that the clock shows at a Tick
abbrev pub tick_secs : Item → List ℕ
tick_secs (In (Tick secs)) = secs ∷ []
tick_secs _ = []

abbrev pub is_stop : Item → Bool
is_stop (In Stop) = true
is_stop _ = false

-- ---- events of connection c

abbrev pub is_client_bytes : ℕ → Item → Bool
is_client_bytes c (In (ClientBytes d bytes)) = c == d
is_client_bytes c _ = false

abbrev pub is_client_eof : ℕ → Item → Bool
is_client_eof c (In (ClientEof d)) = c == d
is_client_eof c _ = false

abbrev pub is_client_gone : ℕ → Item → Bool
is_client_gone c (In (ClientGone d)) = c == d
is_client_gone c _ = false

abbrev pub is_wrote : ℕ → Item → Bool
is_wrote c (In (Wrote d n)) = c == d
is_wrote c _ = false

abbrev pub is_ws_text : ℕ → Item → Bool
is_ws_text c (In (WsText d bytes)) = c == d
is_ws_text c _ = false

abbrev pub is_ws_binary : ℕ → Item → Bool
is_ws_binary c (In (WsBinary d)) = c == d
is_ws_binary c _ = false

abbrev pub is_ws_closed : ℕ → Item → Bool
is_ws_closed c (In (WsClosed d)) = c == d
is_ws_closed c _ = false

abbrev pub is_ws_bad : ℕ → Item → Bool
is_ws_bad c (In (WsBad d)) = c == d
is_ws_bad c _ = false

abbrev pub is_no_room : ℕ → Item → Bool
is_no_room c (In (NoRoom d)) = c == d
is_no_room c _ = false

-- an answer to WantClient
abbrev pub is_client_answer : ℕ → Item → Bool
is_client_answer c x =
    is_client_bytes c x || is_client_eof c x || is_ws_text c x || is_ws_binary c x || is_ws_closed c x || is_ws_bad c x

-- ---- acts on connection c

abbrev pub is_want_client : ℕ → Item → Bool
is_want_client c (Out (WantClient d)) = c == d
is_want_client c _ = false

abbrev pub is_write : ℕ → Item → Bool
is_write c (Out (Write d bytes)) = c == d
is_write c _ = false

abbrev pub is_shut : ℕ → Item → Bool
is_shut c (Out (Shut d why)) = c == d
is_shut c _ = false

abbrev pub is_upgrade : ℕ → Item → Bool
is_upgrade c (Out (Upgrade d rest)) = c == d
is_upgrade c _ = false

abbrev pub is_says : ℕ → Item → Bool
is_says c (Out (Says d texts)) = c == d
is_says c _ = false

abbrev pub is_close_ws : ℕ → Item → Bool
is_close_ws c (Out (CloseWs d code)) = c == d
is_close_ws c _ = false

abbrev pub is_no_memory : Why → Bool
is_no_memory NoMemory = true
is_no_memory _ = false

-- c is over for want of memory
abbrev pub is_shut_for_memory : ℕ → Item → Bool
is_shut_for_memory c (Out (Shut d why)) = c == d && is_no_memory why
is_shut_for_memory c _ = false

-- a Start for c
abbrev pub is_start_for : ℕ → Item → Bool
is_start_for c (Out (Start k d j hop launch)) = c == d
is_start_for c _ = false

-- ---- events of child k

abbrev pub is_started : ℕ → Item → Bool
is_started k (In (Started d)) = k == d
is_started k _ = false

abbrev pub is_start_failed : ℕ → Item → Bool
is_start_failed k (In (StartFailed d)) = k == d
is_start_failed k _ = false

abbrev pub is_start_full : ℕ → Item → Bool
is_start_full k (In (StartFull d seen)) = k == d
is_start_full k _ = false

abbrev pub is_child_bytes : ℕ → Item → Bool
is_child_bytes k (In (ChildBytes d bytes)) = k == d
is_child_bytes k _ = false

abbrev pub is_child_eof : ℕ → Item → Bool
is_child_eof k (In (ChildEof d)) = k == d
is_child_eof k _ = false

abbrev pub is_child_broken : ℕ → Item → Bool
is_child_broken k (In (ChildBroken d)) = k == d
is_child_broken k _ = false

abbrev pub is_took : ℕ → Item → Bool
is_took k (In (Took d n)) = k == d
is_took k _ = false

abbrev pub is_input_gone : ℕ → Item → Bool
is_input_gone k (In (InputGone d)) = k == d
is_input_gone k _ = false

abbrev pub is_exited : ℕ → Item → Bool
is_exited k (In (Exited d)) = k == d
is_exited k _ = false

-- an answer to Start
abbrev pub is_start_answer : ℕ → Item → Bool
is_start_answer k x = is_started k x || is_start_failed k x || is_start_full k x

-- an answer to WantChild
abbrev pub is_child_answer : ℕ → Item → Bool
is_child_answer k x = is_child_bytes k x || is_child_eof k x || is_child_broken k x

-- ---- acts on child k

abbrev pub is_start : ℕ → Item → Bool
is_start k (Out (Start d c j hop launch)) = k == d
is_start k _ = false

abbrev pub is_feed : ℕ → Item → Bool
is_feed k (Out (Feed d bytes)) = k == d
is_feed k _ = false

abbrev pub is_end_input : ℕ → Item → Bool
is_end_input k (Out (EndInput d)) = k == d
is_end_input k _ = false

abbrev pub is_want_child : ℕ → Item → Bool
is_want_child k (Out (WantChild d)) = k == d
is_want_child k _ = false

abbrev pub is_kill : ℕ → Item → Bool
is_kill k (Out (Kill d)) = k == d
is_kill k _ = false

abbrev pub is_release : ℕ → Item → Bool
is_release k (Out (Release d)) = k == d
is_release k _ = false

-- ends the child's input
abbrev pub is_input_end : ℕ → Item → Bool
is_input_end k x = is_end_input k x || is_input_gone k x

-- ends the child's output
abbrev pub is_output_end : ℕ → Item → Bool
is_output_end k x = is_child_eof k x || is_child_broken k x || is_release k x

-- ---- what an item carries

abbrev pub bytes_heard : ℕ → Item → List ℕ
bytes_heard c (In (ClientBytes d bytes)) = if c == d then bytes else []
bytes_heard c _ = []

abbrev pub bytes_written : ℕ → Item → List ℕ
bytes_written c (Out (Write d bytes)) = if c == d then bytes else []
bytes_written c _ = []

abbrev pub output_heard : ℕ → Item → List ℕ
output_heard k (In (ChildBytes d bytes)) = if k == d then bytes else []
output_heard k _ = []

abbrev pub input_fed : ℕ → Item → List ℕ
input_fed k (Out (Feed d bytes)) = if k == d then bytes else []
input_fed k _ = []

abbrev pub texts_said : ℕ → Item → List (List ℕ)
texts_said c (Out (Says d texts)) = if c == d then texts else []
texts_said c _ = []

abbrev pub texts_heard : ℕ → Item → List (List ℕ)
texts_heard c (In (WsText d bytes)) = if c == d then bytes ∷ [] else []
texts_heard c _ = []

-- how many bytes of c left for the client
abbrev pub count_wrote : ℕ → Item → ℕ
count_wrote c (In (Wrote d n)) = if c == d then n else 0
count_wrote c _ = 0

-- how many bytes the input pipe of k took
abbrev pub count_took : ℕ → Item → ℕ
count_took k (In (Took d n)) = if k == d then n else 0
count_took k _ = 0

-- the child that a Start for c starts
abbrev pub child_started : ℕ → Item → List ℕ
child_started c (Out (Start k d j hop launch)) = if c == d then k ∷ [] else []
child_started c _ = []

-- the child that a Start starts
abbrev pub start_number : Item → List ℕ
start_number (Out (Start k c j hop launch)) = k ∷ []
start_number _ = []

-- .. for exchange j of c after `hop` local redirects
abbrev pub child_of : ℕ → ℕ → ℕ → Item → List ℕ
child_of c j hop (Out (Start k d i h launch)) = if c == d && j == i && hop == h then k ∷ [] else []
child_of c j hop _ = []

-- the client that connected
abbrev pub peer_of_item : Item → List Peer
peer_of_item (In (Accepted peer)) = peer ∷ []
peer_of_item _ = []

-- ---- whose an item is

-- it names connection c
abbrev pub names : ℕ → Item → Bool
names c (In (ClientBytes d bytes)) = c == d
names c (In (ClientEof d)) = c == d
names c (In (ClientGone d)) = c == d
names c (In (Wrote d n)) = c == d
names c (In (WsText d bytes)) = c == d
names c (In (WsBinary d)) = c == d
names c (In (WsClosed d)) = c == d
names c (In (WsBad d)) = c == d
names c (In (NoRoom d)) = c == d
names c (Out (WantClient d)) = c == d
names c (Out (Write d bytes)) = c == d
names c (Out (Shut d why)) = c == d
names c (Out (Start k d j hop launch)) = c == d
names c (Out (Upgrade d rest)) = c == d
names c (Out (Says d texts)) = c == d
names c (Out (CloseWs d code)) = c == d
names c _ = false

-- it names child k
abbrev pub names_child : ℕ → Item → Bool
names_child k (In (Started d)) = k == d
names_child k (In (StartFailed d)) = k == d
names_child k (In (StartFull d seen)) = k == d
names_child k (In (ChildBytes d bytes)) = k == d
names_child k (In (ChildEof d)) = k == d
names_child k (In (ChildBroken d)) = k == d
names_child k (In (Took d n)) = k == d
names_child k (In (InputGone d)) = k == d
names_child k (In (Exited d)) = k == d
names_child k (Out (Start d c j hop launch)) = k == d
names_child k (Out (Feed d bytes)) = k == d
names_child k (Out (EndInput d)) = k == d
names_child k (Out (WantChild d)) = k == d
names_child k (Out (Kill d)) = k == d
names_child k (Out (Release d)) = k == d
names_child k _ = false
