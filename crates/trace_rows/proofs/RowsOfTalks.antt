-- WebSockets, by computation.
use Rattle.std.proofs.Common.{◌≡◌, List, [], ◌∷◌, refl, length}
use Rattle.std.specs.Prelude.{codes}
use Rattle.host_trace.specs.declared.items.Event.TheVariants.{Accepted, ClientBytes, Started, StartFailed, ChildBytes, ChildEof, ChildBroken, Took, Exited, WsText, WsBinary, WsClosed, WsBad, NoRoom, Tick, Stop}
use Rattle.host_trace.specs.declared.items.Act.TheVariants.{WantClient, Write, Shut, Start, Feed, EndInput, WantChild, Kill, Release, Upgrade, Says, CloseWs}
use Rattle.host_trace.specs.declared.items.Item.{Item}
use Rattle.host_trace.specs.declared.items.Item.TheVariants.{In, Out}
use Rattle.host_trace.specs.declared.items.Why.TheVariants.{Done, Gone, Stopped, NoMemory}
use Rattle.trace_model.specs.Exchanges.{exchanges}
use Rattle.trace_model.specs.Verdict.{broken_by}
use Rattle.trace_rows.proofs.OnTalks.{on_talks}
use Rattle.trace_rows.proofs.Site.{site, site_with_origins, peer, launch_talk}

-- a text is fed as a line, lines are said, and at the end of the output what stands behind them
abbrev pub talked : List Item
talked =
    In (Accepted peer) ∷ Out (WantClient 0)
    ∷ In (ClientBytes 0 (codes "GET /w HTTP/1.1\r\nHost: a\r\nUpgrade: websocket\r\nConnection: Upgrade\r\nSec-WebSocket-Key: dGhlIHNhbXBsZSBub25jZQ==\r\nSec-WebSocket-Version: 13\r\n\r\nf")) ∷ Out (Write 0 (codes "HTTP/1.1 101 Switching Protocols\r\nUpgrade: websocket\r\nConnection: Upgrade\r\nSec-WebSocket-Accept: s3pPLMBiTxaQ9kYGzzhZRbK+xOo=\r\n\r\n")) ∷ Out (Upgrade 0 (codes "f")) ∷ Out (Start 0 0 0 0 (launch_talk (codes "/s") (codes "GET") (codes "/w")))
    ∷ In (Started 0) ∷ Out (WantChild 0) ∷ Out (WantClient 0)
    ∷ In (WsText 0 (codes "a")) ∷ Out (Feed 0 (codes "a\n"))
    ∷ In (Took 0 2) ∷ Out (WantClient 0)
    ∷ In (ChildBytes 0 (codes "x\r\n\ny")) ∷ Out (Says 0 ((codes "x") ∷ (codes "") ∷ [])) ∷ Out (WantChild 0)
    ∷ In (ChildEof 0) ∷ Out (Says 0 ((codes "y") ∷ [])) ∷ Out (CloseWs 0 1000) ∷ Out (EndInput 0) ∷ Out (Shut 0 Done)
    ∷ In (Exited 0) ∷ []

talked_is_good : broken_by site talked ≡ []
unfolding on_talks
talked_is_good = refl

talked_has : length (exchanges site 0 talked) ≡ 1
unfolding on_talks
talked_has = refl

-- the client closes its WebSocket: what comes then is dropped, and the child is killed at its last tick
abbrev pub hung_up : List Item
hung_up =
    In (Accepted peer) ∷ Out (WantClient 0)
    ∷ In (ClientBytes 0 (codes "GET /w HTTP/1.1\r\nHost: a\r\nUpgrade: websocket\r\nConnection: Upgrade\r\nSec-WebSocket-Key: dGhlIHNhbXBsZSBub25jZQ==\r\nSec-WebSocket-Version: 13\r\n\r\nf")) ∷ Out (Write 0 (codes "HTTP/1.1 101 Switching Protocols\r\nUpgrade: websocket\r\nConnection: Upgrade\r\nSec-WebSocket-Accept: s3pPLMBiTxaQ9kYGzzhZRbK+xOo=\r\n\r\n")) ∷ Out (Upgrade 0 (codes "f")) ∷ Out (Start 0 0 0 0 (launch_talk (codes "/s") (codes "GET") (codes "/w")))
    ∷ In (Started 0) ∷ Out (WantChild 0) ∷ Out (WantClient 0)
    ∷ In (WsClosed 0) ∷ Out (EndInput 0) ∷ Out (Shut 0 Done)
    ∷ In (ChildBytes 0 (codes "x\n")) ∷ Out (WantChild 0)
    ∷ In (Tick 0)
    ∷ In (Tick 0) ∷ Out (Kill 0)
    ∷ In (Exited 0) ∷ Out (Release 0) ∷ []

hung_up_is_good : broken_by site hung_up ≡ []
unfolding on_talks
hung_up_is_good = refl

hung_up_has : length (exchanges site 0 hung_up) ≡ 1
unfolding on_talks
hung_up_has = refl

-- a text that is too long
abbrev pub long_text : List Item
long_text =
    In (Accepted peer) ∷ Out (WantClient 0)
    ∷ In (ClientBytes 0 (codes "GET /w HTTP/1.1\r\nHost: a\r\nUpgrade: websocket\r\nConnection: Upgrade\r\nSec-WebSocket-Key: dGhlIHNhbXBsZSBub25jZQ==\r\nSec-WebSocket-Version: 13\r\n\r\nf")) ∷ Out (Write 0 (codes "HTTP/1.1 101 Switching Protocols\r\nUpgrade: websocket\r\nConnection: Upgrade\r\nSec-WebSocket-Accept: s3pPLMBiTxaQ9kYGzzhZRbK+xOo=\r\n\r\n")) ∷ Out (Upgrade 0 (codes "f")) ∷ Out (Start 0 0 0 0 (launch_talk (codes "/s") (codes "GET") (codes "/w")))
    ∷ In (Started 0) ∷ Out (WantChild 0) ∷ Out (WantClient 0)
    ∷ In (WsText 0 (codes "123456789")) ∷ Out (CloseWs 0 1009) ∷ Out (EndInput 0) ∷ Out (Kill 0) ∷ Out (Shut 0 Done) ∷ []

long_text_is_good : broken_by site long_text ≡ []
unfolding on_talks
long_text_is_good = refl

long_text_has : length (exchanges site 0 long_text) ≡ 1
unfolding on_talks
long_text_has = refl

-- a line that is too long, after the lines before it
abbrev pub long_line : List Item
long_line =
    In (Accepted peer) ∷ Out (WantClient 0)
    ∷ In (ClientBytes 0 (codes "GET /w HTTP/1.1\r\nHost: a\r\nUpgrade: websocket\r\nConnection: Upgrade\r\nSec-WebSocket-Key: dGhlIHNhbXBsZSBub25jZQ==\r\nSec-WebSocket-Version: 13\r\n\r\nf")) ∷ Out (Write 0 (codes "HTTP/1.1 101 Switching Protocols\r\nUpgrade: websocket\r\nConnection: Upgrade\r\nSec-WebSocket-Accept: s3pPLMBiTxaQ9kYGzzhZRbK+xOo=\r\n\r\n")) ∷ Out (Upgrade 0 (codes "f")) ∷ Out (Start 0 0 0 0 (launch_talk (codes "/s") (codes "GET") (codes "/w")))
    ∷ In (Started 0) ∷ Out (WantChild 0) ∷ Out (WantClient 0)
    ∷ In (ChildBytes 0 (codes "ab\n123456789")) ∷ Out (Says 0 ((codes "ab") ∷ [])) ∷ Out (CloseWs 0 1011) ∷ Out (EndInput 0) ∷ Out (Kill 0) ∷ Out (Shut 0 Done) ∷ []

long_line_is_good : broken_by site long_line ≡ []
unfolding on_talks
long_line_is_good = refl

long_line_has : length (exchanges site 0 long_line) ≡ 1
unfolding on_talks
long_line_has = refl

abbrev pub binary_message : List Item
binary_message =
    In (Accepted peer) ∷ Out (WantClient 0)
    ∷ In (ClientBytes 0 (codes "GET /w HTTP/1.1\r\nHost: a\r\nUpgrade: websocket\r\nConnection: Upgrade\r\nSec-WebSocket-Key: dGhlIHNhbXBsZSBub25jZQ==\r\nSec-WebSocket-Version: 13\r\n\r\nf")) ∷ Out (Write 0 (codes "HTTP/1.1 101 Switching Protocols\r\nUpgrade: websocket\r\nConnection: Upgrade\r\nSec-WebSocket-Accept: s3pPLMBiTxaQ9kYGzzhZRbK+xOo=\r\n\r\n")) ∷ Out (Upgrade 0 (codes "f")) ∷ Out (Start 0 0 0 0 (launch_talk (codes "/s") (codes "GET") (codes "/w")))
    ∷ In (Started 0) ∷ Out (WantChild 0) ∷ Out (WantClient 0)
    ∷ In (WsBinary 0) ∷ Out (CloseWs 0 1003) ∷ Out (EndInput 0) ∷ Out (Kill 0) ∷ Out (Shut 0 Done) ∷ []

binary_message_is_good : broken_by site binary_message ≡ []
unfolding on_talks
binary_message_is_good = refl

binary_message_has : length (exchanges site 0 binary_message) ≡ 1
unfolding on_talks
binary_message_has = refl

abbrev pub talk_not_started : List Item
talk_not_started =
    In (Accepted peer) ∷ Out (WantClient 0)
    ∷ In (ClientBytes 0 (codes "GET /w HTTP/1.1\r\nHost: a\r\nUpgrade: websocket\r\nConnection: Upgrade\r\nSec-WebSocket-Key: dGhlIHNhbXBsZSBub25jZQ==\r\nSec-WebSocket-Version: 13\r\n\r\nf")) ∷ Out (Write 0 (codes "HTTP/1.1 101 Switching Protocols\r\nUpgrade: websocket\r\nConnection: Upgrade\r\nSec-WebSocket-Accept: s3pPLMBiTxaQ9kYGzzhZRbK+xOo=\r\n\r\n")) ∷ Out (Upgrade 0 (codes "f")) ∷ Out (Start 0 0 0 0 (launch_talk (codes "/s") (codes "GET") (codes "/w")))
    ∷ In (StartFailed 0) ∷ Out (CloseWs 0 1011) ∷ Out (Shut 0 Done) ∷ []

talk_not_started_is_good : broken_by site talk_not_started ≡ []
unfolding on_talks
talk_not_started_is_good = refl

talk_not_started_has : length (exchanges site 0 talk_not_started) ≡ 1
unfolding on_talks
talk_not_started_has = refl

-- an empty text is an empty line
abbrev pub fed_line_by_line : List Item
fed_line_by_line =
    In (Accepted peer) ∷ Out (WantClient 0)
    ∷ In (ClientBytes 0 (codes "GET /w HTTP/1.1\r\nHost: a\r\nUpgrade: websocket\r\nConnection: Upgrade\r\nSec-WebSocket-Key: dGhlIHNhbXBsZSBub25jZQ==\r\nSec-WebSocket-Version: 13\r\n\r\nf")) ∷ Out (Write 0 (codes "HTTP/1.1 101 Switching Protocols\r\nUpgrade: websocket\r\nConnection: Upgrade\r\nSec-WebSocket-Accept: s3pPLMBiTxaQ9kYGzzhZRbK+xOo=\r\n\r\n")) ∷ Out (Upgrade 0 (codes "f")) ∷ Out (Start 0 0 0 0 (launch_talk (codes "/s") (codes "GET") (codes "/w")))
    ∷ In (Started 0) ∷ Out (WantChild 0) ∷ Out (WantClient 0)
    ∷ In (WsText 0 (codes "")) ∷ Out (Feed 0 (codes "\n"))
    ∷ In (Took 0 1) ∷ Out (WantClient 0)
    ∷ In (WsText 0 (codes "b\nc")) ∷ Out (Feed 0 (codes "b\nc\n"))
    ∷ In (Took 0 4) ∷ Out (WantClient 0) ∷ []

fed_line_by_line_is_good : broken_by site fed_line_by_line ≡ []
unfolding on_talks
fed_line_by_line_is_good = refl

fed_line_by_line_has : length (exchanges site 0 fed_line_by_line) ≡ 1
unfolding on_talks
fed_line_by_line_has = refl

-- the output breaks: what stands behind the last line is not said
abbrev pub talk_broken : List Item
talk_broken =
    In (Accepted peer) ∷ Out (WantClient 0)
    ∷ In (ClientBytes 0 (codes "GET /w HTTP/1.1\r\nHost: a\r\nUpgrade: websocket\r\nConnection: Upgrade\r\nSec-WebSocket-Key: dGhlIHNhbXBsZSBub25jZQ==\r\nSec-WebSocket-Version: 13\r\n\r\nf")) ∷ Out (Write 0 (codes "HTTP/1.1 101 Switching Protocols\r\nUpgrade: websocket\r\nConnection: Upgrade\r\nSec-WebSocket-Accept: s3pPLMBiTxaQ9kYGzzhZRbK+xOo=\r\n\r\n")) ∷ Out (Upgrade 0 (codes "f")) ∷ Out (Start 0 0 0 0 (launch_talk (codes "/s") (codes "GET") (codes "/w")))
    ∷ In (Started 0) ∷ Out (WantChild 0) ∷ Out (WantClient 0)
    ∷ In (ChildBytes 0 (codes "x\ny")) ∷ Out (Says 0 ((codes "x") ∷ [])) ∷ Out (WantChild 0)
    ∷ In (ChildBroken 0) ∷ Out (CloseWs 0 1011) ∷ Out (EndInput 0) ∷ Out (Kill 0) ∷ Out (Shut 0 Done)
    ∷ In (Exited 0) ∷ []

talk_broken_is_good : broken_by site talk_broken ≡ []
unfolding on_talks
talk_broken_is_good = refl

talk_broken_has : length (exchanges site 0 talk_broken) ≡ 1
unfolding on_talks
talk_broken_has = refl

-- Stop sends no code
abbrev pub talk_stopped : List Item
talk_stopped =
    In (Accepted peer) ∷ Out (WantClient 0)
    ∷ In (ClientBytes 0 (codes "GET /w HTTP/1.1\r\nHost: a\r\nUpgrade: websocket\r\nConnection: Upgrade\r\nSec-WebSocket-Key: dGhlIHNhbXBsZSBub25jZQ==\r\nSec-WebSocket-Version: 13\r\n\r\nf")) ∷ Out (Write 0 (codes "HTTP/1.1 101 Switching Protocols\r\nUpgrade: websocket\r\nConnection: Upgrade\r\nSec-WebSocket-Accept: s3pPLMBiTxaQ9kYGzzhZRbK+xOo=\r\n\r\n")) ∷ Out (Upgrade 0 (codes "f")) ∷ Out (Start 0 0 0 0 (launch_talk (codes "/s") (codes "GET") (codes "/w")))
    ∷ In (Started 0) ∷ Out (WantChild 0) ∷ Out (WantClient 0)
    ∷ In Stop ∷ Out (EndInput 0) ∷ Out (Kill 0) ∷ Out (Shut 0 Stopped)
    ∷ In (Exited 0) ∷ Out (Release 0) ∷ []

talk_stopped_is_good : broken_by site talk_stopped ≡ []
unfolding on_talks
talk_stopped_is_good = refl

talk_stopped_has : length (exchanges site 0 talk_stopped) ≡ 1
unfolding on_talks
talk_stopped_has = refl

-- .. nor does a frame that is refused
abbrev pub bad_frame : List Item
bad_frame =
    In (Accepted peer) ∷ Out (WantClient 0)
    ∷ In (ClientBytes 0 (codes "GET /w HTTP/1.1\r\nHost: a\r\nUpgrade: websocket\r\nConnection: Upgrade\r\nSec-WebSocket-Key: dGhlIHNhbXBsZSBub25jZQ==\r\nSec-WebSocket-Version: 13\r\n\r\nf")) ∷ Out (Write 0 (codes "HTTP/1.1 101 Switching Protocols\r\nUpgrade: websocket\r\nConnection: Upgrade\r\nSec-WebSocket-Accept: s3pPLMBiTxaQ9kYGzzhZRbK+xOo=\r\n\r\n")) ∷ Out (Upgrade 0 (codes "f")) ∷ Out (Start 0 0 0 0 (launch_talk (codes "/s") (codes "GET") (codes "/w")))
    ∷ In (Started 0) ∷ Out (WantChild 0) ∷ Out (WantClient 0)
    ∷ In (WsBad 0) ∷ Out (EndInput 0) ∷ Out (Kill 0) ∷ Out (Shut 0 Gone) ∷ []

bad_frame_is_good : broken_by site bad_frame ≡ []
unfolding on_talks
bad_frame_is_good = refl

bad_frame_has : length (exchanges site 0 bad_frame) ≡ 1
unfolding on_talks
bad_frame_has = refl

-- a handshake of another version
abbrev pub another_version : List Item
another_version =
    In (Accepted peer) ∷ Out (WantClient 0)
    ∷ In (ClientBytes 0 (codes "GET /w HTTP/1.1\r\nHost: a\r\nUpgrade: websocket\r\nConnection: Upgrade\r\nSec-WebSocket-Key: dGhlIHNhbXBsZSBub25jZQ==\r\nSec-WebSocket-Version: 8\r\n\r\n")) ∷ Out (Write 0 (codes "HTTP/1.1 426 Upgrade Required\r\nUpgrade: websocket\r\nConnection: Upgrade\r\nSec-WebSocket-Version: 13\r\nContent-Type: text/plain\r\nContent-Length: 30\r\n\r\nwebsocket version 13 required\n")) ∷ Out (WantClient 0) ∷ []

another_version_is_good : broken_by site another_version ≡ []
unfolding on_talks
another_version_is_good = refl

another_version_has : length (exchanges site 0 another_version) ≡ 2
unfolding on_talks
another_version_has = refl

-- a script that names its origins
abbrev pub another_origin : List Item
another_origin =
    In (Accepted peer) ∷ Out (WantClient 0)
    ∷ In (ClientBytes 0 (codes "GET /w HTTP/1.1\r\nHost: a\r\nUpgrade: websocket\r\nConnection: Upgrade\r\nSec-WebSocket-Key: dGhlIHNhbXBsZSBub25jZQ==\r\nSec-WebSocket-Version: 13\r\n\r\n")) ∷ Out (Write 0 (codes "HTTP/1.1 403 Forbidden\r\nContent-Type: text/plain\r\nContent-Length: 15\r\n\r\norigin refused\n")) ∷ Out (WantClient 0) ∷ []

another_origin_is_good : broken_by site_with_origins another_origin ≡ []
unfolding on_talks
another_origin_is_good = refl

another_origin_has : length (exchanges site_with_origins 0 another_origin) ≡ 2
unfolding on_talks
another_origin_has = refl

-- memory is wanting in a talk
abbrev pub no_room_in_a_talk : List Item
no_room_in_a_talk =
    In (Accepted peer) ∷ Out (WantClient 0)
    ∷ In (ClientBytes 0 (codes "GET /w HTTP/1.1\r\nHost: a\r\nUpgrade: websocket\r\nConnection: Upgrade\r\nSec-WebSocket-Key: dGhlIHNhbXBsZSBub25jZQ==\r\nSec-WebSocket-Version: 13\r\n\r\nf")) ∷ Out (Write 0 (codes "HTTP/1.1 101 Switching Protocols\r\nUpgrade: websocket\r\nConnection: Upgrade\r\nSec-WebSocket-Accept: s3pPLMBiTxaQ9kYGzzhZRbK+xOo=\r\n\r\n")) ∷ Out (Upgrade 0 (codes "f")) ∷ Out (Start 0 0 0 0 (launch_talk (codes "/s") (codes "GET") (codes "/w")))
    ∷ In (Started 0) ∷ Out (WantChild 0) ∷ Out (WantClient 0)
    ∷ In (NoRoom 0) ∷ Out (EndInput 0) ∷ Out (Kill 0) ∷ Out (Shut 0 NoMemory)
    ∷ In (Exited 0) ∷ Out (Release 0) ∷ []

no_room_in_a_talk_is_good : broken_by site no_room_in_a_talk ≡ []
unfolding on_talks
no_room_in_a_talk_is_good = refl

no_room_in_a_talk_has : length (exchanges site 0 no_room_in_a_talk) ≡ 1
unfolding on_talks
no_room_in_a_talk_has = refl

-- the client is asked once the script runs
abbrev pub text_before_it_started : List Item
text_before_it_started =
    In (Accepted peer) ∷ Out (WantClient 0)
    ∷ In (ClientBytes 0 (codes "GET /w HTTP/1.1\r\nHost: a\r\nUpgrade: websocket\r\nConnection: Upgrade\r\nSec-WebSocket-Key: dGhlIHNhbXBsZSBub25jZQ==\r\nSec-WebSocket-Version: 13\r\n\r\nf")) ∷ Out (Write 0 (codes "HTTP/1.1 101 Switching Protocols\r\nUpgrade: websocket\r\nConnection: Upgrade\r\nSec-WebSocket-Accept: s3pPLMBiTxaQ9kYGzzhZRbK+xOo=\r\n\r\n")) ∷ Out (Upgrade 0 (codes "f")) ∷ Out (Start 0 0 0 0 (launch_talk (codes "/s") (codes "GET") (codes "/w")))
    ∷ In (Tick 0)
    ∷ In (Started 0) ∷ Out (WantChild 0) ∷ Out (WantClient 0)
    ∷ In (WsText 0 (codes "a")) ∷ Out (Feed 0 (codes "a\n")) ∷ []

text_before_it_started_is_good : broken_by site text_before_it_started ≡ []
unfolding on_talks
text_before_it_started_is_good = refl

text_before_it_started_has : length (exchanges site 0 text_before_it_started) ≡ 1
unfolding on_talks
text_before_it_started_has = refl
