-- WebSockets that break a rule, and which, by computation.
use Rattle.std.proofs.Common.{◌≡◌, List, [], ◌∷◌, refl}
use Rattle.std.specs.Prelude.{codes}
use Rattle.host_trace.specs.declared.items.Event.TheVariants.{Accepted, ClientBytes, Started, ChildBytes, ChildEof, WsText}
use Rattle.host_trace.specs.declared.items.Act.TheVariants.{WantClient, Write, Shut, Start, Feed, EndInput, WantChild, Kill, Upgrade, Says, CloseWs}
use Rattle.host_trace.specs.declared.items.Item.{Item}
use Rattle.host_trace.specs.declared.items.Item.TheVariants.{In, Out}
use Rattle.host_trace.specs.declared.items.Why.TheVariants.{Done, NoMemory}
use Rattle.trace_model.specs.Verdict.{broken_by}
use Rattle.trace_rows.proofs.OnTalks.{on_talks}
use Rattle.trace_rows.proofs.Site.{site, peer, launch_talk}

-- the accept text alone
abbrev pub not_upgraded : List Item
not_upgraded =
    In (Accepted peer) ∷ Out (WantClient 0)
    ∷ In (ClientBytes 0 (codes "GET /w HTTP/1.1\r\nHost: a\r\nUpgrade: websocket\r\nConnection: Upgrade\r\nSec-WebSocket-Key: dGhlIHNhbXBsZSBub25jZQ==\r\nSec-WebSocket-Version: 13\r\n\r\nf")) ∷ Out (Write 0 (codes "HTTP/1.1 101 Switching Protocols\r\nUpgrade: websocket\r\nConnection: Upgrade\r\nSec-WebSocket-Accept: s3pPLMBiTxaQ9kYGzzhZRbK+xOo=\r\n\r\n")) ∷ []

not_upgraded_is_wrong : broken_by site not_upgraded ≡ codes "upgrades" ∷ codes "begins" ∷ []
unfolding on_talks
not_upgraded_is_wrong = refl

-- its child is started before the Upgrade
abbrev pub started_before_upgrade : List Item
started_before_upgrade =
    In (Accepted peer) ∷ Out (WantClient 0)
    ∷ In (ClientBytes 0 (codes "GET /w HTTP/1.1\r\nHost: a\r\nUpgrade: websocket\r\nConnection: Upgrade\r\nSec-WebSocket-Key: dGhlIHNhbXBsZSBub25jZQ==\r\nSec-WebSocket-Version: 13\r\n\r\nf")) ∷ Out (Start 0 0 0 0 (launch_talk (codes "/s") (codes "GET") (codes "/w"))) ∷ Out (Write 0 (codes "HTTP/1.1 101 Switching Protocols\r\nUpgrade: websocket\r\nConnection: Upgrade\r\nSec-WebSocket-Accept: s3pPLMBiTxaQ9kYGzzhZRbK+xOo=\r\n\r\n")) ∷ Out (Upgrade 0 (codes "f")) ∷ []

started_before_upgrade_is_wrong : broken_by site started_before_upgrade ≡ codes "launches" ∷ codes "order" ∷ codes "in_turn" ∷ []
unfolding on_talks
started_before_upgrade_is_wrong = refl

-- a byte after the handshake is lost
abbrev pub another_rest : List Item
another_rest =
    In (Accepted peer) ∷ Out (WantClient 0)
    ∷ In (ClientBytes 0 (codes "GET /w HTTP/1.1\r\nHost: a\r\nUpgrade: websocket\r\nConnection: Upgrade\r\nSec-WebSocket-Key: dGhlIHNhbXBsZSBub25jZQ==\r\nSec-WebSocket-Version: 13\r\n\r\nf")) ∷ Out (Write 0 (codes "HTTP/1.1 101 Switching Protocols\r\nUpgrade: websocket\r\nConnection: Upgrade\r\nSec-WebSocket-Accept: s3pPLMBiTxaQ9kYGzzhZRbK+xOo=\r\n\r\n")) ∷ Out (Upgrade 0 []) ∷ Out (Start 0 0 0 0 (launch_talk (codes "/s") (codes "GET") (codes "/w"))) ∷ []

another_rest_is_wrong : broken_by site another_rest ≡ codes "talk_acts" ∷ []
unfolding on_talks
another_rest_is_wrong = refl

-- what stands behind the last line is not said
abbrev pub dropped_rest : List Item
dropped_rest =
    In (Accepted peer) ∷ Out (WantClient 0)
    ∷ In (ClientBytes 0 (codes "GET /w HTTP/1.1\r\nHost: a\r\nUpgrade: websocket\r\nConnection: Upgrade\r\nSec-WebSocket-Key: dGhlIHNhbXBsZSBub25jZQ==\r\nSec-WebSocket-Version: 13\r\n\r\nf")) ∷ Out (Write 0 (codes "HTTP/1.1 101 Switching Protocols\r\nUpgrade: websocket\r\nConnection: Upgrade\r\nSec-WebSocket-Accept: s3pPLMBiTxaQ9kYGzzhZRbK+xOo=\r\n\r\n")) ∷ Out (Upgrade 0 (codes "f")) ∷ Out (Start 0 0 0 0 (launch_talk (codes "/s") (codes "GET") (codes "/w")))
    ∷ In (Started 0) ∷ Out (WantChild 0) ∷ Out (WantClient 0)
    ∷ In (ChildBytes 0 (codes "x\n\ny")) ∷ Out (Says 0 ((codes "x") ∷ (codes "") ∷ [])) ∷ Out (WantChild 0)
    ∷ In (ChildEof 0) ∷ Out (CloseWs 0 1000) ∷ Out (EndInput 0) ∷ Out (Shut 0 Done) ∷ []

dropped_rest_is_wrong : broken_by site dropped_rest ≡ codes "talks" ∷ []
unfolding on_talks
dropped_rest_is_wrong = refl

-- a line is said before it has ended
abbrev pub split_line : List Item
split_line =
    In (Accepted peer) ∷ Out (WantClient 0)
    ∷ In (ClientBytes 0 (codes "GET /w HTTP/1.1\r\nHost: a\r\nUpgrade: websocket\r\nConnection: Upgrade\r\nSec-WebSocket-Key: dGhlIHNhbXBsZSBub25jZQ==\r\nSec-WebSocket-Version: 13\r\n\r\nf")) ∷ Out (Write 0 (codes "HTTP/1.1 101 Switching Protocols\r\nUpgrade: websocket\r\nConnection: Upgrade\r\nSec-WebSocket-Accept: s3pPLMBiTxaQ9kYGzzhZRbK+xOo=\r\n\r\n")) ∷ Out (Upgrade 0 (codes "f")) ∷ Out (Start 0 0 0 0 (launch_talk (codes "/s") (codes "GET") (codes "/w")))
    ∷ In (Started 0) ∷ Out (WantChild 0) ∷ Out (WantClient 0)
    ∷ In (ChildBytes 0 (codes "xy")) ∷ Out (Says 0 ((codes "x") ∷ [])) ∷ Out (WantChild 0) ∷ []

split_line_is_wrong : broken_by site split_line ≡ codes "talks" ∷ codes "says" ∷ []
unfolding on_talks
split_line_is_wrong = refl

-- another close code
abbrev pub another_code : List Item
another_code =
    In (Accepted peer) ∷ Out (WantClient 0)
    ∷ In (ClientBytes 0 (codes "GET /w HTTP/1.1\r\nHost: a\r\nUpgrade: websocket\r\nConnection: Upgrade\r\nSec-WebSocket-Key: dGhlIHNhbXBsZSBub25jZQ==\r\nSec-WebSocket-Version: 13\r\n\r\nf")) ∷ Out (Write 0 (codes "HTTP/1.1 101 Switching Protocols\r\nUpgrade: websocket\r\nConnection: Upgrade\r\nSec-WebSocket-Accept: s3pPLMBiTxaQ9kYGzzhZRbK+xOo=\r\n\r\n")) ∷ Out (Upgrade 0 (codes "f")) ∷ Out (Start 0 0 0 0 (launch_talk (codes "/s") (codes "GET") (codes "/w")))
    ∷ In (Started 0) ∷ Out (WantChild 0) ∷ Out (WantClient 0)
    ∷ In (ChildEof 0) ∷ Out (CloseWs 0 1001) ∷ Out (EndInput 0) ∷ Out (Shut 0 Done) ∷ []

another_code_is_wrong : broken_by site another_code ≡ codes "talks" ∷ []
unfolding on_talks
another_code_is_wrong = refl

-- a text and its LF are fed as two pieces
abbrev pub fed_in_pieces : List Item
fed_in_pieces =
    In (Accepted peer) ∷ Out (WantClient 0)
    ∷ In (ClientBytes 0 (codes "GET /w HTTP/1.1\r\nHost: a\r\nUpgrade: websocket\r\nConnection: Upgrade\r\nSec-WebSocket-Key: dGhlIHNhbXBsZSBub25jZQ==\r\nSec-WebSocket-Version: 13\r\n\r\nf")) ∷ Out (Write 0 (codes "HTTP/1.1 101 Switching Protocols\r\nUpgrade: websocket\r\nConnection: Upgrade\r\nSec-WebSocket-Accept: s3pPLMBiTxaQ9kYGzzhZRbK+xOo=\r\n\r\n")) ∷ Out (Upgrade 0 (codes "f")) ∷ Out (Start 0 0 0 0 (launch_talk (codes "/s") (codes "GET") (codes "/w")))
    ∷ In (Started 0) ∷ Out (WantChild 0) ∷ Out (WantClient 0)
    ∷ In (WsText 0 (codes "a")) ∷ Out (Feed 0 (codes "a")) ∷ Out (Feed 0 (codes "\n")) ∷ []

fed_in_pieces_is_wrong : broken_by site fed_in_pieces ≡ codes "talks" ∷ []
unfolding on_talks
fed_in_pieces_is_wrong = refl

-- no program was started, and a text is said and two close frames are sent
abbrev pub without_program : List Item
without_program =
    In (Accepted peer) ∷ Out (WantClient 0)
    ∷ In (ClientBytes 0 (codes "GET /w HTTP/1.1\r\nHost: a\r\nUpgrade: websocket\r\nConnection: Upgrade\r\nSec-WebSocket-Key: dGhlIHNhbXBsZSBub25jZQ==\r\nSec-WebSocket-Version: 13\r\n\r\nf")) ∷ Out (Write 0 (codes "HTTP/1.1 101 Switching Protocols\r\nUpgrade: websocket\r\nConnection: Upgrade\r\nSec-WebSocket-Accept: s3pPLMBiTxaQ9kYGzzhZRbK+xOo=\r\n\r\n")) ∷ Out (Upgrade 0 (codes "f")) ∷ Out (Says 0 ((codes "evil") ∷ [])) ∷ Out (CloseWs 0 4242) ∷ Out (CloseWs 0 7) ∷ Out (Shut 0 NoMemory) ∷ []

without_program_is_wrong : broken_by site without_program ≡ codes "talk_acts" ∷ []
unfolding on_talks
without_program_is_wrong = refl

-- no program was started, and a close frame is sent
abbrev pub closed_without_program : List Item
closed_without_program =
    In (Accepted peer) ∷ Out (WantClient 0)
    ∷ In (ClientBytes 0 (codes "GET /w HTTP/1.1\r\nHost: a\r\nUpgrade: websocket\r\nConnection: Upgrade\r\nSec-WebSocket-Key: dGhlIHNhbXBsZSBub25jZQ==\r\nSec-WebSocket-Version: 13\r\n\r\nf")) ∷ Out (Write 0 (codes "HTTP/1.1 101 Switching Protocols\r\nUpgrade: websocket\r\nConnection: Upgrade\r\nSec-WebSocket-Accept: s3pPLMBiTxaQ9kYGzzhZRbK+xOo=\r\n\r\n")) ∷ Out (Upgrade 0 (codes "f")) ∷ Out (CloseWs 0 1011) ∷ Out (Shut 0 NoMemory) ∷ []

closed_without_program_is_wrong : broken_by site closed_without_program ≡ codes "talk_acts" ∷ []
unfolding on_talks
closed_without_program_is_wrong = refl

-- a text is said before the program is started, in the same step
abbrev pub said_before_start : List Item
said_before_start =
    In (Accepted peer) ∷ Out (WantClient 0)
    ∷ In (ClientBytes 0 (codes "GET /w HTTP/1.1\r\nHost: a\r\nUpgrade: websocket\r\nConnection: Upgrade\r\nSec-WebSocket-Key: dGhlIHNhbXBsZSBub25jZQ==\r\nSec-WebSocket-Version: 13\r\n\r\nf")) ∷ Out (Write 0 (codes "HTTP/1.1 101 Switching Protocols\r\nUpgrade: websocket\r\nConnection: Upgrade\r\nSec-WebSocket-Accept: s3pPLMBiTxaQ9kYGzzhZRbK+xOo=\r\n\r\n")) ∷ Out (Upgrade 0 (codes "f")) ∷ Out (Says 0 ((codes "evil") ∷ [])) ∷ Out (Start 0 0 0 0 (launch_talk (codes "/s") (codes "GET") (codes "/w"))) ∷ []

said_before_start_is_wrong : broken_by site said_before_start ≡ codes "talk_acts" ∷ codes "talks" ∷ codes "says" ∷ []
unfolding on_talks
said_before_start_is_wrong = refl

-- two close frames are sent
abbrev pub closed_twice : List Item
closed_twice =
    In (Accepted peer) ∷ Out (WantClient 0)
    ∷ In (ClientBytes 0 (codes "GET /w HTTP/1.1\r\nHost: a\r\nUpgrade: websocket\r\nConnection: Upgrade\r\nSec-WebSocket-Key: dGhlIHNhbXBsZSBub25jZQ==\r\nSec-WebSocket-Version: 13\r\n\r\nf")) ∷ Out (Write 0 (codes "HTTP/1.1 101 Switching Protocols\r\nUpgrade: websocket\r\nConnection: Upgrade\r\nSec-WebSocket-Accept: s3pPLMBiTxaQ9kYGzzhZRbK+xOo=\r\n\r\n")) ∷ Out (Upgrade 0 (codes "f")) ∷ Out (Start 0 0 0 0 (launch_talk (codes "/s") (codes "GET") (codes "/w")))
    ∷ In (Started 0) ∷ Out (WantChild 0) ∷ Out (WantClient 0)
    ∷ In (ChildEof 0) ∷ Out (CloseWs 0 1000) ∷ Out (CloseWs 0 1000) ∷ Out (EndInput 0) ∷ Out (Shut 0 Done) ∷ []

closed_twice_is_wrong : broken_by site closed_twice ≡ codes "talks" ∷ []
unfolding on_talks
closed_twice_is_wrong = refl

-- memory is wanting, and a close frame is sent though nothing ended the talk
abbrev pub closed_for_memory : List Item
closed_for_memory =
    In (Accepted peer) ∷ Out (WantClient 0)
    ∷ In (ClientBytes 0 (codes "GET /w HTTP/1.1\r\nHost: a\r\nUpgrade: websocket\r\nConnection: Upgrade\r\nSec-WebSocket-Key: dGhlIHNhbXBsZSBub25jZQ==\r\nSec-WebSocket-Version: 13\r\n\r\nf")) ∷ Out (Write 0 (codes "HTTP/1.1 101 Switching Protocols\r\nUpgrade: websocket\r\nConnection: Upgrade\r\nSec-WebSocket-Accept: s3pPLMBiTxaQ9kYGzzhZRbK+xOo=\r\n\r\n")) ∷ Out (Upgrade 0 (codes "f")) ∷ Out (Start 0 0 0 0 (launch_talk (codes "/s") (codes "GET") (codes "/w")))
    ∷ In (Started 0) ∷ Out (WantChild 0) ∷ Out (WantClient 0)
    ∷ In (ChildBytes 0 (codes "x\n")) ∷ Out (CloseWs 0 4242) ∷ Out (EndInput 0) ∷ Out (Kill 0) ∷ Out (Shut 0 NoMemory) ∷ []

closed_for_memory_is_wrong : broken_by site closed_for_memory ≡ codes "talks" ∷ []
unfolding on_talks
closed_for_memory_is_wrong = refl
