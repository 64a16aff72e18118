-- Requests with a body, by computation.
use Rattle.std.proofs.Common.{◌≡◌, List, [], ◌∷◌, refl, length}
use Rattle.std.specs.Prelude.{codes}
use Rattle.host_trace.specs.declared.items.Event.TheVariants.{Accepted, ClientBytes, ClientEof, Started, ChildBytes, ChildEof, Took, InputGone, Exited}
use Rattle.host_trace.specs.declared.items.Act.TheVariants.{WantClient, Write, Shut, Start, Feed, EndInput, WantChild, Kill, Release}
use Rattle.host_trace.specs.declared.items.Item.{Item}
use Rattle.host_trace.specs.declared.items.Item.TheVariants.{In, Out}
use Rattle.host_trace.specs.declared.items.Why.TheVariants.{Done}
use Rattle.trace_model.specs.Exchanges.{exchanges}
use Rattle.trace_model.specs.Verdict.{broken_by}
use Rattle.trace_rows.proofs.OnLiterals.{on_literals}
use Rattle.trace_rows.proofs.Site.{site, peer, launch_with_body}

-- 100 Continue, and the script begins before the body has come
abbrev pub continued : List Item
continued =
    In (Accepted peer) ∷ Out (WantClient 0)
    ∷ In (ClientBytes 0 (codes "POST /f HTTP/1.1\r\nHost: a\r\nContent-Length: 3\r\nExpect: 100-continue\r\n\r\n")) ∷ Out (Write 0 (codes "HTTP/1.1 100 Continue\r\n\r\n")) ∷ Out (Start 0 0 0 0 (launch_with_body (codes "/q") (codes "POST") (codes "/f"))) ∷ Out (WantClient 0)
    ∷ In (Started 0) ∷ Out (WantChild 0)
    ∷ In (ClientBytes 0 (codes "x=1")) ∷ Out (Feed 0 (codes "x=1")) ∷ Out (EndInput 0)
    ∷ In (Took 0 3)
    ∷ In (ChildBytes 0 (codes "Content-Type: text/plain\n\nhi\n")) ∷ Out (WantChild 0)
    ∷ In (ChildEof 0) ∷ Out (Write 0 (codes "HTTP/1.1 200 OK\r\nContent-Type: text/plain\r\nContent-Length: 3\r\n\r\nhi\n"))
    ∷ In (Exited 0) ∷ Out (WantClient 0) ∷ []

continued_is_good : broken_by site continued ≡ []
unfolding on_literals
continued_is_good = refl

continued_has : length (exchanges site 0 continued) ≡ 2
unfolding on_literals
continued_has = refl

-- a refusal while the body has not come closes
abbrev pub refused_early : List Item
refused_early =
    In (Accepted peer) ∷ Out (WantClient 0)
    ∷ In (ClientBytes 0 (codes "POST /x HTTP/1.1\r\nHost: a\r\nContent-Length: 3\r\n\r\n")) ∷ Out (Write 0 (codes "HTTP/1.1 404 Not Found\r\nContent-Type: text/plain\r\nContent-Length: 24\r\nConnection: close\r\n\r\nno script for this path\n")) ∷ Out (Shut 0 Done) ∷ []

refused_early_is_good : broken_by site refused_early ≡ []
unfolding on_literals
refused_early_is_good = refl

refused_early_has : length (exchanges site 0 refused_early) ≡ 2
unfolding on_literals
refused_early_has = refl

-- 100 Continue was due at the end of that step too
abbrev pub continued_and_refused : List Item
continued_and_refused =
    In (Accepted peer) ∷ Out (WantClient 0)
    ∷ In (ClientBytes 0 (codes "POST /x HTTP/1.1\r\nHost: a\r\nContent-Length: 3\r\nExpect: 100-continue\r\n\r\n")) ∷ Out (Write 0 (codes "HTTP/1.1 100 Continue\r\n\r\n")) ∷ Out (Write 0 (codes "HTTP/1.1 404 Not Found\r\nContent-Type: text/plain\r\nContent-Length: 24\r\nConnection: close\r\n\r\nno script for this path\n")) ∷ Out (Shut 0 Done) ∷ []

continued_and_refused_is_good : broken_by site continued_and_refused ≡ []
unfolding on_literals
continued_and_refused_is_good = refl

continued_and_refused_has : length (exchanges site 0 continued_and_refused) ≡ 2
unfolding on_literals
continued_and_refused_has = refl

-- the next piece is fed when the first was taken
abbrev pub fed_piece_by_piece : List Item
fed_piece_by_piece =
    In (Accepted peer) ∷ Out (WantClient 0)
    ∷ In (ClientBytes 0 (codes "POST /f HTTP/1.1\r\nHost: a\r\nConnection: close\r\nContent-Length: 3\r\n\r\nx")) ∷ Out (Start 0 0 0 0 (launch_with_body (codes "/q") (codes "POST") (codes "/f"))) ∷ Out (WantClient 0)
    ∷ In (Started 0) ∷ Out (Feed 0 (codes "x")) ∷ Out (WantChild 0)
    ∷ In (ClientBytes 0 (codes "=1"))
    ∷ In (Took 0 1) ∷ Out (Feed 0 (codes "=1")) ∷ Out (EndInput 0)
    ∷ In (Took 0 2)
    ∷ In (ChildBytes 0 (codes "Content-Type: text/plain\n\nhi\n")) ∷ Out (WantChild 0)
    ∷ In (ChildEof 0) ∷ Out (Write 0 (codes "HTTP/1.1 200 OK\r\nContent-Type: text/plain\r\nContent-Length: 3\r\nConnection: close\r\n\r\nhi\n")) ∷ Out (Shut 0 Done)
    ∷ In (Exited 0) ∷ []

fed_piece_by_piece_is_good : broken_by site fed_piece_by_piece ≡ []
unfolding on_literals
fed_piece_by_piece_is_good = refl

fed_piece_by_piece_has : length (exchanges site 0 fed_piece_by_piece) ≡ 2
unfolding on_literals
fed_piece_by_piece_has = refl

-- the client ends its input within the body of a request whose script runs
abbrev pub ended_within_the_body : List Item
ended_within_the_body =
    In (Accepted peer) ∷ Out (WantClient 0)
    ∷ In (ClientBytes 0 (codes "POST /f HTTP/1.1\r\nHost: a\r\nConnection: close\r\nContent-Length: 3\r\n\r\nx")) ∷ Out (Start 0 0 0 0 (launch_with_body (codes "/q") (codes "POST") (codes "/f"))) ∷ Out (WantClient 0)
    ∷ In (Started 0) ∷ Out (Feed 0 (codes "x")) ∷ Out (WantChild 0)
    ∷ In (ClientEof 0) ∷ Out (Write 0 (codes "HTTP/1.1 400 Bad Request\r\nContent-Type: text/plain\r\nContent-Length: 20\r\nConnection: close\r\n\r\nrequest ended early\n")) ∷ Out (EndInput 0) ∷ Out (Kill 0) ∷ Out (Shut 0 Done)
    ∷ In (Exited 0) ∷ Out (Release 0) ∷ []

ended_within_the_body_is_good : broken_by site ended_within_the_body ≡ []
unfolding on_literals
ended_within_the_body_is_good = refl

ended_within_the_body_has : length (exchanges site 0 ended_within_the_body) ≡ 2
unfolding on_literals
ended_within_the_body_has = refl

-- the input pipe fails: nothing more is fed, and no more of the body is heard
abbrev pub input_gone : List Item
input_gone =
    In (Accepted peer) ∷ Out (WantClient 0)
    ∷ In (ClientBytes 0 (codes "POST /f HTTP/1.1\r\nHost: a\r\nConnection: close\r\nContent-Length: 3\r\n\r\nx")) ∷ Out (Start 0 0 0 0 (launch_with_body (codes "/q") (codes "POST") (codes "/f"))) ∷ Out (WantClient 0)
    ∷ In (Started 0) ∷ Out (Feed 0 (codes "x")) ∷ Out (WantChild 0)
    ∷ In (InputGone 0)
    ∷ In (ClientBytes 0 (codes "="))
    ∷ In (ChildBytes 0 (codes "Content-Type: text/plain\n\nhi\n")) ∷ Out (WantChild 0)
    ∷ In (ChildEof 0) ∷ Out (Write 0 (codes "HTTP/1.1 200 OK\r\nContent-Type: text/plain\r\nContent-Length: 3\r\nConnection: close\r\n\r\nhi\n")) ∷ Out (Shut 0 Done)
    ∷ In (Exited 0) ∷ []

input_gone_is_good : broken_by site input_gone ≡ []
unfolding on_literals
input_gone_is_good = refl

input_gone_has : length (exchanges site 0 input_gone) ≡ 2
unfolding on_literals
input_gone_has = refl

-- the script answers and exits before the body has come: the reply closes, and the input is ended after it
abbrev pub answered_early : List Item
answered_early =
    In (Accepted peer) ∷ Out (WantClient 0)
    ∷ In (ClientBytes 0 (codes "POST /f HTTP/1.1\r\nHost: a\r\nContent-Length: 3\r\n\r\nx")) ∷ Out (Start 0 0 0 0 (launch_with_body (codes "/q") (codes "POST") (codes "/f"))) ∷ Out (WantClient 0)
    ∷ In (Started 0) ∷ Out (Feed 0 (codes "x")) ∷ Out (WantChild 0)
    ∷ In (ChildBytes 0 (codes "Content-Type: text/plain\n\nhi\n")) ∷ Out (WantChild 0)
    ∷ In (Exited 0)
    ∷ In (ChildEof 0) ∷ Out (Write 0 (codes "HTTP/1.1 200 OK\r\nContent-Type: text/plain\r\nContent-Length: 3\r\nConnection: close\r\n\r\nhi\n")) ∷ Out (EndInput 0) ∷ Out (Shut 0 Done) ∷ []

answered_early_is_good : broken_by site answered_early ≡ []
unfolding on_literals
answered_early_is_good = refl

answered_early_has : length (exchanges site 0 answered_early) ≡ 2
unfolding on_literals
answered_early_has = refl

-- a body in chunks is fed once it is whole
abbrev pub body_in_chunks : List Item
body_in_chunks =
    In (Accepted peer) ∷ Out (WantClient 0)
    ∷ In (ClientBytes 0 (codes "POST /f HTTP/1.1\r\nHost: a\r\nTransfer-Encoding: chunked\r\n\r\n3\r\nx=")) ∷ Out (WantClient 0)
    ∷ In (ClientBytes 0 (codes "1\r\n0\r\n\r\n")) ∷ Out (Start 0 0 0 0 (launch_with_body (codes "/q") (codes "POST") (codes "/f")))
    ∷ In (Started 0) ∷ Out (Feed 0 (codes "x=1")) ∷ Out (EndInput 0) ∷ Out (WantChild 0) ∷ []

body_in_chunks_is_good : broken_by site body_in_chunks ≡ []
unfolding on_literals
body_in_chunks_is_good = refl

body_in_chunks_has : length (exchanges site 0 body_in_chunks) ≡ 1
unfolding on_literals
body_in_chunks_has = refl

-- 100 Continue was due, and then the request was refused
abbrev pub chunk_that_is_none : List Item
chunk_that_is_none =
    In (Accepted peer) ∷ Out (WantClient 0)
    ∷ In (ClientBytes 0 (codes "POST /f HTTP/1.1\r\nHost: a\r\nTransfer-Encoding: chunked\r\nExpect: 100-continue\r\n\r\n")) ∷ Out (Write 0 (codes "HTTP/1.1 100 Continue\r\n\r\n")) ∷ Out (WantClient 0)
    ∷ In (ClientBytes 0 (codes "x")) ∷ Out (Write 0 (codes "HTTP/1.1 400 Bad Request\r\nContent-Type: text/plain\r\nContent-Length: 10\r\nConnection: close\r\n\r\nbad chunk\n")) ∷ Out (Shut 0 Done) ∷ []

chunk_that_is_none_is_good : broken_by site chunk_that_is_none ≡ []
unfolding on_literals
chunk_that_is_none_is_good = refl

chunk_that_is_none_has : length (exchanges site 0 chunk_that_is_none) ≡ 2
unfolding on_literals
chunk_that_is_none_has = refl

-- a program that exits before its input was ended redirects to a target that is refused: its input is ended first
abbrev pub refused_after_the_exit : List Item
refused_after_the_exit =
    In (Accepted peer) ∷ Out (WantClient 0)
    ∷ In (ClientBytes 0 (codes "POST /f HTTP/1.1\r\nHost: a\r\nContent-Length: 3\r\n\r\n")) ∷ Out (Start 0 0 0 0 (launch_with_body (codes "/q") (codes "POST") (codes "/f"))) ∷ Out (WantClient 0)
    ∷ In (Started 0) ∷ Out (WantChild 0)
    ∷ In (Exited 0)
    ∷ In (ChildBytes 0 (codes "Location: /x\n\n")) ∷ Out (WantChild 0)
    ∷ In (ChildEof 0) ∷ Out (EndInput 0) ∷ Out (Write 0 (codes "HTTP/1.1 404 Not Found\r\nContent-Type: text/plain\r\nContent-Length: 24\r\nConnection: close\r\n\r\nno script for this path\n")) ∷ Out (Shut 0 Done) ∷ []

refused_after_the_exit_is_good : broken_by site refused_after_the_exit ≡ []
unfolding on_literals
refused_after_the_exit_is_good = refl

refused_after_the_exit_has : length (exchanges site 0 refused_after_the_exit) ≡ 2
unfolding on_literals
refused_after_the_exit_has = refl
