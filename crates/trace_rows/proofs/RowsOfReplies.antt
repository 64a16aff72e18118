-- Whole replies, by computation: each of these traces breaks no rule.
use Rattle.std.proofs.Common.{◌≡◌, List, [], ◌∷◌, refl, length}
use Rattle.std.specs.Prelude.{codes}
use Rattle.host_trace.specs.declared.items.Event.TheVariants.{Accepted, ClientBytes, ClientEof, Started, StartFailed, StartFull, ChildBytes, ChildEof, Took, Exited, Tick}
use Rattle.host_trace.specs.declared.items.Act.TheVariants.{WantClient, Write, Shut, Start, Feed, EndInput, WantChild, Kill}
use Rattle.host_trace.specs.declared.items.Item.{Item}
use Rattle.host_trace.specs.declared.items.Item.TheVariants.{In, Out}
use Rattle.host_trace.specs.declared.items.Why.TheVariants.{Done}
use Rattle.trace_model.specs.Exchanges.{exchanges}
use Rattle.trace_model.specs.Verdict.{broken_by}
use Rattle.trace_rows.proofs.OnLiterals.{on_literals}
use Rattle.trace_rows.proofs.Site.{site, site_of_two_redirects, peer, launch, launch_with_body}

-- one GET that is answered by a document
abbrev pub first_row : List Item
first_row =
    In (Accepted peer) ∷ Out (WantClient 0)
    ∷ In (ClientBytes 0 (codes "GET /h HTTP/1.1\r\nHost: a\r\nConnection: close\r\n\r\n")) ∷ Out (Start 0 0 0 0 (launch (codes "/p") (codes "GET") (codes "/h")))
    ∷ In (Started 0) ∷ Out (EndInput 0) ∷ Out (WantChild 0)
    ∷ In (ChildBytes 0 (codes "Content-Type: text/plain\n\nhi\n")) ∷ Out (WantChild 0)
    ∷ In (ChildEof 0) ∷ Out (Write 0 (codes "HTTP/1.1 200 OK\r\nContent-Type: text/plain\r\nContent-Length: 3\r\nConnection: close\r\n\r\nhi\n")) ∷ Out (Shut 0 Done)
    ∷ In (Exited 0) ∷ []

first_row_is_good : broken_by site first_row ≡ []
unfolding on_literals
first_row_is_good = refl

first_row_has : length (exchanges site 0 first_row) ≡ 2
unfolding on_literals
first_row_has = refl

-- two requests in one piece: the second begins in the step in which the child of the first exits
abbrev pub two_pipelined : List Item
two_pipelined =
    In (Accepted peer) ∷ Out (WantClient 0)
    ∷ In (ClientBytes 0 (codes "GET /h HTTP/1.1\r\nHost: a\r\n\r\nGET /h HTTP/1.1\r\nHost: a\r\n\r\n")) ∷ Out (Start 0 0 0 0 (launch (codes "/p") (codes "GET") (codes "/h")))
    ∷ In (Started 0) ∷ Out (EndInput 0) ∷ Out (WantChild 0)
    ∷ In (ChildBytes 0 (codes "Content-Type: text/plain\n\nhi\n")) ∷ Out (WantChild 0)
    ∷ In (ChildEof 0) ∷ Out (Write 0 (codes "HTTP/1.1 200 OK\r\nContent-Type: text/plain\r\nContent-Length: 3\r\n\r\nhi\n"))
    ∷ In (Exited 0) ∷ Out (Start 1 0 1 0 (launch (codes "/p") (codes "GET") (codes "/h")))
    ∷ In (Started 1) ∷ Out (EndInput 1) ∷ Out (WantChild 1)
    ∷ In (ChildBytes 1 (codes "Content-Type: text/plain\n\nhi\n")) ∷ Out (WantChild 1)
    ∷ In (ChildEof 1) ∷ Out (Write 0 (codes "HTTP/1.1 200 OK\r\nContent-Type: text/plain\r\nContent-Length: 3\r\n\r\nhi\n"))
    ∷ In (Exited 1) ∷ Out (WantClient 0)
    ∷ In (ClientEof 0) ∷ Out (Shut 0 Done) ∷ []

two_pipelined_is_good : broken_by site two_pipelined ≡ []
unfolding on_literals
two_pipelined_is_good = refl

two_pipelined_has : length (exchanges site 0 two_pipelined) ≡ 3
unfolding on_literals
two_pipelined_has = refl

-- two refused requests in one piece are answered in one step, each by a Write of its own
abbrev pub two_refused : List Item
two_refused =
    In (Accepted peer) ∷ Out (WantClient 0)
    ∷ In (ClientBytes 0 (codes "GET /x HTTP/1.1\r\nHost: a\r\n\r\nGET /x HTTP/1.1\r\nHost: a\r\n\r\n")) ∷ Out (Write 0 (codes "HTTP/1.1 404 Not Found\r\nContent-Type: text/plain\r\nContent-Length: 24\r\n\r\nno script for this path\n")) ∷ Out (Write 0 (codes "HTTP/1.1 404 Not Found\r\nContent-Type: text/plain\r\nContent-Length: 24\r\n\r\nno script for this path\n")) ∷ Out (WantClient 0) ∷ []

two_refused_is_good : broken_by site two_refused ≡ []
unfolding on_literals
two_refused_is_good = refl

two_refused_has : length (exchanges site 0 two_refused) ≡ 3
unfolding on_literals
two_refused_has = refl

-- its reply is written at the end of its output; it is killed at its last tick, and the next request waits for its exit
abbrev pub child_that_lingers : List Item
child_that_lingers =
    In (Accepted peer) ∷ Out (WantClient 0)
    ∷ In (ClientBytes 0 (codes "GET /h HTTP/1.1\r\nHost: a\r\n\r\nGET /h HTTP/1.1\r\nHost: a\r\n\r\n")) ∷ Out (Start 0 0 0 0 (launch (codes "/p") (codes "GET") (codes "/h")))
    ∷ In (Started 0) ∷ Out (EndInput 0) ∷ Out (WantChild 0)
    ∷ In (ChildBytes 0 (codes "Content-Type: text/plain\n\nhi\n")) ∷ Out (WantChild 0)
    ∷ In (ChildEof 0) ∷ Out (Write 0 (codes "HTTP/1.1 200 OK\r\nContent-Type: text/plain\r\nContent-Length: 3\r\n\r\nhi\n"))
    ∷ In (Tick 0)
    ∷ In (Tick 0) ∷ Out (Kill 0)
    ∷ In (Exited 0) ∷ Out (Start 1 0 1 0 (launch (codes "/p") (codes "GET") (codes "/h"))) ∷ []

child_that_lingers_is_good : broken_by site child_that_lingers ≡ []
unfolding on_literals
child_that_lingers_is_good = refl

child_that_lingers_has : length (exchanges site 0 child_that_lingers) ≡ 2
unfolding on_literals
child_that_lingers_has = refl

-- a local redirect: the next hop begins in the step in which the child of the first exits, as a GET without a body
abbrev pub redirected : List Item
redirected =
    In (Accepted peer) ∷ Out (WantClient 0)
    ∷ In (ClientBytes 0 (codes "POST /f HTTP/1.1\r\nHost: a\r\nConnection: close\r\nContent-Length: 3\r\n\r\nx=1")) ∷ Out (Start 0 0 0 0 (launch_with_body (codes "/q") (codes "POST") (codes "/f")))
    ∷ In (Started 0) ∷ Out (Feed 0 (codes "x=1")) ∷ Out (EndInput 0) ∷ Out (WantChild 0)
    ∷ In (Took 0 3)
    ∷ In (ChildBytes 0 (codes "Location: /h\n\n")) ∷ Out (WantChild 0)
    ∷ In (ChildEof 0)
    ∷ In (Exited 0) ∷ Out (Start 1 0 0 1 (launch (codes "/p") (codes "GET") (codes "/h")))
    ∷ In (Started 1) ∷ Out (EndInput 1) ∷ Out (WantChild 1)
    ∷ In (ChildBytes 1 (codes "Content-Type: text/plain\n\nhi\n")) ∷ Out (WantChild 1)
    ∷ In (ChildEof 1) ∷ Out (Write 0 (codes "HTTP/1.1 200 OK\r\nContent-Type: text/plain\r\nContent-Length: 3\r\nConnection: close\r\n\r\nhi\n")) ∷ Out (Shut 0 Done)
    ∷ In (Exited 1) ∷ []

redirected_is_good : broken_by site redirected ≡ []
unfolding on_literals
redirected_is_good = refl

redirected_has : length (exchanges site 0 redirected) ≡ 2
unfolding on_literals
redirected_has = refl

-- one local redirect more than the one that may be
abbrev pub redirected_too_often : List Item
redirected_too_often =
    In (Accepted peer) ∷ Out (WantClient 0)
    ∷ In (ClientBytes 0 (codes "GET /h HTTP/1.1\r\nHost: a\r\nConnection: close\r\n\r\n")) ∷ Out (Start 0 0 0 0 (launch (codes "/p") (codes "GET") (codes "/h")))
    ∷ In (Started 0) ∷ Out (EndInput 0) ∷ Out (WantChild 0)
    ∷ In (ChildBytes 0 (codes "Location: /h\n\n")) ∷ Out (WantChild 0)
    ∷ In (ChildEof 0)
    ∷ In (Exited 0) ∷ Out (Start 1 0 0 1 (launch (codes "/p") (codes "GET") (codes "/h")))
    ∷ In (Started 1) ∷ Out (EndInput 1) ∷ Out (WantChild 1)
    ∷ In (ChildBytes 1 (codes "Location: /h\n\n")) ∷ Out (WantChild 1)
    ∷ In (ChildEof 1)
    ∷ In (Exited 1) ∷ Out (Write 0 (codes "HTTP/1.1 500 Internal Server Error\r\nContent-Type: text/plain\r\nContent-Length: 25\r\nConnection: close\r\n\r\ntoo many local redirects\n")) ∷ Out (Shut 0 Done) ∷ []

redirected_too_often_is_good : broken_by site redirected_too_often ≡ []
unfolding on_literals
redirected_too_often_is_good = refl

redirected_too_often_has : length (exchanges site 0 redirected_too_often) ≡ 2
unfolding on_literals
redirected_too_often_has = refl

-- the output of an nph script is the reply as it is, and closes
abbrev pub written_by_its_script : List Item
written_by_its_script =
    In (Accepted peer) ∷ Out (WantClient 0)
    ∷ In (ClientBytes 0 (codes "GET /n HTTP/1.1\r\nHost: a\r\n\r\n")) ∷ Out (Start 0 0 0 0 (launch (codes "/r") (codes "GET") (codes "/n")))
    ∷ In (Started 0) ∷ Out (EndInput 0) ∷ Out (WantChild 0)
    ∷ In (ChildBytes 0 (codes "raw")) ∷ Out (WantChild 0)
    ∷ In (ChildEof 0) ∷ Out (Write 0 (codes "raw")) ∷ Out (Shut 0 Done)
    ∷ In (Exited 0) ∷ []

written_by_its_script_is_good : broken_by site written_by_its_script ≡ []
unfolding on_literals
written_by_its_script_is_good = refl

written_by_its_script_has : length (exchanges site 0 written_by_its_script) ≡ 2
unfolding on_literals
written_by_its_script_has = refl

-- .. where there is none, it is refused
abbrev pub silent_script : List Item
silent_script =
    In (Accepted peer) ∷ Out (WantClient 0)
    ∷ In (ClientBytes 0 (codes "GET /n HTTP/1.1\r\nHost: a\r\n\r\n")) ∷ Out (Start 0 0 0 0 (launch (codes "/r") (codes "GET") (codes "/n")))
    ∷ In (Started 0) ∷ Out (EndInput 0) ∷ Out (WantChild 0)
    ∷ In (ChildEof 0) ∷ Out (Write 0 (codes "HTTP/1.1 502 Bad Gateway\r\nContent-Type: text/plain\r\nContent-Length: 22\r\nConnection: close\r\n\r\nscript gave no output\n")) ∷ Out (Shut 0 Done)
    ∷ In (Exited 0) ∷ []

silent_script_is_good : broken_by site silent_script ≡ []
unfolding on_literals
silent_script_is_good = refl

silent_script_has : length (exchanges site 0 silent_script) ≡ 2
unfolding on_literals
silent_script_has = refl

-- a script that could not be started
abbrev pub not_started : List Item
not_started =
    In (Accepted peer) ∷ Out (WantClient 0)
    ∷ In (ClientBytes 0 (codes "GET /h HTTP/1.1\r\nHost: a\r\n\r\n")) ∷ Out (Start 0 0 0 0 (launch (codes "/p") (codes "GET") (codes "/h")))
    ∷ In (StartFailed 0) ∷ Out (Write 0 (codes "HTTP/1.1 502 Bad Gateway\r\nContent-Type: text/plain\r\nContent-Length: 28\r\n\r\nscript could not be started\n")) ∷ Out (WantClient 0) ∷ []

not_started_is_good : broken_by site not_started ≡ []
unfolding on_literals
not_started_is_good = refl

not_started_has : length (exchanges site 0 not_started) ≡ 2
unfolding on_literals
not_started_has = refl

-- as many children ran as may
abbrev pub full_book : List Item
full_book =
    In (Accepted peer) ∷ Out (WantClient 0)
    ∷ In (ClientBytes 0 (codes "GET /h HTTP/1.1\r\nHost: a\r\n\r\n")) ∷ Out (Start 0 0 0 0 (launch (codes "/p") (codes "GET") (codes "/h")))
    ∷ In (StartFull 0 64) ∷ Out (Write 0 (codes "HTTP/1.1 503 Service Unavailable\r\nContent-Type: text/plain\r\nContent-Length: 21\r\n\r\nchildren running: 64\n")) ∷ Out (WantClient 0) ∷ []

full_book_is_good : broken_by site full_book ≡ []
unfolding on_literals
full_book_is_good = refl

full_book_has : length (exchanges site 0 full_book) ≡ 2
unfolding on_literals
full_book_has = refl

-- to HEAD the head alone is written
abbrev pub bare_head : List Item
bare_head =
    In (Accepted peer) ∷ Out (WantClient 0)
    ∷ In (ClientBytes 0 (codes "HEAD /h HTTP/1.1\r\nHost: a\r\nConnection: close\r\n\r\n")) ∷ Out (Start 0 0 0 0 (launch (codes "/p") (codes "HEAD") (codes "/h")))
    ∷ In (Started 0) ∷ Out (EndInput 0) ∷ Out (WantChild 0)
    ∷ In (ChildBytes 0 (codes "Content-Type: text/plain\n\nhi\n")) ∷ Out (WantChild 0)
    ∷ In (ChildEof 0) ∷ Out (Write 0 (codes "HTTP/1.1 200 OK\r\nContent-Type: text/plain\r\nConnection: close\r\n\r\n")) ∷ Out (Shut 0 Done)
    ∷ In (Exited 0) ∷ []

bare_head_is_good : broken_by site bare_head ≡ []
unfolding on_literals
bare_head_is_good = refl

bare_head_has : length (exchanges site 0 bare_head) ≡ 2
unfolding on_literals
bare_head_has = refl

-- a reply with a Date of its own gets no other
abbrev pub own_date : List Item
own_date =
    In (Tick 0)
    ∷ In (Accepted peer) ∷ Out (WantClient 0)
    ∷ In (ClientBytes 0 (codes "GET /h HTTP/1.1\r\nHost: a\r\nConnection: close\r\n\r\n")) ∷ Out (Start 0 0 0 0 (launch (codes "/p") (codes "GET") (codes "/h")))
    ∷ In (Started 0) ∷ Out (EndInput 0) ∷ Out (WantChild 0)
    ∷ In (ChildBytes 0 (codes "Content-Type: text/plain\nDate: x\n\nhi\n")) ∷ Out (WantChild 0)
    ∷ In (ChildEof 0) ∷ Out (Write 0 (codes "HTTP/1.1 200 OK\r\nContent-Type: text/plain\r\nDate: x\r\nContent-Length: 3\r\nConnection: close\r\n\r\nhi\n")) ∷ Out (Shut 0 Done)
    ∷ In (Exited 0) ∷ []

own_date_is_good : broken_by site own_date ≡ []
unfolding on_literals
own_date_is_good = refl

own_date_has : length (exchanges site 0 own_date) ≡ 2
unfolding on_literals
own_date_has = refl

-- three hops where two local redirects may be
abbrev pub three_hops : List Item
three_hops =
    In (Accepted peer) ∷ Out (WantClient 0)
    ∷ In (ClientBytes 0 (codes "GET /h HTTP/1.1\r\nHost: a\r\nConnection: close\r\n\r\n")) ∷ Out (Start 0 0 0 0 (launch (codes "/p") (codes "GET") (codes "/h")))
    ∷ In (Started 0) ∷ Out (EndInput 0) ∷ Out (WantChild 0)
    ∷ In (ChildBytes 0 (codes "Location: /h\n\n")) ∷ Out (WantChild 0)
    ∷ In (ChildEof 0)
    ∷ In (Exited 0) ∷ Out (Start 1 0 0 1 (launch (codes "/p") (codes "GET") (codes "/h")))
    ∷ In (Started 1) ∷ Out (EndInput 1) ∷ Out (WantChild 1)
    ∷ In (ChildBytes 1 (codes "Location: /h\n\n")) ∷ Out (WantChild 1)
    ∷ In (ChildEof 1)
    ∷ In (Exited 1) ∷ Out (Start 2 0 0 2 (launch (codes "/p") (codes "GET") (codes "/h")))
    ∷ In (Started 2) ∷ Out (EndInput 2) ∷ Out (WantChild 2)
    ∷ In (ChildBytes 2 (codes "Location: /h\n\n")) ∷ Out (WantChild 2)
    ∷ In (ChildEof 2)
    ∷ In (Exited 2) ∷ Out (Write 0 (codes "HTTP/1.1 500 Internal Server Error\r\nContent-Type: text/plain\r\nContent-Length: 25\r\nConnection: close\r\n\r\ntoo many local redirects\n")) ∷ Out (Shut 0 Done) ∷ []

three_hops_is_good : broken_by site_of_two_redirects three_hops ≡ []
unfolding on_literals
three_hops_is_good = refl

three_hops_has : length (exchanges site_of_two_redirects 0 three_hops) ≡ 2
unfolding on_literals
three_hops_has = refl

-- a part of the second request comes with the first
abbrev pub second_in_part : List Item
second_in_part =
    In (Accepted peer) ∷ Out (WantClient 0)
    ∷ In (ClientBytes 0 (codes "GET /h HTTP/1.1\r\nHost: a\r\n\r\nGET /h HTTP/")) ∷ Out (Start 0 0 0 0 (launch (codes "/p") (codes "GET") (codes "/h")))
    ∷ In (Started 0) ∷ Out (EndInput 0) ∷ Out (WantChild 0)
    ∷ In (ChildBytes 0 (codes "Content-Type: text/plain\n\nhi\n")) ∷ Out (WantChild 0)
    ∷ In (ChildEof 0) ∷ Out (Write 0 (codes "HTTP/1.1 200 OK\r\nContent-Type: text/plain\r\nContent-Length: 3\r\n\r\nhi\n"))
    ∷ In (Exited 0) ∷ Out (WantClient 0)
    ∷ In (ClientBytes 0 (codes "1.1\r\nHost: a\r\n\r\n")) ∷ Out (Start 1 0 1 0 (launch (codes "/p") (codes "GET") (codes "/h"))) ∷ []

second_in_part_is_good : broken_by site second_in_part ≡ []
unfolding on_literals
second_in_part_is_good = refl

second_in_part_has : length (exchanges site 0 second_in_part) ≡ 2
unfolding on_literals
second_in_part_has = refl

-- 204 has no body
abbrev pub without_a_body : List Item
without_a_body =
    In (Accepted peer) ∷ Out (WantClient 0)
    ∷ In (ClientBytes 0 (codes "GET /h HTTP/1.1\r\nHost: a\r\nConnection: close\r\n\r\n")) ∷ Out (Start 0 0 0 0 (launch (codes "/p") (codes "GET") (codes "/h")))
    ∷ In (Started 0) ∷ Out (EndInput 0) ∷ Out (WantChild 0)
    ∷ In (ChildBytes 0 (codes "Status: 204\nContent-Length: 99\n\nstray")) ∷ Out (WantChild 0)
    ∷ In (ChildEof 0) ∷ Out (Write 0 (codes "HTTP/1.1 204 No Content\r\nConnection: close\r\n\r\n")) ∷ Out (Shut 0 Done)
    ∷ In (Exited 0) ∷ []

without_a_body_is_good : broken_by site without_a_body ≡ []
unfolding on_literals
without_a_body_is_good = refl

without_a_body_has : length (exchanges site 0 without_a_body) ≡ 2
unfolding on_literals
without_a_body_has = refl

-- a redirect for the client
abbrev pub redirected_by_the_client : List Item
redirected_by_the_client =
    In (Accepted peer) ∷ Out (WantClient 0)
    ∷ In (ClientBytes 0 (codes "GET /h HTTP/1.1\r\nHost: a\r\nConnection: close\r\n\r\n")) ∷ Out (Start 0 0 0 0 (launch (codes "/p") (codes "GET") (codes "/h")))
    ∷ In (Started 0) ∷ Out (EndInput 0) ∷ Out (WantChild 0)
    ∷ In (ChildBytes 0 (codes "Location: http://x/y\nSet-Cookie: a=1\n\nbody")) ∷ Out (WantChild 0)
    ∷ In (ChildEof 0) ∷ Out (Write 0 (codes "HTTP/1.1 302 Found\r\nLocation: http://x/y\r\nSet-Cookie: a=1\r\nContent-Length: 0\r\nConnection: close\r\n\r\n")) ∷ Out (Shut 0 Done)
    ∷ In (Exited 0) ∷ []

redirected_by_the_client_is_good : broken_by site redirected_by_the_client ≡ []
unfolding on_literals
redirected_by_the_client_is_good = refl

redirected_by_the_client_has : length (exchanges site 0 redirected_by_the_client) ≡ 2
unfolding on_literals
redirected_by_the_client_has = refl

-- the output ends within its header
abbrev pub header_that_is_none : List Item
header_that_is_none =
    In (Accepted peer) ∷ Out (WantClient 0)
    ∷ In (ClientBytes 0 (codes "GET /h HTTP/1.1\r\nHost: a\r\nConnection: close\r\n\r\n")) ∷ Out (Start 0 0 0 0 (launch (codes "/p") (codes "GET") (codes "/h")))
    ∷ In (Started 0) ∷ Out (EndInput 0) ∷ Out (WantChild 0)
    ∷ In (ChildBytes 0 (codes "Content-Type: text/plain\n")) ∷ Out (WantChild 0)
    ∷ In (ChildEof 0) ∷ Out (Write 0 (codes "HTTP/1.1 502 Bad Gateway\r\nContent-Type: text/plain\r\nContent-Length: 25\r\nConnection: close\r\n\r\nscript header incomplete\n")) ∷ Out (Shut 0 Done)
    ∷ In (Exited 0) ∷ []

header_that_is_none_is_good : broken_by site header_that_is_none ≡ []
unfolding on_literals
header_that_is_none_is_good = refl

header_that_is_none_has : length (exchanges site 0 header_that_is_none) ≡ 2
unfolding on_literals
header_that_is_none_has = refl

-- as many children ran as may when the second hop was to start
abbrev pub full_at_the_second_hop : List Item
full_at_the_second_hop =
    In (Accepted peer) ∷ Out (WantClient 0)
    ∷ In (ClientBytes 0 (codes "GET /h HTTP/1.1\r\nHost: a\r\n\r\n")) ∷ Out (Start 0 0 0 0 (launch (codes "/p") (codes "GET") (codes "/h")))
    ∷ In (Started 0) ∷ Out (EndInput 0) ∷ Out (WantChild 0)
    ∷ In (ChildBytes 0 (codes "Location: /h\n\n")) ∷ Out (WantChild 0)
    ∷ In (ChildEof 0)
    ∷ In (Exited 0) ∷ Out (Start 1 0 0 1 (launch (codes "/p") (codes "GET") (codes "/h")))
    ∷ In (StartFull 1 64) ∷ Out (Write 0 (codes "HTTP/1.1 503 Service Unavailable\r\nContent-Type: text/plain\r\nContent-Length: 21\r\n\r\nchildren running: 64\n")) ∷ Out (WantClient 0) ∷ []

full_at_the_second_hop_is_good : broken_by site full_at_the_second_hop ≡ []
unfolding on_literals
full_at_the_second_hop_is_good = refl

full_at_the_second_hop_has : length (exchanges site 0 full_at_the_second_hop) ≡ 2
unfolding on_literals
full_at_the_second_hop_has = refl
