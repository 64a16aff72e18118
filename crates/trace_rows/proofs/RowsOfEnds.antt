-- How requests, runs and connections end otherwise, by computation.
use Rattle.std.proofs.Common.{◌≡◌, List, [], ◌∷◌, refl, length}
use Rattle.std.specs.Prelude.{codes}
use Rattle.host_trace.specs.declared.items.Event.TheVariants.{Accepted, ClientBytes, ClientEof, ClientGone, Started, ChildBytes, ChildEof, Exited, NoRoom, Tick, Stop}
use Rattle.host_trace.specs.declared.items.Act.TheVariants.{WantClient, Write, Shut, Start, EndInput, WantChild, Kill, Release}
use Rattle.host_trace.specs.declared.items.Item.{Item}
use Rattle.host_trace.specs.declared.items.Item.TheVariants.{In, Out}
use Rattle.host_trace.specs.declared.items.Why.TheVariants.{Done, Gone, Idle, Stopped, NoMemory}
use Rattle.trace_model.specs.Exchanges.{exchanges}
use Rattle.trace_model.specs.Verdict.{broken_by}
use Rattle.trace_rows.proofs.OnDates.{on_dates}
use Rattle.trace_rows.proofs.Site.{site, peer, launch}

-- a run that takes too long
abbrev pub run_time : List Item
run_time =
    In (Accepted peer) ∷ Out (WantClient 0)
    ∷ In (ClientBytes 0 (codes "GET /h HTTP/1.1\r\nHost: a\r\nConnection: close\r\n\r\n")) ∷ Out (Start 0 0 0 0 (launch (codes "/p") (codes "GET") (codes "/h")))
    ∷ In (Started 0) ∷ Out (EndInput 0) ∷ Out (WantChild 0)
    ∷ In (Tick 0)
    ∷ In (Tick 0)
    ∷ In (Tick 0) ∷ Out (Write 0 (codes "HTTP/1.1 504 Gateway Timeout\r\nContent-Type: text/plain\r\nDate: Thu, 01 Jan 1970 00:00:00 GMT\r\nContent-Length: 21\r\nConnection: close\r\n\r\nscript took too long\n")) ∷ Out (Kill 0) ∷ Out (Shut 0 Done)
    ∷ In (Exited 0) ∷ Out (Release 0) ∷ []

run_time_is_good : broken_by site run_time ≡ []
unfolding on_dates
run_time_is_good = refl

run_time_has : length (exchanges site 0 run_time) ≡ 2
unfolding on_dates
run_time_has = refl

-- .. and one that does not
abbrev pub just_in_time : List Item
just_in_time =
    In (Accepted peer) ∷ Out (WantClient 0)
    ∷ In (ClientBytes 0 (codes "GET /h HTTP/1.1\r\nHost: a\r\n\r\n")) ∷ Out (Start 0 0 0 0 (launch (codes "/p") (codes "GET") (codes "/h")))
    ∷ In (Started 0) ∷ Out (EndInput 0) ∷ Out (WantChild 0)
    ∷ In (ChildBytes 0 (codes "Content-Type: text/plain\n\nhi\n")) ∷ Out (WantChild 0)
    ∷ In (ChildEof 0) ∷ Out (Write 0 (codes "HTTP/1.1 200 OK\r\nContent-Type: text/plain\r\nContent-Length: 3\r\n\r\nhi\n"))
    ∷ In (Tick 0)
    ∷ In (Tick 0) ∷ Out (Kill 0)
    ∷ In (Exited 0) ∷ Out (WantClient 0) ∷ []

just_in_time_is_good : broken_by site just_in_time ≡ []
unfolding on_dates
just_in_time_is_good = refl

just_in_time_has : length (exchanges site 0 just_in_time) ≡ 2
unfolding on_dates
just_in_time_has = refl

-- the client leaves in the middle of a run
abbrev pub client_gone : List Item
client_gone =
    In (Accepted peer) ∷ Out (WantClient 0)
    ∷ In (ClientBytes 0 (codes "GET /h HTTP/1.1\r\nHost: a\r\nConnection: close\r\n\r\n")) ∷ Out (Start 0 0 0 0 (launch (codes "/p") (codes "GET") (codes "/h")))
    ∷ In (Started 0) ∷ Out (EndInput 0) ∷ Out (WantChild 0)
    ∷ In (ChildBytes 0 (codes "Content-Type: te")) ∷ Out (WantChild 0)
    ∷ In (ClientGone 0) ∷ Out (Kill 0) ∷ Out (Shut 0 Gone)
    ∷ In (Exited 0) ∷ Out (Release 0) ∷ []

client_gone_is_good : broken_by site client_gone ≡ []
unfolding on_dates
client_gone_is_good = refl

client_gone_has : length (exchanges site 0 client_gone) ≡ 1
unfolding on_dates
client_gone_has = refl

-- Stop in the middle of a run
abbrev pub stopped : List Item
stopped =
    In (Accepted peer) ∷ Out (WantClient 0)
    ∷ In (ClientBytes 0 (codes "GET /h HTTP/1.1\r\nHost: a\r\nConnection: close\r\n\r\n")) ∷ Out (Start 0 0 0 0 (launch (codes "/p") (codes "GET") (codes "/h")))
    ∷ In (Started 0) ∷ Out (EndInput 0) ∷ Out (WantChild 0)
    ∷ In Stop ∷ Out (Kill 0) ∷ Out (Shut 0 Stopped)
    ∷ In (Exited 0) ∷ Out (Release 0) ∷ []

stopped_is_good : broken_by site stopped ≡ []
unfolding on_dates
stopped_is_good = refl

stopped_has : length (exchanges site 0 stopped) ≡ 1
unfolding on_dates
stopped_has = refl

-- the client ends its input within a request
abbrev pub ended_early : List Item
ended_early =
    In (Accepted peer) ∷ Out (WantClient 0)
    ∷ In (ClientBytes 0 (codes "GET /x HT")) ∷ Out (WantClient 0)
    ∷ In (ClientEof 0) ∷ Out (Write 0 (codes "HTTP/1.1 400 Bad Request\r\nContent-Type: text/plain\r\nContent-Length: 20\r\nConnection: close\r\n\r\nrequest ended early\n")) ∷ Out (Shut 0 Done) ∷ []

ended_early_is_good : broken_by site ended_early ≡ []
unfolding on_dates
ended_early_is_good = refl

ended_early_has : length (exchanges site 0 ended_early) ≡ 2
unfolding on_dates
ended_early_has = refl

-- .. or before one
abbrev pub ended_at_once : List Item
ended_at_once =
    In (Accepted peer) ∷ Out (WantClient 0)
    ∷ In (ClientEof 0) ∷ Out (Shut 0 Done) ∷ []

ended_at_once_is_good : broken_by site ended_at_once ≡ []
unfolding on_dates
ended_at_once_is_good = refl

ended_at_once_has : length (exchanges site 0 ended_at_once) ≡ 1
unfolding on_dates
ended_at_once_has = refl

-- nothing is sent
abbrev pub idle : List Item
idle =
    In (Accepted peer) ∷ Out (WantClient 0)
    ∷ In (Tick 0)
    ∷ In (Tick 0) ∷ Out (Shut 0 Idle) ∷ []

idle_is_good : broken_by site idle ≡ []
unfolding on_dates
idle_is_good = refl

idle_has : length (exchanges site 0 idle) ≡ 1
unfolding on_dates
idle_has = refl

-- .. or nothing more of a request
abbrev pub idle_within_a_request : List Item
idle_within_a_request =
    In (Accepted peer) ∷ Out (WantClient 0)
    ∷ In (ClientBytes 0 (codes "G")) ∷ Out (WantClient 0)
    ∷ In (Tick 0)
    ∷ In (Tick 0) ∷ Out (Write 0 (codes "HTTP/1.1 408 Request Timeout\r\nContent-Type: text/plain\r\nDate: Thu, 01 Jan 1970 00:00:00 GMT\r\nContent-Length: 22\r\nConnection: close\r\n\r\nrequest took too long\n")) ∷ Out (Shut 0 Done) ∷ []

idle_within_a_request_is_good : broken_by site idle_within_a_request ≡ []
unfolding on_dates
idle_within_a_request_is_good = refl

idle_within_a_request_has : length (exchanges site 0 idle_within_a_request) ≡ 2
unfolding on_dates
idle_within_a_request_has = refl

-- they are none of its idle time
abbrev pub ticks_before_it_was_accepted : List Item
ticks_before_it_was_accepted =
    In (Tick 0)
    ∷ In (Tick 0)
    ∷ In (Accepted peer) ∷ Out (WantClient 0)
    ∷ In (Tick 0)
    ∷ In (Tick 0) ∷ Out (Shut 0 Idle) ∷ []

ticks_before_it_was_accepted_is_good : broken_by site ticks_before_it_was_accepted ≡ []
unfolding on_dates
ticks_before_it_was_accepted_is_good = refl

ticks_before_it_was_accepted_has : length (exchanges site 0 ticks_before_it_was_accepted) ≡ 1
unfolding on_dates
ticks_before_it_was_accepted_has = refl

-- the idle time begins anew with the step in which an exchange ended
abbrev pub idle_again : List Item
idle_again =
    In (Accepted peer) ∷ Out (WantClient 0)
    ∷ In (Tick 0)
    ∷ In (ClientBytes 0 (codes "GET /x HTTP/1.1\r\nHost: a\r\n\r\n")) ∷ Out (Write 0 (codes "HTTP/1.1 404 Not Found\r\nContent-Type: text/plain\r\nDate: Thu, 01 Jan 1970 00:00:00 GMT\r\nContent-Length: 24\r\n\r\nno script for this path\n")) ∷ Out (WantClient 0)
    ∷ In (Tick 0)
    ∷ In (Tick 0) ∷ Out (Shut 0 Idle) ∷ []

idle_again_is_good : broken_by site idle_again ≡ []
unfolding on_dates
idle_again_is_good = refl

idle_again_has : length (exchanges site 0 idle_again) ≡ 2
unfolding on_dates
idle_again_has = refl

-- a head that is none closes
abbrev pub bad_head : List Item
bad_head =
    In (Accepted peer) ∷ Out (WantClient 0)
    ∷ In (ClientBytes 0 (codes "\r\n\r\nGET")) ∷ Out (Write 0 (codes "HTTP/1.1 400 Bad Request\r\nContent-Type: text/plain\r\nContent-Length: 17\r\nConnection: close\r\n\r\nbad request head\n")) ∷ Out (Shut 0 Done) ∷ []

bad_head_is_good : broken_by site bad_head ≡ []
unfolding on_dates
bad_head_is_good = refl

bad_head_has : length (exchanges site 0 bad_head) ≡ 2
unfolding on_dates
bad_head_has = refl

-- memory is wanting
abbrev pub no_memory_for_a_start : List Item
no_memory_for_a_start =
    In (Accepted peer) ∷ Out (WantClient 0)
    ∷ In (ClientBytes 0 (codes "GET /h HTTP/1.1\r\nHost: a\r\nConnection: close\r\n\r\n")) ∷ Out (Shut 0 NoMemory) ∷ []

no_memory_for_a_start_is_good : broken_by site no_memory_for_a_start ≡ []
unfolding on_dates
no_memory_for_a_start_is_good = refl

no_memory_for_a_start_has : length (exchanges site 0 no_memory_for_a_start) ≡ 1
unfolding on_dates
no_memory_for_a_start_has = refl

abbrev pub no_memory_for_a_reply : List Item
no_memory_for_a_reply =
    In (Accepted peer) ∷ Out (WantClient 0)
    ∷ In (ClientBytes 0 (codes "GET /h HTTP/1.1\r\nHost: a\r\nConnection: close\r\n\r\n")) ∷ Out (Start 0 0 0 0 (launch (codes "/p") (codes "GET") (codes "/h")))
    ∷ In (Started 0) ∷ Out (EndInput 0) ∷ Out (WantChild 0)
    ∷ In (ChildBytes 0 (codes "Content-Type: text/plain\n\nhi\n")) ∷ Out (WantChild 0)
    ∷ In (ChildEof 0) ∷ Out (Kill 0) ∷ Out (Shut 0 NoMemory)
    ∷ In (Exited 0) ∷ []

no_memory_for_a_reply_is_good : broken_by site no_memory_for_a_reply ≡ []
unfolding on_dates
no_memory_for_a_reply_is_good = refl

no_memory_for_a_reply_has : length (exchanges site 0 no_memory_for_a_reply) ≡ 1
unfolding on_dates
no_memory_for_a_reply_has = refl

-- .. and the outside has none to hear the client
abbrev pub no_room : List Item
no_room =
    In (Accepted peer) ∷ Out (WantClient 0)
    ∷ In (ClientBytes 0 (codes "GET /h HTTP/1.1\r\nHost: a\r\nConnection: close\r\n\r\n")) ∷ Out (Start 0 0 0 0 (launch (codes "/p") (codes "GET") (codes "/h")))
    ∷ In (Started 0) ∷ Out (EndInput 0) ∷ Out (WantChild 0)
    ∷ In (NoRoom 0) ∷ Out (Kill 0) ∷ Out (Shut 0 NoMemory)
    ∷ In (Exited 0) ∷ Out (Release 0) ∷ []

no_room_is_good : broken_by site no_room ≡ []
unfolding on_dates
no_room_is_good = refl

no_room_has : length (exchanges site 0 no_room) ≡ 1
unfolding on_dates
no_room_has = refl

-- a run that took too long is settled by Release, and the next request is answered in the same step, after it
abbrev pub released_and_refused : List Item
released_and_refused =
    In (Accepted peer) ∷ Out (WantClient 0)
    ∷ In (ClientBytes 0 (codes "GET /h HTTP/1.1\r\nHost: a\r\n\r\nGET /x HTTP/1.1\r\nHost: a\r\n\r\n")) ∷ Out (Start 0 0 0 0 (launch (codes "/p") (codes "GET") (codes "/h")))
    ∷ In (Started 0) ∷ Out (EndInput 0) ∷ Out (WantChild 0)
    ∷ In (Tick 0)
    ∷ In (Tick 0)
    ∷ In (Tick 0) ∷ Out (Write 0 (codes "HTTP/1.1 504 Gateway Timeout\r\nContent-Type: text/plain\r\nDate: Thu, 01 Jan 1970 00:00:00 GMT\r\nContent-Length: 21\r\n\r\nscript took too long\n")) ∷ Out (Kill 0)
    ∷ In (Exited 0) ∷ Out (Release 0) ∷ Out (Write 0 (codes "HTTP/1.1 404 Not Found\r\nContent-Type: text/plain\r\nDate: Thu, 01 Jan 1970 00:00:00 GMT\r\nContent-Length: 24\r\n\r\nno script for this path\n")) ∷ Out (WantClient 0) ∷ []

released_and_refused_is_good : broken_by site released_and_refused ≡ []
unfolding on_dates
released_and_refused_is_good = refl

released_and_refused_has : length (exchanges site 0 released_and_refused) ≡ 3
unfolding on_dates
released_and_refused_has = refl

-- the child has exited before its output ends: the exchange ends with its reply
abbrev pub settled_by_the_end_of_output : List Item
settled_by_the_end_of_output =
    In (Accepted peer) ∷ Out (WantClient 0)
    ∷ In (ClientBytes 0 (codes "GET /h HTTP/1.1\r\nHost: a\r\n\r\nGET /x HTTP/1.1\r\nHost: a\r\n\r\n")) ∷ Out (Start 0 0 0 0 (launch (codes "/p") (codes "GET") (codes "/h")))
    ∷ In (Started 0) ∷ Out (EndInput 0) ∷ Out (WantChild 0)
    ∷ In (Exited 0)
    ∷ In (ChildBytes 0 (codes "Content-Type: text/plain\n\nhi\n")) ∷ Out (WantChild 0)
    ∷ In (ChildEof 0) ∷ Out (Write 0 (codes "HTTP/1.1 200 OK\r\nContent-Type: text/plain\r\nContent-Length: 3\r\n\r\nhi\n")) ∷ Out (Write 0 (codes "HTTP/1.1 404 Not Found\r\nContent-Type: text/plain\r\nContent-Length: 24\r\n\r\nno script for this path\n")) ∷ Out (WantClient 0) ∷ []

settled_by_the_end_of_output_is_good : broken_by site settled_by_the_end_of_output ≡ []
unfolding on_dates
settled_by_the_end_of_output_is_good = refl

settled_by_the_end_of_output_has : length (exchanges site 0 settled_by_the_end_of_output) ≡ 3
unfolding on_dates
settled_by_the_end_of_output_has = refl

-- the client leaves between requests
abbrev pub gone_between_requests : List Item
gone_between_requests =
    In (Accepted peer) ∷ Out (WantClient 0)
    ∷ In (ClientBytes 0 (codes "GET /h HTTP/1.1\r\nHost: a\r\n\r\n")) ∷ Out (Start 0 0 0 0 (launch (codes "/p") (codes "GET") (codes "/h")))
    ∷ In (Started 0) ∷ Out (EndInput 0) ∷ Out (WantChild 0)
    ∷ In (ChildBytes 0 (codes "Content-Type: text/plain\n\nhi\n")) ∷ Out (WantChild 0)
    ∷ In (ChildEof 0) ∷ Out (Write 0 (codes "HTTP/1.1 200 OK\r\nContent-Type: text/plain\r\nContent-Length: 3\r\n\r\nhi\n"))
    ∷ In (Exited 0) ∷ Out (WantClient 0)
    ∷ In (ClientGone 0) ∷ Out (Shut 0 Gone) ∷ []

gone_between_requests_is_good : broken_by site gone_between_requests ≡ []
unfolding on_dates
gone_between_requests_is_good = refl

gone_between_requests_has : length (exchanges site 0 gone_between_requests) ≡ 2
unfolding on_dates
gone_between_requests_has = refl

-- Stop while a child lingers
abbrev pub stopped_while_it_lingers : List Item
stopped_while_it_lingers =
    In (Accepted peer) ∷ Out (WantClient 0)
    ∷ In (ClientBytes 0 (codes "GET /h HTTP/1.1\r\nHost: a\r\n\r\n")) ∷ Out (Start 0 0 0 0 (launch (codes "/p") (codes "GET") (codes "/h")))
    ∷ In (Started 0) ∷ Out (EndInput 0) ∷ Out (WantChild 0)
    ∷ In (ChildBytes 0 (codes "Content-Type: text/plain\n\nhi\n")) ∷ Out (WantChild 0)
    ∷ In (ChildEof 0) ∷ Out (Write 0 (codes "HTTP/1.1 200 OK\r\nContent-Type: text/plain\r\nContent-Length: 3\r\n\r\nhi\n"))
    ∷ In Stop ∷ Out (Kill 0) ∷ Out (Shut 0 Stopped)
    ∷ In (Exited 0) ∷ []

stopped_while_it_lingers_is_good : broken_by site stopped_while_it_lingers ≡ []
unfolding on_dates
stopped_while_it_lingers_is_good = refl

stopped_while_it_lingers_has : length (exchanges site 0 stopped_while_it_lingers) ≡ 2
unfolding on_dates
stopped_while_it_lingers_has = refl

-- it is killed at its last tick, though its connection was shut
abbrev pub gone_while_it_lingers : List Item
gone_while_it_lingers =
    In (Accepted peer) ∷ Out (WantClient 0)
    ∷ In (ClientBytes 0 (codes "GET /h HTTP/1.1\r\nHost: a\r\nConnection: close\r\n\r\n")) ∷ Out (Start 0 0 0 0 (launch (codes "/p") (codes "GET") (codes "/h")))
    ∷ In (Started 0) ∷ Out (EndInput 0) ∷ Out (WantChild 0)
    ∷ In (ChildBytes 0 (codes "Content-Type: text/plain\n\nhi\n")) ∷ Out (WantChild 0)
    ∷ In (ChildEof 0) ∷ Out (Write 0 (codes "HTTP/1.1 200 OK\r\nContent-Type: text/plain\r\nContent-Length: 3\r\nConnection: close\r\n\r\nhi\n")) ∷ Out (Shut 0 Done)
    ∷ In (Tick 0)
    ∷ In (Tick 0) ∷ Out (Kill 0)
    ∷ In (Exited 0) ∷ []

gone_while_it_lingers_is_good : broken_by site gone_while_it_lingers ≡ []
unfolding on_dates
gone_while_it_lingers_is_good = refl

gone_while_it_lingers_has : length (exchanges site 0 gone_while_it_lingers) ≡ 2
unfolding on_dates
gone_while_it_lingers_has = refl
