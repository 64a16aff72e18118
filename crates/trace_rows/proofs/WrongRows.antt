-- Traces that break a rule, and which, by computation.
use Rattle.std.proofs.Common.{◌≡◌, List, [], ◌∷◌, refl}
use Rattle.std.specs.Prelude.{codes}
use Rattle.host_base.specs.declared.cause.Cause.TheVariants.{OutputBroken, RunTime}
use Rattle.host_trace.specs.declared.items.Event.TheVariants.{Accepted, ClientBytes, ClientEof, ClientGone, Wrote, Started, ChildBytes, ChildEof, ChildBroken, Exited, NoRoom, Tick, Stop}
use Rattle.host_trace.specs.declared.items.Act.TheVariants.{WantClient, Write, Shut, Start, EndInput, WantChild, Kill, Upgrade}
use Rattle.host_trace.specs.declared.items.Item.{Item}
use Rattle.host_trace.specs.declared.items.Item.TheVariants.{In, Out}
use Rattle.host_trace.specs.declared.items.Why.TheVariants.{Done, Gone, Cut, Full, NoMemory}
use Rattle.trace_model.specs.Verdict.{broken_by}
use Rattle.trace_rows.proofs.OnDates.{on_dates}
use Rattle.trace_rows.proofs.Site.{site, site_of_small_output, peer, launch, launch_with_body}

-- the end mark is missing though the output ended
abbrev pub no_end_mark : List Item
no_end_mark =
    In (Accepted peer) ∷ Out (WantClient 0)
    ∷ In (ClientBytes 0 (codes "GET /h HTTP/1.1\r\nHost: a\r\nConnection: close\r\n\r\n")) ∷ Out (Start 0 0 0 0 (launch (codes "/p") (codes "GET") (codes "/h")))
    ∷ In (Started 0) ∷ Out (EndInput 0) ∷ Out (WantChild 0)
    ∷ In (ChildBytes 0 (codes "Content-Type: text/plain\n\nhi\n")) ∷ Out (WantChild 0)
    ∷ In (Tick 0) ∷ Out (Write 0 (codes "HTTP/1.1 200 OK\r\nContent-Type: text/plain\r\nDate: Thu, 01 Jan 1970 00:00:00 GMT\r\nTransfer-Encoding: chunked\r\nConnection: close\r\n\r\n3\r\nhi\n\r\n"))
    ∷ In (ChildEof 0) ∷ Out (Shut 0 Done) ∷ []

no_end_mark_is_wrong : broken_by site no_end_mark ≡ codes "replies" ∷ codes "shuts" ∷ []
unfolding on_dates
no_end_mark_is_wrong = refl

-- 504 though the output ended
abbrev pub wrong_cause : List Item
wrong_cause =
    In (Accepted peer) ∷ Out (WantClient 0)
    ∷ In (ClientBytes 0 (codes "GET /h HTTP/1.1\r\nHost: a\r\n\r\n")) ∷ Out (Start 0 0 0 0 (launch (codes "/p") (codes "GET") (codes "/h")))
    ∷ In (Started 0) ∷ Out (EndInput 0) ∷ Out (WantChild 0)
    ∷ In (ChildBytes 0 (codes "Content-Type: text/plain\n\nhi\n")) ∷ Out (WantChild 0)
    ∷ In (ChildEof 0) ∷ Out (Write 0 (codes "HTTP/1.1 504 Gateway Timeout\r\nContent-Type: text/plain\r\nContent-Length: 21\r\n\r\nscript took too long\n")) ∷ []

wrong_cause_is_wrong : broken_by site wrong_cause ≡ codes "replies" ∷ codes "answers" ∷ []
unfolding on_dates
wrong_cause_is_wrong = refl

-- 404 for a script that there is
abbrev pub refused_though_served : List Item
refused_though_served =
    In (Accepted peer) ∷ Out (WantClient 0)
    ∷ In (ClientBytes 0 (codes "GET /h HTTP/1.1\r\nHost: a\r\n\r\n")) ∷ Out (Write 0 (codes "HTTP/1.1 404 Not Found\r\nContent-Type: text/plain\r\nContent-Length: 24\r\n\r\nno script for this path\n")) ∷ Out (WantClient 0) ∷ []

refused_though_served_is_wrong : broken_by site refused_though_served ≡ codes "replies" ∷ codes "wants" ∷ codes "begins" ∷ codes "no_sooner" ∷ []
unfolding on_dates
refused_though_served_is_wrong = refl

-- another body than the script gave
abbrev pub wrong_body : List Item
wrong_body =
    In (Accepted peer) ∷ Out (WantClient 0)
    ∷ In (ClientBytes 0 (codes "GET /h HTTP/1.1\r\nHost: a\r\n\r\n")) ∷ Out (Start 0 0 0 0 (launch (codes "/p") (codes "GET") (codes "/h")))
    ∷ In (Started 0) ∷ Out (EndInput 0) ∷ Out (WantChild 0)
    ∷ In (ChildBytes 0 (codes "Content-Type: text/plain\n\nhi\n")) ∷ Out (WantChild 0)
    ∷ In (ChildEof 0) ∷ Out (Write 0 (codes "HTTP/1.1 200 OK\r\nContent-Type: text/plain\r\nContent-Length: 3\r\n\r\nha\n")) ∷ []

wrong_body_is_wrong : broken_by site wrong_body ≡ codes "replies" ∷ codes "answers" ∷ []
unfolding on_dates
wrong_body_is_wrong = refl

-- the reply is the last and does not say so
abbrev pub left_out_close : List Item
left_out_close =
    In (Accepted peer) ∷ Out (WantClient 0)
    ∷ In (ClientBytes 0 (codes "GET /h HTTP/1.1\r\nHost: a\r\nConnection: close\r\n\r\n")) ∷ Out (Start 0 0 0 0 (launch (codes "/p") (codes "GET") (codes "/h")))
    ∷ In (Started 0) ∷ Out (EndInput 0) ∷ Out (WantChild 0)
    ∷ In (ChildBytes 0 (codes "Content-Type: text/plain\n\nhi\n")) ∷ Out (WantChild 0)
    ∷ In (ChildEof 0) ∷ Out (Write 0 (codes "HTTP/1.1 200 OK\r\nContent-Type: text/plain\r\nContent-Length: 3\r\n\r\nhi\n")) ∷ Out (Shut 0 Done) ∷ []

left_out_close_is_wrong : broken_by site left_out_close ≡ codes "replies" ∷ codes "shuts" ∷ []
unfolding on_dates
left_out_close_is_wrong = refl

-- one Write that holds the replies of two exchanges
abbrev pub two_in_one_write : List Item
two_in_one_write =
    In (Accepted peer) ∷ Out (WantClient 0)
    ∷ In (ClientBytes 0 (codes "GET /x HTTP/1.1\r\nHost: a\r\n\r\nGET /x HTTP/1.1\r\nHost: a\r\n\r\n")) ∷ Out (Write 0 (codes "HTTP/1.1 404 Not Found\r\nContent-Type: text/plain\r\nContent-Length: 24\r\n\r\nno script for this path\nHTTP/1.1 404 Not Found\r\nContent-Type: text/plain\r\nContent-Length: 24\r\n\r\nno script for this path\n")) ∷ Out (WantClient 0) ∷ []

two_in_one_write_is_wrong : broken_by site two_in_one_write ≡ codes "replies" ∷ codes "wants" ∷ codes "begins" ∷ codes "answers" ∷ []
unfolding on_dates
two_in_one_write_is_wrong = refl

-- a second answer after one that closes
abbrev pub answered_after_the_last : List Item
answered_after_the_last =
    In (Accepted peer) ∷ Out (WantClient 0)
    ∷ In (ClientBytes 0 (codes "G\r\n\r\n")) ∷ Out (Write 0 (codes "HTTP/1.1 400 Bad Request\r\nContent-Type: text/plain\r\nContent-Length: 17\r\nConnection: close\r\n\r\nbad request head\n")) ∷ Out (Write 0 (codes "HTTP/1.1 400 Bad Request\r\nContent-Type: text/plain\r\nContent-Length: 17\r\nConnection: close\r\n\r\nbad request head\n")) ∷ Out (Shut 0 Done) ∷ []

answered_after_the_last_is_wrong : broken_by site answered_after_the_last ≡ codes "replies_end" ∷ []
unfolding on_dates
answered_after_the_last_is_wrong = refl

-- the second request is started before the child of the first was reaped
abbrev pub started_too_soon : List Item
started_too_soon =
    In (Accepted peer) ∷ Out (WantClient 0)
    ∷ In (ClientBytes 0 (codes "GET /h HTTP/1.1\r\nHost: a\r\n\r\nGET /h HTTP/1.1\r\nHost: a\r\n\r\n")) ∷ Out (Start 0 0 0 0 (launch (codes "/p") (codes "GET") (codes "/h")))
    ∷ In (Started 0) ∷ Out (EndInput 0) ∷ Out (WantChild 0)
    ∷ In (ChildBytes 0 (codes "Content-Type: text/plain\n\nhi\n")) ∷ Out (WantChild 0)
    ∷ In (ChildEof 0) ∷ Out (Write 0 (codes "HTTP/1.1 200 OK\r\nContent-Type: text/plain\r\nContent-Length: 3\r\n\r\nhi\n")) ∷ Out (Start 1 0 1 0 (launch (codes "/p") (codes "GET") (codes "/h"))) ∷ []

started_too_soon_is_wrong : broken_by site started_too_soon ≡ codes "launches" ∷ []
unfolding on_dates
started_too_soon_is_wrong = refl

-- another program
abbrev pub started_with_another_program : List Item
started_with_another_program =
    In (Accepted peer) ∷ Out (WantClient 0)
    ∷ In (ClientBytes 0 (codes "GET /h HTTP/1.1\r\nHost: a\r\n\r\n")) ∷ Out (Start 0 0 0 0 (launch (codes "/q") (codes "GET") (codes "/h"))) ∷ []

started_with_another_program_is_wrong : broken_by site started_with_another_program ≡ codes "launches" ∷ []
unfolding on_dates
started_with_another_program_is_wrong = refl

-- one request, two children
abbrev pub started_twice : List Item
started_twice =
    In (Accepted peer) ∷ Out (WantClient 0)
    ∷ In (ClientBytes 0 (codes "GET /h HTTP/1.1\r\nHost: a\r\n\r\n")) ∷ Out (Start 0 0 0 0 (launch (codes "/p") (codes "GET") (codes "/h"))) ∷ Out (Start 1 0 0 0 (launch (codes "/p") (codes "GET") (codes "/h"))) ∷ []

started_twice_is_wrong : broken_by site started_twice ≡ codes "launches" ∷ []
unfolding on_dates
started_twice_is_wrong = refl

-- no handshake was accepted
abbrev pub upgraded_by_itself : List Item
upgraded_by_itself =
    In (Accepted peer) ∷ Out (WantClient 0)
    ∷ In (Wrote 0 1) ∷ Out (Upgrade 0 []) ∷ []

upgraded_by_itself_is_wrong : broken_by site upgraded_by_itself ≡ codes "talk_acts" ∷ []
unfolding on_dates
upgraded_by_itself_is_wrong = refl

-- the client is not asked for the rest of its request
abbrev pub never_asked_again : List Item
never_asked_again =
    In (Accepted peer) ∷ Out (WantClient 0)
    ∷ In (ClientBytes 0 (codes "G")) ∷ []

never_asked_again_is_wrong : broken_by site never_asked_again ≡ codes "wants" ∷ codes "hears" ∷ []
unfolding on_dates
never_asked_again_is_wrong = refl

-- the client is asked while its request is served
abbrev pub asked_for_nothing : List Item
asked_for_nothing =
    In (Accepted peer) ∷ Out (WantClient 0)
    ∷ In (ClientBytes 0 (codes "GET /h HTTP/1.1\r\nHost: a\r\n\r\n")) ∷ Out (Start 0 0 0 0 (launch (codes "/p") (codes "GET") (codes "/h"))) ∷ Out (WantClient 0) ∷ []

asked_for_nothing_is_wrong : broken_by site asked_for_nothing ≡ codes "wants" ∷ []
unfolding on_dates
asked_for_nothing_is_wrong = refl

-- an answer that closes, and the connection goes on
abbrev pub left_open : List Item
left_open =
    In (Accepted peer) ∷ Out (WantClient 0)
    ∷ In (ClientBytes 0 (codes "GET /x HTTP/1.1\r\nHost: a\r\nConnection: close\r\n\r\n")) ∷ Out (Write 0 (codes "HTTP/1.1 404 Not Found\r\nContent-Type: text/plain\r\nContent-Length: 24\r\nConnection: close\r\n\r\nno script for this path\n")) ∷ []

left_open_is_wrong : broken_by site left_open ≡ codes "shuts" ∷ codes "wants" ∷ codes "hears" ∷ []
unfolding on_dates
left_open_is_wrong = refl

-- it is shut while its request is served
abbrev pub shut_for_nothing : List Item
shut_for_nothing =
    In (Accepted peer) ∷ Out (WantClient 0)
    ∷ In (ClientBytes 0 (codes "GET /h HTTP/1.1\r\nHost: a\r\n\r\n")) ∷ Out (Start 0 0 0 0 (launch (codes "/p") (codes "GET") (codes "/h"))) ∷ Out (Shut 0 Done) ∷ []

shut_for_nothing_is_wrong : broken_by site shut_for_nothing ≡ codes "shuts" ∷ codes "order" ∷ []
unfolding on_dates
shut_for_nothing_is_wrong = refl

-- Done though nothing came for the idle time
abbrev pub shut_for_another_reason : List Item
shut_for_another_reason =
    In (Accepted peer) ∷ Out (WantClient 0)
    ∷ In (Tick 0)
    ∷ In (Tick 0) ∷ Out (Shut 0 Done) ∷ []

shut_for_another_reason_is_wrong : broken_by site shut_for_another_reason ≡ codes "shuts" ∷ []
unfolding on_dates
shut_for_another_reason_is_wrong = refl

-- another cause than that of its run
abbrev pub cut_off_for_another_cause : List Item
cut_off_for_another_cause =
    In (Accepted peer) ∷ Out (WantClient 0)
    ∷ In (ClientBytes 0 (codes "GET /h HTTP/1.1\r\nHost: a\r\nConnection: close\r\n\r\n")) ∷ Out (Start 0 0 0 0 (launch (codes "/p") (codes "GET") (codes "/h")))
    ∷ In (Started 0) ∷ Out (EndInput 0) ∷ Out (WantChild 0)
    ∷ In (ChildBytes 0 (codes "Content-Type: text/plain\n\nhi\n")) ∷ Out (WantChild 0)
    ∷ In (Tick 0) ∷ Out (Write 0 (codes "HTTP/1.1 200 OK\r\nContent-Type: text/plain\r\nDate: Thu, 01 Jan 1970 00:00:00 GMT\r\nTransfer-Encoding: chunked\r\nConnection: close\r\n\r\n3\r\nhi\n\r\n"))
    ∷ In (ChildBroken 0) ∷ Out (Kill 0) ∷ Out (Shut 0 (Cut RunTime)) ∷ []

cut_off_for_another_cause_is_wrong : broken_by site cut_off_for_another_cause ≡ codes "shuts" ∷ []
unfolding on_dates
cut_off_for_another_cause_is_wrong = refl

-- bytes after the end
abbrev pub written_after_shut : List Item
written_after_shut =
    In (Accepted peer) ∷ Out (WantClient 0)
    ∷ In (ClientEof 0) ∷ Out (Shut 0 Done)
    ∷ In (Tick 0) ∷ Out (Write 0 (codes "x")) ∷ []

written_after_shut_is_wrong : broken_by site written_after_shut ≡ codes "replies" ∷ codes "form" ∷ codes "no_sooner" ∷ []
unfolding on_dates
written_after_shut_is_wrong = refl

-- a Write without a byte
abbrev pub nothing_written : List Item
nothing_written =
    In (Accepted peer) ∷ Out (WantClient 0)
    ∷ In (Wrote 0 1) ∷ Out (Write 0 []) ∷ []

nothing_written_is_wrong : broken_by site nothing_written ≡ codes "form" ∷ []
unfolding on_dates
nothing_written_is_wrong = refl

-- the child is asked before its input is ended
abbrev pub out_of_order : List Item
out_of_order =
    In (Accepted peer) ∷ Out (WantClient 0)
    ∷ In (ClientBytes 0 (codes "GET /h HTTP/1.1\r\nHost: a\r\nConnection: close\r\n\r\n")) ∷ Out (Start 0 0 0 0 (launch (codes "/p") (codes "GET") (codes "/h")))
    ∷ In (Started 0) ∷ Out (WantChild 0) ∷ Out (EndInput 0) ∷ []

out_of_order_is_wrong : broken_by site out_of_order ≡ codes "order" ∷ []
unfolding on_dates
out_of_order_is_wrong = refl

-- a request that can begin and does not
abbrev pub never_started : List Item
never_started =
    In (Accepted peer) ∷ Out (WantClient 0)
    ∷ In (ClientBytes 0 (codes "GET /h HTTP/1.1\r\nHost: a\r\n\r\n")) ∷ []

never_started_is_wrong : broken_by site never_started ≡ codes "begins" ∷ []
unfolding on_dates
never_started_is_wrong = refl

-- the output ended, and no reply stands
abbrev pub never_answered : List Item
never_answered =
    In (Accepted peer) ∷ Out (WantClient 0)
    ∷ In (ClientBytes 0 (codes "GET /h HTTP/1.1\r\nHost: a\r\n\r\n")) ∷ Out (Start 0 0 0 0 (launch (codes "/p") (codes "GET") (codes "/h")))
    ∷ In (Started 0) ∷ Out (EndInput 0) ∷ Out (WantChild 0)
    ∷ In (ChildBytes 0 (codes "Content-Type: text/plain\n\nhi\n")) ∷ Out (WantChild 0)
    ∷ In (ChildEof 0) ∷ []

never_answered_is_wrong : broken_by site never_answered ≡ codes "answers" ∷ []
unfolding on_dates
never_answered_is_wrong = refl

-- a local redirect that is not followed
abbrev pub no_next_hop : List Item
no_next_hop =
    In (Accepted peer) ∷ Out (WantClient 0)
    ∷ In (ClientBytes 0 (codes "GET /h HTTP/1.1\r\nHost: a\r\n\r\n")) ∷ Out (Start 0 0 0 0 (launch (codes "/p") (codes "GET") (codes "/h")))
    ∷ In (Started 0) ∷ Out (EndInput 0) ∷ Out (WantChild 0)
    ∷ In (ChildBytes 0 (codes "Location: /h\n\n")) ∷ Out (WantChild 0)
    ∷ In (ChildEof 0)
    ∷ In (Exited 0) ∷ []

no_next_hop_is_wrong : broken_by site no_next_hop ≡ codes "hops" ∷ []
unfolding on_dates
no_next_hop_is_wrong = refl

-- .. or is followed before its child was reaped
abbrev pub hop_too_soon : List Item
hop_too_soon =
    In (Accepted peer) ∷ Out (WantClient 0)
    ∷ In (ClientBytes 0 (codes "GET /h HTTP/1.1\r\nHost: a\r\n\r\n")) ∷ Out (Start 0 0 0 0 (launch (codes "/p") (codes "GET") (codes "/h")))
    ∷ In (Started 0) ∷ Out (EndInput 0) ∷ Out (WantChild 0)
    ∷ In (ChildBytes 0 (codes "Location: /h\n\n")) ∷ Out (WantChild 0)
    ∷ In (ChildEof 0) ∷ Out (Start 1 0 0 1 (launch (codes "/p") (codes "GET") (codes "/h"))) ∷ []

hop_too_soon_is_wrong : broken_by site hop_too_soon ≡ codes "launches" ∷ []
unfolding on_dates
hop_too_soon_is_wrong = refl

-- the cause of a hop before the child that led to it was reaped
abbrev pub cause_too_soon : List Item
cause_too_soon =
    In (Accepted peer) ∷ Out (WantClient 0)
    ∷ In (ClientBytes 0 (codes "GET /h HTTP/1.1\r\nHost: a\r\nConnection: close\r\n\r\n")) ∷ Out (Start 0 0 0 0 (launch (codes "/p") (codes "GET") (codes "/h")))
    ∷ In (Started 0) ∷ Out (EndInput 0) ∷ Out (WantChild 0)
    ∷ In (ChildBytes 0 (codes "Location: /h\n\n")) ∷ Out (WantChild 0)
    ∷ In (ChildEof 0)
    ∷ In (Exited 0) ∷ Out (Start 1 0 0 1 (launch (codes "/p") (codes "GET") (codes "/h")))
    ∷ In (Started 1) ∷ Out (EndInput 1) ∷ Out (WantChild 1)
    ∷ In (ChildBytes 1 (codes "Location: /h\n\n")) ∷ Out (WantChild 1)
    ∷ In (ChildEof 1) ∷ Out (Write 0 (codes "HTTP/1.1 500 Internal Server Error\r\nContent-Type: text/plain\r\nContent-Length: 25\r\nConnection: close\r\n\r\ntoo many local redirects\n")) ∷ Out (Shut 0 Done) ∷ []

cause_too_soon_is_wrong : broken_by site cause_too_soon ≡ codes "in_turn" ∷ []
unfolding on_dates
cause_too_soon_is_wrong = refl

-- a Tick came before, and no Date stands
abbrev pub date_left_out : List Item
date_left_out =
    In (Tick 0)
    ∷ In (Accepted peer) ∷ Out (WantClient 0)
    ∷ In (ClientBytes 0 (codes "GET /h HTTP/1.1\r\nHost: a\r\n\r\n")) ∷ Out (Start 0 0 0 0 (launch (codes "/p") (codes "GET") (codes "/h")))
    ∷ In (Started 0) ∷ Out (EndInput 0) ∷ Out (WantChild 0)
    ∷ In (ChildBytes 0 (codes "Content-Type: text/plain\n\nhi\n")) ∷ Out (WantChild 0)
    ∷ In (ChildEof 0) ∷ Out (Write 0 (codes "HTTP/1.1 200 OK\r\nContent-Type: text/plain\r\nContent-Length: 3\r\n\r\nhi\n")) ∷ []

date_left_out_is_wrong : broken_by site date_left_out ≡ codes "replies" ∷ codes "answers" ∷ []
unfolding on_dates
date_left_out_is_wrong = refl

-- the Date of another day
abbrev pub date_of_another_tick : List Item
date_of_another_tick =
    In (Tick 86400)
    ∷ In (Accepted peer) ∷ Out (WantClient 0)
    ∷ In (ClientBytes 0 (codes "GET /h HTTP/1.1\r\nHost: a\r\n\r\n")) ∷ Out (Start 0 0 0 0 (launch (codes "/p") (codes "GET") (codes "/h")))
    ∷ In (Started 0) ∷ Out (EndInput 0) ∷ Out (WantChild 0)
    ∷ In (ChildBytes 0 (codes "Content-Type: text/plain\n\nhi\n")) ∷ Out (WantChild 0)
    ∷ In (ChildEof 0) ∷ Out (Write 0 (codes "HTTP/1.1 200 OK\r\nContent-Type: text/plain\r\nDate: Thu, 01 Jan 1970 00:00:00 GMT\r\nContent-Length: 3\r\n\r\nhi\n")) ∷ []

date_of_another_tick_is_wrong : broken_by site date_of_another_tick ≡ codes "replies" ∷ codes "answers" ∷ []
unfolding on_dates
date_of_another_tick_is_wrong = refl

-- HEAD is answered with a body
abbrev pub body_after_head : List Item
body_after_head =
    In (Accepted peer) ∷ Out (WantClient 0)
    ∷ In (ClientBytes 0 (codes "HEAD /h HTTP/1.1\r\nHost: a\r\n\r\n")) ∷ Out (Start 0 0 0 0 (launch (codes "/p") (codes "HEAD") (codes "/h")))
    ∷ In (Started 0) ∷ Out (EndInput 0) ∷ Out (WantChild 0)
    ∷ In (ChildBytes 0 (codes "Content-Type: text/plain\n\nhi\n")) ∷ Out (WantChild 0)
    ∷ In (ChildEof 0) ∷ Out (Write 0 (codes "HTTP/1.1 200 OK\r\nContent-Type: text/plain\r\nContent-Length: 3\r\n\r\nhi\n")) ∷ []

body_after_head_is_wrong : broken_by site body_after_head ≡ codes "replies" ∷ codes "answers" ∷ []
unfolding on_dates
body_after_head_is_wrong = refl

-- a length is told before the output has ended
abbrev pub length_told_too_soon : List Item
length_told_too_soon =
    In (Accepted peer) ∷ Out (WantClient 0)
    ∷ In (ClientBytes 0 (codes "GET /h HTTP/1.1\r\nHost: a\r\nConnection: close\r\n\r\n")) ∷ Out (Start 0 0 0 0 (launch (codes "/p") (codes "GET") (codes "/h")))
    ∷ In (Started 0) ∷ Out (EndInput 0) ∷ Out (WantChild 0)
    ∷ In (ChildBytes 0 (codes "Content-Type: text/plain\n\nhi\n")) ∷ Out (WantChild 0)
    ∷ In (Tick 0) ∷ Out (Write 0 (codes "HTTP/1.1 200 OK\r\nContent-Type: text/plain\r\nDate: Thu, 01 Jan 1970 00:00:00 GMT\r\nContent-Length: 3\r\nConnection: close\r\n\r\nhi\n")) ∷ []

length_told_too_soon_is_wrong : broken_by site length_told_too_soon ≡ codes "replies" ∷ codes "streams" ∷ []
unfolding on_dates
length_told_too_soon_is_wrong = refl

-- 100 Continue is due
abbrev pub never_continued : List Item
never_continued =
    In (Accepted peer) ∷ Out (WantClient 0)
    ∷ In (ClientBytes 0 (codes "POST /f HTTP/1.1\r\nHost: a\r\nContent-Length: 3\r\nExpect: 100-continue\r\n\r\n")) ∷ Out (Start 0 0 0 0 (launch_with_body (codes "/q") (codes "POST") (codes "/f"))) ∷ Out (WantClient 0) ∷ []

never_continued_is_wrong : broken_by site never_continued ≡ codes "replies" ∷ codes "continues" ∷ []
unfolding on_dates
never_continued_is_wrong = refl

-- .. and stands once
abbrev pub continued_twice : List Item
continued_twice =
    In (Accepted peer) ∷ Out (WantClient 0)
    ∷ In (ClientBytes 0 (codes "POST /f HTTP/1.1\r\nHost: a\r\nContent-Length: 3\r\nExpect: 100-continue\r\n\r\n")) ∷ Out (Write 0 (codes "HTTP/1.1 100 Continue\r\n\r\n")) ∷ Out (Start 0 0 0 0 (launch_with_body (codes "/q") (codes "POST") (codes "/f"))) ∷ Out (WantClient 0)
    ∷ In (Started 0) ∷ Out (Write 0 (codes "HTTP/1.1 100 Continue\r\n\r\n")) ∷ Out (WantChild 0) ∷ []

continued_twice_is_wrong : broken_by site continued_twice ≡ codes "replies" ∷ codes "no_sooner" ∷ []
unfolding on_dates
continued_twice_is_wrong = refl

-- Stop was heard
abbrev pub goes_on_after_stop : List Item
goes_on_after_stop =
    In (Accepted peer) ∷ Out (WantClient 0)
    ∷ In Stop ∷ []

goes_on_after_stop_is_wrong : broken_by site goes_on_after_stop ≡ codes "shuts" ∷ codes "stops" ∷ []
unfolding on_dates
goes_on_after_stop_is_wrong = refl

-- a Tick after the header, and the reply has not begun
abbrev pub never_streamed : List Item
never_streamed =
    In (Accepted peer) ∷ Out (WantClient 0)
    ∷ In (ClientBytes 0 (codes "GET /h HTTP/1.1\r\nHost: a\r\nConnection: close\r\n\r\n")) ∷ Out (Start 0 0 0 0 (launch (codes "/p") (codes "GET") (codes "/h")))
    ∷ In (Started 0) ∷ Out (EndInput 0) ∷ Out (WantChild 0)
    ∷ In (ChildBytes 0 (codes "Content-Type: text/plain\n\nhi\n")) ∷ Out (WantChild 0)
    ∷ In (Tick 0) ∷ []

never_streamed_is_wrong : broken_by site never_streamed ≡ codes "streams" ∷ []
unfolding on_dates
never_streamed_is_wrong = refl

-- not all of the body heard stands
abbrev pub streamed_in_part : List Item
streamed_in_part =
    In (Accepted peer) ∷ Out (WantClient 0)
    ∷ In (ClientBytes 0 (codes "GET /h HTTP/1.1\r\nHost: a\r\nConnection: close\r\n\r\n")) ∷ Out (Start 0 0 0 0 (launch (codes "/p") (codes "GET") (codes "/h")))
    ∷ In (Started 0) ∷ Out (EndInput 0) ∷ Out (WantChild 0)
    ∷ In (ChildBytes 0 (codes "Content-Type: text/plain\n\nhi\n")) ∷ Out (WantChild 0)
    ∷ In (Tick 0) ∷ Out (Write 0 (codes "HTTP/1.1 200 OK\r\nContent-Type: text/plain\r\nDate: Thu, 01 Jan 1970 00:00:00 GMT\r\nTransfer-Encoding: chunked\r\nConnection: close\r\n\r\n2\r\nhi\r\n")) ∷ []

streamed_in_part_is_wrong : broken_by site streamed_in_part ≡ codes "streams" ∷ []
unfolding on_dates
streamed_in_part_is_wrong = refl

-- the reply begins before a Tick or 8,192 bytes
abbrev pub streamed_too_soon : List Item
streamed_too_soon =
    In (Accepted peer) ∷ Out (WantClient 0)
    ∷ In (ClientBytes 0 (codes "GET /h HTTP/1.1\r\nHost: a\r\nConnection: close\r\n\r\n")) ∷ Out (Start 0 0 0 0 (launch (codes "/p") (codes "GET") (codes "/h")))
    ∷ In (Started 0) ∷ Out (EndInput 0) ∷ Out (WantChild 0)
    ∷ In (ChildBytes 0 (codes "Content-Type: text/plain\n\nhi\n")) ∷ Out (Write 0 (codes "HTTP/1.1 200 OK\r\nContent-Type: text/plain\r\nTransfer-Encoding: chunked\r\nConnection: close\r\n\r\n3\r\nhi\n\r\n")) ∷ Out (WantChild 0) ∷ []

streamed_too_soon_is_wrong : broken_by site streamed_too_soon ≡ codes "no_sooner" ∷ []
unfolding on_dates
streamed_too_soon_is_wrong = refl

-- bytes after the item that broke its run off
abbrev pub written_when_cut_off : List Item
written_when_cut_off =
    In (Accepted peer) ∷ Out (WantClient 0)
    ∷ In (ClientBytes 0 (codes "GET /h HTTP/1.1\r\nHost: a\r\nConnection: close\r\n\r\n")) ∷ Out (Start 0 0 0 0 (launch (codes "/p") (codes "GET") (codes "/h")))
    ∷ In (Started 0) ∷ Out (EndInput 0) ∷ Out (WantChild 0)
    ∷ In (ChildBytes 0 (codes "Content-Type: text/plain\n\nhi\n")) ∷ Out (WantChild 0)
    ∷ In (Tick 0) ∷ Out (Write 0 (codes "HTTP/1.1 200 OK\r\nContent-Type: text/plain\r\nDate: Thu, 01 Jan 1970 00:00:00 GMT\r\nTransfer-Encoding: chunked\r\nConnection: close\r\n\r\n3\r\nhi\n\r\n"))
    ∷ In (ChildBytes 0 (codes "b")) ∷ Out (Write 0 (codes "1\r\nb\r\n")) ∷ Out (WantChild 0)
    ∷ In (ChildBroken 0) ∷ Out (Write 0 (codes "1\r\nx\r\n")) ∷ Out (Kill 0) ∷ Out (Shut 0 (Cut OutputBroken)) ∷ []

written_when_cut_off_is_wrong : broken_by site written_when_cut_off ≡ codes "replies" ∷ []
unfolding on_dates
written_when_cut_off_is_wrong = refl

-- memory is wanting in a step that takes none
abbrev pub memory_at_a_tick : List Item
memory_at_a_tick =
    In (Accepted peer) ∷ Out (WantClient 0)
    ∷ In (Tick 0) ∷ Out (Shut 0 NoMemory) ∷ []

memory_at_a_tick_is_wrong : broken_by site memory_at_a_tick ≡ codes "takes_no_memory" ∷ []
unfolding on_dates
memory_at_a_tick_is_wrong = refl

-- the child of a client that left is not killed
abbrev pub never_killed : List Item
never_killed =
    In (Accepted peer) ∷ Out (WantClient 0)
    ∷ In (ClientBytes 0 (codes "GET /h HTTP/1.1\r\nHost: a\r\nConnection: close\r\n\r\n")) ∷ Out (Start 0 0 0 0 (launch (codes "/p") (codes "GET") (codes "/h")))
    ∷ In (Started 0) ∷ Out (EndInput 0) ∷ Out (WantChild 0)
    ∷ In (ClientGone 0) ∷ Out (Shut 0 Gone) ∷ []

never_killed_is_wrong : broken_by site never_killed ≡ codes "children" ∷ []
unfolding on_dates
never_killed_is_wrong = refl

-- its output is not given up
abbrev pub not_reaped_whole : List Item
not_reaped_whole =
    In (Accepted peer) ∷ Out (WantClient 0)
    ∷ In (ClientBytes 0 (codes "GET /h HTTP/1.1\r\nHost: a\r\n\r\n")) ∷ Out (Start 0 0 0 0 (launch (codes "/p") (codes "GET") (codes "/h")))
    ∷ In (Started 0) ∷ Out (EndInput 0) ∷ Out (WantChild 0)
    ∷ In (ClientGone 0) ∷ Out (Kill 0) ∷ Out (Shut 0 Gone)
    ∷ In (Exited 0) ∷ []

not_reaped_whole_is_wrong : broken_by site not_reaped_whole ≡ codes "children" ∷ []
unfolding on_dates
not_reaped_whole_is_wrong = refl

-- an act that belongs to no step
abbrev pub act_before_all_events : List Item
act_before_all_events =
    Out (Kill 0) ∷ []

act_before_all_events_is_wrong : broken_by site act_before_all_events ≡ codes "begun" ∷ []
unfolding on_dates
act_before_all_events_is_wrong = refl

-- an act on a child that was never started
abbrev pub act_of_nobody : List Item
act_of_nobody =
    In (Accepted peer) ∷ Out (WantClient 0)
    ∷ In (Tick 0) ∷ Out (Kill 7) ∷ []

act_of_nobody_is_wrong : broken_by site act_of_nobody ≡ codes "owners" ∷ []
unfolding on_dates
act_of_nobody_is_wrong = refl

-- an act of another connection
abbrev pub act_of_another : List Item
act_of_another =
    In (Accepted peer) ∷ Out (WantClient 0)
    ∷ In (Accepted peer) ∷ Out (WantClient 1)
    ∷ In (ClientBytes 0 (codes "G")) ∷ Out (WantClient 0) ∷ Out (Shut 1 NoMemory) ∷ []

act_of_another_is_wrong : broken_by site act_of_another ≡ codes "owners" ∷ codes "wants" ∷ codes "order" ∷ codes "takes_no_memory" ∷ []
unfolding on_dates
act_of_another_is_wrong = refl

-- the first child has number 0
abbrev pub number_left_out : List Item
number_left_out =
    In (Accepted peer) ∷ Out (WantClient 0)
    ∷ In (ClientBytes 0 (codes "GET /h HTTP/1.1\r\nHost: a\r\n\r\n")) ∷ Out (Start 1 0 0 0 (launch (codes "/p") (codes "GET") (codes "/h"))) ∷ []

number_left_out_is_wrong : broken_by site number_left_out ≡ codes "numbers" ∷ []
unfolding on_dates
number_left_out_is_wrong = refl

-- a slot was free
abbrev pub turned_away_for_nothing : List Item
turned_away_for_nothing =
    In (Accepted peer) ∷ Out (Shut 0 Full) ∷ []

turned_away_for_nothing_is_wrong : broken_by site turned_away_for_nothing ≡ codes "slots" ∷ []
unfolding on_dates
turned_away_for_nothing_is_wrong = refl

-- none was
abbrev pub one_too_many : List Item
one_too_many =
    In (Accepted peer) ∷ Out (WantClient 0)
    ∷ In (Accepted peer) ∷ Out (WantClient 1)
    ∷ In (Accepted peer) ∷ Out (WantClient 2) ∷ []

one_too_many_is_wrong : broken_by site one_too_many ≡ codes "slots" ∷ []
unfolding on_dates
one_too_many_is_wrong = refl

-- where memory was wanting, a reply begins though its run was decided otherwise
abbrev pub begun_after_no_room : List Item
begun_after_no_room =
    In (Accepted peer) ∷ Out (WantClient 0)
    ∷ In (ClientBytes 0 (codes "HEAD /h HTTP/1.1\r\nHost: a\r\n\r\n")) ∷ Out (Start 0 0 0 0 (launch (codes "/p") (codes "HEAD") (codes "/h")))
    ∷ In (Started 0) ∷ Out (EndInput 0) ∷ Out (WantChild 0)
    ∷ In (ChildBytes 0 (codes "Content-Type: text/plain\n\nhi\n")) ∷ Out (WantChild 0)
    ∷ In (NoRoom 0) ∷ Out (Write 0 (codes "HTTP/1.1 200 OK\r\nContent-Type: text/plain\r\n\r\n")) ∷ Out (Kill 0) ∷ Out (Shut 0 NoMemory) ∷ []

begun_after_no_room_is_wrong : broken_by site begun_after_no_room ≡ codes "replies" ∷ []
unfolding on_dates
begun_after_no_room_is_wrong = refl

-- .. and so does a script's own
abbrev pub begun_after_a_broken_pipe : List Item
begun_after_a_broken_pipe =
    In (Accepted peer) ∷ Out (WantClient 0)
    ∷ In (ClientBytes 0 (codes "GET /n HTTP/1.1\r\nHost: a\r\n\r\n")) ∷ Out (Start 0 0 0 0 (launch (codes "/r") (codes "GET") (codes "/n")))
    ∷ In (Started 0) ∷ Out (EndInput 0) ∷ Out (WantChild 0)
    ∷ In (ChildBytes 0 (codes "ab")) ∷ Out (WantChild 0)
    ∷ In (ChildBroken 0) ∷ Out (Write 0 (codes "a")) ∷ Out (Kill 0) ∷ Out (Shut 0 NoMemory) ∷ []

begun_after_a_broken_pipe_is_wrong : broken_by site begun_after_a_broken_pipe ≡ codes "replies" ∷ []
unfolding on_dates
begun_after_a_broken_pipe_is_wrong = refl

-- where memory was wanting, the bytes that passed the limit of the output are written
abbrev pub written_past_the_limit : List Item
written_past_the_limit =
    In (Accepted peer) ∷ Out (WantClient 0)
    ∷ In (ClientBytes 0 (codes "GET /h HTTP/1.1\r\nHost: a\r\n\r\n")) ∷ Out (Start 0 0 0 0 (launch (codes "/p") (codes "GET") (codes "/h")))
    ∷ In (Started 0) ∷ Out (EndInput 0) ∷ Out (WantChild 0)
    ∷ In (ChildBytes 0 (codes "Content-Type: text/plain\n\nhi\n")) ∷ Out (WantChild 0)
    ∷ In (Tick 0) ∷ Out (Write 0 (codes "HTTP/1.1 200 OK\r\nContent-Type: text/plain\r\nDate: Thu, 01 Jan 1970 00:00:00 GMT\r\nTransfer-Encoding: chunked\r\n\r\n3\r\nhi\n\r\n"))
    ∷ In (ChildBytes 0 (codes "bcde")) ∷ Out (Write 0 (codes "4\r\nbcde\r\n")) ∷ Out (Kill 0) ∷ Out (Shut 0 NoMemory) ∷ []

written_past_the_limit_is_wrong : broken_by site_of_small_output written_past_the_limit ≡ codes "replies" ∷ []
unfolding on_dates
written_past_the_limit_is_wrong = refl
