-- Replies that are written as they come, by computation.
use Rattle.std.proofs.Common.{◌≡◌, List, [], ◌∷◌, refl, length}
use Rattle.std.specs.Prelude.{codes}
use Rattle.host_base.specs.declared.cause.Cause.TheVariants.{OutputBroken}
use Rattle.host_trace.specs.declared.items.Event.TheVariants.{Accepted, ClientBytes, Started, ChildBytes, ChildEof, ChildBroken, Exited, Tick}
use Rattle.host_trace.specs.declared.items.Act.TheVariants.{WantClient, Write, Shut, Start, EndInput, WantChild, Kill, Release}
use Rattle.host_trace.specs.declared.items.Item.{Item}
use Rattle.host_trace.specs.declared.items.Item.TheVariants.{In, Out}
use Rattle.host_trace.specs.declared.items.Why.TheVariants.{Done, Cut}
use Rattle.trace_model.specs.Exchanges.{exchanges}
use Rattle.trace_model.specs.Verdict.{broken_by}
use Rattle.trace_rows.proofs.OnDates.{on_dates}
use Rattle.trace_rows.proofs.Site.{site, peer, launch, launch_10}

-- in chunks, from the Tick after its header on
abbrev pub streamed_from_a_tick : List Item
streamed_from_a_tick =
    In (Accepted peer) ∷ Out (WantClient 0)
    ∷ In (ClientBytes 0 (codes "GET /h HTTP/1.1\r\nHost: a\r\nConnection: close\r\n\r\n")) ∷ Out (Start 0 0 0 0 (launch (codes "/p") (codes "GET") (codes "/h")))
    ∷ In (Started 0) ∷ Out (EndInput 0) ∷ Out (WantChild 0)
    ∷ In (ChildBytes 0 (codes "Content-Type: text/plain\n\nhi\n")) ∷ Out (WantChild 0)
    ∷ In (Tick 0) ∷ Out (Write 0 (codes "HTTP/1.1 200 OK\r\nContent-Type: text/plain\r\nDate: Thu, 01 Jan 1970 00:00:00 GMT\r\nTransfer-Encoding: chunked\r\nConnection: close\r\n\r\n3\r\nhi\n\r\n"))
    ∷ In (ChildBytes 0 (codes "b")) ∷ Out (Write 0 (codes "1\r\nb\r\n")) ∷ Out (WantChild 0)
    ∷ In (ChildEof 0) ∷ Out (Write 0 (codes "0\r\n\r\n")) ∷ Out (Shut 0 Done)
    ∷ In (Exited 0) ∷ []

streamed_from_a_tick_is_good : broken_by site streamed_from_a_tick ≡ []
unfolding on_dates
streamed_from_a_tick_is_good = refl

streamed_from_a_tick_has : length (exchanges site 0 streamed_from_a_tick) ≡ 2
unfolding on_dates
streamed_from_a_tick_has = refl

-- its output breaks: it is cut off
abbrev pub streamed_and_broken : List Item
streamed_and_broken =
    In (Accepted peer) ∷ Out (WantClient 0)
    ∷ In (ClientBytes 0 (codes "GET /h HTTP/1.1\r\nHost: a\r\nConnection: close\r\n\r\n")) ∷ Out (Start 0 0 0 0 (launch (codes "/p") (codes "GET") (codes "/h")))
    ∷ In (Started 0) ∷ Out (EndInput 0) ∷ Out (WantChild 0)
    ∷ In (ChildBytes 0 (codes "Content-Type: text/plain\n\nhi\n")) ∷ Out (WantChild 0)
    ∷ In (Tick 0) ∷ Out (Write 0 (codes "HTTP/1.1 200 OK\r\nContent-Type: text/plain\r\nDate: Thu, 01 Jan 1970 00:00:00 GMT\r\nTransfer-Encoding: chunked\r\nConnection: close\r\n\r\n3\r\nhi\n\r\n"))
    ∷ In (ChildBroken 0) ∷ Out (Kill 0) ∷ Out (Shut 0 (Cut OutputBroken))
    ∷ In (Exited 0) ∷ []

streamed_and_broken_is_good : broken_by site streamed_and_broken ≡ []
unfolding on_dates
streamed_and_broken_is_good = refl

streamed_and_broken_has : length (exchanges site 0 streamed_and_broken) ≡ 1
unfolding on_dates
streamed_and_broken_has = refl

-- to HTTP/1.0 the body has no framing, and goes up to the close
abbrev pub streamed_to_version_10 : List Item
streamed_to_version_10 =
    In (Accepted peer) ∷ Out (WantClient 0)
    ∷ In (ClientBytes 0 (codes "GET /h HTTP/1.0\r\n\r\n")) ∷ Out (Start 0 0 0 0 (launch_10 (codes "/p") (codes "GET") (codes "/h")))
    ∷ In (Started 0) ∷ Out (EndInput 0) ∷ Out (WantChild 0)
    ∷ In (ChildBytes 0 (codes "Content-Type: text/plain\n\nhi\n")) ∷ Out (WantChild 0)
    ∷ In (Tick 0) ∷ Out (Write 0 (codes "HTTP/1.1 200 OK\r\nContent-Type: text/plain\r\nDate: Thu, 01 Jan 1970 00:00:00 GMT\r\nConnection: close\r\n\r\nhi\n"))
    ∷ In (ChildEof 0) ∷ Out (Shut 0 Done)
    ∷ In (Exited 0) ∷ []

streamed_to_version_10_is_good : broken_by site streamed_to_version_10 ≡ []
unfolding on_dates
streamed_to_version_10_is_good = refl

streamed_to_version_10_has : length (exchanges site 0 streamed_to_version_10) ≡ 2
unfolding on_dates
streamed_to_version_10_has = refl

-- to HEAD the head alone is written, at the same Tick
abbrev pub streamed_to_head : List Item
streamed_to_head =
    In (Accepted peer) ∷ Out (WantClient 0)
    ∷ In (ClientBytes 0 (codes "HEAD /h HTTP/1.1\r\nHost: a\r\nConnection: close\r\n\r\n")) ∷ Out (Start 0 0 0 0 (launch (codes "/p") (codes "HEAD") (codes "/h")))
    ∷ In (Started 0) ∷ Out (EndInput 0) ∷ Out (WantChild 0)
    ∷ In (ChildBytes 0 (codes "Content-Type: text/plain\n\nhi\n")) ∷ Out (WantChild 0)
    ∷ In (Tick 0) ∷ Out (Write 0 (codes "HTTP/1.1 200 OK\r\nContent-Type: text/plain\r\nDate: Thu, 01 Jan 1970 00:00:00 GMT\r\nConnection: close\r\n\r\n"))
    ∷ In (ChildEof 0) ∷ Out (Shut 0 Done)
    ∷ In (Exited 0) ∷ []

streamed_to_head_is_good : broken_by site streamed_to_head ≡ []
unfolding on_dates
streamed_to_head_is_good = refl

streamed_to_head_has : length (exchanges site 0 streamed_to_head) ≡ 2
unfolding on_dates
streamed_to_head_has = refl

-- the Tick that ends the run time begins no reply
abbrev pub too_late_to_stream : List Item
too_late_to_stream =
    In (Accepted peer) ∷ Out (WantClient 0)
    ∷ In (ClientBytes 0 (codes "GET /h HTTP/1.1\r\nHost: a\r\nConnection: close\r\n\r\n")) ∷ Out (Start 0 0 0 0 (launch (codes "/p") (codes "GET") (codes "/h")))
    ∷ In (Started 0) ∷ Out (EndInput 0) ∷ Out (WantChild 0)
    ∷ In (Tick 0)
    ∷ In (Tick 0)
    ∷ In (ChildBytes 0 (codes "Content-Type: text/plain\n\nhi\n")) ∷ Out (WantChild 0)
    ∷ In (Tick 0) ∷ Out (Write 0 (codes "HTTP/1.1 504 Gateway Timeout\r\nContent-Type: text/plain\r\nDate: Thu, 01 Jan 1970 00:00:00 GMT\r\nContent-Length: 21\r\nConnection: close\r\n\r\nscript took too long\n")) ∷ Out (Kill 0) ∷ Out (Shut 0 Done)
    ∷ In (Exited 0) ∷ Out (Release 0) ∷ []

too_late_to_stream_is_good : broken_by site too_late_to_stream ≡ []
unfolding on_dates
too_late_to_stream_is_good = refl

too_late_to_stream_has : length (exchanges site 0 too_late_to_stream) ≡ 2
unfolding on_dates
too_late_to_stream_has = refl

-- the Tick has to come after the header
abbrev pub header_alone_does_not : List Item
header_alone_does_not =
    In (Accepted peer) ∷ Out (WantClient 0)
    ∷ In (ClientBytes 0 (codes "GET /h HTTP/1.1\r\nHost: a\r\nConnection: close\r\n\r\n")) ∷ Out (Start 0 0 0 0 (launch (codes "/p") (codes "GET") (codes "/h")))
    ∷ In (Started 0) ∷ Out (EndInput 0) ∷ Out (WantChild 0)
    ∷ In (Tick 0)
    ∷ In (ChildBytes 0 (codes "Content-Type: text/plain\n\nhi\n")) ∷ Out (WantChild 0) ∷ []

header_alone_does_not_is_good : broken_by site header_alone_does_not ≡ []
unfolding on_dates
header_alone_does_not_is_good = refl

header_alone_does_not_has : length (exchanges site 0 header_alone_does_not) ≡ 1
unfolding on_dates
header_alone_does_not_has = refl

-- so does the output of an nph script
abbrev pub raw_from_a_tick : List Item
raw_from_a_tick =
    In (Accepted peer) ∷ Out (WantClient 0)
    ∷ In (ClientBytes 0 (codes "GET /n HTTP/1.1\r\nHost: a\r\n\r\n")) ∷ Out (Start 0 0 0 0 (launch (codes "/r") (codes "GET") (codes "/n")))
    ∷ In (Started 0) ∷ Out (EndInput 0) ∷ Out (WantChild 0)
    ∷ In (ChildBytes 0 (codes "ra")) ∷ Out (WantChild 0)
    ∷ In (Tick 0) ∷ Out (Write 0 (codes "ra"))
    ∷ In (ChildBytes 0 (codes "w")) ∷ Out (Write 0 (codes "w")) ∷ Out (WantChild 0)
    ∷ In (ChildEof 0) ∷ Out (Shut 0 Done)
    ∷ In (Exited 0) ∷ []

raw_from_a_tick_is_good : broken_by site raw_from_a_tick ≡ []
unfolding on_dates
raw_from_a_tick_is_good = refl

raw_from_a_tick_has : length (exchanges site 0 raw_from_a_tick) ≡ 2
unfolding on_dates
raw_from_a_tick_has = refl

-- the Date is that of the clock at its first byte, though a day goes by before the rest
abbrev pub streamed_over_a_day : List Item
streamed_over_a_day =
    In (Accepted peer) ∷ Out (WantClient 0)
    ∷ In (ClientBytes 0 (codes "GET /h HTTP/1.1\r\nHost: a\r\nConnection: close\r\n\r\n")) ∷ Out (Start 0 0 0 0 (launch (codes "/p") (codes "GET") (codes "/h")))
    ∷ In (Started 0) ∷ Out (EndInput 0) ∷ Out (WantChild 0)
    ∷ In (ChildBytes 0 (codes "Content-Type: text/plain\n\nhi\n")) ∷ Out (WantChild 0)
    ∷ In (Tick 0) ∷ Out (Write 0 (codes "HTTP/1.1 200 OK\r\nContent-Type: text/plain\r\nDate: Thu, 01 Jan 1970 00:00:00 GMT\r\nTransfer-Encoding: chunked\r\nConnection: close\r\n\r\n3\r\nhi\n\r\n"))
    ∷ In (Tick 86400)
    ∷ In (ChildBytes 0 (codes "b")) ∷ Out (Write 0 (codes "1\r\nb\r\n")) ∷ Out (WantChild 0)
    ∷ In (ChildEof 0) ∷ Out (Write 0 (codes "0\r\n\r\n")) ∷ Out (Shut 0 Done)
    ∷ In (Exited 0) ∷ []

streamed_over_a_day_is_good : broken_by site streamed_over_a_day ≡ []
unfolding on_dates
streamed_over_a_day_is_good = refl

streamed_over_a_day_has : length (exchanges site 0 streamed_over_a_day) ≡ 2
unfolding on_dates
streamed_over_a_day_has = refl
