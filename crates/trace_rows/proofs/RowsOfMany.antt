-- Two connections, by computation.
use Rattle.std.proofs.Common.{◌≡◌, List, [], ◌∷◌, refl, length}
use Rattle.std.specs.Prelude.{codes}
use Rattle.host_trace.specs.declared.items.Event.TheVariants.{Accepted, ClientBytes, ClientGone, Started, ChildBytes, ChildEof, Exited, Stop}
use Rattle.host_trace.specs.declared.items.Act.TheVariants.{WantClient, Write, Shut, Start, EndInput, WantChild, Kill, Release}
use Rattle.host_trace.specs.declared.items.Item.{Item}
use Rattle.host_trace.specs.declared.items.Item.TheVariants.{In, Out}
use Rattle.host_trace.specs.declared.items.Why.TheVariants.{Done, Gone, Full, Stopped}
use Rattle.trace_model.specs.Exchanges.{exchanges}
use Rattle.trace_model.specs.Verdict.{broken_by}
use Rattle.trace_rows.proofs.OnLiterals.{on_literals}
use Rattle.trace_rows.proofs.Site.{site, peer, launch}

-- the child of the first goes on while the second is answered; Stop ends the first
abbrev pub one_waits_and_one_is_answered : List Item
one_waits_and_one_is_answered =
    In (Accepted peer) ∷ Out (WantClient 0)
    ∷ In (ClientBytes 0 (codes "GET /h HTTP/1.1\r\nHost: a\r\nConnection: close\r\n\r\n")) ∷ Out (Start 0 0 0 0 (launch (codes "/p") (codes "GET") (codes "/h")))
    ∷ In (Started 0) ∷ Out (EndInput 0) ∷ Out (WantChild 0)
    ∷ In (Accepted peer) ∷ Out (WantClient 1)
    ∷ In (ClientBytes 1 (codes "GET /h HTTP/1.1\r\nHost: a\r\nConnection: close\r\n\r\n")) ∷ Out (Start 1 1 0 0 (launch (codes "/p") (codes "GET") (codes "/h")))
    ∷ In (Started 1) ∷ Out (EndInput 1) ∷ Out (WantChild 1)
    ∷ In (ChildBytes 1 (codes "Content-Type: text/plain\n\nhi\n")) ∷ Out (WantChild 1)
    ∷ In (ChildEof 1) ∷ Out (Write 1 (codes "HTTP/1.1 200 OK\r\nContent-Type: text/plain\r\nContent-Length: 3\r\nConnection: close\r\n\r\nhi\n")) ∷ Out (Shut 1 Done)
    ∷ In (Exited 1)
    ∷ In Stop ∷ Out (Kill 0) ∷ Out (Shut 0 Stopped)
    ∷ In (Exited 0) ∷ Out (Release 0) ∷ []

one_waits_and_one_is_answered_is_good : broken_by site one_waits_and_one_is_answered ≡ []
unfolding on_literals
one_waits_and_one_is_answered_is_good = refl

one_waits_and_one_is_answered_has : length (exchanges site 0 one_waits_and_one_is_answered) ≡ 1
unfolding on_literals
one_waits_and_one_is_answered_has = refl

-- as many slots are held as may be
abbrev pub third_is_turned_away : List Item
third_is_turned_away =
    In (Accepted peer) ∷ Out (WantClient 0)
    ∷ In (Accepted peer) ∷ Out (WantClient 1)
    ∷ In (Accepted peer) ∷ Out (Shut 2 Full) ∷ []

third_is_turned_away_is_good : broken_by site third_is_turned_away ≡ []
unfolding on_literals
third_is_turned_away_is_good = refl

third_is_turned_away_has : length (exchanges site 0 third_is_turned_away) ≡ 1
unfolding on_literals
third_is_turned_away_has = refl

-- .. until one is given back
abbrev pub slot_is_free_again : List Item
slot_is_free_again =
    In (Accepted peer) ∷ Out (WantClient 0)
    ∷ In (Accepted peer) ∷ Out (WantClient 1)
    ∷ In (ClientGone 0) ∷ Out (Shut 0 Gone)
    ∷ In (Accepted peer) ∷ Out (WantClient 2) ∷ []

slot_is_free_again_is_good : broken_by site slot_is_free_again ≡ []
unfolding on_literals
slot_is_free_again_is_good = refl

slot_is_free_again_has : length (exchanges site 0 slot_is_free_again) ≡ 1
unfolding on_literals
slot_is_free_again_has = refl

abbrev pub stop_ends_all_in_turn : List Item
stop_ends_all_in_turn =
    In (Accepted peer) ∷ Out (WantClient 0)
    ∷ In (Accepted peer) ∷ Out (WantClient 1)
    ∷ In Stop ∷ Out (Shut 0 Stopped) ∷ Out (Shut 1 Stopped) ∷ []

stop_ends_all_in_turn_is_good : broken_by site stop_ends_all_in_turn ≡ []
unfolding on_literals
stop_ends_all_in_turn_is_good = refl

stop_ends_all_in_turn_has : length (exchanges site 0 stop_ends_all_in_turn) ≡ 1
unfolding on_literals
stop_ends_all_in_turn_has = refl
