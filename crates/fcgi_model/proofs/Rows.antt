-- Small traces by computation: good ones break no rule, and of wrong ones the rules that they break are named.
use Rattle.std.proofs.Common.{◌≡◌, ℕ, true, List, [], ◌∷◌, ◌++◌, None, codes, refl}
use Rattle.host_base.specs.declared.launch.Launch.{Launch}
use Rattle.host_base.specs.declared.launch.Pair.{Pair}
use Rattle.host_base.specs.declared.launch.Peer.{Peer}
use Rattle.host_base.specs.declared.site.Script.{Script}
use Rattle.host_base.specs.declared.site.ScriptKind.{ScriptKind}
use Rattle.host_base.specs.declared.site.ScriptKind.TheVariants.{Cgi, Nph, WebSocket}
use Rattle.host_base.specs.declared.site.Site.{Site}
use Rattle.host_base.specs.LimitRanges.{default_limits}
use Rattle.host_trace.specs.declared.items.Event.TheVariants.{Accepted, ClientBytes, ClientEof, Started, StartFull, ChildBytes, ChildEof, Exited, Tick}
use Rattle.host_trace.specs.declared.items.Act.TheVariants.{WantClient, Write, Shut, Start, EndInput, WantChild, Kill, Release}
use Rattle.host_trace.specs.declared.items.Item.TheVariants.{In, Out}
use Rattle.host_trace.specs.declared.items.Why.TheVariants.{Done, Idle, Cut}
use Rattle.host_base.specs.declared.cause.Cause.TheVariants.{BadRecord, Incomplete}
use Rattle.fcgi_records.specs.Records.{record_bytes}
use Rattle.fcgi_model.specs.Verdict.{broken_by}
use Rattle.fcgi_model.proofs.OnLiterals.{on_literals}

abbrev script : List ℕ → List ℕ → ScriptKind → Script
script path program kind = record { path = path; program = program; kind = kind; origins = None }

abbrev site : Site
site = record {
  listen = codes "127.0.0.1";
  port = 80;
  limits = record default_limits { idle_ticks = 2; run_ticks = 3; linger_ticks = 2 };
  hosts = record {
    name = codes "localhost";
    aliases = [];
    any = true;
    root = codes "/r";
    scripts = script (codes "/cgi-bin/hello") (codes "/p/hello") Cgi ∷ script (codes "/n") (codes "/p/n") Nph ∷ script (codes "/w") (codes "/p/w") WebSocket ∷ [];
  } ∷ [];
  docs = [];
}

abbrev peer : Peer
peer = record { 0 = codes "192.0.2.1" }

abbrev variable : List ℕ → List ℕ → Pair
variable name value = record { name = name; value = value }

abbrev begin : ℕ → ℕ → List ℕ
begin id flags = record_bytes 1 id (0 ∷ 1 ∷ flags ∷ 0 ∷ 0 ∷ 0 ∷ 0 ∷ 0 ∷ [])

abbrev params : ℕ → List ℕ
params id = record_bytes 4 id (14 ∷ 3 ∷ codes "REQUEST_METHODGET" ++ 11 ∷ 14 ∷ codes "SCRIPT_NAME/cgi-bin/hello") ++ record_bytes 4 id []

abbrev request : ℕ → ℕ → List ℕ
request id flags = begin id flags ++ params id ++ record_bytes 5 id []

abbrev launch : Launch
launch = record {
  program = codes "/p/hello";
  dir = codes "/p";
  args = [];
  env = variable (codes "REQUEST_METHOD") (codes "GET") ∷ variable (codes "GATEWAY_INTERFACE") (codes "CGI/1.1") ∷ variable (codes "SCRIPT_NAME") (codes "/cgi-bin/hello") ∷ [];
}

abbrev output : List ℕ
output = codes "Content-Type: text/plain\n\nhi\n"

abbrev ended : ℕ → ℕ → List ℕ
ended id state = record_bytes 3 id (0 ∷ 0 ∷ 0 ∷ 0 ∷ state ∷ 0 ∷ 0 ∷ 0 ∷ [])

abbrev answer : ℕ → List ℕ → List ℕ
answer id bytes = record_bytes 6 id bytes ++ record_bytes 6 id [] ++ ended id 0

-- ---- good ones

answered_is_good : broken_by site (In (Accepted peer) ∷ Out (WantClient 0)
    ∷ In (ClientBytes 0 (request 1 0)) ∷ Out (Start 0 0 0 0 launch) ∷ Out (WantClient 0)
    ∷ In (Started 0) ∷ Out (EndInput 0) ∷ Out (WantChild 0)
    ∷ In (ChildBytes 0 output) ∷ Out (WantChild 0)
    ∷ In (ChildEof 0) ∷ Out (Write 0 (1 ∷ 6 ∷ 0 ∷ 1 ∷ 0 ∷ 29 ∷ 0 ∷ 0 ∷ output ++ 1 ∷ 6 ∷ 0 ∷ 1 ∷ 0 ∷ 0 ∷ 0 ∷ 0 ∷ 1 ∷ 3 ∷ 0 ∷ 1 ∷ 0 ∷ 8 ∷ 0 ∷ 0 ∷ 0 ∷ 0 ∷ 0 ∷ 0 ∷ 0 ∷ 0 ∷ 0 ∷ 0 ∷ [])) ∷ Out (Shut 0 Done)
    ∷ In (Exited 0) ∷ []) ≡ []
unfolding on_literals
answered_is_good = refl

asked_is_good : broken_by site (In (Accepted peer) ∷ Out (WantClient 0)
    ∷ In (ClientBytes 0 (record_bytes 9 0 (15 ∷ 0 ∷ codes "FCGI_MPXS_CONNS"))) ∷ Out (Write 0 (1 ∷ 10 ∷ 0 ∷ 0 ∷ 0 ∷ 18 ∷ 0 ∷ 0 ∷ 15 ∷ 1 ∷ codes "FCGI_MPXS_CONNS0")) ∷ Out (WantClient 0) ∷ []) ≡ []
unfolding on_literals
asked_is_good = refl

-- the connection is kept: the second request, under the same id, waits for the child of the first
kept_is_good : broken_by site (In (Accepted peer) ∷ Out (WantClient 0)
    ∷ In (ClientBytes 0 (request 1 1)) ∷ Out (Start 0 0 0 0 launch) ∷ Out (WantClient 0)
    ∷ In (Started 0) ∷ Out (EndInput 0) ∷ Out (WantChild 0)
    ∷ In (ChildBytes 0 output) ∷ Out (WantChild 0)
    ∷ In (ChildEof 0) ∷ Out (Write 0 (answer 1 output))
    ∷ In (ClientBytes 0 (request 1 0)) ∷ Out (WantClient 0)
    ∷ In (Exited 0) ∷ Out (Start 1 0 1 0 launch)
    ∷ In (Started 1) ∷ Out (EndInput 1) ∷ Out (WantChild 1)
    ∷ In (ChildEof 1) ∷ Out (Write 0 (answer 1 (codes "Status: 502 Bad Gateway\r\nContent-Type: text/plain\r\n\r\nscript gave no output\n"))) ∷ Out (Shut 0 Done) ∷ []) ≡ []
unfolding on_literals
kept_is_good = refl

-- ABORT: its END, and its child is killed
aborted_is_good : broken_by site (In (Accepted peer) ∷ Out (WantClient 0)
    ∷ In (ClientBytes 0 (request 1 1)) ∷ Out (Start 0 0 0 0 launch) ∷ Out (WantClient 0)
    ∷ In (Started 0) ∷ Out (EndInput 0) ∷ Out (WantChild 0)
    ∷ In (ClientBytes 0 (record_bytes 2 1 [])) ∷ Out (Write 0 (ended 1 0)) ∷ Out (Kill 0) ∷ Out (WantClient 0)
    ∷ In (Exited 0) ∷ Out (Release 0) ∷ []) ≡ []
unfolding on_literals
aborted_is_good = refl

-- another id while one is active, and another role
refused_is_good : broken_by site (In (Accepted peer) ∷ Out (WantClient 0)
    ∷ In (ClientBytes 0 (begin 1 1 ++ begin 2 1)) ∷ Out (Write 0 (ended 2 1)) ∷ Out (WantClient 0)
    ∷ In (ClientBytes 0 (record_bytes 2 1 [] ++ record_bytes 1 3 (0 ∷ 2 ∷ 0 ∷ 0 ∷ 0 ∷ 0 ∷ 0 ∷ 0 ∷ []))) ∷ Out (Write 0 (ended 1 0 ++ ended 3 3)) ∷ Out (WantClient 0) ∷ []) ≡ []
unfolding on_literals
refused_is_good = refl

-- a record that can't be ends the run and the connection
bad_is_good : broken_by site (In (Accepted peer) ∷ Out (WantClient 0)
    ∷ In (ClientBytes 0 (request 1 1)) ∷ Out (Start 0 0 0 0 launch) ∷ Out (WantClient 0)
    ∷ In (Started 0) ∷ Out (EndInput 0) ∷ Out (WantChild 0)
    ∷ In (ClientBytes 0 (2 ∷ [])) ∷ Out (Kill 0) ∷ Out (Shut 0 (Cut BadRecord)) ∷ []) ≡ []
unfolding on_literals
bad_is_good = refl

-- the client ends its input: within a request, with none, and while one runs
cut_is_good : broken_by site (In (Accepted peer) ∷ Out (WantClient 0)
    ∷ In (ClientBytes 0 (begin 1 1)) ∷ Out (WantClient 0) ∷ In (ClientEof 0) ∷ Out (Shut 0 (Cut Incomplete)) ∷ []) ≡ []
unfolding on_literals
cut_is_good = refl

left_is_good : broken_by site (In (Accepted peer) ∷ Out (WantClient 0) ∷ In (ClientEof 0) ∷ Out (Shut 0 Done) ∷ []) ≡ []
unfolding on_literals
left_is_good = refl

half_closed_is_good : broken_by site (In (Accepted peer) ∷ Out (WantClient 0)
    ∷ In (ClientBytes 0 (request 1 1)) ∷ Out (Start 0 0 0 0 launch) ∷ Out (WantClient 0)
    ∷ In (Started 0) ∷ Out (EndInput 0) ∷ Out (WantChild 0)
    ∷ In (ClientEof 0)
    ∷ In (ChildBytes 0 output) ∷ Out (WantChild 0)
    ∷ In (ChildEof 0) ∷ Out (Write 0 (answer 1 output)) ∷ Out (Shut 0 Done) ∷ []) ≡ []
unfolding on_literals
half_closed_is_good = refl

idle_is_good : broken_by site (In (Accepted peer) ∷ Out (WantClient 0)
    ∷ In (ClientBytes 0 (begin 1 1)) ∷ Out (WantClient 0) ∷ In (Tick 0) ∷ In (Tick 0) ∷ Out (Shut 0 Idle) ∷ []) ≡ []
unfolding on_literals
idle_is_good = refl

-- what is asked for is answered in its order, with the names that are known
values_are_good : broken_by site (In (Accepted peer) ∷ Out (WantClient 0)
    ∷ In (ClientBytes 0 (record_bytes 12 0 (7 ∷ []) ++ record_bytes 9 0 (14 ∷ 0 ∷ codes "FCGI_MAX_CONNS" ++ 1 ∷ 0 ∷ codes "X" ++ 13 ∷ 0 ∷ codes "FCGI_MAX_REQS") ++ record_bytes 9 0 []))
    ∷ Out (Write 0 (record_bytes 11 0 (12 ∷ 0 ∷ 0 ∷ 0 ∷ 0 ∷ 0 ∷ 0 ∷ 0 ∷ []) ++ record_bytes 10 0 (14 ∷ 3 ∷ codes "FCGI_MAX_CONNS256" ++ 13 ∷ 3 ∷ codes "FCGI_MAX_REQS256") ++ record_bytes 10 0 []))
    ∷ Out (WantClient 0) ∷ []) ≡ []
unfolding on_literals
values_are_good = refl

-- as many children run as may: END alone tells it
full_is_good : broken_by site (In (Accepted peer) ∷ Out (WantClient 0)
    ∷ In (ClientBytes 0 (request 1 1)) ∷ Out (Start 0 0 0 0 launch) ∷ Out (WantClient 0)
    ∷ In (StartFull 0 64) ∷ Out (Write 0 (ended 1 2)) ∷ []) ≡ []
unfolding on_literals
full_is_good = refl

-- the variables are no list of pairs: it is told before the body ends, and what follows of the request is dropped
no_pairs_is_good : broken_by site (In (Accepted peer) ∷ Out (WantClient 0)
    ∷ In (ClientBytes 0 (begin 7 1 ++ record_bytes 4 7 (3 ∷ []) ++ record_bytes 4 7 []))
    ∷ Out (Write 0 (answer 7 (codes "Status: 400 Bad Request\r\nContent-Type: text/plain\r\n\r\nbad parameters\n"))) ∷ Out (WantClient 0)
    ∷ In (ClientBytes 0 (record_bytes 5 7 (1 ∷ []) ++ record_bytes 5 7 [])) ∷ Out (WantClient 0) ∷ []) ≡ []
unfolding on_literals
no_pairs_is_good = refl

-- no script stands at the path
no_script_is_good : broken_by site (In (Accepted peer) ∷ Out (WantClient 0)
    ∷ In (ClientBytes 0 (begin 1 0 ++ record_bytes 4 1 (11 ∷ 2 ∷ codes "SCRIPT_NAME/x") ++ record_bytes 4 1 []))
    ∷ Out (Write 0 (answer 1 (codes "Status: 404 Not Found\r\nContent-Type: text/plain\r\n\r\nno script for this path\n"))) ∷ Out (Shut 0 Done) ∷ []) ≡ []
unfolding on_literals
no_script_is_good = refl

-- more variables than may be are told at the piece that passes the limit
long_is_good : broken_by (record site { limits = record site.limits { head = 4 } }) (In (Accepted peer) ∷ Out (WantClient 0)
    ∷ In (ClientBytes 0 (begin 1 0 ++ record_bytes 4 1 (1 ∷ 2 ∷ codes "abc")))
    ∷ Out (Write 0 (answer 1 (codes "Status: 431 Request Header Fields Too Large\r\nContent-Type: text/plain\r\n\r\nrequest head too large\n"))) ∷ Out (Shut 0 Done) ∷ []) ≡ []
unfolding on_literals
long_is_good = refl

-- a BEGIN of the request that is active, a BEGIN of 7 bytes, and GET_VALUES that is no list of pairs are bad records
begun_again_is_good : broken_by site (In (Accepted peer) ∷ Out (WantClient 0) ∷ In (ClientBytes 0 (begin 1 1 ++ begin 1 1)) ∷ Out (Shut 0 (Cut BadRecord)) ∷ []) ≡ []
unfolding on_literals
begun_again_is_good = refl

begun_short_is_good : broken_by site (In (Accepted peer) ∷ Out (WantClient 0) ∷ In (ClientBytes 0 (record_bytes 1 1 (0 ∷ 1 ∷ 0 ∷ 0 ∷ 0 ∷ 0 ∷ 0 ∷ []))) ∷ Out (Shut 0 (Cut BadRecord)) ∷ []) ≡ []
unfolding on_literals
begun_short_is_good = refl

asked_badly_is_good : broken_by site (In (Accepted peer) ∷ Out (WantClient 0) ∷ In (ClientBytes 0 (record_bytes 9 0 (1 ∷ []))) ∷ Out (Shut 0 (Cut BadRecord)) ∷ []) ≡ []
unfolding on_literals
asked_badly_is_good = refl

-- ---- wrong ones

-- END before its child's output has ended
early_end_is_wrong : broken_by site (In (Accepted peer) ∷ Out (WantClient 0)
    ∷ In (ClientBytes 0 (request 1 1)) ∷ Out (Start 0 0 0 0 launch) ∷ Out (WantClient 0)
    ∷ In (Started 0) ∷ Out (EndInput 0) ∷ Out (WantChild 0)
    ∷ In (ChildBytes 0 output) ∷ Out (Write 0 (answer 1 output)) ∷ Out (WantChild 0) ∷ []) ≡ codes "replies" ∷ []
unfolding on_literals
early_end_is_wrong = refl

-- the second is started while the first one's child is not settled
hasty_is_wrong : broken_by site (In (Accepted peer) ∷ Out (WantClient 0)
    ∷ In (ClientBytes 0 (request 1 1)) ∷ Out (Start 0 0 0 0 launch) ∷ Out (WantClient 0)
    ∷ In (Started 0) ∷ Out (EndInput 0) ∷ Out (WantChild 0)
    ∷ In (ChildEof 0) ∷ Out (Write 0 (answer 1 (codes "Status: 502 Bad Gateway\r\nContent-Type: text/plain\r\n\r\nscript gave no output\n")))
    ∷ In (ClientBytes 0 (request 1 1)) ∷ Out (Start 1 0 1 0 launch) ∷ Out (WantClient 0) ∷ []) ≡ codes "launches" ∷ []
unfolding on_literals
hasty_is_wrong = refl

-- the client isn't asked while a script runs
deaf_is_wrong : broken_by site (In (Accepted peer) ∷ Out (WantClient 0)
    ∷ In (ClientBytes 0 (request 1 1)) ∷ Out (Start 0 0 0 0 launch) ∷ []) ≡ codes "wants" ∷ []
unfolding on_literals
deaf_is_wrong = refl

-- an aborted child lives on
spared_is_wrong : broken_by site (In (Accepted peer) ∷ Out (WantClient 0)
    ∷ In (ClientBytes 0 (request 1 1)) ∷ Out (Start 0 0 0 0 launch) ∷ Out (WantClient 0)
    ∷ In (Started 0) ∷ Out (EndInput 0) ∷ Out (WantChild 0)
    ∷ In (ClientBytes 0 (record_bytes 2 1 [])) ∷ Out (Write 0 (ended 1 0)) ∷ Out (WantClient 0) ∷ []) ≡ codes "children" ∷ []
unfolding on_literals
spared_is_wrong = refl

-- no END for the other id
silent_is_wrong : broken_by site (In (Accepted peer) ∷ Out (WantClient 0) ∷ In (ClientBytes 0 (begin 1 1 ++ begin 2 1)) ∷ Out (WantClient 0) ∷ []) ≡ codes "replies" ∷ []
unfolding on_literals
silent_is_wrong = refl

-- END stands twice
twice_is_wrong : broken_by site (In (Accepted peer) ∷ Out (WantClient 0) ∷ In (ClientBytes 0 (begin 1 1 ++ record_bytes 2 1 [])) ∷ Out (Write 0 (ended 1 0 ++ ended 1 0)) ∷ Out (WantClient 0) ∷ []) ≡ codes "replies" ∷ []
unfolding on_literals
twice_is_wrong = refl

-- another role is told by the state for another id
wrong_state_is_wrong : broken_by site (In (Accepted peer) ∷ Out (WantClient 0) ∷ In (ClientBytes 0 (record_bytes 1 3 (0 ∷ 2 ∷ 0 ∷ 0 ∷ 0 ∷ 0 ∷ 0 ∷ 0 ∷ []))) ∷ Out (Write 0 (ended 3 1)) ∷ Out (WantClient 0) ∷ []) ≡ codes "replies" ∷ []
unfolding on_literals
wrong_state_is_wrong = refl

-- a byte of padding
padded_is_wrong : broken_by site (In (Accepted peer) ∷ Out (WantClient 0) ∷ In (ClientBytes 0 (record_bytes 12 0 [])) ∷ Out (Write 0 (1 ∷ 11 ∷ 0 ∷ 0 ∷ 0 ∷ 8 ∷ 1 ∷ 0 ∷ 12 ∷ 0 ∷ 0 ∷ 0 ∷ 0 ∷ 0 ∷ 0 ∷ 0 ∷ 0 ∷ [])) ∷ Out (WantClient 0) ∷ []) ≡ codes "replies" ∷ []
unfolding on_literals
padded_is_wrong = refl

-- the connection is shut though it is to be kept
hasty_shut_is_wrong : broken_by site (In (Accepted peer) ∷ Out (WantClient 0) ∷ In (ClientBytes 0 (begin 1 1 ++ record_bytes 2 1 [])) ∷ Out (Write 0 (ended 1 0)) ∷ Out (Shut 0 Done) ∷ []) ≡ codes "shuts" ∷ []
unfolding on_literals
hasty_shut_is_wrong = refl

-- started before its body ended
early_start_is_wrong : broken_by site (In (Accepted peer) ∷ Out (WantClient 0) ∷ In (ClientBytes 0 (begin 1 1 ++ params 1)) ∷ Out (Start 0 0 0 0 launch) ∷ Out (WantClient 0) ∷ []) ≡ codes "launches" ∷ []
unfolding on_literals
early_start_is_wrong = refl
