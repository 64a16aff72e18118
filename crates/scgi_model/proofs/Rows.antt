-- Small traces by computation: good ones break no rule, and of wrong ones the rules that they break are named.
use Rattle.std.proofs.Common.{◌≡◌, ℕ, true, List, [], ◌∷◌, ◌++◌, None, codes, refl}
use Rattle.host_base.specs.declared.launch.Launch.{Launch}
use Rattle.host_base.specs.declared.launch.Pair.{Pair}
use Rattle.host_base.specs.declared.launch.Peer.{Peer}
use Rattle.host_base.specs.declared.site.Script.{Script}
use Rattle.host_base.specs.declared.site.ScriptKind.{ScriptKind}
use Rattle.host_base.specs.declared.site.ScriptKind.TheVariants.{Cgi, Nph, WebSocket}
use Rattle.host_base.specs.declared.site.Site.{Site}
use Rattle.host_base.specs.LimitRanges.{default_limits}
use Rattle.host_trace.specs.declared.items.Event.TheVariants.{Accepted, ClientBytes, ClientEof, ClientGone, Started, StartFull, ChildBytes, ChildEof, Took, Exited, Tick, Stop}
use Rattle.host_trace.specs.declared.items.Act.TheVariants.{WantClient, Write, Shut, Start, Feed, EndInput, WantChild, Kill, Release}
use Rattle.host_trace.specs.declared.items.Item.{Item}
use Rattle.host_trace.specs.declared.items.Item.TheVariants.{In, Out}
use Rattle.host_trace.specs.declared.items.Why.TheVariants.{Done, Gone, Idle, NoMemory, Stopped}
use Rattle.scgi_model.specs.Verdict.{broken_by}
use Rattle.scgi_model.proofs.OnLiterals.{on_literals}

abbrev script : List ℕ → List ℕ → ScriptKind → Script
script path program kind = record { path = path; program = program; kind = kind; origins = None }

abbrev site : Site
site = record {
  listen = codes "127.0.0.1";
  port = 80;
  limits = record default_limits { idle_ticks = 2; run_ticks = 3; linger_ticks = 2 };
  hosts = record {
    name = codes "localhost";
    aliases = [];
    any = true;
    root = codes "/r";
    scripts = script (codes "/cgi-bin/hello") (codes "/p/hello") Cgi ∷ script (codes "/n") (codes "/p/n") Nph ∷ script (codes "/w") (codes "/p/w") WebSocket ∷ [];
  } ∷ [];
  docs = [];
}

abbrev peer : Peer
peer = record { 0 = codes "192.0.2.1" }

abbrev pair : List ℕ → List ℕ → List ℕ
pair name value = name ++ 0 ∷ value ++ 0 ∷ []

abbrev variable : List ℕ → List ℕ → Pair
variable name value = record { name = name; value = value }

abbrev request : List ℕ
request = codes "70:" ++ pair (codes "CONTENT_LENGTH") (codes "0") ++ pair (codes "SCGI") (codes "1") ++ pair (codes "REQUEST_METHOD") (codes "GET") ++ pair (codes "SCRIPT_NAME") (codes "/cgi-bin/hello") ++ codes ","

abbrev launch : Launch
launch = record {
  program = codes "/p/hello";
  dir = codes "/p";
  args = [];
  env = variable (codes "CONTENT_LENGTH") (codes "0") ∷ variable (codes "REQUEST_METHOD") (codes "GET")
      ∷ variable (codes "GATEWAY_INTERFACE") (codes "CGI/1.1") ∷ variable (codes "SCRIPT_NAME") (codes "/cgi-bin/hello") ∷ [];
}

abbrev output : List ℕ
output = codes "Content-Type: text/plain\n\nhi\n"

-- ---- good ones

abbrev answered_row : List Item
answered_row =
    In (Accepted peer) ∷ Out (WantClient 0)
    ∷ In (ClientBytes 0 request) ∷ Out (Start 0 0 0 0 launch)
    ∷ In (Started 0) ∷ Out (EndInput 0) ∷ Out (WantChild 0)
    ∷ In (ChildBytes 0 output) ∷ Out (WantChild 0)
    ∷ In (ChildEof 0) ∷ Out (Write 0 output) ∷ Out (Shut 0 Done)
    ∷ In (Exited 0) ∷ []

answered_is_good : broken_by site answered_row ≡ []
unfolding on_literals
answered_is_good = refl

-- by REQUEST_URI
abbrev uri_request : List ℕ
uri_request = codes "77:" ++ pair (codes "CONTENT_LENGTH") (codes "0") ++ pair (codes "SCGI") (codes "1") ++ pair (codes "REQUEST_METHOD") (codes "GET") ++ pair (codes "REQUEST_URI") (codes "/x/../cgi-bin/hello?q") ++ codes ","

abbrev uri_launch : Launch
uri_launch = record launch {
  env = variable (codes "CONTENT_LENGTH") (codes "0") ∷ variable (codes "REQUEST_METHOD") (codes "GET") ∷ variable (codes "REQUEST_URI") (codes "/x/../cgi-bin/hello?q")
      ∷ variable (codes "GATEWAY_INTERFACE") (codes "CGI/1.1") ∷ variable (codes "SCRIPT_NAME") (codes "/cgi-bin/hello") ∷ [];
}

uri_is_good : broken_by site (In (Accepted peer) ∷ Out (WantClient 0)
    ∷ In (ClientBytes 0 uri_request) ∷ Out (Start 0 0 0 0 uri_launch)
    ∷ In (Started 0) ∷ Out (EndInput 0) ∷ Out (WantChild 0)
    ∷ In (ChildBytes 0 output) ∷ Out (WantChild 0)
    ∷ In (ChildEof 0) ∷ Out (Write 0 output) ∷ Out (Shut 0 Done)
    ∷ In (Exited 0) ∷ []) ≡ []
unfolding on_literals
uri_is_good = refl

bad_is_good : broken_by site (In (Accepted peer) ∷ Out (WantClient 0)
    ∷ In (ClientBytes 0 (codes "x")) ∷ Out (Write 0 (codes "Status: 400 Bad Request\r\nContent-Type: text/plain\r\n\r\nbad scgi request\n")) ∷ Out (Shut 0 Done) ∷ []) ≡ []
unfolding on_literals
bad_is_good = refl

early_is_good : broken_by site (In (Accepted peer) ∷ Out (WantClient 0)
    ∷ In (ClientBytes 0 (codes "7")) ∷ Out (WantClient 0)
    ∷ In (ClientEof 0) ∷ Out (Write 0 (codes "Status: 400 Bad Request\r\nContent-Type: text/plain\r\n\r\nrequest ended early\n")) ∷ Out (Shut 0 Done) ∷ []) ≡ []
unfolding on_literals
early_is_good = refl

idle_is_good : broken_by site (In (Accepted peer) ∷ Out (WantClient 0) ∷ In (Tick 0) ∷ In (Tick 0) ∷ Out (Shut 0 Idle) ∷ []) ≡ []
unfolding on_literals
idle_is_good = refl

slow_is_good : broken_by site (In (Accepted peer) ∷ Out (WantClient 0) ∷ In (ClientBytes 0 (codes "7")) ∷ Out (WantClient 0) ∷ In (Tick 0)
    ∷ In (Tick 0) ∷ Out (Write 0 (codes "Status: 408 Request Timeout\r\nContent-Type: text/plain\r\n\r\nrequest took too long\n")) ∷ Out (Shut 0 Done) ∷ []) ≡ []
unfolding on_literals
slow_is_good = refl

gone_is_good : broken_by site (In (Accepted peer) ∷ Out (WantClient 0)
    ∷ In (ClientBytes 0 request) ∷ Out (Start 0 0 0 0 launch)
    ∷ In (Started 0) ∷ Out (EndInput 0) ∷ Out (WantChild 0)
    ∷ In (ClientGone 0) ∷ Out (Kill 0) ∷ Out (Shut 0 Gone)
    ∷ In (Exited 0) ∷ Out (Release 0) ∷ []) ≡ []
unfolding on_literals
gone_is_good = refl

-- the run time is over: the host's own answer, and the child is killed
late_is_good : broken_by site (In (Accepted peer) ∷ Out (WantClient 0)
    ∷ In (ClientBytes 0 request) ∷ Out (Start 0 0 0 0 launch)
    ∷ In (Started 0) ∷ Out (EndInput 0) ∷ Out (WantChild 0)
    ∷ In (Tick 0) ∷ In (Tick 0) ∷ In (Tick 0) ∷ Out (Write 0 (codes "Status: 504 Gateway Timeout\r\nContent-Type: text/plain\r\n\r\nscript took too long\n")) ∷ Out (Kill 0) ∷ Out (Shut 0 Done) ∷ []) ≡ []
unfolding on_literals
late_is_good = refl

-- a body, which is fed
abbrev post_request : List ℕ
post_request = codes "71:" ++ pair (codes "CONTENT_LENGTH") (codes "3") ++ pair (codes "SCGI") (codes "1") ++ pair (codes "REQUEST_METHOD") (codes "POST") ++ pair (codes "SCRIPT_NAME") (codes "/cgi-bin/hello") ++ codes ",abc"

abbrev post_launch : Launch
post_launch = record launch {
  env = variable (codes "CONTENT_LENGTH") (codes "3") ∷ variable (codes "REQUEST_METHOD") (codes "POST")
      ∷ variable (codes "GATEWAY_INTERFACE") (codes "CGI/1.1") ∷ variable (codes "SCRIPT_NAME") (codes "/cgi-bin/hello") ∷ [];
}

fed_is_good : broken_by site (In (Accepted peer) ∷ Out (WantClient 0)
    ∷ In (ClientBytes 0 post_request) ∷ Out (Start 0 0 0 0 post_launch)
    ∷ In (Started 0) ∷ Out (Feed 0 (codes "abc")) ∷ Out (EndInput 0) ∷ Out (WantChild 0)
    ∷ In (Took 0 3)
    ∷ In (ChildBytes 0 output) ∷ Out (WantChild 0)
    ∷ In (Exited 0)
    ∷ In (ChildEof 0) ∷ Out (Write 0 output) ∷ Out (Shut 0 Done) ∷ []) ≡ []
unfolding on_literals
fed_is_good = refl

-- as many children run as may
full_is_good : broken_by site (In (Accepted peer) ∷ Out (WantClient 0)
    ∷ In (ClientBytes 0 request) ∷ Out (Start 0 0 0 0 launch)
    ∷ In (StartFull 0 64) ∷ Out (Write 0 (codes "Status: 503 Service Unavailable\r\nContent-Type: text/plain\r\n\r\nchildren running: 64\n")) ∷ Out (Shut 0 Done) ∷ []) ≡ []
unfolding on_literals
full_is_good = refl

silent_is_good : broken_by site (In (Accepted peer) ∷ Out (WantClient 0)
    ∷ In (ClientBytes 0 request) ∷ Out (Start 0 0 0 0 launch)
    ∷ In (Started 0) ∷ Out (EndInput 0) ∷ Out (WantChild 0)
    ∷ In (ChildEof 0) ∷ Out (Write 0 (codes "Status: 502 Bad Gateway\r\nContent-Type: text/plain\r\n\r\nscript gave no output\n")) ∷ Out (Shut 0 Done)
    ∷ In (Tick 0) ∷ In (Tick 0) ∷ Out (Kill 0) ∷ In (Exited 0) ∷ []) ≡ []
unfolding on_literals
silent_is_good = refl

stopped_is_good : broken_by site (In (Accepted peer) ∷ Out (WantClient 0) ∷ In (ClientBytes 0 (codes "7")) ∷ Out (WantClient 0)
    ∷ In Stop ∷ Out (Shut 0 Stopped) ∷ []) ≡ []
unfolding on_literals
stopped_is_good = refl

-- no memory for the answer
lost_is_good : broken_by site (In (Accepted peer) ∷ Out (WantClient 0)
    ∷ In (ClientBytes 0 (codes "x")) ∷ Out (Shut 0 NoMemory) ∷ []) ≡ []
unfolding on_literals
lost_is_good = refl

left_is_good : broken_by site (In (Accepted peer) ∷ Out (WantClient 0) ∷ In (ClientEof 0) ∷ Out (Shut 0 Done) ∷ []) ≡ []
unfolding on_literals
left_is_good = refl

-- ---- wrong ones

-- the output before it has ended
streamed_is_wrong : broken_by site (In (Accepted peer) ∷ Out (WantClient 0)
    ∷ In (ClientBytes 0 request) ∷ Out (Start 0 0 0 0 launch)
    ∷ In (Started 0) ∷ Out (EndInput 0) ∷ Out (WantChild 0)
    ∷ In (ChildBytes 0 output) ∷ Out (Write 0 output) ∷ Out (WantChild 0) ∷ []) ≡ codes "replies" ∷ []
unfolding on_literals
streamed_is_wrong = refl

-- the answer without its end
cut_is_wrong : broken_by site (In (Accepted peer) ∷ Out (WantClient 0)
    ∷ In (ClientBytes 0 (codes "x")) ∷ Out (Write 0 (codes "Status: 400 Bad Request\r\nContent-Type: text/plain\r\n\r\nbad scgi request")) ∷ Out (Shut 0 Done) ∷ []) ≡ codes "replies" ∷ []
unfolding on_literals
cut_is_wrong = refl

-- no Start
unstarted_is_wrong : broken_by site (In (Accepted peer) ∷ Out (WantClient 0) ∷ In (ClientBytes 0 request) ∷ []) ≡ codes "begins" ∷ []
unfolding on_literals
unstarted_is_wrong = refl

-- another launch
launch_is_wrong : broken_by site (In (Accepted peer) ∷ Out (WantClient 0) ∷ In (ClientBytes 0 request) ∷ Out (Start 0 0 0 0 uri_launch) ∷ []) ≡ codes "launches" ∷ []
unfolding on_literals
launch_is_wrong = refl

-- not asked, and not shut
forgotten_is_wrong : broken_by site (In (Accepted peer) ∷ []) ≡ codes "wants" ∷ []
unfolding on_literals
forgotten_is_wrong = refl

unshut_is_wrong : broken_by site (In (Accepted peer) ∷ Out (WantClient 0) ∷ In (ClientEof 0) ∷ []) ≡ codes "shuts" ∷ []
unfolding on_literals
unshut_is_wrong = refl

-- a child that is left alone
unkilled_is_wrong : broken_by site (In (Accepted peer) ∷ Out (WantClient 0)
    ∷ In (ClientBytes 0 request) ∷ Out (Start 0 0 0 0 launch)
    ∷ In (Started 0) ∷ Out (EndInput 0) ∷ Out (WantChild 0)
    ∷ In (ClientGone 0) ∷ Out (Shut 0 Gone) ∷ []) ≡ codes "children" ∷ []
unfolding on_literals
unkilled_is_wrong = refl

-- a second child
again_is_wrong : broken_by site (In (Accepted peer) ∷ Out (WantClient 0)
    ∷ In (ClientBytes 0 request) ∷ Out (Start 0 0 0 0 launch) ∷ Out (Start 1 0 0 0 launch) ∷ []) ≡ codes "launches" ∷ []
unfolding on_literals
again_is_wrong = refl

-- asked while the script runs
asked_is_wrong : broken_by site (In (Accepted peer) ∷ Out (WantClient 0)
    ∷ In (ClientBytes 0 request) ∷ Out (Start 0 0 0 0 launch) ∷ Out (WantClient 0) ∷ []) ≡ codes "wants" ∷ []
unfolding on_literals
asked_is_wrong = refl

-- shut for another reason
idle_is_wrong : broken_by site (In (Accepted peer) ∷ Out (WantClient 0) ∷ In (Tick 0) ∷ In (Tick 0) ∷ Out (Shut 0 Done) ∷ []) ≡ codes "shuts" ∷ []
unfolding on_literals
idle_is_wrong = refl

-- a Tick too early
hasty_is_wrong : broken_by site (In (Accepted peer) ∷ Out (WantClient 0) ∷ In (Tick 0) ∷ Out (Shut 0 Idle) ∷ []) ≡ codes "shuts" ∷ []
unfolding on_literals
hasty_is_wrong = refl

-- the answer behind the Shut
late_is_wrong : broken_by site (In (Accepted peer) ∷ Out (WantClient 0)
    ∷ In (ClientBytes 0 (codes "x")) ∷ Out (Shut 0 Done) ∷ Out (Write 0 (codes "Status: 400 Bad Request\r\nContent-Type: text/plain\r\n\r\nbad scgi request\n")) ∷ []) ≡ codes "form" ∷ codes "order" ∷ []
unfolding on_literals
late_is_wrong = refl

-- the input ended before all of the body was fed
unfed_is_wrong : broken_by site (In (Accepted peer) ∷ Out (WantClient 0)
    ∷ In (ClientBytes 0 post_request) ∷ Out (Start 0 0 0 0 post_launch)
    ∷ In (Started 0) ∷ Out (Feed 0 (codes "ab")) ∷ Out (EndInput 0) ∷ Out (WantChild 0) ∷ []) ≡ codes "children" ∷ []
unfolding on_literals
unfed_is_wrong = refl
