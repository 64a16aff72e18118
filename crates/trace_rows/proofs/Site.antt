-- The site, the client and the texts of the small traces.
use Rattle.std.specs.Prelude.{ℕ, true, List, [], ◌∷◌, ◌++◌, Some, None, codes}
use Rattle.host_base.specs.declared.launch.Launch.{Launch}
use Rattle.host_base.specs.declared.launch.Pair.{Pair}
use Rattle.host_base.specs.declared.launch.Peer.{Peer}
use Rattle.host_base.specs.declared.site.Script.{Script}
use Rattle.host_base.specs.declared.site.ScriptKind.{ScriptKind}
use Rattle.host_base.specs.declared.site.ScriptKind.TheVariants.{Cgi, Nph, WebSocket}
use Rattle.host_base.specs.declared.site.Site.{Site}
use Rattle.host_base.specs.declared.limits.Limits.{Limits}
use Rattle.host_base.specs.LimitRanges.{default_limits}

abbrev pub script : List ℕ → List ℕ → ScriptKind → Script
script path program kind = record { path = path; program = program; kind = kind; origins = None }

abbrev pub small_limits : Limits
small_limits = record default_limits { head = 200; idle_ticks = 2; run_ticks = 3; linger_ticks = 2; redirects = 1; connections = 2; ws_text = 8 }

-- /h and /f are scripts, /n writes its own replies, and /w speaks WebSocket
abbrev pub site : Site
site = record {
  listen = codes "127.0.0.1";
  port = 80;
  limits = small_limits;
  hosts = record {
    name = codes "localhost";
    aliases = [];
    any = true;
    root = codes "/r";
    scripts = script (codes "/h") (codes "/p") Cgi ∷ script (codes "/f") (codes "/q") Cgi ∷ script (codes "/n") (codes "/r") Nph ∷ script (codes "/w") (codes "/s") WebSocket ∷ [];
  } ∷ [];
  docs = [];
}

abbrev pub site_of_two_redirects : Site
site_of_two_redirects = record site { limits = record small_limits { redirects = 2 } }

-- an output may have 30 bytes
abbrev pub site_of_small_output : Site
site_of_small_output = record site { limits = record small_limits { output = 30 } }

-- one host, whose WebSocket names the origin that it takes
abbrev pub site_with_origins : Site
site_with_origins = record site {
  hosts = record {
    name = codes "localhost";
    aliases = [];
    any = true;
    root = codes "/r";
    scripts = record { path = codes "/w"; program = codes "/s"; kind = WebSocket; origins = Some (codes "http://example.com" ∷ []) } ∷ [];
  } ∷ [];
}

abbrev pub peer : Peer
peer = record { 0 = codes "192.0.2.1" }

abbrev pub variable : List ℕ → List ℕ → Pair
variable name value = record { name = name; value = value }

-- what a program is started with for a request: the variables of a body, the fixed ones, and those of fields
abbrev pub launch_by : List Pair → List ℕ → List ℕ → List Pair → List ℕ → List ℕ → List ℕ → Launch
launch_by content server protocol fields program method name = record {
  program = program;
  dir = codes "/";
  args = [];
  env = content ++ variable (codes "GATEWAY_INTERFACE") (codes "CGI/1.1")
      ∷ variable (codes "QUERY_STRING") []
      ∷ variable (codes "REMOTE_ADDR") (codes "192.0.2.1")
      ∷ variable (codes "REMOTE_HOST") (codes "192.0.2.1")
      ∷ variable (codes "REQUEST_METHOD") method
      ∷ variable (codes "SCRIPT_NAME") name
      ∷ variable (codes "SERVER_NAME") server
      ∷ variable (codes "SERVER_PORT") (codes "80")
      ∷ variable (codes "SERVER_PROTOCOL") protocol
      ∷ variable (codes "SERVER_SOFTWARE") (codes "cgihost/1")
      ∷ fields;
}

abbrev pub host_field : List Pair
host_field = variable (codes "HTTP_HOST") (codes "a") ∷ []

abbrev pub launch : List ℕ → List ℕ → List ℕ → Launch
launch program method name = launch_by [] (codes "a") (codes "HTTP/1.1") host_field program method name

-- .. with a body of three bytes
abbrev pub launch_with_body : List ℕ → List ℕ → List ℕ → Launch
launch_with_body program method name =
    launch_by (variable (codes "CONTENT_LENGTH") (codes "3") ∷ []) (codes "a") (codes "HTTP/1.1") host_field program method name

-- .. for a request of HTTP/1.0 without a host
abbrev pub launch_10 : List ℕ → List ℕ → List ℕ → Launch
launch_10 program method name = launch_by [] (codes "localhost") (codes "HTTP/1.0") [] program method name

-- .. for a handshake
abbrev pub launch_talk : List ℕ → List ℕ → List ℕ → Launch
launch_talk program method name =
    launch_by [] (codes "a") (codes "HTTP/1.1")
    (variable (codes "HTTP_HOST") (codes "a")
    ∷ variable (codes "HTTP_SEC_WEBSOCKET_KEY") (codes "dGhlIHNhbXBsZSBub25jZQ==")
    ∷ variable (codes "HTTP_SEC_WEBSOCKET_VERSION") (codes "13") ∷ [])
    program method name
