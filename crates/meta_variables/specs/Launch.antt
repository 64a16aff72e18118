-- What a script is started with (RFC 3875 4.1, 4.4 and 7.2).
use Rattle.std.specs.Prelude.{◌≡◌, ℕ, Bool, true, ◌&&◌, List, [], ◌∷◌, Option, option_map, option_and_then, slice_get, is_some, if◌then◌else◌}
use Rattle.std.specs.List.{before_last, list_any}
use Rattle.std.specs.Option.{option_map_or}
use Rattle.std.specs.Str.{is_utf8}
use Rattle.host_base.specs.declared.launch.Launch.{Launch}
use Rattle.host_base.specs.declared.launch.Pair.{Pair}
use Rattle.host_base.specs.declared.launch.Peer.{Peer}
use Rattle.host_base.specs.declared.request.Request.{Request}
use Rattle.host_base.specs.declared.site.Mapped.{Mapped}
use Rattle.host_base.specs.declared.site.Script.{Script}
use Rattle.host_base.specs.declared.site.Site.{Site}
use Rattle.host_base.specs.declared.site.VHost.{VHost}
use Rattle.script_map.specs.DotSegments.{is_slash}
use Rattle.search_words.specs.SearchWords.{words_in}
use Rattle.search_words.specs.declared.words.Words.{Words}
use Rattle.search_words.specs.declared.words.Words.TheVariants.{Args, Nothing}
use Rattle.meta_variables.specs.Environment.{environment_at}
use Rattle.meta_variables.specs.Variables.{is_filled}

-- the folder of a program: what stands before its last "/", or "/" where that is empty or there is none (RFC 3875 7.2)
abbrev pub folder_of : List ℕ → List ℕ
folder_of program =
    if list_any is_slash program && is_filled (before_last is_slash program) then before_last is_slash program else 47 ∷ []

abbrev pub args_of : Words → List (List ℕ)
args_of (Args words) = words
args_of Nothing = []

-- a program in its folder, with its arguments and its whole environment
abbrev pub launch_with : Script → List (List ℕ) → List Pair → Launch
launch_with script args env = record { program = script.program; dir = folder_of script.program; args = args; env = env }

abbrev pub launch_at : Site → Peer → Request → Mapped → VHost → Script → Launch
launch_at site peer request mapped host script =
    launch_with script (args_of (words_in request.method request.target.query)) (environment_at site host peer request mapped)

abbrev pub launch_in : Site → Peer → Request → Mapped → VHost → Option Launch
launch_in site peer request mapped host =
    option_map (launch_at site peer request mapped host) (slice_get host.scripts mapped.index)

-- The launch of a mapped script: the script at the mapping's place in the host at the mapping's place.
abbrev pub launch_of : Site → Peer → Request → Mapped → Option Launch
launch_of site peer request mapped = option_and_then (launch_in site peer request mapped) (slice_get site.hosts mapped.host)

abbrev pub script_in : VHost → Mapped → Option Script
script_in host mapped = slice_get host.scripts mapped.index

-- the mapping names a script of the site
abbrev pub NamesScript : Site → Mapped → Type 0
NamesScript site mapped = is_some (option_and_then (λ host. script_in host mapped) (slice_get site.hosts mapped.host)) ≡ true

abbrev pub is_text_or_none : Option (List ℕ) → Bool
is_text_or_none bytes = option_map_or is_utf8 bytes true

-- the method, the query and the host of a request are texts
pub record HasTexts (request : Request) : Type 0 where
  pub method : is_utf8 request.method ≡ true
  pub query : is_text_or_none request.target.query ≡ true
  pub host : is_text_or_none request.target.host ≡ true
