-- The site file: its keys in their order, each with its kind and range, and with its default where the table may
-- leave it out. The first fault is that of the first key here that has one.
use Rattle.std.specs.Prelude.{◌≡◌, ℕ, Bool, true, false, ◌==◌, ◌&&◌, nat_lt, List, [], ◌∷◌, ◌++◌, length, Option, Some, None, option_map, option_and_then, Result, Ok, Err, codes, if◌then◌else◌}
use Rattle.std.specs.Cmp.Lexicographic.{slice_cmp}
use Rattle.std.specs.Option.{option_map_or}
use Rattle.std.specs.Ordering.{nat_cmp, match_ordering}
use Rattle.std.specs.Str.{is_utf8}
use Rattle.toml.specs.Data.{Data, Members, no_members, member, get_member, as_str, as_bool, as_table}
use Rattle.toml.specs.Parse.{parse_document}
use Rattle.host_base.specs.declared.launch.Pair.{Pair}
use Rattle.host_base.specs.declared.limits.Limits.{Limits}
use Rattle.host_base.specs.declared.site.Script.{Script}
use Rattle.host_base.specs.declared.site.ScriptKind.{ScriptKind}
use Rattle.host_base.specs.declared.site.ScriptKind.TheVariants.{Cgi, Nph, WebSocket}
use Rattle.host_base.specs.declared.site.Site.{Site}
use Rattle.site_file.specs.declared.fault.SiteFault.{SiteFault}
use Rattle.site_file.specs.declared.fault.SiteFault.TheVariants.{NotToml}
use Rattle.site_file.specs.declared.said.ByteLimits.{ByteLimits}
use Rattle.site_file.specs.declared.said.CountLimits.{CountLimits}
use Rattle.site_file.specs.declared.said.SaidDocuments.{SaidDocuments}
use Rattle.site_file.specs.declared.said.SaidHost.{SaidHost}
use Rattle.site_file.specs.declared.said.SaidSite.{SaidSite}
use Rattle.site_file.specs.declared.said.TickLimits.{TickLimits}
use Rattle.site_file.specs.Doubles.{double_in}
use Rattle.site_file.specs.Keys.{required, optional, any_value, ranged, required_number, optional_number, as_texts, as_tables, are_between, entry, each_from}
use Rattle.site_file.specs.Numbering.{site_of}
use Rattle.site_file.specs.Ranges.{is_host_name, is_address, is_folder, is_script_path, is_program, is_kind, kind_named, are_at_most_64, are_aliases, is_extension, is_media_type}
use Rattle.site_file.specs.Steps.{◌>>=◌, unless}
use Rattle.site_file.specs.Unknown.{unknown_in_1, unknown_in_2}

-- ---- limits, each with its least and greatest value and its default

-- bytes
unfoldable pub byte_limits_in : List ℕ → Members → Result ByteLimits SiteFault
byte_limits_in place table = do
  head ← optional_number place table (codes "head") 1024 65536 16384
  target ← optional_number place table (codes "target") 64 32000 8000
  body ← optional_number place table (codes "body") 0 16777216 1048576
  output ← optional_number place table (codes "output") 8192 16777216 16777216
  Ok (record { head = head; target = target; body = body; output = output })

-- ticks of 100 ms
unfoldable pub tick_limits_in : List ℕ → Members → Result TickLimits SiteFault
tick_limits_in place table = do
  run ← optional_number place table (codes "run_ticks") 1 864000 300
  idle ← optional_number place table (codes "idle_ticks") 1 36000 150
  linger ← optional_number place table (codes "linger_ticks") 1 600 20
  Ok (record { run = run; idle = idle; linger = linger })

-- counts, and bytes of a WebSocket text
unfoldable pub count_limits_in : List ℕ → Members → Result CountLimits SiteFault
count_limits_in place table = do
  redirects ← optional_number place table (codes "redirects") 0 10 10
  connections ← optional_number place table (codes "connections") 1 1024 256
  children ← optional_number place table (codes "children") 1 256 64
  ws_text ← optional_number place table (codes "ws_text") 1 1048576 65536
  Ok (record { redirects = redirects; connections = connections; children = children; ws_text = ws_text })

unfoldable pub limits_in : List ℕ → Members → Result Limits SiteFault
limits_in place table = do
  bytes ← byte_limits_in place table
  ticks ← tick_limits_in place table
  counts ← count_limits_in place table
  Ok (record {
    head = bytes.head;
    target = bytes.target;
    body = bytes.body;
    output = bytes.output;
    run_ticks = ticks.run;
    idle_ticks = ticks.idle;
    linger_ticks = ticks.linger;
    redirects = counts.redirects;
    connections = counts.connections;
    children = counts.children;
    ws_text = counts.ws_text;
  })

-- the table `limits`, which is empty where there is none
unfoldable pub limits_of : Members → Result Limits SiteFault
limits_of table = do
  limits ← optional as_table any_value [] table (codes "limits") no_members
  limits_in (codes "limits.") limits

-- ---- a script

-- origins stand beside the kind websocket alone, and all are taken where there are none
unfoldable pub origins_in : ScriptKind → List ℕ → Members → Result (Option (List (List ℕ))) SiteFault
origins_in Cgi place table = Ok None
origins_in Nph place table = Ok None
origins_in WebSocket place table = optional (λ found. option_map Some (as_texts found)) (λ found. option_map_or are_at_most_64 found true) place table (codes "origins") None

unfoldable pub script_in : List ℕ → Members → Result Script SiteFault
script_in place table = do
  path ← required as_str is_script_path place table (codes "path")
  program ← required as_str is_program place table (codes "program")
  kind ← optional as_str is_kind place table (codes "kind") (codes "cgi")
  origins ← origins_in (kind_named kind) place table
  Ok (record { path = path; program = program; kind = kind_named kind; origins = origins })

-- ---- documents

-- media types by extensions, the least extension by its bytes first
unfoldable pub type_in : List ℕ → List ℕ → Data → Result Pair SiteFault
type_in place extension found = do
  type ← ranged (λ type. is_extension extension && is_media_type type) (place ++ extension) (as_str found)
  Ok (record { name = extension; value = type })

-- a type among others whose extensions ascend by their bytes
unfoldable pub put_type : Pair → List Pair → List Pair
put_type type [] = type ∷ []
put_type type (first ∷ rest) = match_ordering (slice_cmp nat_cmp type.name first.name) (type ∷ first ∷ rest) (type ∷ rest) (first ∷ put_type type rest)

unfoldable pub types_in : List ℕ → Members → Result (List Pair) SiteFault
types_in place no_members = Ok []
types_in place (member extension found rest) = do
  type ← type_in place extension found
  types ← types_in place rest
  Ok (put_type type types)

unfoldable pub types_of : List ℕ → Members → Result (List Pair) SiteFault
types_of place table = do
  types ← optional as_table any_value place table (codes "types") no_members
  types_in (place ++ codes "types.") types

unfoldable pub documents_in : List ℕ → Members → Result SaidDocuments SiteFault
documents_in place table = do
  path ← required as_str is_script_path place table (codes "path")
  root ← optional as_str is_folder place table (codes "root") (codes "/srv/www")
  types ← types_of place table
  Ok (record { path = path; root = root; types = types })

unfoldable pub all_documents_in : List ℕ → List Members → Result (List SaidDocuments) SiteFault
all_documents_in place tables = each_from (λ index table. documents_in (entry place (codes "documents") index) table) 0 tables

-- ---- a host

unfoldable pub scripts_in : List ℕ → List Members → Result (List Script) SiteFault
scripts_in place tables = each_from (λ index table. script_in (entry place (codes "script") index) table) 0 tables

-- a host that has documents may have no script
unfoldable pub has_documents : Members → Bool
has_documents table = option_map_or (λ tables. nat_lt 0 (length tables)) (option_and_then as_tables (get_member (codes "documents") table)) false

unfoldable pub script_tables_in : List ℕ → Members → Result (List Members) SiteFault
script_tables_in place table =
    if has_documents table then optional as_tables (are_between 1 256) place table (codes "script") []
    else required as_tables (are_between 1 256) place table (codes "script")

unfoldable pub host_in : List ℕ → Members → Result SaidHost SiteFault
host_in place table = do
  name ← required as_str is_host_name place table (codes "name")
  aliases ← optional as_texts are_aliases place table (codes "aliases") []
  any ← optional as_bool any_value place table (codes "any") false
  root ← optional as_str is_folder place table (codes "root") (codes "/srv/www")
  script ← script_tables_in place table
  scripts ← scripts_in place script
  documents ← optional as_tables (are_between 0 16) place table (codes "documents") []
  documents ← all_documents_in place documents
  Ok (record { name = name; aliases = aliases; any = any; root = root; scripts = scripts; documents = documents })

unfoldable pub hosts_in : List Members → Result (List SaidHost) SiteFault
hosts_in tables = each_from (λ index table. host_in (entry [] (codes "host") index) table) 0 tables

-- ---- the top

unfoldable pub port_in : Members → Result ℕ SiteFault
port_in table = optional_number [] table (codes "port") 1 65535 8080

-- version 1: one host, which takes any name
abbrev pub host_of_1 : List ℕ → List ℕ → List Script → SaidHost
host_of_1 name root scripts = record { name = name; aliases = []; any = true; root = root; scripts = scripts; documents = [] }

unfoldable pub file_1 : Members → Result SaidSite SiteFault
file_1 table = do
  name ← optional as_str is_host_name [] table (codes "name") (codes "localhost")
  listen ← optional as_str is_address [] table (codes "listen") (codes "127.0.0.1")
  port ← port_in table
  root ← optional as_str is_folder [] table (codes "root") (codes "/srv/www")
  limits ← limits_of table
  script ← required as_tables (are_between 1 256) [] table (codes "script")
  scripts ← scripts_in [] script
  Ok (record { listen = listen; port = port; limits = limits; hosts = host_of_1 name root scripts ∷ [] })

-- version 2: up to 64 hosts
unfoldable pub file_2 : Members → Result SaidSite SiteFault
file_2 table = do
  listen ← optional as_str is_address [] table (codes "listen") (codes "127.0.0.1")
  port ← port_in table
  limits ← limits_of table
  host ← required as_tables (are_between 1 64) [] table (codes "host")
  hosts ← hosts_in host
  Ok (record { listen = listen; port = port; limits = limits; hosts = hosts })

-- ---- the whole file: first the faults of its keys, then unknown keys, then what stands twice

abbrev pub file_in : ℕ → Members → Result SaidSite SiteFault
file_in version table = if version == 1 then file_1 table else file_2 table

abbrev pub unknown_in : ℕ → Members → Option SiteFault
unknown_in version table = if version == 1 then unknown_in_1 table else unknown_in_2 table

abbrev pub single : Site → Result Site SiteFault
single site = unless (double_in site.hosts) (Ok site)

unfoldable pub site_in : Members → Result Site SiteFault
site_in table = do
  version ← required_number [] table (codes "version") 1 2
  said ← file_in version table
  unless (unknown_in version table) (single (site_of said))

abbrev pub site_in_document : Option Members → Result Site SiteFault
site_in_document None = Err NotToml
site_in_document (Some table) = site_in table

-- What the bytes of a site file say: a site, or the first fault. They are a TOML document in UTF-8.
abbrev pub site_said : List ℕ → Result Site SiteFault
site_said bytes = if is_utf8 bytes then site_in_document (parse_document bytes) else Err NotToml

-- some document says the site
abbrev pub IsSaid : Site → Type 0
IsSaid site = (table : Members) × (site_in table ≡ Ok site)
