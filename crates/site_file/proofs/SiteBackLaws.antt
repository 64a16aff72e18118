-- The document that is written for a site says the site.
use Rattle.std.proofs.Common.{◌≡◌, lit≤, ℕ, suc, ◌+◌, ◌≤◌, Bool, true, false, not, ◌==◌, ◌&&◌, cond, List, [], ◌∷◌, ◌++◌, drop, map, length, Option, Some, None, Ok, All, arith, rules, refl, ap, sym, ◌∙◌, subst, codes}
use Rattle.std.specs.List.{flat_map, ends_with}
use Rattle.std.specs.Prelude.{filter, count_by}
use Rattle.std.proofs.lemmas.Bool.{false≢true, and_parts, le-leb}
use Rattle.std.proofs.lemmas.List.{length-map, drop-append-le, drop_all, append-nil as append_nil}
use Rattle.std.proofs.lemmas.List.Elements.{filter-append, All-nil, All-cons, All-head, All-tail}
use Rattle.std.proofs.lemmas.Str.{is_utf8-from_IsUtf8}
use Rattle.std.specs.Str.{IsUtf8}
use Rattle.std.proofs.lemmas.List.Sums.{length-filter}
use Rattle.toml.specs.Data.{Data, string, table, Members, no_members, get_member, as_str, as_table}
use Rattle.toml.specs.Parse.{parse_document}
use Rattle.host_base.specs.declared.limits.Limits.{Limits}
use Rattle.host_base.specs.declared.site.DocRoot.{DocRoot}
use Rattle.host_base.specs.declared.site.Script.{Script}
use Rattle.host_base.specs.declared.site.ScriptKind.{ScriptKind}
use Rattle.host_base.specs.declared.site.Site.{Site}
use Rattle.host_base.specs.declared.site.ScriptKind.TheVariants.{Cgi, Nph, WebSocket}
use Rattle.host_base.specs.LimitRanges.{AreInRange, IsWithin}
use Rattle.site_file.specs.declared.fault.SiteFault.{SiteFault}
use Rattle.site_file.specs.declared.levels.Level.TheVariants.{Documents, Host, Version2, Limits as LimitKeys}
use Rattle.site_file.specs.declared.said.SaidDocuments.{SaidDocuments}
use Rattle.site_file.specs.declared.said.SaidHost.{SaidHost}
use Rattle.site_file.specs.declared.said.SaidSite.{SaidSite}
use Rattle.site_file.specs.Keys.{required, optional, optional_number, required_number, any_value, as_tables, are_between, entry}
use Rattle.site_file.specs.Numbering.{documents_script, documents_scripts, doc_root_of, folders_of, host_of, hosts_of, site_of}
use Rattle.site_file.specs.Ranges.{has_nul, is_address, is_host_name, is_folder}
use Rattle.site_file.specs.SiteFile.{byte_limits_in, tick_limits_in, count_limits_in, limits_in, limits_of, port_in, script_in, scripts_in, host_in, hosts_in, host_of_1, file_1, file_2, file_in, unknown_in, single, site_in, site_said, IsSaid}
use Rattle.site_file.specs.SiteLaws.{SitesComeBack}
use Rattle.site_file.specs.Doubles.{double_in}
use Rattle.site_file.specs.SiteText.{put, number, tables, some_tables, put_bytes, put_ticks, put_counts, limits_members, script_members, documents_members, has_file, is_documents, zip_documents, host_members, host_tables, document_of}
use Rattle.site_file.specs.Steps.{◌>>=◌, or_else, unless}
use Rattle.site_file.specs.Unknown.{tables_at, first_from, unknown_at, is_web_socket, unknown_in_script, unknown_in_scripts, unknown_in_documents, unknown_in_limits, unknown_in_host, unknown_in_hosts, unknown_in_2}
use Rattle.site_file.proofs.BackLaws.{tables_back, each_back, IsGoodScript, script_good, IsGoodDocuments, said_documents}
use Rattle.site_file.proofs.HostBackLaws.{IsGoodHost, host_good, host_back, required_back, optional_back, between_back, host_written, scripts_written, documents_written, said_host, rows}
use Rattle.site_file.proofs.InRangeLaws.{read_parts, unless_parts, ok_parts, required_ok, optional_ok, optional_number_ok, limits_ok, each_length, each_all}
use Rattle.site_file.proofs.ServedLaws.{few_tables, at_most, at_least}

some_more : (a b n : ℕ) → a ≡ b → 1 ≤ b → 1 ≤ a + n
some_more a b n same some = omega arith

-- ---- limits

number_back : (place : List ℕ) (inner : Members) (key : List ℕ) (least greatest default n : ℕ) → get_member key inner ≡ Some (number n) → IsWithin least greatest n
    → optional_number place inner key least greatest default ≡ Ok n
unfolding optional_number
number_back place inner key least greatest default n there within = rw (there, le-leb least n within.0, le-leb n greatest within.1)

limits_inner : (place : List ℕ) (limits : Limits) → AreInRange limits → limits_in place (limits_members limits) ≡ Ok limits
unfolding limits_in byte_limits_in tick_limits_in count_limits_in limits_members put_bytes put_ticks put_counts put
limits_inner place limits ranges =
    let inner = limits_members limits in
    rw (
      number_back place inner (codes "head") 1024 65536 16384 limits.head refl ranges.head,
      number_back place inner (codes "target") 64 32000 8000 limits.target refl ranges.target,
      number_back place inner (codes "body") 0 16777216 1048576 limits.body refl (omega arith, ranges.body),
      number_back place inner (codes "output") 8192 16777216 16777216 limits.output refl ranges.output,
      number_back place inner (codes "run_ticks") 1 864000 300 limits.run_ticks refl ranges.run_ticks,
      number_back place inner (codes "idle_ticks") 1 36000 150 limits.idle_ticks refl ranges.idle_ticks,
      number_back place inner (codes "linger_ticks") 1 600 20 limits.linger_ticks refl ranges.linger_ticks,
      number_back place inner (codes "redirects") 0 10 10 limits.redirects refl (omega arith, ranges.redirects),
      number_back place inner (codes "connections") 1 1024 256 limits.connections refl ranges.connections,
      number_back place inner (codes "children") 1 256 64 limits.children refl ranges.children,
      number_back place inner (codes "ws_text") 1 1048576 65536 limits.ws_text refl ranges.ws_text,
    )

pub limits_back : (inner : Members) (limits : Limits) → get_member (codes "limits") inner ≡ Some (table (limits_members limits)) → AreInRange limits → limits_of inner ≡ Ok limits
unfolding limits_of
limits_back inner limits there ranges =
    rw (optional_back as_table any_value [] inner (codes "limits") no_members (table (limits_members limits)) (limits_members limits) there refl refl) (limits_inner (codes "limits.") limits ranges)

-- ---- a site's scripts are those of the file, then those of documents

program_has_file : (script : Script) → IsGoodScript script → has_file script ≡ true
program_has_file script good =
    (and_parts (has_file script) (not (ends_with (λ a b. a == b) script.program (codes "/")))
    (and_parts (has_file script && not (ends_with (λ a b. a == b) script.program (codes "/"))) (not (has_nul script.program)) good.program).0).0

kept_all : (scripts : List Script) → All IsGoodScript scripts → (filter has_file scripts ≡ scripts) × (filter is_documents scripts ≡ [])
kept_all [] good = (refl, refl)
kept_all (script ∷ scripts) good =
    let here = program_has_file script (All-head IsGoodScript script scripts good) in
    let (files, others) = kept_all scripts (All-tail IsGoodScript script scripts good) in
    (rw (here, files), rw (here, others))

kept_none : (n : ℕ) (documents : List SaidDocuments) → (filter has_file (documents_scripts n documents) ≡ []) × (filter is_documents (documents_scripts n documents) ≡ documents_scripts n documents)
kept_none n [] = (refl, refl)
kept_none n (first ∷ documents) =
    let (files, others) = kept_none (n + 1) documents in
    (files, ap (λ rest. documents_script n first ∷ rest) others)

files_of : (n : ℕ) (host : SaidHost) → All IsGoodScript host.scripts → filter has_file (host_of n host).scripts ≡ host.scripts
files_of n host good =
    filter-append has_file host.scripts (documents_scripts n host.documents)
    ∙ ap (λ rest. filter has_file host.scripts ++ rest) (kept_none n host.documents).0
    ∙ append_nil (filter has_file host.scripts) ∙ (kept_all host.scripts good).0

others_of : (n : ℕ) (host : SaidHost) → All IsGoodScript host.scripts → filter is_documents (host_of n host).scripts ≡ documents_scripts n host.documents
others_of n host good =
    filter-append is_documents host.scripts (documents_scripts n host.documents)
    ∙ ap (λ front. front ++ filter is_documents (documents_scripts n host.documents)) (kept_all host.scripts good).1
    ∙ (kept_none n host.documents).1

zip_folders : (n : ℕ) (documents : List SaidDocuments) (more : List DocRoot) → zip_documents (documents_scripts n documents) (map doc_root_of documents ++ more) ≡ map said_documents documents
zip_folders n [] more = refl
zip_folders n (first ∷ documents) more = ap (λ rest. said_documents first ∷ rest) (zip_folders (n + 1) documents more)

length-numbered : (n : ℕ) (documents : List SaidDocuments) → length (documents_scripts n documents) ≡ length documents
length-numbered n [] = refl
length-numbered n (first ∷ documents) = ap (λ n. suc n) (length-numbered (n + 1) documents)

host_is_written : (n : ℕ) (host : SaidHost) (more : List DocRoot) → All IsGoodScript host.scripts → host_members (host_of n host) (folders_of host ++ more) ≡ said_host host
unfolding host_members said_host host_written scripts_written documents_written
host_is_written n host more good = rw (files_of n host good, others_of n host good, zip_folders n host.documents more)

dropped : (folders more : List DocRoot) (count : ℕ) → count ≡ length folders → drop count (folders ++ more) ≡ more
dropped folders more count same =
    rw same (drop-append-le (length folders) folders more (omega arith) ∙ ap (λ front. front ++ more) (drop_all (length folders) folders (omega arith)))

count_of : (n : ℕ) (host : SaidHost) → All IsGoodScript host.scripts → count_by is_documents (host_of n host).scripts ≡ length (folders_of host)
count_of n host good =
    let same : length (folders_of host) ≡ length host.documents = search (rules, length-map) in
    sym (length-filter is_documents (host_of n host).scripts) ∙ ap length (others_of n host good) ∙ length-numbered n host.documents ∙ sym same

pub hosts_are_written : (n : ℕ) (hosts : List SaidHost) → All IsGoodHost hosts → host_tables (hosts_of n hosts) (flat_map folders_of hosts) ≡ map said_host hosts
unfolding host_tables
hosts_are_written n [] good = refl
hosts_are_written n (host ∷ hosts) good =
    let here = All-head IsGoodHost host hosts good in
    let rest = flat_map folders_of hosts in
    ap (λ first. first ∷ host_tables (hosts_of (n + length host.documents) hosts) (drop (count_by is_documents (host_of n host).scripts) (folders_of host ++ rest))) (host_is_written n host rest here.scripts)
    ∙ ap (λ left. said_host host ∷ host_tables (hosts_of (n + length host.documents) hosts) left) (dropped (folders_of host) rest (count_by is_documents (host_of n host).scripts) (count_of n host here.scripts))
    ∙ ap (λ more. said_host host ∷ more) (hosts_are_written (n + length host.documents) hosts (All-tail IsGoodHost host hosts good))

-- ---- no unknown key is written

script_known : (place path program : List ℕ) (kind : ScriptKind) (origins : Option (List (List ℕ)))
    → IsGoodScript (record { path = path; program = program; kind = kind; origins = origins }) → unknown_in_script place (script_members (record { path = path; program = program; kind = kind; origins = origins })) ≡ None
unfolding unknown_in_script is_web_socket unknown_at script_members put
script_known place path program Cgi None good = refl
script_known place path program Cgi (Some list) good = absurd (false≢true good.origins)
script_known place path program Nph None good = refl
script_known place path program Nph (Some list) good = absurd (false≢true good.origins)
script_known place path program WebSocket None good = refl
script_known place path program WebSocket (Some list) good = refl

scripts_known : (place : List ℕ) (index : ℕ) (scripts : List Script) → All IsGoodScript scripts
    → first_from (λ index table. unknown_in_script (entry place (codes "script") index) table) index (map script_members scripts) ≡ None
unfolding first_from
scripts_known place index [] good = refl
scripts_known place index (script ∷ scripts) good =
    rw (script_known (entry place (codes "script") index) script.path script.program script.kind script.origins (All-head IsGoodScript script scripts good))
    (scripts_known place (index + 1) scripts (All-tail IsGoodScript script scripts good))

documents_known : (place : List ℕ) (index : ℕ) (documents : List SaidDocuments)
    → first_from (λ index table. unknown_at Documents (entry place (codes "documents") index) table) index (map said_documents documents) ≡ None
unfolding first_from unknown_at documents_members put
documents_known place index [] = refl
documents_known place index (first ∷ documents) = documents_known place (index + 1) documents

host_keys_known : (place name : List ℕ) (aliases : List (List ℕ)) (any : Bool) (root : List ℕ) (script documents : Option Data)
    → unknown_at Host place (host_written name aliases any root script documents) ≡ None
unfolding unknown_at host_written put
host_keys_known place name aliases any root None None = refl
host_keys_known place name aliases any root (Some s) None = refl
host_keys_known place name aliases any root None (Some d) = refl
host_keys_known place name aliases any root (Some s) (Some d) = refl

tables_at_back : (inner : Members) (key : List ℕ) (list : List Members) → get_member key inner ≡ some_tables list → tables_at key inner ≡ list
tables_at_back inner key [] there = rw there
tables_at_back inner key (first ∷ list) there = rw (there, tables_back list)

no_fault : (a b c : Option SiteFault) → a ≡ None → b ≡ None → c ≡ None → or_else a (or_else b c) ≡ None
no_fault a b c ea eb ec = rw (ea, eb, ec)

host_known : (place : List ℕ) (host : SaidHost) → IsGoodHost host → unknown_in_host place (said_host host) ≡ None
unfolding unknown_in_host said_host unknown_in_scripts unknown_in_documents scripts_written documents_written
host_known place host good =
    let scripts = map script_members host.scripts in
    let documents = map said_documents host.documents in
    let inner = host_written host.name host.aliases host.any host.root (some_tables scripts) (some_tables documents) in
    let row = rows host.name host.aliases host.any host.root (some_tables scripts) (some_tables documents) in
    no_fault _ _ _ (host_keys_known place host.name host.aliases host.any host.root (some_tables scripts) (some_tables documents))
    (ap (λ list. first_from (λ index table. unknown_in_script (entry place (codes "script") index) table) 0 list) (tables_at_back inner (codes "script") scripts row.script_row) ∙ scripts_known place 0 host.scripts good.scripts)
    (ap (λ list. first_from (λ index table. unknown_at Documents (entry place (codes "documents") index) table) 0 list) (tables_at_back inner (codes "documents") documents row.documents_row) ∙ documents_known place 0 host.documents)

hosts_known : (index : ℕ) (hosts : List SaidHost) → All IsGoodHost hosts
    → first_from (λ index table. unknown_in_host (entry [] (codes "host") index) table) index (map said_host hosts) ≡ None
unfolding first_from
hosts_known index [] good = refl
hosts_known index (host ∷ hosts) good =
    rw (host_known (entry [] (codes "host") index) host (All-head IsGoodHost host hosts good)) (hosts_known (index + 1) hosts (All-tail IsGoodHost host hosts good))

-- ---- the whole file

pub record IsGoodFile (said : SaidSite) : Type 0 where
  pub listen : is_address said.listen ≡ true
  pub port : IsWithin 1 65535 said.port
  pub limits : AreInRange said.limits
  pub some : 1 ≤ length said.hosts
  pub few : length said.hosts ≤ 64
  pub hosts : All IsGoodHost said.hosts

unfoldable file_written : SaidSite → List Members → Members
file_written said list =
    put (codes "version") (number 2) (put (codes "listen") (string said.listen) (put (codes "port") (number said.port)
    (put (codes "limits") (table (limits_members said.limits)) (put (codes "host") (tables list) no_members))))

is_written : (said : SaidSite) → IsGoodFile said → document_of (site_of said) ≡ file_written said (map said_host said.hosts)
unfolding document_of file_written
is_written said good = ap (file_written said) (hosts_are_written 0 said.hosts good.hosts)

file_back : (said : SaidSite) → IsGoodFile said → file_2 (file_written said (map said_host said.hosts)) ≡ Ok said
unfolding file_2 file_written put port_in hosts_in
file_back said good =
    let list = map said_host said.hosts in
    let inner = file_written said list in
    let same : length list ≡ length said.hosts = search (rules, length-map) in
    rw (
      optional_back as_str is_address [] inner (codes "listen") (codes "127.0.0.1") (string said.listen) said.listen refl refl good.listen,
      number_back [] inner (codes "port") 1 65535 8080 said.port refl good.port,
      limits_back inner said.limits refl good.limits,
      required_back as_tables (are_between 1 64) [] inner (codes "host") (tables list) list refl (tables_back list) (between_back 1 64 list (at_least _ _ 1 same good.some) (at_most _ _ 64 same good.few)),
      each_back (λ index table. host_in (entry [] (codes "host") index) table) said_host IsGoodHost (λ index host good. host_back (entry [] (codes "host") index) host good) 0 said.hosts good.hosts,
    )

limits_known : (limits : Limits) → unknown_at LimitKeys (codes "limits.") (limits_members limits) ≡ None
unfolding unknown_at limits_members put_bytes put_ticks put_counts put
limits_known limits = refl

top_known : (said : SaidSite) (list : List Members) → unknown_at Version2 [] (file_written said list) ≡ None
unfolding unknown_at file_written put
top_known said list = refl

limits_part : (said : SaidSite) (list : List Members) → unknown_in_limits (file_written said list) ≡ unknown_at LimitKeys (codes "limits.") (limits_members said.limits)
unfolding unknown_in_limits file_written put
limits_part said list = refl

hosts_part : (said : SaidSite) (list : List Members) → tables_at (codes "host") (file_written said list) ≡ list
unfolding file_written put
hosts_part said list = rw (tables_back list)

file_known : (said : SaidSite) → IsGoodFile said → unknown_in_2 (file_written said (map said_host said.hosts)) ≡ None
unfolding unknown_in_2 unknown_in_hosts
file_known said good =
    let list = map said_host said.hosts in
    no_fault _ _ _ (top_known said list) (limits_part said list ∙ limits_known said.limits)
    (ap (λ list. first_from (λ index table. unknown_in_host (entry [] (codes "host") index) table) 0 list) (hosts_part said list) ∙ hosts_known 0 said.hosts good.hosts)

version_back : (said : SaidSite) (list : List Members) → required_number [] (file_written said list) (codes "version") 1 2 ≡ Ok 2
unfolding required_number file_written put
version_back said list = refl

file_1_good : (inner : Members) (said : SaidSite) → file_1 inner ≡ Ok said → IsGoodFile said
unfolding file_1 scripts_in port_in
file_1_good inner said e =
    let name = read_parts (optional as_str is_host_name [] inner (codes "name") (codes "localhost")) _ _ e in
    let listen = read_parts (optional as_str is_address [] inner (codes "listen") (codes "127.0.0.1")) _ _ name.rest in
    let port = read_parts (port_in inner) _ _ listen.rest in
    let root = read_parts (optional as_str is_folder [] inner (codes "root") (codes "/srv/www")) _ _ port.rest in
    let limits = read_parts (limits_of inner) _ _ root.rest in
    let script = read_parts (required as_tables (are_between 1 256) [] inner (codes "script")) _ _ limits.rest in
    let scripts = read_parts (scripts_in [] script.value) _ _ script.rest in
    let count = few_tables 1 256 script.value (required_ok as_tables (are_between 1 256) [] inner (codes "script") script.value script.first_is) in
    let same = each_length (λ index table. script_in (entry [] (codes "script") index) table) 0 script.value scripts.value scripts.first_is in
    let host : IsGoodHost (host_of_1 name.value root.value scripts.value) = record {
      name = optional_ok as_str is_host_name [] inner (codes "name") (codes "localhost") name.value refl name.first_is;
      aliases = refl;
      root = optional_ok as_str is_folder [] inner (codes "root") (codes "/srv/www") root.value refl root.first_is;
      scripts = each_all (λ index table. script_in (entry [] (codes "script") index) table) IsGoodScript (λ index table script e. script_good (entry [] (codes "script") index) table script e) 0 script.value scripts.value scripts.first_is;
      documents = All-nil IsGoodDocuments;
      few_scripts = at_most _ _ 256 same count.1;
      few_documents = lit≤ tt;
      some = some_more _ _ 0 same count.0;
    } in
    let made : SaidSite = record { listen = listen.value; port = port.value; limits = limits.value; hosts = host_of_1 name.value root.value scripts.value ∷ [] } in
    subst IsGoodFile (ok_parts made said scripts.rest) (record {
      listen = optional_ok as_str is_address [] inner (codes "listen") (codes "127.0.0.1") listen.value refl listen.first_is;
      port = optional_number_ok [] inner (codes "port") 1 65535 8080 port.value (lit≤ tt, lit≤ tt) port.first_is;
      limits = limits_ok inner limits.value limits.first_is;
      some = lit≤ tt;
      few = lit≤ tt;
      hosts = All-cons IsGoodHost (host_of_1 name.value root.value scripts.value) [] host (All-nil IsGoodHost);
    })

file_2_good : (inner : Members) (said : SaidSite) → file_2 inner ≡ Ok said → IsGoodFile said
unfolding file_2 hosts_in port_in
file_2_good inner said e =
    let listen = read_parts (optional as_str is_address [] inner (codes "listen") (codes "127.0.0.1")) _ _ e in
    let port = read_parts (port_in inner) _ _ listen.rest in
    let limits = read_parts (limits_of inner) _ _ port.rest in
    let host = read_parts (required as_tables (are_between 1 64) [] inner (codes "host")) _ _ limits.rest in
    let hosts = read_parts (hosts_in host.value) _ _ host.rest in
    let count = few_tables 1 64 host.value (required_ok as_tables (are_between 1 64) [] inner (codes "host") host.value host.first_is) in
    let same = each_length (λ index table. host_in (entry [] (codes "host") index) table) 0 host.value hosts.value hosts.first_is in
    let made : SaidSite = record { listen = listen.value; port = port.value; limits = limits.value; hosts = hosts.value } in
    subst IsGoodFile (ok_parts made said hosts.rest) (record {
      listen = optional_ok as_str is_address [] inner (codes "listen") (codes "127.0.0.1") listen.value refl listen.first_is;
      port = optional_number_ok [] inner (codes "port") 1 65535 8080 port.value (lit≤ tt, lit≤ tt) port.first_is;
      limits = limits_ok inner limits.value limits.first_is;
      some = at_least _ _ 1 same count.0;
      few = at_most _ _ 64 same count.1;
      hosts = each_all (λ index table. host_in (entry [] (codes "host") index) table) IsGoodHost (λ index table host e. host_good (entry [] (codes "host") index) table host e) 0 host.value hosts.value hosts.first_is;
    })

either_good : (is_first : Bool) (inner : Members) (said : SaidSite) → cond is_first (file_1 inner) (file_2 inner) ≡ Ok said → IsGoodFile said
either_good true inner said e = file_1_good inner said e
either_good false inner said e = file_2_good inner said e

written_back : (said : SaidSite) → IsGoodFile said → double_in (site_of said).hosts ≡ None → site_in (file_written said (map said_host said.hosts)) ≡ Ok (site_of said)
unfolding site_in
written_back said good once = rw (version_back said (map said_host said.hosts), file_back said good, file_known said good, once)

pub said_back : SitesComeBack
unfolding site_in
said_back inner site e =
    let version = read_parts (required_number [] inner (codes "version") 1 2) (λ version. file_in version inner >>= (λ said. unless (unknown_in version inner) (single (site_of said)))) site e in
    let said = read_parts (file_in version.value inner) (λ said. unless (unknown_in version.value inner) (single (site_of said))) site version.rest in
    let (known, rest) = unless_parts (unknown_in version.value inner) (single (site_of said.value)) site said.rest in
    let (once, same) = unless_parts (double_in (site_of said.value).hosts) (Ok (site_of said.value)) site rest in
    let good = either_good (version.value == 1) inner said.value said.first_is in
    subst (λ site. site_in (document_of site) ≡ Ok site) (ok_parts (site_of said.value) site same)
    (ap site_in (is_written said.value good) ∙ written_back said.value good once)

pub text_back : (text : List ℕ) (site : Site) → IsUtf8 text → parse_document text ≡ Some (document_of site) → IsSaid site → site_said text ≡ Ok site
text_back text site utf8 read said = rw (is_utf8-from_IsUtf8 text utf8, read) (said_back said.0 site said.1)
