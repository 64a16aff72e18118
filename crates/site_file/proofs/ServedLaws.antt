-- A site that a file says is one that can be served.
use Rattle.std.proofs.Common.{◌≡◌, ◌==◌, ℕ, suc, ◌+◌, ◌<◌, ◌≤◌, ◌^◌, Bool, true, false, cond, List, [], ◌∷◌, ◌++◌, map, length, length-append, Option, Some, None, option_map, Result, Ok, Err, IfOk, All, arith, lit≤, refl, ap, sym, subst, codes, append_assoc, append-nil}
use Rattle.std.specs.Cmp.{IsEquivalence}
use Rattle.std.specs.List.{IsDistinct, list_any, flat_map, slice_get}
use Rattle.std.specs.Prelude.{filter, count_by}
use Rattle.std.proofs.lemmas.Str.{IsUtf8-from_is_utf8, is_utf8-from_IsUtf8}
use Rattle.std.specs.Str.{IsUtf8, is_utf8, bytes_eq, str_eq_ignore_ascii_case, str_to_ascii_lowercase}
use Rattle.std.proofs.lemmas.Cmp.{nat_list_eq_equiv}
use Rattle.std.proofs.lemmas.Map.Keys.{IsDistinct-push}
use Rattle.std.proofs.lemmas.List.Elements.{All-nil, All-cons, All-head, All-tail}
use Rattle.std.proofs.lemmas.List.Sums.{length-filter}
use Rattle.toml.specs.Data.{Data, Members, get_member, as_str, as_bool}
use Rattle.toml.specs.Parse.{parse_document}
use Rattle.host_base.specs.declared.site.Site.{Site}
use Rattle.host_base.specs.declared.site.VHost.{VHost}
use Rattle.host_base.specs.LimitRanges.{AreInRange, IsWithin}
use Rattle.host_base.specs.SiteRules.{HasOwnScripts, IsServed, names_of, path_of, takes_any}
use Rattle.site_file.specs.declared.fault.SiteFault.{SiteFault}
use Rattle.site_file.specs.declared.fault.SiteFault.TheVariants.{NotToml, DoubleHost, DoubleScript}
use Rattle.site_file.specs.declared.said.SaidDocuments.{SaidDocuments}
use Rattle.site_file.specs.declared.said.SaidHost.{SaidHost}
use Rattle.site_file.specs.declared.said.SaidSite.{SaidSite}
use Rattle.site_file.specs.Doubles.{first_again, name_again, any_again, name_of, path_again, path_again_in, path_or, double_in}
use Rattle.site_file.specs.Keys.{required, optional, optional_at, as_texts, as_tables, any_value, are_between, entry, required_number}
use Rattle.site_file.specs.Numbering.{documents_scripts, host_of, hosts_of, site_of}
use Rattle.site_file.specs.SiteFile.{port_in, limits_of, script_in, scripts_in, has_documents, script_tables_in, documents_in, all_documents_in, host_in, hosts_in, host_of_1, file_1, file_2, file_in, site_in, site_in_document, site_said, single, unknown_in, IsSaid}
use Rattle.site_file.specs.Ranges.{is_host_name, is_address, is_folder, are_aliases}
use Rattle.site_file.specs.Steps.{◌>>=◌, or_else, unless, Reads}
use Rattle.site_file.proofs.InRangeLaws.{read_parts, unless_parts, ok_parts, ranged_ok, required_ok, optional_ok, within_tests, limits_ok, each_length, each_all}

-- ---- texts that don't stand twice

bytes_equal : IsEquivalence bytes_eq
bytes_equal = nat_list_eq_equiv

words_equal : IsEquivalence str_eq_ignore_ascii_case
words_equal = record {
  refl = λ x. bytes_equal.refl (str_to_ascii_lowercase x);
  symm = λ x y. bytes_equal.symm (str_to_ascii_lowercase x) (str_to_ascii_lowercase y);
  congr = λ x y z e. bytes_equal.congr (str_to_ascii_lowercase x) (str_to_ascii_lowercase y) (str_to_ascii_lowercase z) e;
}

if_none : {A : Type 0} (test : Bool) (a : A) (rest : Option A) → cond test (Some a) rest ≡ None → (test ≡ false) × (rest ≡ None)
if_none true a rest e = absurd (cc e)
if_none false a rest e = (refl, e)

distinct_after : {same : List ℕ → List ℕ → Bool} → IsEquivalence same → (seen texts : List (List ℕ)) → first_again same seen texts ≡ None → IsDistinct same seen → IsDistinct same (seen ++ texts)
unfolding first_again
distinct_after {same} laws seen [] e so_far = subst (IsDistinct same) (sym (append-nil seen)) so_far
distinct_after {same} laws seen (text ∷ texts) e so_far =
    let (new, rest) = if_none (list_any (same text) seen) text (first_again same (seen ++ text ∷ []) texts) e in
    subst (IsDistinct same) (append_assoc seen (text ∷ []) texts)
    (distinct_after laws (seen ++ text ∷ []) texts rest (IsDistinct-push laws seen text so_far new))

distinct : {same : List ℕ → List ℕ → Bool} → IsEquivalence same → (texts : List (List ℕ)) → first_again same [] texts ≡ None → IsDistinct same texts
unfolding IsDistinct
distinct laws texts e = distinct_after laws [] texts e tt

map_none : {A B : Type 0} (f : A → B) (found : Option A) → option_map f found ≡ None → found ≡ None
map_none f None e = refl
map_none f (Some a) e = absurd (cc e)

or_none : (first second : Option SiteFault) → or_else first second ≡ None → (first ≡ None) × (second ≡ None)
or_none None second e = (refl, e)
or_none (Some fault) second e = absurd (cc e)

path_or_none : (first second : Option (List ℕ)) → path_or first second ≡ None → (first ≡ None) × (second ≡ None)
path_or_none None second e = (refl, e)
path_or_none (Some path) second e = absurd (cc e)

second_none : {A B : Type 0} (f : A → B) (items : List A) → option_map f (slice_get items 1) ≡ None → length items ≤ 1
second_none f [] e = omega arith
second_none f (a ∷ []) e = omega arith
second_none f (a ∷ b ∷ rest) e = absurd (cc e)

one_any : (hosts : List VHost) → any_again hosts ≡ None → count_by takes_any hosts ≤ 1
one_any hosts e = omega (arith, length-filter takes_any hosts, second_none name_of (filter takes_any hosts) e)

-- ---- sizes

-- a host has at most 256 scripts and 16 documents
record IsSmall (host : SaidHost) : Type 0 where
  pub scripts : length host.scripts ≤ 256
  pub documents : length host.documents ≤ 16

length-documents : (number : ℕ) (documents : List SaidDocuments) → length (documents_scripts number documents) ≡ length documents
length-documents number [] = refl
length-documents number (first ∷ rest) = ap (λ n. suc n) (length-documents (number + 1) rest)

length-hosts : (number : ℕ) (hosts : List SaidHost) → length (hosts_of number hosts) ≡ length hosts
length-hosts number [] = refl
length-hosts number (host ∷ hosts) = ap (λ n. suc n) (length-hosts (number + length host.documents) hosts)

few_scripts : (number : ℕ) (host : SaidHost) → IsSmall host → length (host_of number host).scripts < 2 ^ 32
few_scripts number host small = omega (arith, length-append host.scripts (documents_scripts number host.documents), length-documents number host.documents, small.scripts, small.documents)

has_scripts : (number : ℕ) (hosts : List SaidHost) → All IsSmall hosts → path_again (hosts_of number hosts) ≡ None → All HasOwnScripts (hosts_of number hosts)
unfolding path_again
has_scripts number [] small e = All-nil HasOwnScripts
has_scripts number (host ∷ hosts) small e =
    let (here, rest) = path_or_none (path_again_in (host_of number host)) (path_again (hosts_of (number + length host.documents) hosts)) e in
    All-cons HasOwnScripts (host_of number host) (hosts_of (number + length host.documents) hosts)
    (record { few = few_scripts number host (All-head IsSmall host hosts small); distinct = distinct bytes_equal (map path_of (host_of number host).scripts) here })
    (has_scripts (number + length host.documents) hosts (All-tail IsSmall host hosts small) rest)

pub at_most : (a b greatest : ℕ) → a ≡ b → b ≤ greatest → a ≤ greatest
at_most a b greatest same within = omega arith

pub at_least : (a b least : ℕ) → a ≡ b → least ≤ b → least ≤ a
at_least a b least same within = omega arith

pub few_tables : (least greatest : ℕ) (tables : List Members) → are_between least greatest tables ≡ true → IsWithin least greatest (length tables)
few_tables least greatest tables e = within_tests least greatest (length tables) e

few_if : (test : Bool) (a b : Result (List Members) SiteFault) (tables : List Members) → (a ≡ Ok tables → length tables ≤ 256) → (b ≡ Ok tables → length tables ≤ 256)
    → cond test a b ≡ Ok tables → length tables ≤ 256
few_if true a b tables from_a from_b e = from_a e
few_if false a b tables from_a from_b e = from_b e

optional_at_few : (name : List ℕ) (found : Option Data) (tables : List Members) → optional_at as_tables (are_between 1 256) [] name found ≡ Ok tables → length tables ≤ 256
optional_at_few name None tables e = omega (arith, ap length (sym (ok_parts [] tables e)))
optional_at_few name (Some found) tables e = (few_tables 1 256 tables (ranged_ok (are_between 1 256) name (as_tables found) tables e)).1

-- none, or at most 256
optional_few : (place : List ℕ) (table : Members) (key : List ℕ) (tables : List Members) → optional as_tables (are_between 1 256) place table key [] ≡ Ok tables → length tables ≤ 256
unfolding optional
optional_few place table key tables e = optional_at_few (place ++ key) (get_member key table) tables e

pub script_tables_few : (place : List ℕ) (table : Members) (tables : List Members) → script_tables_in place table ≡ Ok tables → length tables ≤ 256
unfolding script_tables_in
script_tables_few place table tables e =
    few_if (has_documents table) (optional as_tables (are_between 1 256) place table (codes "script") []) (required as_tables (are_between 1 256) place table (codes "script")) tables
    (λ e. optional_few place table (codes "script") tables e) (λ e. (few_tables 1 256 tables (required_ok as_tables (are_between 1 256) place table (codes "script") tables e)).1) e

host_is_small : (place : List ℕ) (table : Members) (host : SaidHost) → host_in place table ≡ Ok host → IsSmall host
unfolding host_in scripts_in all_documents_in
host_is_small place table host e =
    let name = read_parts (required as_str is_host_name place table (codes "name")) _ _ e in
    let aliases = read_parts (optional as_texts are_aliases place table (codes "aliases") []) _ _ name.rest in
    let any = read_parts (optional as_bool any_value place table (codes "any") false) _ _ aliases.rest in
    let root = read_parts (optional as_str is_folder place table (codes "root") (codes "/srv/www")) _ _ any.rest in
    let script = read_parts (script_tables_in place table) _ _ root.rest in
    let scripts = read_parts (scripts_in place script.value) _ _ script.rest in
    let tables = read_parts (optional as_tables (are_between 0 16) place table (codes "documents") []) _ _ scripts.rest in
    let documents = read_parts (all_documents_in place tables.value) _ _ tables.rest in
    let made : SaidHost = record { name = name.value; aliases = aliases.value; any = any.value; root = root.value; scripts = scripts.value; documents = documents.value } in
    subst IsSmall (ok_parts made host documents.rest) (record {
      scripts = at_most _ _ 256 (each_length (λ index table. script_in (entry place (codes "script") index) table) 0 script.value scripts.value scripts.first_is) (script_tables_few place table script.value script.first_is);
      documents = at_most _ _ 16 (each_length (λ index table. documents_in (entry place (codes "documents") index) table) 0 tables.value documents.value documents.first_is) (few_tables 0 16 tables.value (optional_ok as_tables (are_between 0 16) place table (codes "documents") [] tables.value refl tables.first_is)).1;
    })

-- what a file of either version says
record IsFile (said : SaidSite) : Type 0 where
  pub limits : AreInRange said.limits
  pub some : 1 ≤ length said.hosts
  pub few : length said.hosts ≤ 64
  pub small : All IsSmall said.hosts

file_1_is : (table : Members) (said : SaidSite) → file_1 table ≡ Ok said → IsFile said
unfolding file_1 scripts_in
file_1_is table said e =
    let name = read_parts (optional as_str is_host_name [] table (codes "name") (codes "localhost")) _ _ e in
    let listen = read_parts (optional as_str is_address [] table (codes "listen") (codes "127.0.0.1")) _ _ name.rest in
    let port = read_parts (port_in table) _ _ listen.rest in
    let root = read_parts (optional as_str is_folder [] table (codes "root") (codes "/srv/www")) _ _ port.rest in
    let limits = read_parts (limits_of table) _ _ root.rest in
    let script = read_parts (required as_tables (are_between 1 256) [] table (codes "script")) _ _ limits.rest in
    let scripts = read_parts (scripts_in [] script.value) _ _ script.rest in
    let count = few_tables 1 256 script.value (required_ok as_tables (are_between 1 256) [] table (codes "script") script.value script.first_is) in
    let small : IsSmall (host_of_1 name.value root.value scripts.value) = record { scripts = at_most _ _ 256 (each_length (λ index table. script_in (entry [] (codes "script") index) table) 0 script.value scripts.value scripts.first_is) count.1; documents = lit≤ tt } in
    let made : SaidSite = record { listen = listen.value; port = port.value; limits = limits.value; hosts = host_of_1 name.value root.value scripts.value ∷ [] } in
    subst IsFile (ok_parts made said scripts.rest) (record {
      limits = limits_ok table limits.value limits.first_is;
      some = lit≤ tt;
      few = lit≤ tt;
      small = All-cons IsSmall (host_of_1 name.value root.value scripts.value) [] small (All-nil IsSmall);
    })

file_2_is : (table : Members) (said : SaidSite) → file_2 table ≡ Ok said → IsFile said
unfolding file_2 hosts_in
file_2_is table said e =
    let listen = read_parts (optional as_str is_address [] table (codes "listen") (codes "127.0.0.1")) _ _ e in
    let port = read_parts (port_in table) _ _ listen.rest in
    let limits = read_parts (limits_of table) _ _ port.rest in
    let host = read_parts (required as_tables (are_between 1 64) [] table (codes "host")) _ _ limits.rest in
    let hosts = read_parts (hosts_in host.value) _ _ host.rest in
    let count = few_tables 1 64 host.value (required_ok as_tables (are_between 1 64) [] table (codes "host") host.value host.first_is) in
    let same = each_length (λ index table. host_in (entry [] (codes "host") index) table) 0 host.value hosts.value hosts.first_is in
    let made : SaidSite = record { listen = listen.value; port = port.value; limits = limits.value; hosts = hosts.value } in
    subst IsFile (ok_parts made said hosts.rest) (record {
      limits = limits_ok table limits.value limits.first_is;
      some = at_least _ _ 1 same count.0;
      few = at_most _ _ 64 same count.1;
      small = each_all (λ index table. host_in (entry [] (codes "host") index) table) IsSmall (λ index table host e. host_is_small (entry [] (codes "host") index) table host e) 0 host.value hosts.value hosts.first_is;
    })

file_of : (is_first : Bool) (table : Members) (said : SaidSite) → cond is_first (file_1 table) (file_2 table) ≡ Ok said → IsFile said
file_of true table said e = file_1_is table said e
file_of false table said e = file_2_is table said e

file_is : (version : ℕ) (table : Members) (said : SaidSite) → file_in version table ≡ Ok said → IsFile said
file_is version table said e = file_of (version == 1) table said e

no_doubles : (said : SaidSite) → IsFile said → double_in (site_of said).hosts ≡ None → IsServed (site_of said)
unfolding double_in
no_doubles said file e =
    let hosts = hosts_of 0 said.hosts in
    let (names, later) = or_none (option_map DoubleHost (name_again hosts)) _ e in
    let (any, paths) = or_none (option_map DoubleHost (any_again hosts)) _ later in
    record {
      limits = file.limits;
      hosts = record {
        some = omega (arith, length-hosts 0 said.hosts, file.some);
        few = omega (arith, length-hosts 0 said.hosts, file.few);
        scripts = has_scripts 0 said.hosts file.small (map_none DoubleScript (path_again hosts) paths);
        distinct = distinct words_equal (flat_map names_of hosts) (map_none DoubleHost (name_again hosts) names);
        one_any = one_any hosts (map_none DoubleHost (any_again hosts) any);
      };
    }

pub said_is_served : (table : Members) (site : Site) → site_in table ≡ Ok site → IsServed site
unfolding site_in
said_is_served table site e =
    let version = read_parts (required_number [] table (codes "version") 1 2) (λ version. file_in version table >>= (λ said. unless (unknown_in version table) (single (site_of said)))) site e in
    let said = read_parts (file_in version.value table) (λ said. unless (unknown_in version.value table) (single (site_of said))) site version.rest in
    let (known, rest) = unless_parts (unknown_in version.value table) (single (site_of said.value)) site said.rest in
    let (once, same) = unless_parts (double_in (site_of said.value).hosts) (Ok (site_of said.value)) site rest in
    subst IsServed (ok_parts (site_of said.value) site same) (no_doubles said.value (file_is version.value table said.value said.first_is) once)

-- ---- the bytes of a file

in_document : (found : Option Members) (site : Site) → site_in_document found ≡ Ok site → IsSaid site
in_document None site e = absurd (cc e)
in_document (Some table) site e = (table, e)

in_bytes : (is_text : Bool) (found : Option Members) (site : Site) → cond is_text (site_in_document found) (Err NotToml) ≡ Ok site → IsSaid site
in_bytes true found site e = in_document found site e
in_bytes false found site e = absurd (cc e)

pub reads_said : (bytes : List ℕ) (result : Result Site SiteFault) → Reads (site_said bytes) result → IfOk result IsSaid
reads_said bytes (Ok site) e = in_bytes (is_utf8 bytes) (parse_document bytes) site e
reads_said bytes (Err fault) e = tt

pub reads_served : (bytes : List ℕ) (result : Result Site SiteFault) → Reads (site_said bytes) result → IfOk result IsServed
reads_served bytes (Ok site) e = let said = in_bytes (is_utf8 bytes) (parse_document bytes) site e in said_is_served said.0 site said.1
reads_served bytes (Err fault) e = tt

pub said_in_text : (bytes text : List ℕ) → text ≡ bytes → IsUtf8 bytes → site_in_document (parse_document text) ≡ site_said bytes
said_in_text bytes text same utf8 = rw (same, is_utf8-from_IsUtf8 bytes utf8)

no_text : (test : Bool) (bytes : List ℕ) → is_utf8 bytes ≡ test → ¬ IsUtf8 bytes → test ≡ false
no_text true bytes e not = absurd (not (IsUtf8-from_is_utf8 bytes e))
no_text false bytes e not = refl

pub said_by_no_text : (bytes : List ℕ) → ¬ IsUtf8 bytes → site_said bytes ≡ Err NotToml
said_by_no_text bytes not = rw (no_text (is_utf8 bytes) bytes refl not)
