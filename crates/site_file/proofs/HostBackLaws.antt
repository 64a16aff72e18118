-- What is written for a host reads back.
use Rattle.std.proofs.Common.{◌≡◌, ℕ, ◌+◌, ◌≤◌, Bool, true, false, cond, ltb, List, [], ◌∷◌, ◌++◌, map, length, Option, Some, None, Result, Ok, All, arith, rules, refl, ap, sym, ◌∙◌, subst, codes}
use Rattle.std.specs.Option.{option_map_or, option_and_then}
use Rattle.std.proofs.lemmas.Bool.{false≢true, le-leb, lt-ltb, ltb-true}
use Rattle.std.proofs.lemmas.List.{length-map}
use Rattle.toml.specs.Data.{Data, string, boolean, Members, no_members, get_member, as_str, as_bool}
use Rattle.site_file.specs.declared.fault.SiteFault.{SiteFault}
use Rattle.site_file.specs.declared.said.SaidHost.{SaidHost}
use Rattle.site_file.specs.Keys.{required, optional, optional_at, ranged, any_value, as_texts, as_tables, are_between, entry}
use Rattle.site_file.specs.Ranges.{is_host_name, is_folder, are_aliases}
use Rattle.site_file.specs.SiteFile.{script_in, scripts_in, documents_in, all_documents_in, has_documents, script_tables_in, host_in}
use Rattle.site_file.specs.SiteText.{put, put_some, texts, tables, some_tables, script_members}
use Rattle.site_file.proofs.BackLaws.{texts_back, tables_back, each_back, IsGoodScript, script_good, script_back, IsGoodDocuments, documents_good, said_documents, documents_back}
use Rattle.site_file.proofs.InRangeLaws.{read_parts, ok_parts, if_ok, required_ok, optional_ok, each_length, each_all}
use Rattle.site_file.proofs.ServedLaws.{script_tables_few, few_tables, at_most}

-- ---- keys that are there

pub required_back : {A : Type 0} (kind : Data → Option A) (range : A → Bool) (place : List ℕ) (inner : Members) (key : List ℕ) (found : Data) (value : A)
    → get_member key inner ≡ Some found → kind found ≡ Some value → range value ≡ true → required kind range place inner key ≡ Ok value
unfolding required
required_back kind range place inner key found value there is fits = rw (there, is, fits)

pub optional_back : {A : Type 0} (kind : Data → Option A) (range : A → Bool) (place : List ℕ) (inner : Members) (key : List ℕ) (default : A) (found : Data) (value : A)
    → get_member key inner ≡ Some found → kind found ≡ Some value → range value ≡ true → optional kind range place inner key default ≡ Ok value
unfolding optional
optional_back kind range place inner key default found value there is fits = rw (there, is, fits)

pub optional_missing : {A : Type 0} (kind : Data → Option A) (range : A → Bool) (place : List ℕ) (inner : Members) (key : List ℕ) (default : A)
    → get_member key inner ≡ None → optional kind range place inner key default ≡ Ok default
unfolding optional
optional_missing kind range place inner key default there = rw there

pub between_back : (least greatest : ℕ) (list : List Members) → least ≤ length list → length list ≤ greatest → are_between least greatest list ≡ true
between_back least greatest list low high = rw (le-leb least (length list) low, le-leb (length list) greatest high)

-- ---- what a host says

pub record IsGoodHost (host : SaidHost) : Type 0 where
  pub name : is_host_name host.name ≡ true
  pub aliases : are_aliases host.aliases ≡ true
  pub root : is_folder host.root ≡ true
  pub scripts : All IsGoodScript host.scripts
  pub documents : All IsGoodDocuments host.documents
  pub few_scripts : length host.scripts ≤ 256
  pub few_documents : length host.documents ≤ 16
  pub some : 1 ≤ length host.scripts + length host.documents

documents_read : (name : List ℕ) (found : Option Data) (list : List Members) → optional_at as_tables (are_between 0 16) [] name found ≡ Ok list
    → option_map_or (λ list. ltb 0 (length list)) (option_and_then as_tables found) false ≡ ltb 0 (length list)
documents_read name None list e = ap (λ list. ltb 0 (length list)) (ok_parts [] list e)
documents_read name (Some found) list e = documents_ranged name (as_tables found) list e
  where
    documents_ranged : (name : List ℕ) (found : Option (List Members)) (list : List Members) → ranged (are_between 0 16) name found ≡ Ok list
        → option_map_or (λ list. ltb 0 (length list)) found false ≡ ltb 0 (length list)
    documents_ranged name None list e = absurd (cc e)
    documents_ranged name (Some there) list e = ap (λ list. ltb 0 (length list)) (if_ok (are_between 0 16 there) there list _ e).1

has_as_read : (place : List ℕ) (inner : Members) (list : List Members) → optional as_tables (are_between 0 16) place inner (codes "documents") [] ≡ Ok list
    → has_documents inner ≡ ltb 0 (length list)
unfolding optional has_documents
has_as_read place inner list e = documents_read (place ++ codes "documents") (get_member (codes "documents") inner) list e

some_if : (test : Bool) (a b : Result (List Members) SiteFault) (scripts documents : List Members) → test ≡ ltb 0 (length documents) → cond test a b ≡ Ok scripts
    → (b ≡ Ok scripts → 1 ≤ length scripts) → 1 ≤ length scripts + length documents
some_if true a b scripts documents has e from_b = let more = ltb-true 0 (length documents) (sym has) in omega arith
some_if false a b scripts documents has e from_b = let more = from_b e in omega arith

some_tables_read : (place : List ℕ) (inner : Members) (scripts documents : List Members) → script_tables_in place inner ≡ Ok scripts
    → optional as_tables (are_between 0 16) place inner (codes "documents") [] ≡ Ok documents → 1 ≤ length scripts + length documents
unfolding script_tables_in
some_tables_read place inner scripts documents e read =
    some_if (has_documents inner) _ _ scripts documents (has_as_read place inner documents read) e
    (λ e. (few_tables 1 256 scripts (required_ok as_tables (are_between 1 256) place inner (codes "script") scripts e)).0)

some_of : (a b c d : ℕ) → a ≡ c → b ≡ d → 1 ≤ c + d → 1 ≤ a + b
some_of a b c d first second some = omega arith

pub host_good : (place : List ℕ) (inner : Members) (host : SaidHost) → host_in place inner ≡ Ok host → IsGoodHost host
unfolding host_in scripts_in all_documents_in
host_good place inner host e =
    let name = read_parts (required as_str is_host_name place inner (codes "name")) _ _ e in
    let aliases = read_parts (optional as_texts are_aliases place inner (codes "aliases") []) _ _ name.rest in
    let any = read_parts (optional as_bool any_value place inner (codes "any") false) _ _ aliases.rest in
    let root = read_parts (optional as_str is_folder place inner (codes "root") (codes "/srv/www")) _ _ any.rest in
    let script = read_parts (script_tables_in place inner) _ _ root.rest in
    let scripts = read_parts (scripts_in place script.value) _ _ script.rest in
    let inside = read_parts (optional as_tables (are_between 0 16) place inner (codes "documents") []) _ _ scripts.rest in
    let documents = read_parts (all_documents_in place inside.value) _ _ inside.rest in
    let made : SaidHost = record { name = name.value; aliases = aliases.value; any = any.value; root = root.value; scripts = scripts.value; documents = documents.value } in
    let same_scripts = each_length (λ index table. script_in (entry place (codes "script") index) table) 0 script.value scripts.value scripts.first_is in
    let same_documents = each_length (λ index table. documents_in (entry place (codes "documents") index) table) 0 inside.value documents.value documents.first_is in
    subst IsGoodHost (ok_parts made host documents.rest) (record {
      name = required_ok as_str is_host_name place inner (codes "name") name.value name.first_is;
      aliases = optional_ok as_texts are_aliases place inner (codes "aliases") [] aliases.value refl aliases.first_is;
      root = optional_ok as_str is_folder place inner (codes "root") (codes "/srv/www") root.value refl root.first_is;
      scripts = each_all (λ index table. script_in (entry place (codes "script") index) table) IsGoodScript (λ index table script e. script_good (entry place (codes "script") index) table script e) 0 script.value scripts.value scripts.first_is;
      documents = each_all (λ index table. documents_in (entry place (codes "documents") index) table) IsGoodDocuments (λ index table documents e. documents_good (entry place (codes "documents") index) table documents e) 0 inside.value documents.value documents.first_is;
      few_scripts = at_most _ _ 256 same_scripts (script_tables_few place inner script.value script.first_is);
      few_documents = at_most _ _ 16 same_documents (few_tables 0 16 inside.value (optional_ok as_tables (are_between 0 16) place inner (codes "documents") [] inside.value refl inside.first_is)).1;
      some = some_of _ _ _ _ same_scripts same_documents (some_tables_read place inner script.value inside.value script.first_is inside.first_is);
    })

-- ---- what is written for a host

unfoldable pub host_written : List ℕ → List (List ℕ) → Bool → List ℕ → Option Data → Option Data → Members
host_written name aliases any root script documents =
    put (codes "name") (string name) (put (codes "aliases") (texts aliases) (put (codes "any") (boolean any) (put (codes "root") (string root)
    (put_some (codes "script") script (put_some (codes "documents") documents no_members)))))

unfoldable pub scripts_written : SaidHost → List Members
scripts_written host = map script_members host.scripts

unfoldable pub documents_written : SaidHost → List Members
documents_written host = map said_documents host.documents

unfoldable pub said_host : SaidHost → Members
said_host host = host_written host.name host.aliases host.any host.root (some_tables (scripts_written host)) (some_tables (documents_written host))

pub record HasRows (name : List ℕ) (aliases : List (List ℕ)) (any : Bool) (root : List ℕ) (script documents : Option Data) (inner : Members) : Type 0 where
  pub name_row : get_member (codes "name") inner ≡ Some (string name)
  pub aliases_row : get_member (codes "aliases") inner ≡ Some (texts aliases)
  pub any_row : get_member (codes "any") inner ≡ Some (boolean any)
  pub root_row : get_member (codes "root") inner ≡ Some (string root)
  pub script_row : get_member (codes "script") inner ≡ script
  pub documents_row : get_member (codes "documents") inner ≡ documents

pub rows : (name : List ℕ) (aliases : List (List ℕ)) (any : Bool) (root : List ℕ) (script documents : Option Data) → HasRows name aliases any root script documents (host_written name aliases any root script documents)
unfolding host_written put
rows name aliases any root None None = record { name_row = refl; aliases_row = refl; any_row = refl; root_row = refl; script_row = refl; documents_row = refl }
rows name aliases any root (Some s) None = record { name_row = refl; aliases_row = refl; any_row = refl; root_row = refl; script_row = refl; documents_row = refl }
rows name aliases any root None (Some d) = record { name_row = refl; aliases_row = refl; any_row = refl; root_row = refl; script_row = refl; documents_row = refl }
rows name aliases any root (Some s) (Some d) = record { name_row = refl; aliases_row = refl; any_row = refl; root_row = refl; script_row = refl; documents_row = refl }

has_written : (inner : Members) (list : List Members) → get_member (codes "documents") inner ≡ some_tables list → has_documents inner ≡ ltb 0 (length list)
unfolding has_documents
has_written inner [] there = rw there
has_written inner (first ∷ list) there = rw (there, tables_back list)

documents_tables_back : (place : List ℕ) (inner : Members) (list : List Members) → get_member (codes "documents") inner ≡ some_tables list → length list ≤ 16
    → optional as_tables (are_between 0 16) place inner (codes "documents") [] ≡ Ok list
documents_tables_back place inner [] there few = optional_missing as_tables (are_between 0 16) place inner (codes "documents") [] there
documents_tables_back place inner (first ∷ list) there few =
    optional_back as_tables (are_between 0 16) place inner (codes "documents") [] (tables (first ∷ list)) (first ∷ list) there (tables_back (first ∷ list)) (between_back 0 16 (first ∷ list) (omega arith) few)

if_written : (test : Bool) (a b : Result (List Members) SiteFault) (list : List Members) → (test ≡ true → a ≡ Ok list) → (test ≡ false → b ≡ Ok list) → cond test a b ≡ Ok list
if_written true a b list from_a from_b = from_a refl
if_written false a b list from_a from_b = from_b refl

some_scripts : (place : List ℕ) (inner : Members) (list documents : List Members) → get_member (codes "script") inner ≡ some_tables list → length list ≤ 256
    → optional as_tables (are_between 1 256) place inner (codes "script") [] ≡ Ok list
some_scripts place inner [] documents there few = optional_missing as_tables (are_between 1 256) place inner (codes "script") [] there
some_scripts place inner (first ∷ list) documents there few =
    optional_back as_tables (are_between 1 256) place inner (codes "script") [] (tables (first ∷ list)) (first ∷ list) there (tables_back (first ∷ list)) (between_back 1 256 (first ∷ list) (omega arith) few)

own_scripts : (place : List ℕ) (inner : Members) (list : List Members) → get_member (codes "script") inner ≡ some_tables list → 1 ≤ length list → length list ≤ 256
    → required as_tables (are_between 1 256) place inner (codes "script") ≡ Ok list
own_scripts place inner [] there some few = absurd (omega arith)
own_scripts place inner (first ∷ list) there some few =
    required_back as_tables (are_between 1 256) place inner (codes "script") (tables (first ∷ list)) (first ∷ list) there (tables_back (first ∷ list)) (between_back 1 256 (first ∷ list) some few)

none_of : (documents : List Members) → ltb 0 (length documents) ≡ false → length documents ≤ 0
none_of [] e = omega arith
none_of (first ∷ list) e = absurd (false≢true (sym e ∙ lt-ltb 0 (length (first ∷ list)) (omega arith)))

script_tables_back : (place : List ℕ) (inner : Members) (list documents : List Members) → get_member (codes "script") inner ≡ some_tables list
    → get_member (codes "documents") inner ≡ some_tables documents → length list ≤ 256 → 1 ≤ length list + length documents → script_tables_in place inner ≡ Ok list
unfolding script_tables_in
script_tables_back place inner list documents scripts_there documents_there few some =
    if_written (has_documents inner) _ _ list (λ _. some_scripts place inner list documents scripts_there few)
    (λ none. let no_documents = none_of documents (sym (has_written inner documents documents_there) ∙ none) in own_scripts place inner list scripts_there (omega arith) few)

pub host_back : (place : List ℕ) (host : SaidHost) → IsGoodHost host → host_in place (said_host host) ≡ Ok host
unfolding host_in said_host scripts_in all_documents_in scripts_written documents_written
host_back place host good =
    let scripts = map script_members host.scripts in
    let documents = map said_documents host.documents in
    let inner = host_written host.name host.aliases host.any host.root (some_tables scripts) (some_tables documents) in
    let row = rows host.name host.aliases host.any host.root (some_tables scripts) (some_tables documents) in
    let same_scripts : length scripts ≡ length host.scripts = search (rules, length-map) in
    let same_documents : length documents ≡ length host.documents = search (rules, length-map) in
    let few_scripts : length scripts ≤ 256 = at_most _ _ 256 same_scripts good.few_scripts in
    let few_documents : length documents ≤ 16 = at_most _ _ 16 same_documents good.few_documents in
    let some : 1 ≤ length scripts + length documents = some_of _ _ _ _ same_scripts same_documents good.some in
    rw (
      required_back as_str is_host_name place inner (codes "name") (string host.name) host.name row.name_row refl good.name,
      optional_back as_texts are_aliases place inner (codes "aliases") [] (texts host.aliases) host.aliases row.aliases_row (texts_back host.aliases) good.aliases,
      optional_back as_bool any_value place inner (codes "any") false (boolean host.any) host.any row.any_row refl refl,
      optional_back as_str is_folder place inner (codes "root") (codes "/srv/www") (string host.root) host.root row.root_row refl good.root,
      script_tables_back place inner scripts documents row.script_row row.documents_row few_scripts some,
      each_back (λ index table. script_in (entry place (codes "script") index) table) script_members IsGoodScript (λ index script good. script_back (entry place (codes "script") index) script good) 0 host.scripts good.scripts,
      documents_tables_back place inner documents row.documents_row few_documents,
      each_back (λ index table. documents_in (entry place (codes "documents") index) table) said_documents IsGoodDocuments (λ index documents good. documents_back (entry place (codes "documents") index) documents good) 0 host.documents good.documents,
    )
