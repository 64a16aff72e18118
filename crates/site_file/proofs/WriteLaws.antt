-- Tables that are written, as the members that they hold.
use Rattle.std.proofs.Common.{◌≡◌, ℕ, ◌+◌, ◌<◌, ◌≤◌, List, [], ◌∷◌, ◌++◌, Bor, arith, drop, map, length, get_or, Ordering, Less, Equal, Greater, String, Global, string_bytes, refl, ap, sym, ◌∙◌, append_assoc, append-nil}
use Rattle.std.proofs.lemmas.List.{drop_more, drop_all, map-append}
use Rattle.std.specs.BTreeMap.{insert_entry}
use Rattle.std.specs.Ordering.{match_ordering}
use Rattle.std.specs.Prelude.{count_by}
use Rattle.std.specs.String.{string_cmp}
use Rattle.toml.specs.Data.{Data, Members, no_members, string, table, member}
use Rattle.toml.specs.View.{view, members_view}
use Rattle.toml.specs.declared.value.Value.{Value}
use Rattle.host_base.specs.declared.launch.Pair.{Pair}
use Rattle.host_base.specs.declared.site.DocRoot.{DocRoot}
use Rattle.host_base.specs.declared.site.Script.{Script}
use Rattle.host_base.specs.declared.site.VHost.{VHost}
use Rattle.site_file.specs.SiteText.{put, types_members, documents_members, zip_documents, host_members, host_tables, is_documents}
use Rattle.site_file.specs.Tables.{script_at}
use Rattle.site_file.proofs.EachLaws.{map_left, none_left}

match_entries : (o : Ordering) (a b c : List (String Global × Value)) → members_view (match_ordering o a b c) ≡ match_ordering o (members_view a) (members_view b) (members_view c)
match_entries Less a b c = refl
match_entries Equal a b c = refl
match_entries Greater a b c = refl

pub members_view-insert_entry : (es : List (String Global × Value)) (k : String Global) (v : Value)
    → members_view (insert_entry string_cmp es k v) ≡ put (string_bytes k) (view v) (members_view es)
unfolding put
members_view-insert_entry [] k v = refl
members_view-insert_entry (e ∷ es) k v =
    match_entries (string_cmp k e.0) ((k, v) ∷ e ∷ es) ((e.0, v) ∷ es) (e ∷ insert_entry string_cmp es k v)
    ∙ ap (λ rest. match_ordering (string_cmp k e.0) (member (string_bytes k) (view v) (members_view (e ∷ es))) (members_view ((e.0, v) ∷ es)) (member (string_bytes e.0) (view e.1) rest)) (members_view-insert_entry es k v)

-- one more type before the others
pub types_before : (types : List Pair) (i j : ℕ) (pair : Pair) (old new : Members) → i ≡ j + 1 → j < length types → pair ≡ get_or types j pair
    → old ≡ types_members (drop i types) → new ≡ put pair.name (string pair.value) old → new ≡ types_members (drop j types)
unfolding types_members
types_before types i j pair old new next within is was made =
    made ∙ ap (put pair.name (string pair.value)) (was ∙ ap (λ n. types_members (drop n types)) next)
    ∙ sym (ap types_members (drop_more types j pair within ∙ ap (λ first. first ∷ drop (j + 1) types) (sym is)))

pub no_types : (types : List Pair) → no_members ≡ types_members (drop (length types) types)
unfolding types_members
no_types types = sym (ap types_members (drop_all (length types) types (omega arith)))

-- what is written so far before what is left to be written
abbrev pub before : List Value → List Members → List Data
before values rest = map view values ++ map table rest

before_more : (values values' : List Value) (value : Value) (members : Members) (rest : List Members) → values' ≡ values ++ value ∷ [] → view value ≡ table members
    → before values' rest ≡ before values (members ∷ rest)
before_more values values' value members rest more is =
    ap (λ values. before values rest) more
    ∙ ap (λ front. front ++ map table rest) (map-append view values (value ∷ []))
    ∙ append_assoc (map view values) (view value ∷ []) (map table rest)
    ∙ ap (λ first. map view values ++ first ∷ map table rest) is

-- one host more
pub hosts_more : (hosts : List VHost) (index : ℕ) (host : VHost) (left : List DocRoot) (values values' : List Value) (value : Value) (all : List Data)
    → before values (host_tables (drop index hosts) left) ≡ all → index < length hosts → host ≡ get_or hosts index host
    → values' ≡ values ++ value ∷ [] → view value ≡ table (host_members host left)
    → before values' (host_tables (drop (index + 1) hosts) (drop (count_by is_documents host.scripts) left)) ≡ all
unfolding host_tables
hosts_more hosts index host left values values' value all so_far within is more made =
    before_more values values' value (host_members host left) (host_tables (drop (index + 1) hosts) (drop (count_by is_documents host.scripts) left)) more made
    ∙ sym (ap (λ hosts. before values (host_tables hosts left)) (drop_more hosts index host within ∙ ap (λ first. first ∷ drop (index + 1) hosts) (sym is)))
    ∙ so_far

pub hosts_end : (hosts : List VHost) (index : ℕ) (left : List DocRoot) (values : List Value) (all : List Data)
    → before values (host_tables (drop index hosts) left) ≡ all → length hosts ≤ index → map view values ≡ all
unfolding host_tables
hosts_end hosts index left values all so_far past =
    sym (append-nil (map view values)) ∙ sym (ap (λ hosts. before values (host_tables hosts left)) (drop_all index hosts past)) ∙ so_far

-- one table of documents more
pub zip_more : (scripts : List (Bor Script)) (folders : List DocRoot) (index : ℕ) (script : Bor Script) (folder : DocRoot) (values values' : List Value) (value : Value) (all : List Data)
    → before values (zip_documents (drop index (map script_at scripts)) (drop index folders)) ≡ all
    → index < length scripts → script ≡ get_or scripts index script → index < length folders → folder ≡ get_or folders index folder
    → values' ≡ values ++ value ∷ [] → view value ≡ table (documents_members script.now.path folder)
    → before values' (zip_documents (drop (index + 1) (map script_at scripts)) (drop (index + 1) folders)) ≡ all
zip_more scripts folders index script folder values values' value all so_far within is room at more made =
    before_more values values' value (documents_members script.now.path folder) (zip_documents (drop (index + 1) (map script_at scripts)) (drop (index + 1) folders)) more made
    ∙ sym (ap (λ scripts. before values (zip_documents scripts (drop index folders))) (map_left script_at scripts index script within is)
    ∙ ap (λ folders. before values (zip_documents (script.now ∷ drop (index + 1) (map script_at scripts)) folders)) (drop_more folders index folder room ∙ ap (λ first. first ∷ drop (index + 1) folders) (sym at)))
    ∙ so_far

zip_none : (scripts : List Script) → zip_documents scripts [] ≡ []
zip_none [] = refl
zip_none (script ∷ scripts) = refl

pub zip_past : (scripts : List (Bor Script)) (folders : List DocRoot) (index : ℕ) (values : List Value) (all : List Data)
    → before values (zip_documents (drop index (map script_at scripts)) (drop index folders)) ≡ all → length folders ≤ index → map view values ≡ all
zip_past scripts folders index values all so_far past =
    sym (append-nil (map view values))
    ∙ sym (ap (λ folders. before values (zip_documents (drop index (map script_at scripts)) folders)) (drop_all index folders past)
    ∙ ap (before values) (zip_none (drop index (map script_at scripts))))
    ∙ so_far

pub zip_end : (scripts : List (Bor Script)) (folders : List DocRoot) (index : ℕ) (values : List Value) (all : List Data)
    → before values (zip_documents (drop index (map script_at scripts)) (drop index folders)) ≡ all → length scripts ≤ index → map view values ≡ all
zip_end scripts folders index values all so_far past =
    sym (append-nil (map view values)) ∙ sym (ap (λ scripts. before values (zip_documents scripts (drop index folders))) (none_left script_at scripts index past)) ∙ so_far
