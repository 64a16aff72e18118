-- What is written for the parts of a site reads back.
use Rattle.std.proofs.Common.{◌≡◌, ℕ, ◌+◌, Bool, true, false, ◌&&◌, List, [], ◌∷◌, ◌++◌, map, Option, Some, None, option_map, Result, Ok, All, Ordering, Less, Equal, Greater, refl, ap, ◌∙◌, subst, codes}
use Rattle.std.specs.Cmp.Lexicographic.{slice_cmp}
use Rattle.std.specs.Option.{option_map_or}
use Rattle.std.specs.Ordering.{nat_cmp, is_lt, match_ordering, ordering_reverse}
use Rattle.std.proofs.lemmas.Bool.{false≢true}
use Rattle.std.proofs.lemmas.Cmp.{nat_list_cmp_total}
use Rattle.std.proofs.lemmas.List.Elements.{All-head, All-tail}
use Rattle.toml.specs.Data.{Data, string, table, Members, no_members, member, as_str, as_table}
use Rattle.toml.specs.View.{items_of}
use Rattle.host_base.specs.declared.launch.Pair.{Pair}
use Rattle.host_base.specs.declared.site.Script.{Script}
use Rattle.host_base.specs.declared.site.ScriptKind.{ScriptKind}
use Rattle.host_base.specs.declared.site.ScriptKind.TheVariants.{Cgi, Nph, WebSocket}
use Rattle.site_file.specs.declared.fault.SiteFault.{SiteFault}
use Rattle.site_file.specs.declared.said.SaidDocuments.{SaidDocuments}
use Rattle.site_file.specs.Keys.{required, optional, ranged, any_value, each_of, as_texts, each_from}
use Rattle.site_file.specs.Numbering.{doc_root_of}
use Rattle.site_file.specs.Ranges.{is_script_path, is_program, is_folder, is_kind, kind_named, are_at_most_64, is_extension, is_media_type}
use Rattle.site_file.specs.SiteFile.{origins_in, script_in, type_in, types_in, types_of, put_type, documents_in}
use Rattle.site_file.specs.SiteText.{put, script_members, types_members, documents_members}
use Rattle.site_file.proofs.InRangeLaws.{read_parts, ok_parts, ranged_ok, required_ok, optional_ok}

-- ---- arrays

pub texts_back : (list : List (List ℕ)) → each_of as_str (items_of (map string list)) ≡ Some list
texts_back [] = refl
texts_back (text ∷ list) = rw (texts_back list)

pub tables_back : (list : List Members) → each_of as_table (items_of (map table list)) ≡ Some list
tables_back [] = refl
tables_back (first ∷ list) = rw (tables_back list)

module _ {A : Type 0} (read : ℕ → Members → Result A SiteFault) (written : A → Members) (Good : A → Type 0) where
  pub each_back : ((index : ℕ) (value : A) → Good value → read index (written value) ≡ Ok value) → (index : ℕ) (values : List A) → All Good values
      → each_from read index (map written values) ≡ Ok values
  unfolding each_from
  each_back back index [] good = refl
  each_back back index (value ∷ values) good =
      rw (back index value (All-head Good value values good), each_back back (index + 1) values (All-tail Good value values good))

-- ---- scripts

abbrev pub origins_fit : ScriptKind → Option (List (List ℕ)) → Bool
origins_fit WebSocket found = option_map_or are_at_most_64 found true
origins_fit Cgi None = true
origins_fit Cgi (Some list) = false
origins_fit Nph None = true
origins_fit Nph (Some list) = false

pub record IsGoodScript (script : Script) : Type 0 where
  pub path : is_script_path script.path ≡ true
  pub program : is_program script.program ≡ true
  pub origins : origins_fit script.kind script.origins ≡ true

origins_good : (kind : ScriptKind) (place : List ℕ) (inner : Members) (origins : Option (List (List ℕ))) → origins_in kind place inner ≡ Ok origins → origins_fit kind origins ≡ true
unfolding origins_in
origins_good Cgi place inner origins e = subst (λ origins. origins_fit Cgi origins ≡ true) (ok_parts None origins e) refl
origins_good Nph place inner origins e = subst (λ origins. origins_fit Nph origins ≡ true) (ok_parts None origins e) refl
origins_good WebSocket place inner origins e =
    optional_ok (λ found. option_map Some (as_texts found)) (λ found. option_map_or are_at_most_64 found true) place inner (codes "origins") None origins refl e

pub script_good : (place : List ℕ) (inner : Members) (script : Script) → script_in place inner ≡ Ok script → IsGoodScript script
unfolding script_in
script_good place inner script e =
    let path = read_parts (required as_str is_script_path place inner (codes "path")) _ _ e in
    let program = read_parts (required as_str is_program place inner (codes "program")) _ _ path.rest in
    let kind = read_parts (optional as_str is_kind place inner (codes "kind") (codes "cgi")) _ _ program.rest in
    let origins = read_parts (origins_in (kind_named kind.value) place inner) _ _ kind.rest in
    let made : Script = record { path = path.value; program = program.value; kind = kind_named kind.value; origins = origins.value } in
    subst IsGoodScript (ok_parts made script origins.rest) (record {
      path = required_ok as_str is_script_path place inner (codes "path") path.value path.first_is;
      program = required_ok as_str is_program place inner (codes "program") program.value program.first_is;
      origins = origins_good (kind_named kind.value) place inner origins.value origins.first_is;
    })

parts_back : (place path program : List ℕ) (kind : ScriptKind) (origins : Option (List (List ℕ))) → is_script_path path ≡ true → is_program program ≡ true → origins_fit kind origins ≡ true
    → script_in place (script_members (record { path = path; program = program; kind = kind; origins = origins })) ≡ Ok (record { path = path; program = program; kind = kind; origins = origins })
unfolding script_in script_members put required optional origins_in
parts_back place path program Cgi None rooted file fit = rw (rooted, file)
parts_back place path program Cgi (Some list) rooted file fit = absurd (false≢true fit)
parts_back place path program Nph None rooted file fit = rw (rooted, file)
parts_back place path program Nph (Some list) rooted file fit = absurd (false≢true fit)
parts_back place path program WebSocket None rooted file fit = rw (rooted, file)
parts_back place path program WebSocket (Some list) rooted file fit = rw (rooted, file, texts_back list, fit)

pub script_back : (place : List ℕ) (script : Script) → IsGoodScript script → script_in place (script_members script) ≡ Ok script
script_back place script good = parts_back place script.path script.program script.kind script.origins good.path good.program good.origins

-- ---- documents

-- the type comes before the others
abbrev is_first : Pair → List Pair → Bool
is_first type [] = true
is_first type (first ∷ rest) = is_lt (slice_cmp nat_cmp type.name first.name)

abbrev fits : Pair → Bool
fits type = is_extension type.name && is_media_type type.value

-- types in their ranges, in order
abbrev pub AreGoodTypes : List Pair → Type 0
AreGoodTypes [] = Unit {0}
AreGoodTypes (type ∷ types) = (fits type ≡ true) × (is_first type types ≡ true) × AreGoodTypes types

same_first : (type first : Pair) (rest : List Pair) → slice_cmp nat_cmp type.name first.name ≡ Equal → is_first first rest ≡ true → is_first type rest ≡ true
same_first type first [] same before = refl
same_first type first (second ∷ rest) same before = ap is_lt (nat_list_cmp_total.congr type.name first.name second.name same) ∙ before

first_of_two : (o : Ordering) (first type second : Pair) (a b c : List Pair) → is_lt (slice_cmp nat_cmp first.name type.name) ≡ true → is_lt (slice_cmp nat_cmp first.name second.name) ≡ true
    → is_first first (match_ordering o (type ∷ a) (type ∷ b) (second ∷ c)) ≡ true
first_of_two Less first type second a b c with_type with_second = with_type
first_of_two Equal first type second a b c with_type with_second = with_type
first_of_two Greater first type second a b c with_type with_second = with_second

still_first : (first type : Pair) (rest : List Pair) → is_lt (slice_cmp nat_cmp first.name type.name) ≡ true → is_first first rest ≡ true → is_first first (put_type type rest) ≡ true
unfolding put_type
still_first first type [] with_type before = with_type
still_first first type (second ∷ rest) with_type before = first_of_two (slice_cmp nat_cmp type.name second.name) first type second _ _ _ with_type before

put_good_at : (o : Ordering) (type first : Pair) (rest : List Pair) → slice_cmp nat_cmp type.name first.name ≡ o → fits type ≡ true → AreGoodTypes (first ∷ rest) → AreGoodTypes (put_type type rest)
    → AreGoodTypes (match_ordering o (type ∷ first ∷ rest) (type ∷ rest) (first ∷ put_type type rest))
put_good_at Less type first rest order fit good later = (fit, ap is_lt order, good)
put_good_at Equal type first rest order fit good later = (fit, same_first type first rest order good.1, good.2)
put_good_at Greater type first rest order fit good later =
    (good.0, still_first first type rest (ap is_lt (nat_list_cmp_total.antisymm first.name type.name ∙ ap ordering_reverse order)) good.1, later)

put_good : (type : Pair) (types : List Pair) → fits type ≡ true → AreGoodTypes types → AreGoodTypes (put_type type types)
unfolding put_type
put_good type [] fit good = (fit, refl, tt)
put_good type (first ∷ rest) fit good = put_good_at (slice_cmp nat_cmp type.name first.name) type first rest refl fit good (put_good type rest fit good.2)

type_good : (place extension : List ℕ) (found : Data) (type : Pair) → type_in place extension found ≡ Ok type → fits type ≡ true
unfolding type_in
type_good place extension found type e =
    let value = read_parts (ranged (λ type. is_extension extension && is_media_type type) (place ++ extension) (as_str found)) _ _ e in
    let made : Pair = record { name = extension; value = value.value } in
    subst (λ type. fits type ≡ true) (ok_parts made type value.rest) (ranged_ok (λ type. is_extension extension && is_media_type type) (place ++ extension) (as_str found) value.value value.first_is)

pub types_good : (place : List ℕ) (inner : Members) (types : List Pair) → types_in place inner ≡ Ok types → AreGoodTypes types
unfolding types_in
types_good place no_members types e = subst AreGoodTypes (ok_parts [] types e) tt
types_good place (member extension found rest) types e =
    let type = read_parts (type_in place extension found) _ _ e in
    let others = read_parts (types_in place rest) _ _ type.rest in
    subst AreGoodTypes (ok_parts (put_type type.value others.value) types others.rest)
    (put_good type.value others.value (type_good place extension found type.value type.first_is) (types_good place rest others.value others.first_is))

-- the members of types in order
abbrev plain : List Pair → Members
plain [] = no_members
plain (type ∷ types) = member type.name (string type.value) (plain types)

less_chosen : {A : Type 0} (o : Ordering) (a b c : A) → is_lt o ≡ true → match_ordering o a b c ≡ a
less_chosen Less a b c e = refl
less_chosen Equal a b c e = absurd (false≢true e)
less_chosen Greater a b c e = absurd (false≢true e)

put_plain : (type : Pair) (types : List Pair) → is_first type types ≡ true → put type.name (string type.value) (plain types) ≡ plain (type ∷ types)
unfolding put
put_plain type [] before = refl
put_plain type (first ∷ rest) before = less_chosen (slice_cmp nat_cmp type.name first.name) _ _ _ before

types_plain : (types : List Pair) → AreGoodTypes types → types_members types ≡ plain types
unfolding types_members
types_plain [] good = refl
types_plain (type ∷ types) good = ap (put type.name (string type.value)) (types_plain types good.2) ∙ put_plain type types good.1

put_type_first : (type : Pair) (types : List Pair) → is_first type types ≡ true → put_type type types ≡ type ∷ types
unfolding put_type
put_type_first type [] before = refl
put_type_first type (first ∷ rest) before = less_chosen (slice_cmp nat_cmp type.name first.name) _ _ _ before

plain_back : (place : List ℕ) (types : List Pair) → AreGoodTypes types → types_in place (plain types) ≡ Ok types
unfolding types_in type_in
plain_back place [] good = refl
plain_back place (type ∷ types) good = rw (good.0, plain_back place types good.2) (ap Ok (put_type_first type types good.1))

pub types_back : (place : List ℕ) (types : List Pair) → AreGoodTypes types → types_in place (types_members types) ≡ Ok types
types_back place types good = ap (types_in place) (types_plain types good) ∙ plain_back place types good

pub record IsGoodDocuments (documents : SaidDocuments) : Type 0 where
  pub path : is_script_path documents.path ≡ true
  pub root : is_folder documents.root ≡ true
  pub types : AreGoodTypes documents.types

pub documents_good : (place : List ℕ) (inner : Members) (documents : SaidDocuments) → documents_in place inner ≡ Ok documents → IsGoodDocuments documents
unfolding documents_in types_of
documents_good place inner documents e =
    let path = read_parts (required as_str is_script_path place inner (codes "path")) _ _ e in
    let root = read_parts (optional as_str is_folder place inner (codes "root") (codes "/srv/www")) _ _ path.rest in
    let types = read_parts (types_of place inner) _ _ root.rest in
    let inside = read_parts (optional as_table any_value place inner (codes "types") no_members) (types_in (place ++ codes "types.")) _ types.first_is in
    let made : SaidDocuments = record { path = path.value; root = root.value; types = types.value } in
    subst IsGoodDocuments (ok_parts made documents types.rest) (record {
      path = required_ok as_str is_script_path place inner (codes "path") path.value path.first_is;
      root = optional_ok as_str is_folder place inner (codes "root") (codes "/srv/www") root.value refl root.first_is;
      types = types_good (place ++ codes "types.") inside.value types.value inside.rest;
    })

-- what is written for documents
abbrev pub said_documents : SaidDocuments → Members
said_documents documents = documents_members documents.path (doc_root_of documents)

pub documents_back : (place : List ℕ) (documents : SaidDocuments) → IsGoodDocuments documents → documents_in place (said_documents documents) ≡ Ok documents
unfolding documents_in documents_members put required optional types_of
documents_back place documents good = rw (good.path, good.root, types_back (place ++ codes "types.") documents.types good.types)
