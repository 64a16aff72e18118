-- The entries of a table gone over one after the other.
use Rattle.std.proofs.Common.{◌≡◌, ◌≢◌, ℕ, true, false, ◌&&◌, Less, subst, List, [], ◌∷◌, ◌++◌, Some, None, Result, Ok, Err, String, Global, string_bytes, refl, ap, sym, ◌∙◌, append-nil}
use Rattle.std.specs.Cmp.Lexicographic.{slice_cmp}
use Rattle.std.specs.List.{AllByRecursion, list_any}
use Rattle.std.specs.List.Sorted.{IsStrictlySortedBy}
use Rattle.std.specs.Map.{keys_of}
use Rattle.std.specs.Ordering.{nat_cmp, match_ordering}
use Rattle.std.specs.String.{string_cmp}
use Rattle.toml.specs.Data.{Data, Members, no_members, member, as_str}
use Rattle.std.specs.Str.{bytes_eq}
use Rattle.toml.specs.View.{view, members_view}
use Rattle.toml.specs.declared.value.Value.{Value}
use Rattle.host_base.specs.declared.launch.Pair.{Pair}
use Rattle.site_file.specs.declared.fault.SiteFault.{SiteFault}
use Rattle.site_file.specs.declared.fault.SiteFault.TheVariants.{NoMemory, Unknown}
use Rattle.site_file.specs.declared.levels.Level.{Level}
use Rattle.site_file.specs.Levels.{known_at}
use Rattle.site_file.specs.Steps.{◌>>=◌}
use Rattle.site_file.specs.SiteFile.{type_in, types_in, put_type}
use Rattle.site_file.specs.Unknown.{unknown_at}
use Rattle.site_file.specs.Keys.{ranged}
use Rattle.site_file.specs.Ranges.{is_extension, is_media_type}
use Rattle.site_file.proofs.EachLaws.{onto, onto_more}
use Rattle.site_file.proofs.InRangeLaws.{ok_parts, read_parts}

abbrev pub Entry : Type 0
Entry = String Global × Value

-- the types as they are read, which is in the order of the table's entries
abbrev pub types_read : List ℕ → Members → Result (List Pair) SiteFault
types_read place no_members = Ok []
types_read place (member extension found rest) = type_in place extension found >>= (λ type. types_read place rest >>= (λ types. Ok (type ∷ types)))

-- an entry is refused
pub types_stop : (place : List ℕ) (done : List Pair) (entries rest : List Entry) (key : String Global) (value : Value) (name : List ℕ) (fault : SiteFault) (all : Result (List Pair) SiteFault)
    → onto done (types_read place (members_view entries)) ≡ all → entries ≡ (key, value) ∷ rest → name ≡ string_bytes key
    → (fault ≢ NoMemory → type_in place name (view value) ≡ Err fault) → fault ≢ NoMemory → all ≡ Err fault
types_stop place done entries rest key value name fault all so_far is same refused known =
    sym so_far ∙ ap (λ left. onto done (types_read place (members_view left))) is
    ∙ stopped
  where
    here : type_in place (string_bytes key) (view value) ≡ Err fault
    here = ap (λ text. type_in place text (view value)) (sym same) ∙ refused known

    stopped : onto done (types_read place (members_view ((key, value) ∷ rest))) ≡ Err fault
    stopped = rw here

-- one more entry is read
pub types_go_on : (place : List ℕ) (done : List Pair) (entries rest : List Entry) (key : String Global) (value : Value) (name : List ℕ) (type : Pair) (all : Result (List Pair) SiteFault)
    → onto done (types_read place (members_view entries)) ≡ all → entries ≡ (key, value) ∷ rest → name ≡ string_bytes key
    → type_in place name (view value) ≡ Ok type
    → onto (done ++ type ∷ []) (types_read place (members_view rest)) ≡ all
types_go_on place done entries rest key value name type all so_far is same read =
    let here : type_in place (string_bytes key) (view value) ≡ Ok type = ap (λ text. type_in place text (view value)) (sym same) ∙ read in
    let one : onto done (types_read place (members_view ((key, value) ∷ rest))) ≡ onto done (types_read place (members_view rest) >>= (λ types. Ok (type ∷ types))) = rw here in
    sym (onto_more done type (types_read place (members_view rest))) ∙ sym one
    ∙ ap (λ left. onto done (types_read place (members_view left))) (sym is) ∙ so_far

pub types_end : (place : List ℕ) (done : List Pair) (entries : List Entry) (all : Result (List Pair) SiteFault)
    → onto done (types_read place (members_view entries)) ≡ all → entries ≡ [] → all ≡ Ok done
types_end place done entries all so_far is =
    sym so_far ∙ ap (λ left. onto done (types_read place (members_view left))) is ∙ ap Ok (append-nil done)

-- ---- a table's extensions ascend, so types come in their order

type_ranged : (place extension : List ℕ) (found : Result (List ℕ) SiteFault) (type : Pair)
    → (found >>= (λ value. Ok (record { name = extension; value = value }))) ≡ Ok type → type.name ≡ extension
type_ranged place extension (Ok value) type e = ap (λ type. type.name) (sym (ok_parts (record { name = extension; value = value }) type e))
type_ranged place extension (Err fault) type e = absurd (cc e)

type_name : (place extension : List ℕ) (found : Data) (type : Pair) → type_in place extension found ≡ Ok type → type.name ≡ extension
unfolding type_in
type_name place extension found type e = type_ranged place extension (ranged (λ type. is_extension extension && is_media_type type) (place ++ extension) (as_str found)) type e

first_type : (place : List ℕ) (key : String Global) (type : Pair) (entries : List Entry) (types : List Pair) → AllByRecursion (λ other. string_cmp key other ≡ Less) (keys_of entries)
    → type.name ≡ string_bytes key → types_read place (members_view entries) ≡ Ok types → put_type type types ≡ type ∷ types
unfolding put_type
first_type place key type [] types below name e = subst (λ types. put_type type types ≡ type ∷ types) (ok_parts [] types e) refl
first_type place key type (entry ∷ entries) types below name e =
    let a = read_parts (type_in place (string_bytes entry.0) (view entry.1)) _ types e in
    let b = read_parts (types_read place (members_view entries)) _ types a.rest in
    let less : slice_cmp nat_cmp type.name a.value.name ≡ Less =
    ap (λ own. slice_cmp nat_cmp own a.value.name) name
    ∙ ap (slice_cmp nat_cmp (string_bytes key)) (type_name place (string_bytes entry.0) (view entry.1) a.value a.first_is)
    ∙ below.0 in
    subst (λ types. put_type type types ≡ type ∷ types) (ok_parts (a.value ∷ b.value) types b.rest)
    (ap (λ order. match_ordering order (type ∷ a.value ∷ b.value) (type ∷ b.value) (a.value ∷ put_type type b.value)) less)

put_first : (place : List ℕ) (type : Pair) (rest : Result (List Pair) SiteFault) → ((types : List Pair) → rest ≡ Ok types → put_type type types ≡ type ∷ types)
    → (rest >>= (λ types. Ok (type ∷ types))) ≡ (rest >>= (λ types. Ok (put_type type types)))
put_first place type (Ok types) first = ap Ok (sym (first types refl))
put_first place type (Err fault) first = refl

with_type : (place : List ℕ) (found : Result Pair SiteFault) (plain sorted : Result (List Pair) SiteFault) → plain ≡ sorted
    → ((type : Pair) → found ≡ Ok type → (plain >>= (λ types. Ok (type ∷ types))) ≡ (plain >>= (λ types. Ok (put_type type types))))
    → (found >>= (λ type. plain >>= (λ types. Ok (type ∷ types)))) ≡ (found >>= (λ type. sorted >>= (λ types. Ok (put_type type types))))
with_type place (Ok type) plain sorted same put = put type refl ∙ ap (λ rest. rest >>= (λ types. Ok (put_type type types))) same
with_type place (Err fault) plain sorted same put = refl

pub types_in_order : (place : List ℕ) (entries : List Entry) → IsStrictlySortedBy string_cmp (keys_of entries)
    → types_read place (members_view entries) ≡ types_in place (members_view entries)
unfolding types_in IsStrictlySortedBy
types_in_order place [] ordered = refl
types_in_order place (entry ∷ entries) ordered =
    with_type place (type_in place (string_bytes entry.0) (view entry.1)) (types_read place (members_view entries)) (types_in place (members_view entries))
    (types_in_order place entries ordered.1)
    (λ type is. put_first place type (types_read place (members_view entries))
    (λ types read. first_type place entry.0 type entries types ordered.0 (type_name place (string_bytes entry.0) (view entry.1) type is) read))

-- an entry with a known key
pub unknown_later : (level : Level) (place : List ℕ) (entries rest : List Entry) (key : String Global) (value : Value) (name : List ℕ)
    → entries ≡ (key, value) ∷ rest → name ≡ string_bytes key → list_any (bytes_eq name) (known_at level) ≡ true
    → unknown_at level place (members_view rest) ≡ unknown_at level place (members_view entries)
unfolding unknown_at
unknown_later level place entries rest key value name is same known = rw (is, ← same, known)

-- .. with an unknown one
pub unknown_here : (level : Level) (place : List ℕ) (entries rest : List Entry) (key : String Global) (value : Value) (name : List ℕ)
    → entries ≡ (key, value) ∷ rest → name ≡ string_bytes key → list_any (bytes_eq name) (known_at level) ≡ false
    → unknown_at level place (members_view entries) ≡ Some (Unknown (place ++ name))
unfolding unknown_at
unknown_here level place entries rest key value name is same known = rw (is, ← same, known)

pub unknown_nowhere : (level : Level) (place : List ℕ) (entries : List Entry) → entries ≡ [] → unknown_at level place (members_view entries) ≡ None
unfolding unknown_at
unknown_nowhere level place entries is = rw is
