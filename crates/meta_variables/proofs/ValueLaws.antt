-- Why every value of an environment is UTF-8 without a NUL.
use Rattle.std.proofs.Common.{◌≡◌, ℕ, zero, suc, ◌+◌, ◌<◌, ◌≤◌, ◌%◌, ◌/◌, Bool, true, false, cond, ◌&&◌, not, nat_lt, ◌==◌, List, [], ◌∷◌, ◌++◌, map, filter, length, get_or, refl, sym, ap, ◌∙◌, subst, arith, ltb-true, ne_eqb, lt-ltb, inl, inr, All, codes, decimal}
use Rattle.std.specs.Prelude.{None, Some, Option, option_map, slice_get, unwrap_or, encode_utf8}
use Rattle.std.specs.Fmt.{digits, digits_onto, digit_glyph}
use Rattle.std.specs.List.{flat_map, list_all}
use Rattle.std.specs.Str.{IsUtf8, is_utf8, str_eq_ignore_ascii_case}
use Rattle.std.proofs.Math.Utf8.{low_scalar}
use Rattle.std.proofs.lemmas.Bool.{cases_Bool, cases_lt, and_parts, and_from, cond-true, cond-false}
use Rattle.std.proofs.lemmas.List.Elements.{All-head, All-tail, All-get_or}
use Rattle.std.proofs.lemmas.Nat.{mod_below}
use Rattle.std.proofs.lemmas.Option.{slice_get_within, get_or_from_slice_get}
use Rattle.std.proofs.lemmas.Str.{IsUtf8-append, IsUtf8-nil, IsUtf8-encode, IsUtf8-from_is_utf8, is_utf8-from_IsUtf8, encode_ascii, inside_one}
use Rattle.httparse.specs.Grammar.{trim_ows}
use Rattle.httparse.proofs.TrimLemmas.{AllPass-trim_ows}
use Rattle.std.proofs.lemmas.List.{append-nil}
use Rattle.host_base.specs.declared.fields.Field.{Field}
use Rattle.host_base.specs.declared.launch.Pair.{Pair}
use Rattle.host_base.specs.declared.launch.Peer.{Peer}
use Rattle.host_base.specs.declared.request.Framing.{Framing}
use Rattle.host_base.specs.declared.request.Framing.TheVariants.{Empty, Length, Chunked}
use Rattle.host_base.specs.declared.request.Request.{Request}
use Rattle.host_base.specs.declared.request.Version.{Version}
use Rattle.host_base.specs.declared.request.Version.TheVariants.{V10, V11}
use Rattle.host_base.specs.declared.site.Mapped.{Mapped}
use Rattle.host_base.specs.declared.site.Site.{Site}
use Rattle.host_base.specs.declared.site.VHost.{VHost}
use Rattle.host_base.specs.FieldLists.{is_named, value_of, values_named}
use Rattle.meta_variables.specs.Environment.{content_length, protocol_of, translated, request_variables, environment_at}
use Rattle.meta_variables.specs.EnvironmentValues.{is_no_nul, is_program_text, is_value_byte, HasProgramTexts, ValuesAreTexts}
use Rattle.meta_variables.specs.HeaderVariables.{is_passed, name_of, distinct_names, separator_of, header_variable, header_variables}
use Rattle.meta_variables.specs.Variables.{is_filled, is_kept, as_text, joined, joined_values}
use Rattle.meta_variables.proofs.NameLaws.{all_filter, all_append, all_map, all_from}
use Rattle.meta_variables.proofs.TextLaws.{ascii_text}

-- ---- tests of each element

pub all_at : (t : ℕ → Bool) (xs : List ℕ) → ((k : ℕ) → k < length xs → t (get_or xs k 0) ≡ true) → list_all t xs ≡ true
all_at t [] each = refl
all_at t (x ∷ xs) each = and_from _ _ (each 0 (omega arith)) (all_at t xs (λ k below. each (suc k) (omega arith)))

pub all_weaker : {X : Type 0} (t u : X → Bool) → ((x : X) → t x ≡ true → u x ≡ true) → (xs : List X) → list_all t xs ≡ true → list_all u xs ≡ true
all_weaker t u goes [] all = refl
all_weaker t u goes (x ∷ xs) all =
    let parts = and_parts (t x) (list_all t xs) all in
    and_from _ _ (goes x parts.0) (all_weaker t u goes xs parts.1)

pub all_made : {X Y : Type 0} (t : Y → Bool) (f : X → Y) → ((x : X) → t (f x) ≡ true) → (xs : List X) → list_all t (map f xs) ≡ true
all_made t f each [] = refl
all_made t f each (x ∷ xs) = and_from _ _ (each x) (all_made t f each xs)

pub all_to : {X : Type 0} (t : X → Bool) (xs : List X) → All (λ x. t x ≡ true) xs → list_all t xs ≡ true
all_to t [] all = refl
all_to t (x ∷ xs) all = and_from _ _ (All-head (λ y. t y ≡ true) x xs all) (all_to t xs (All-tail (λ y. t y ≡ true) x xs all))

at_place : {X : Type 0} (P : X → Type 0) (xs : List X) (k : ℕ) (x : X) → slice_get xs k ≡ Some x → All P xs → P x
at_place P xs k x at all = subst P (get_or_from_slice_get xs k x x at) (All-get_or P xs k x (slice_get_within xs k x at) all)

-- ---- texts

text_from : (xs : List ℕ) → IsUtf8 xs → list_all is_no_nul xs ≡ true → is_program_text xs ≡ true
text_from xs text clean = and_from _ _ (is_utf8-from_IsUtf8 xs text) clean

text_parts : (xs : List ℕ) → is_program_text xs ≡ true → IsUtf8 xs × (list_all is_no_nul xs ≡ true)
text_parts xs is = let parts = and_parts (is_utf8 xs) (list_all is_no_nul xs) is in (IsUtf8-from_is_utf8 xs parts.0, parts.1)

text_none : is_program_text [] ≡ true
text_none = text_from [] IsUtf8-nil refl

text_append : (xs ys : List ℕ) → is_program_text xs ≡ true → is_program_text ys ≡ true → is_program_text (xs ++ ys) ≡ true
text_append xs ys one two =
    let a = text_parts xs one in
    let b = text_parts ys two in
    text_from (xs ++ ys) (IsUtf8-append xs ys a.0 b.0) (all_append is_no_nul xs ys a.1 b.1)

some_byte : (b : ℕ) → 0 < b → is_no_nul b ≡ true
some_byte b some = ap not (ne_eqb b 0 (λ e. omega arith))

-- an ASCII character other than NUL
abbrev is_low : ℕ → Bool
is_low b = nat_lt 0 b && nat_lt b 128

pub low_text : (xs : List ℕ) → list_all is_low xs ≡ true → is_program_text xs ≡ true
low_text xs all =
    and_from _ _ (ascii_text is_low (λ b is. ltb-true b 128 (and_parts (nat_lt 0 b) (nat_lt b 128) is).1) xs all)
    (all_weaker is_low is_no_nul (λ b is. some_byte b (ltb-true 0 b (and_parts (nat_lt 0 b) (nat_lt b 128) is).0)) xs all)

-- ---- decimal numbers

digit_low : (n : ℕ) → is_low (digit_glyph false (n % 10)) ≡ true
digit_low n =
    let below : n % 10 < 10 = mod_below n 10 (omega arith) in
    ap is_low (cond-true (nat_lt (n % 10) 10) (48 + n % 10) (87 + n % 10) (lt-ltb _ _ below))
    ∙ and_from _ _ (lt-ltb 0 (48 + n % 10) (omega (arith, below))) (lt-ltb (48 + n % 10) 128 (omega (arith, below)))

digits_low : (k n : ℕ) (acc : List ℕ) → list_all is_low acc ≡ true → list_all is_low (digits_onto k 10 false n acc) ≡ true
digits_low zero n acc all = all
digits_low (suc k) n acc all = by_case (n / 10 == 0) (digits_low k (n / 10) (digit_glyph false (n % 10) ∷ acc) more)
  where
    more : list_all is_low (digit_glyph false (n % 10) ∷ acc) ≡ true
    more = and_from _ _ (digit_low n) all

    by_case : (b : Bool) → list_all is_low (digits_onto k 10 false (n / 10) (digit_glyph false (n % 10) ∷ acc)) ≡ true
        → list_all is_low (cond b (digit_glyph false (n % 10) ∷ acc) (digits_onto k 10 false (n / 10) (digit_glyph false (n % 10) ∷ acc))) ≡ true
    by_case true later = more
    by_case false later = later

decimal_text : (n : ℕ) → is_program_text (decimal n) ≡ true
unfolding digits
decimal_text n = low_text (decimal n) (digits_low 64 n [] refl)

-- ---- values of fields

encoded_clean : (b : ℕ) → 0 < b → list_all is_no_nul (encode_utf8 b) ≡ true
encoded_clean b some =
    elim (cases_lt b 128) [
      | inl small ↦ rw (encode_ascii b small) (and_from _ _ (some_byte b some) refl)
      | inr big ↦ all_at is_no_nul (encode_utf8 b) (λ k below. some_byte (get_or (encode_utf8 b) k 0) (high big k below))
    ]
  where
    high : 128 ≤ b → (k : ℕ) → k < length (encode_utf8 b) → 0 < get_or (encode_utf8 b) k 0
    high big k below =
        elim (cases_lt (get_or (encode_utf8 b) k 0) 128) [
          | inl low ↦ absurd (omega (arith, inside_one b [] (encode_utf8 b) k (sym (append-nil _)) below low))
          | inr above ↦ omega arith
        ]

encoded_text : (bytes : List ℕ) → list_all is_value_byte bytes ≡ true → is_program_text (flat_map encode_utf8 bytes) ≡ true
encoded_text [] all = text_none
encoded_text (b ∷ bytes) all =
    let parts = and_parts (is_value_byte b) (list_all is_value_byte bytes) all in
    let range = and_parts (nat_lt 0 b) (nat_lt b 256) parts.0 in
    let some : 0 < b = ltb-true 0 b range.0 in
    let small : b < 256 = ltb-true b 256 range.1 in
    text_append (encode_utf8 b) (flat_map encode_utf8 bytes)
    (text_from (encode_utf8 b) (IsUtf8-encode b (low_scalar b (omega arith))) (encoded_clean b some)) (encoded_text bytes parts.1)

value_clean : (b : ℕ) → is_value_byte b ≡ true → is_no_nul b ≡ true
value_clean b is = some_byte b (ltb-true 0 b (and_parts (nat_lt 0 b) (nat_lt b 256) is).0)

pub text_of_bytes : (bytes : List ℕ) → list_all is_value_byte bytes ≡ true → is_program_text (as_text bytes) ≡ true
text_of_bytes bytes all =
    elim (cases_Bool (is_utf8 bytes)) [
      | inl text ↦ ap is_program_text (cond-true (is_utf8 bytes) bytes (flat_map encode_utf8 bytes) text)
          ∙ and_from _ _ text (all_weaker is_value_byte is_no_nul value_clean bytes all)
      | inr other ↦ ap is_program_text (cond-false (is_utf8 bytes) bytes (flat_map encode_utf8 bytes) other) ∙ encoded_text bytes all
    ]

pub trimmed : (bytes : List ℕ) → list_all is_value_byte bytes ≡ true → list_all is_value_byte (trim_ows bytes) ≡ true
trimmed bytes all = all_to is_value_byte (trim_ows bytes) (AllPass-trim_ows is_value_byte bytes (all_from is_value_byte bytes all))

joined_text : (separator : List ℕ) → is_program_text separator ≡ true → (texts : List (List ℕ)) → list_all is_program_text texts ≡ true
    → is_program_text (joined separator texts) ≡ true
joined_text separator sep [] all = text_none
joined_text separator sep (text ∷ []) all = (and_parts (is_program_text text) true all).0
joined_text separator sep (text ∷ next ∷ more) all =
    let parts = and_parts (is_program_text text) (list_all is_program_text (next ∷ more)) all in
    text_append (text ++ separator) (joined separator (next ∷ more)) (text_append text separator parts.0 sep)
    (joined_text separator sep (next ∷ more) parts.1)

abbrev pub has_clean_value : Field → Bool
has_clean_value field = list_all is_value_byte field.value

values_text : (separator name : List ℕ) (fields : List Field) → is_program_text separator ≡ true → list_all has_clean_value fields ≡ true
    → is_program_text (joined_values separator (values_named name fields)) ≡ true
values_text separator name fields sep all =
    let values = values_named name fields in
    joined_text separator sep (map as_text (filter is_filled (map trim_ows values)))
    (all_map (list_all is_value_byte) is_program_text as_text text_of_bytes (filter is_filled (map trim_ows values))
    (all_filter (list_all is_value_byte) is_filled (map trim_ows values)
    (all_map (list_all is_value_byte) (list_all is_value_byte) trim_ows trimmed values
    (all_map has_clean_value (list_all is_value_byte) value_of (λ field is. is) (filter (is_named name) fields)
    (all_filter has_clean_value (is_named name) fields all)))))

-- ---- all values

abbrev pub has_text : Pair → Bool
has_text variable = is_program_text variable.value

separator_text : (name : List ℕ) → is_program_text (separator_of name) ≡ true
separator_text name =
    elim (cases_Bool (str_eq_ignore_ascii_case (codes "Cookie") name)) [
      | inl cookie ↦ ap is_program_text (cond-true _ (codes "; ") (codes ", ") cookie) ∙ low_text (codes "; ") refl
      | inr other ↦ ap is_program_text (cond-false _ (codes "; ") (codes ", ") other) ∙ low_text (codes ", ") refl
    ]

headers_text : (fields : List Field) → list_all has_clean_value fields ≡ true → list_all has_text (header_variables fields) ≡ true
headers_text fields all =
    let names = distinct_names (filter is_passed (map name_of fields)) in
    all_filter has_text is_kept (map (header_variable fields) names)
    (all_made has_text (header_variable fields) (λ name. values_text (separator_of name) name fields (separator_text name) all) names)

length_text : (framing : Framing) (body : List ℕ) → is_program_text (content_length framing body) ≡ true
length_text Empty body = text_none
length_text (Length n) body = decimal_text n
length_text Chunked body = decimal_text (length body)

protocol_text : (version : Version) → is_program_text (protocol_of version) ≡ true
protocol_text V10 = low_text (codes "HTTP/1.0") refl
protocol_text V11 = low_text (codes "HTTP/1.1") refl

pub translated_text : (root path : List ℕ) → is_program_text root ≡ true → is_program_text path ≡ true → is_program_text (translated root path) ≡ true
translated_text root path one two =
    elim (cases_Bool (is_filled path)) [
      | inl some ↦ ap is_program_text (cond-true (is_filled path) (root ++ path) [] some) ∙ text_append root path one two
      | inr none ↦ ap is_program_text (cond-false (is_filled path) (root ++ path) [] none) ∙ text_none
    ]

name_text : (named : Option (List ℕ)) (own : List ℕ) → is_program_text (unwrap_or named []) ≡ true → is_program_text own ≡ true
    → is_program_text (unwrap_or named own) ≡ true
name_text None own one two = two
name_text (Some name) own one two = one

fixed_text : (site : Site) (host : VHost) (peer : Peer) (request : Request) (mapped : Mapped) → HasProgramTexts site peer request mapped
    → is_program_text host.name ≡ true → is_program_text host.root ≡ true → list_all has_clean_value request.fields ≡ true
    → list_all has_text (request_variables site host peer request mapped) ≡ true
fixed_text site host peer request mapped has name root clean =
    and_from _ _ (length_text request.framing request.body)
    (and_from _ _ (values_text (codes ", ") (codes "Content-Type") request.fields (low_text (codes ", ") refl) clean)
    (and_from _ _ (low_text (codes "CGI/1.1") refl)
    (and_from _ _ has.path_info
    (and_from _ _ (translated_text host.root mapped.path_info root has.path_info)
    (and_from _ _ has.query
    (and_from _ _ has.address
    (and_from _ _ has.address
    (and_from _ _ has.method
    (and_from _ _ has.script_name
    (and_from _ _ (name_text request.target.host host.name has.host name)
    (and_from _ _ (decimal_text site.port)
    (and_from _ _ (protocol_text request.version)
    (and_from _ _ (low_text (codes "cgihost/1") refl) refl)))))))))))))

pub values_are_texts : ValuesAreTexts
values_are_texts site peer request mapped env is has = by_host (slice_get site.hosts mapped.host) refl is
  where
    clean : list_all has_clean_value request.fields ≡ true
    clean = all_to has_clean_value request.fields has.fields

    by_host : (o : Option VHost) → slice_get site.hosts mapped.host ≡ o → option_map (λ host. environment_at site host peer request mapped) o ≡ Some env
        → All (λ variable. is_program_text variable.value ≡ true) env
    by_host None at told = absurd (cc)
    by_host (Some host) at told =
        let same : environment_at site host peer request mapped ≡ env = cc in
        let name = at_place (λ h. is_program_text h.name ≡ true) site.hosts mapped.host host at has.names in
        let root = at_place (λ h. is_program_text h.root ≡ true) site.hosts mapped.host host at has.roots in
        all_from has_text env
        (ap (list_all has_text) (sym same)
        ∙ all_append has_text (filter is_kept (request_variables site host peer request mapped)) (header_variables request.fields)
        (all_filter has_text is_kept (request_variables site host peer request mapped) (fixed_text site host peer request mapped has name root clean))
        (headers_text request.fields clean))
