-- How the body of a request is delimited, in the standard's words.
use Rattle.std.proofs.Common.{◌≡◌, ℕ, ◌<◌, ◌≤◌, Bool, true, false, not, cond, leb, eqb, List, [], ◌∷◌, length, map, filter, Option, Some, None, Ok, Err, refl, sym, ap, ◌∙◌, arith, subst, inl, inr}
use Rattle.std.specs.Prelude.{◌⊎◌, ◌&&◌, ◌||◌, All, Any, codes}
use Rattle.std.specs.List.{list_any, list_all, flat_map}
use Rattle.std.specs.Char.{is_ascii_digit}
use Rattle.std.specs.Str.{str_eq_ignore_ascii_case}
use Rattle.std.proofs.lemmas.Bool.{cases_Bool, cond-true, cond-false, and_parts, and_from, or_parts, or_from, or_left, or_right, not-true, eqb-true, eqb-false, ne_eqb, leb-true, leb-false, lt-ltb, ltb-true}
use Rattle.std.proofs.lemmas.List.Elements.{All-nil, All-cons, All-head, All-tail}
use Rattle.std.proofs.lemmas.List.Folds.{Any-from_list_any, list_any-from_Any}
use Rattle.std.proofs.lemmas.List.Sums.{AllPass-from_list_all, list_all-from_AllPass}
use Rattle.std.proofs.lemmas.Slice.Eq.{bytes_eq-Decides}
use Rattle.httparse.specs.Grammar.{trim_ows}
use Rattle.host_base.specs.Ascii.{comma_words, is_filled}
use Rattle.host_base.specs.FieldLists.{is_named, value_of, values_named}
use Rattle.host_base.specs.declared.cause.Cause.{Cause}
use Rattle.host_base.specs.declared.cause.Cause.TheVariants.{BadFraming, BodyTooLong, CodingUnknown}
use Rattle.host_base.specs.declared.fields.Field.{Field}
use Rattle.host_base.specs.declared.limits.Limits.{Limits}
use Rattle.host_base.specs.declared.request.Framing.TheVariants.{Empty, Length, Chunked}
use Rattle.host_base.specs.declared.request.Head.{Head}
use Rattle.host_base.specs.declared.request.Version.{Version}
use Rattle.host_base.specs.declared.request.Version.TheVariants.{V10, V11}
use Rattle.host_base.proofs.SplitLaws.{chosen}
use Rattle.body_framing.specs.Framing.{framing_of, has_field, is_codings_refused, is_v10, framing_by_codings, framing_by_digits, framing_by_lengths, framing_by_number, is_length, is_other_coding, length_digits, names_length, number_of, without_zeros}
use Rattle.body_framing.specs.FramingLaws.{lengths_of, codings_of, coding_names, IsChunkedName, IsOtherName, IsChunkedHead, ChunksAreCoded, IsLengthOf, HasLength, LengthsAreNamed, BodilessHaveNeither, TwoFramingsAreRefused, IsMisplaced, IsUnknown, IsMiscounted, IsUnclear, FramingCauses}
use Rattle.body_framing.proofs.WordLaws.{framing_without, framing_refused, framing_coded}
use Rattle.body_framing.proofs.DigitLaws.{number-without_zeros, plain_without_zeros, same_digits}

-- ---- fields

has_values : (name : List ℕ) (fields : List Field) → has_field name fields ≡ true → 0 < length (values_named name fields)
has_values name [] some = absurd (cc)
has_values name (f ∷ fields) some =
    elim (cases_Bool (is_named name f)) [
      | inl named ↦
          let first : length (values_named name (f ∷ fields)) ≡ length (f.value ∷ values_named name fields) =
          ap (λ (b : Bool). length (map value_of (cond b (f ∷ filter (is_named name) fields) (filter (is_named name) fields)))) named in
          omega (arith, first)
      | inr other ↦
          let later : length (values_named name (f ∷ fields)) ≡ length (values_named name fields) =
          ap (λ (b : Bool). length (map value_of (cond b (f ∷ filter (is_named name) fields) (filter (is_named name) fields)))) other in
          omega (arith, later, has_values name fields (sym (ap (λ (b : Bool). b || has_field name fields) other) ∙ some))
    ]

no_values : (name : List ℕ) (fields : List Field) → has_field name fields ≡ false → values_named name fields ≡ []
no_values name [] none = refl
no_values name (f ∷ fields) none =
    let parts = or_parts (is_named name f) (has_field name fields) none in
    ap (λ (b : Bool). map value_of (cond b (f ∷ filter (is_named name) fields) (filter (is_named name) fields))) parts.0
    ∙ no_values name fields parts.1

with_field : (name : List ℕ) (fields : List Field) → 0 < length (values_named name fields) → has_field name fields ≡ true
with_field name fields some =
    elim (cases_Bool (has_field name fields)) [
      | inl is ↦ is
      | inr none ↦ absurd (omega (arith, some, ap (λ (vs : List (List ℕ)). length vs) (no_values name fields none)))
    ]

without_field : (name : List ℕ) (fields : List Field) → values_named name fields ≡ [] → has_field name fields ≡ false
without_field name fields none =
    elim (cases_Bool (has_field name fields)) [
      | inl is ↦ absurd (omega (arith, has_values name fields is, ap (λ (vs : List (List ℕ)). length vs) none))
      | inr is ↦ is
    ]

none_or_some : (values : List (List ℕ)) → (values ≡ []) ⊎ (0 < length values)
none_or_some [] = inl refl
none_or_some (value ∷ values) = inr (omega arith)

coded_by_names : (head : Head) → 0 < length (coding_names head) → 0 < length (codings_of head)
coded_by_names head some =
    elim (none_or_some (codings_of head)) [
      | inl none ↦ absurd (omega (arith, some, ap (λ (vs : List (List ℕ)). length (flat_map comma_words vs)) none))
      | inr is ↦ is
    ]

-- ---- the value of a length

length_at : (digits value : List ℕ) → length_digits value ≡ Some digits → IsLengthOf (number_of digits) value × (digits ≡ without_zeros (trim_ows value))
length_at digits value is =
    elim (chosen (is_filled (trim_ows value) && list_all is_ascii_digit (trim_ows value)) _ _ _ is) [
      | inl found ↦
          let parts = and_parts (is_filled (trim_ows value)) (list_all is_ascii_digit (trim_ows value)) found.0 in
          let same : digits ≡ without_zeros (trim_ows value) = cc in (
            record {
              some = ltb-true _ _ parts.0;
              digits = AllPass-from_list_all is_ascii_digit (trim_ows value) parts.1;
              names = sym (ap number_of same ∙ number-without_zeros (trim_ows value));
            },
            same,
          )
      | inr none ↦ absurd (cc)
    ]

length_back : (number : ℕ) (value : List ℕ) → IsLengthOf number value → length_digits value ≡ Some (without_zeros (trim_ows value))
length_back number value of =
    cond-true _ _ _ (and_from _ _ (lt-ltb 0 (length (trim_ows value)) of.some) (list_all-from_AllPass is_ascii_digit (trim_ows value) of.digits))

number_back : (number : ℕ) (value : List ℕ) → IsLengthOf number value → number_of (without_zeros (trim_ows value)) ≡ number
number_back number value of = number-without_zeros (trim_ows value) ∙ of.names

-- the digits of one number are the same
same_length : (number : ℕ) (value other : List ℕ) → IsLengthOf number value → IsLengthOf number other
    → is_length (without_zeros (trim_ows value)) other ≡ true
same_length number value other of of' =
    let plain = plain_without_zeros (trim_ows value) of.digits in
    let plain' = plain_without_zeros (trim_ows other) of'.digits in
    let same = same_digits _ _ plain.0 plain'.0 plain.1 plain'.1 (number_back number value of ∙ sym (number_back number other of')) in
    ap (names_length (without_zeros (trim_ows value))) (length_back number other of')
    ∙ (bytes_eq-Decides (without_zeros (trim_ows value)) (without_zeros (trim_ows other))).1 same

length_named : (digits value : List ℕ) → is_length digits value ≡ true → IsLengthOf (number_of digits) value
length_named digits value is = by_option (length_digits value) refl is
  where
    by_option : (o : Option (List ℕ)) → length_digits value ≡ o → names_length digits o ≡ true → IsLengthOf (number_of digits) value
    by_option None at is = absurd (cc)
    by_option (Some other) at is =
        let same : digits ≡ other = (bytes_eq-Decides digits other).0 is in
        subst (λ (ds : List ℕ). IsLengthOf (number_of ds) value) (sym same) (length_at other value at).0

all_named : (digits : List ℕ) (values : List (List ℕ)) → list_all (is_length digits) values ≡ true → All (IsLengthOf (number_of digits)) values
all_named digits [] all = All-nil (IsLengthOf (number_of digits))
all_named digits (value ∷ values) all =
    let parts = and_parts _ _ all in
    All-cons (IsLengthOf (number_of digits)) value values (length_named digits value parts.0) (all_named digits values parts.1)

all_same : (number : ℕ) (value : List ℕ) (others : List (List ℕ)) → IsLengthOf number value → All (IsLengthOf number) others
    → list_all (is_length (without_zeros (trim_ows value))) others ≡ true
all_same number value [] of all = refl
all_same number value (other ∷ others) of all =
    and_from _ _ (same_length number value other of (All-head (IsLengthOf number) other others all))
    (all_same number value others of (All-tail (IsLengthOf number) other others all))

-- ---- the values of all lengths

by_number : (limit number : ℕ) (values : List (List ℕ)) → 0 < length values → All (IsLengthOf number) values
    → framing_by_lengths limit values ≡ framing_by_number limit number
by_number limit number [] some each = absurd (omega (arith, some))
by_number limit number (value ∷ others) some each =
    let of = All-head (IsLengthOf number) value others each in
    let rest = All-tail (IsLengthOf number) value others each in
    ap (λ (o : Option (List ℕ)). framing_by_digits limit o others) (length_back number value of)
    ∙ cond-true _ _ _ (all_same number value others of rest)
    ∙ ap (framing_by_number limit) (number_back number value of)

-- what a number gives
pub data OfNumber (limit number : ℕ) : Type 0 where
  short : number ≤ limit → framing_by_number limit number ≡ Ok (Length number) → OfNumber limit number
  over : limit < number → framing_by_number limit number ≡ Err BodyTooLong → OfNumber limit number

of_number : (limit number : ℕ) → OfNumber limit number
of_number limit number =
    elim (cases_Bool (leb number limit)) [
      | inl is ↦ short (leb-true _ _ is) (cond-true _ _ _ is)
      | inr not ↦ over (omega (arith, leb-false number limit not)) (cond-false _ _ _ not)
    ]

-- where there is no one number, there is none
no_number : (limit number : ℕ) (values : List (List ℕ)) → 0 < length values → framing_by_lengths limit values ≡ Err BadFraming
    → All (IsLengthOf number) values → ⊥
no_number limit number values some bad each = by_cases (of_number limit number)
  where
    by_cases : OfNumber limit number → ⊥
    by_cases (short le is) = let both : Err BadFraming ≡ Ok (Length number) = sym bad ∙ by_number limit number values some each ∙ is in absurd (cc)
    by_cases (over lt is) = let both : Err BadFraming ≡ Err BodyTooLong = sym bad ∙ by_number limit number values some each ∙ is in absurd (cc)

one_or_bad : (limit : ℕ) (values : List (List ℕ)) → 0 < length values
    → ((number : ℕ) × All (IsLengthOf number) values) ⊎ (framing_by_lengths limit values ≡ Err BadFraming)
one_or_bad limit [] some = absurd (omega (arith, some))
one_or_bad limit (value ∷ others) some = by_option (length_digits value) refl
  where
    by_option : (o : Option (List ℕ)) → length_digits value ≡ o
        → ((number : ℕ) × All (IsLengthOf number) (value ∷ others)) ⊎ (framing_by_lengths limit (value ∷ others) ≡ Err BadFraming)
    by_option None at = inr (ap (λ (o : Option (List ℕ)). framing_by_digits limit o others) at)
    by_option (Some digits) at =
        elim (cases_Bool (list_all (is_length digits) others)) [
          | inl all ↦ inl (number_of digits, All-cons (IsLengthOf (number_of digits)) value others (length_at digits value at).0 (all_named digits others all))
          | inr some ↦ inr (ap (λ (o : Option (List ℕ)). framing_by_digits limit o others) at ∙ cond-false _ _ _ some)
        ]

-- ---- transfer codings

is_chunked_name : (name : List ℕ) → is_other_coding name ≡ false → IsChunkedName name
is_chunked_name name same = elim (cases_Bool (str_eq_ignore_ascii_case (codes "chunked") name)) [
  | inl is ↦ is
  | inr other ↦ let both : true ≡ false = sym (ap not other) ∙ same in absurd (cc)
]

all_chunked : (names : List (List ℕ)) → list_any is_other_coding names ≡ false → All IsChunkedName names
all_chunked [] none = All-nil IsChunkedName
all_chunked (name ∷ names) none =
    let parts = or_parts (is_other_coding name) (list_any is_other_coding names) none in
    All-cons IsChunkedName name names (is_chunked_name name parts.0) (all_chunked names parts.1)

none_other : (names : List (List ℕ)) → All IsChunkedName names → list_any is_other_coding names ≡ false
none_other [] all = refl
none_other (name ∷ names) all =
    or_from (is_other_coding name) (list_any is_other_coding names) (ap not (All-head IsChunkedName name names all))
    (none_other names (All-tail IsChunkedName name names all))

other_from : (names : List (List ℕ)) → Any IsOtherName names → list_any is_other_coding names ≡ true
other_from names (k, name, below, at, other) = list_any-from_Any is_other_coding names (k, name, below, at, ap not other)

other_in : (names : List (List ℕ)) → list_any is_other_coding names ≡ true → Any IsOtherName names
other_in names some = let any = Any-from_list_any is_other_coding names some in (any.0, any.1, any.2, any.3, not-true _ any.4)

lone : (names : List (List ℕ)) → length names ≡ 1 → All IsChunkedName names → (name : List ℕ) × (names ≡ name ∷ []) × IsChunkedName name
lone [] one all = absurd (omega (arith, one))
lone (name ∷ []) one all = (name, refl, All-head IsChunkedName name [] all)
lone (name ∷ (next ∷ names)) one all = absurd (omega (arith, one))

one_chunked : (names : List (List ℕ)) (name : List ℕ) → names ≡ name ∷ [] → IsChunkedName name → framing_by_codings names ≡ Ok Chunked
one_chunked names name is chunked =
    ap framing_by_codings is
    ∙ ap (λ (b : Bool). cond (not b || false) (Err CodingUnknown) (cond true (Ok Chunked) (Err BadFraming))) chunked

-- ---- each way in which a head delimits its body

v10_or_v11 : (version : Version) → (version ≡ V10) ⊎ (version ≡ V11)
v10_or_v11 V10 = inl refl
v10_or_v11 V11 = inr refl

without_codings : (head : Head) (limits : Limits) → codings_of head ≡ [] → framing_of head limits ≡ framing_by_lengths limits.body (lengths_of head)
without_codings head limits none =
    sym (framing_without head limits head.fields refl (without_field (codes "Transfer-Encoding") head.fields none))

with_codings : (head : Head) (limits : Limits) → head.version ≡ V11 → lengths_of head ≡ [] → 0 < length (codings_of head)
    → framing_of head limits ≡ framing_by_codings (coding_names head)
with_codings head limits version alone coded =
    sym (framing_coded head limits head.fields refl (with_field (codes "Transfer-Encoding") head.fields coded)
    (or_from (is_v10 head.version) (has_field (codes "Content-Length") head.fields) (ap is_v10 version)
    (without_field (codes "Content-Length") head.fields alone)))

of_length : (head : Head) (limits : Limits) (number : ℕ) → HasLength number head → framing_of head limits ≡ framing_by_number limits.body number
of_length head limits number has =
    without_codings head limits has.uncoded ∙ by_number limits.body number (lengths_of head) has.some has.each

of_neither : (head : Head) (limits : Limits) → codings_of head ≡ [] → lengths_of head ≡ [] → framing_of head limits ≡ Ok Empty
of_neither head limits uncoded alone = without_codings head limits uncoded ∙ ap (framing_by_lengths limits.body) alone

of_misplaced : (head : Head) (limits : Limits) → IsMisplaced head → framing_of head limits ≡ Err BadFraming
of_misplaced head limits out =
    sym (framing_refused head limits head.fields refl (with_field (codes "Transfer-Encoding") head.fields out.coded) (by_place out.where_none))
  where
    by_place : (head.version ≡ V10) ⊎ (0 < length (lengths_of head)) → is_codings_refused head ≡ true
    by_place (inl old) = or_left (is_v10 head.version) (has_field (codes "Content-Length") head.fields) (ap is_v10 old)
    by_place (inr beside) = or_right (is_v10 head.version) (has_field (codes "Content-Length") head.fields) (with_field (codes "Content-Length") head.fields beside)

of_chunks : (head : Head) (limits : Limits) → IsChunkedHead head → framing_of head limits ≡ Ok Chunked
of_chunks head limits is =
    let len : length (coding_names head) ≡ 1 = ap (λ (names : List (List ℕ)). length names) is.once.1 in
    with_codings head limits is.version is.alone (coded_by_names head (omega (arith, len)))
    ∙ one_chunked (coding_names head) is.once.0 is.once.1 is.once.2

of_unknown : (head : Head) (limits : Limits) → IsUnknown head → framing_of head limits ≡ Err CodingUnknown
of_unknown head limits is =
    let below = is.other.2 in
    with_codings head limits is.version is.alone (coded_by_names head (omega (arith, below)))
    ∙ cond-true _ _ _ (other_from (coding_names head) is.other)

of_miscounted : (head : Head) (limits : Limits) → IsMiscounted head → framing_of head limits ≡ Err BadFraming
of_miscounted head limits is =
    with_codings head limits is.version is.alone is.coded
    ∙ cond-false _ _ _ (none_other (coding_names head) is.chunked)
    ∙ cond-false _ _ _ (ne_eqb (length (coding_names head)) 1 is.not_once)

of_unclear : (head : Head) (limits : Limits) → IsUnclear head → framing_of head limits ≡ Err BadFraming
of_unclear head limits is =
    elim (one_or_bad limits.body (lengths_of head) is.some) [
      | inl found ↦ absurd (is.none found.0 (record { uncoded = is.uncoded; some = is.some; each = found.1 }))
      | inr bad ↦ without_codings head limits is.uncoded ∙ bad
    ]

-- ---- all heads

-- how a head delimits its body
data OfHead (head : Head) (limits : Limits) : Type 0 where
  neither : codings_of head ≡ [] → lengths_of head ≡ [] → framing_of head limits ≡ Ok Empty → OfHead head limits
  counted : (number : ℕ) → HasLength number head → number ≤ limits.body → framing_of head limits ≡ Ok (Length number) → OfHead head limits
  long : (number : ℕ) → HasLength number head → limits.body < number → framing_of head limits ≡ Err BodyTooLong → OfHead head limits
  unclear : IsUnclear head → framing_of head limits ≡ Err BadFraming → OfHead head limits
  misplaced : IsMisplaced head → framing_of head limits ≡ Err BadFraming → OfHead head limits
  unknown : IsUnknown head → framing_of head limits ≡ Err CodingUnknown → OfHead head limits
  chunks : IsChunkedHead head → framing_of head limits ≡ Ok Chunked → OfHead head limits
  miscounted : IsMiscounted head → framing_of head limits ≡ Err BadFraming → OfHead head limits

by_lengths : (head : Head) (limits : Limits) → codings_of head ≡ [] → 0 < length (lengths_of head) → OfHead head limits
by_lengths head limits uncoded some = by_values (one_or_bad limits.body (lengths_of head) some)
  where
    by_size : (number : ℕ) → HasLength number head → OfNumber limits.body number → OfHead head limits
    by_size number has (short le is) = counted number has le (of_length head limits number has ∙ is)
    by_size number has (over lt is) = long number has lt (of_length head limits number has ∙ is)

    by_values : ((number : ℕ) × All (IsLengthOf number) (lengths_of head)) ⊎ (framing_by_lengths limits.body (lengths_of head) ≡ Err BadFraming)
        → OfHead head limits
    by_values (inl found) =
        by_size found.0 (record { uncoded = uncoded; some = some; each = found.1 }) (of_number limits.body found.0)
    by_values (inr bad) =
        unclear
        (record { uncoded = uncoded; some = some; none = λ number has. no_number limits.body number (lengths_of head) some bad has.each })
        (without_codings head limits uncoded ∙ bad)

by_codings : (head : Head) (limits : Limits) → head.version ≡ V11 → lengths_of head ≡ [] → 0 < length (codings_of head) → OfHead head limits
by_codings head limits version alone coded =
    elim (cases_Bool (list_any is_other_coding (coding_names head))) [
      | inl some ↦
          let is : IsUnknown head = record { version = version; alone = alone; other = other_in (coding_names head) some } in
          unknown is (of_unknown head limits is)
      | inr none ↦
          let all = all_chunked (coding_names head) none in
          elim (cases_Bool (eqb (length (coding_names head)) 1)) [
            | inl one ↦
                let is : IsChunkedHead head = record { version = version; alone = alone; once = lone (coding_names head) (eqb-true _ _ one) all } in
                chunks is (of_chunks head limits is)
            | inr other ↦
                let is : IsMiscounted head = record { version = version; alone = alone; coded = coded; chunked = all; not_once = eqb-false _ _ other } in
                miscounted is (of_miscounted head limits is)
          ]
    ]

of_head : (head : Head) (limits : Limits) → OfHead head limits
of_head head limits =
    elim (none_or_some (codings_of head)) [
      | inl uncoded ↦
          elim (none_or_some (lengths_of head)) [
            | inl alone ↦ neither uncoded alone (of_neither head limits uncoded alone)
            | inr some ↦ by_lengths head limits uncoded some
          ]
      | inr coded ↦
          elim (none_or_some (lengths_of head)) [
            | inl alone ↦
                elim (v10_or_v11 head.version) [
                  | inl old ↦
                      let is : IsMisplaced head = record { coded = coded; where_none = inl old } in
                      misplaced is (of_misplaced head limits is)
                  | inr new ↦ by_codings head limits new alone coded
                ]
            | inr beside ↦
                let is : IsMisplaced head = record { coded = coded; where_none = inr beside } in
                misplaced is (of_misplaced head limits is)
          ]
    ]

-- ---- the laws

pub chunks_are_coded : ChunksAreCoded
chunks_are_coded head limits = (λ is. forth (of_head head limits) is, of_chunks head limits)
  where
    forth : OfHead head limits → framing_of head limits ≡ Ok Chunked → IsChunkedHead head
    forth (chunks is at) due = is
    forth (neither uncoded alone at) due = let both : Ok Empty ≡ Ok Chunked = sym at ∙ due in absurd (cc)
    forth (counted number has le at) due = let both : Ok (Length number) ≡ Ok Chunked = sym at ∙ due in absurd (cc)
    forth (long number has lt at) due = let both : Err BodyTooLong ≡ Ok Chunked = sym at ∙ due in absurd (cc)
    forth (unclear is at) due = let both : Err BadFraming ≡ Ok Chunked = sym at ∙ due in absurd (cc)
    forth (misplaced is at) due = let both : Err BadFraming ≡ Ok Chunked = sym at ∙ due in absurd (cc)
    forth (unknown is at) due = let both : Err CodingUnknown ≡ Ok Chunked = sym at ∙ due in absurd (cc)
    forth (miscounted is at) due = let both : Err BadFraming ≡ Ok Chunked = sym at ∙ due in absurd (cc)

pub lengths_are_named : LengthsAreNamed
lengths_are_named head limits number = (λ is. forth (of_head head limits) is, λ h. back h.0 h.1 (of_number limits.body number))
  where
    back : HasLength number head → number ≤ limits.body → OfNumber limits.body number → framing_of head limits ≡ Ok (Length number)
    back has le (short le' is) = of_length head limits number has ∙ is
    back has le (over lt is) = absurd (omega (arith, le, lt))

    forth : OfHead head limits → framing_of head limits ≡ Ok (Length number) → HasLength number head × (number ≤ limits.body)
    forth (counted n has le at) due =
        let both : Ok (Length n) ≡ Ok (Length number) = sym at ∙ due in
        let same : n ≡ number = cc in
        (subst (λ (m : ℕ). HasLength m head) same has, omega (arith, same, le))
    forth (neither uncoded alone at) due = let both : Ok Empty ≡ Ok (Length number) = sym at ∙ due in absurd (cc)
    forth (long n has lt at) due = let both : Err BodyTooLong ≡ Ok (Length number) = sym at ∙ due in absurd (cc)
    forth (unclear is at) due = let both : Err BadFraming ≡ Ok (Length number) = sym at ∙ due in absurd (cc)
    forth (misplaced is at) due = let both : Err BadFraming ≡ Ok (Length number) = sym at ∙ due in absurd (cc)
    forth (unknown is at) due = let both : Err CodingUnknown ≡ Ok (Length number) = sym at ∙ due in absurd (cc)
    forth (chunks is at) due = let both : Ok Chunked ≡ Ok (Length number) = sym at ∙ due in absurd (cc)
    forth (miscounted is at) due = let both : Err BadFraming ≡ Ok (Length number) = sym at ∙ due in absurd (cc)

pub bodiless_have_neither : BodilessHaveNeither
bodiless_have_neither head limits = (λ is. forth (of_head head limits) is, λ h. of_neither head limits h.0 h.1)
  where
    forth : OfHead head limits → framing_of head limits ≡ Ok Empty → (codings_of head ≡ []) × (lengths_of head ≡ [])
    forth (neither uncoded alone at) due = (uncoded, alone)
    forth (counted number has le at) due = let both : Ok (Length number) ≡ Ok Empty = sym at ∙ due in absurd (cc)
    forth (long number has lt at) due = let both : Err BodyTooLong ≡ Ok Empty = sym at ∙ due in absurd (cc)
    forth (unclear is at) due = let both : Err BadFraming ≡ Ok Empty = sym at ∙ due in absurd (cc)
    forth (misplaced is at) due = let both : Err BadFraming ≡ Ok Empty = sym at ∙ due in absurd (cc)
    forth (unknown is at) due = let both : Err CodingUnknown ≡ Ok Empty = sym at ∙ due in absurd (cc)
    forth (chunks is at) due = let both : Ok Chunked ≡ Ok Empty = sym at ∙ due in absurd (cc)
    forth (miscounted is at) due = let both : Err BadFraming ≡ Ok Empty = sym at ∙ due in absurd (cc)

pub two_framings_are_refused : TwoFramingsAreRefused
two_framings_are_refused head limits coded some = of_misplaced head limits (record { coded = coded; where_none = inr some })

unknown_due : (head : Head) (limits : Limits) → OfHead head limits → framing_of head limits ≡ Err CodingUnknown → IsUnknown head
unknown_due head limits (unknown is at) due = is
unknown_due head limits (neither uncoded alone at) due = let both : Ok Empty ≡ Err CodingUnknown = sym at ∙ due in absurd (cc)
unknown_due head limits (counted number has le at) due = let both : Ok (Length number) ≡ Err CodingUnknown = sym at ∙ due in absurd (cc)
unknown_due head limits (long number has lt at) due = let both : Err BodyTooLong ≡ Err CodingUnknown = sym at ∙ due in absurd (cc)
unknown_due head limits (unclear is at) due = let both : Err BadFraming ≡ Err CodingUnknown = sym at ∙ due in absurd (cc)
unknown_due head limits (misplaced is at) due = let both : Err BadFraming ≡ Err CodingUnknown = sym at ∙ due in absurd (cc)
unknown_due head limits (chunks is at) due = let both : Ok Chunked ≡ Err CodingUnknown = sym at ∙ due in absurd (cc)
unknown_due head limits (miscounted is at) due = let both : Err BadFraming ≡ Err CodingUnknown = sym at ∙ due in absurd (cc)

long_due : (head : Head) (limits : Limits) → OfHead head limits → framing_of head limits ≡ Err BodyTooLong
    → (number : ℕ) × HasLength number head × (limits.body < number)
long_due head limits (long number has lt at) due = (number, has, lt)
long_due head limits (neither uncoded alone at) due = let both : Ok Empty ≡ Err BodyTooLong = sym at ∙ due in absurd (cc)
long_due head limits (counted number has le at) due = let both : Ok (Length number) ≡ Err BodyTooLong = sym at ∙ due in absurd (cc)
long_due head limits (unclear is at) due = let both : Err BadFraming ≡ Err BodyTooLong = sym at ∙ due in absurd (cc)
long_due head limits (misplaced is at) due = let both : Err BadFraming ≡ Err BodyTooLong = sym at ∙ due in absurd (cc)
long_due head limits (unknown is at) due = let both : Err CodingUnknown ≡ Err BodyTooLong = sym at ∙ due in absurd (cc)
long_due head limits (chunks is at) due = let both : Ok Chunked ≡ Err BodyTooLong = sym at ∙ due in absurd (cc)
long_due head limits (miscounted is at) due = let both : Err BadFraming ≡ Err BodyTooLong = sym at ∙ due in absurd (cc)

bad_due : (head : Head) (limits : Limits) → OfHead head limits → framing_of head limits ≡ Err BadFraming
    → IsMisplaced head ⊎ (IsMiscounted head ⊎ IsUnclear head)
bad_due head limits (misplaced is at) due = inl is
bad_due head limits (miscounted is at) due = inr (inl is)
bad_due head limits (unclear is at) due = inr (inr is)
bad_due head limits (neither uncoded alone at) due = let both : Ok Empty ≡ Err BadFraming = sym at ∙ due in absurd (cc)
bad_due head limits (counted number has le at) due = let both : Ok (Length number) ≡ Err BadFraming = sym at ∙ due in absurd (cc)
bad_due head limits (long number has lt at) due = let both : Err BodyTooLong ≡ Err BadFraming = sym at ∙ due in absurd (cc)
bad_due head limits (unknown is at) due = let both : Err CodingUnknown ≡ Err BadFraming = sym at ∙ due in absurd (cc)
bad_due head limits (chunks is at) due = let both : Ok Chunked ≡ Err BadFraming = sym at ∙ due in absurd (cc)

is_bad : (head : Head) (limits : Limits) → IsMisplaced head ⊎ (IsMiscounted head ⊎ IsUnclear head) → framing_of head limits ≡ Err BadFraming
is_bad head limits (inl is) = of_misplaced head limits is
is_bad head limits (inr (inl is)) = of_miscounted head limits is
is_bad head limits (inr (inr is)) = of_unclear head limits is

is_long : (head : Head) (limits : Limits) (number : ℕ) → HasLength number head → limits.body < number → OfNumber limits.body number
    → framing_of head limits ≡ Err BodyTooLong
is_long head limits number has lt (short le is) = absurd (omega (arith, le, lt))
is_long head limits number has lt (over lt' is) = of_length head limits number has ∙ is

one_of_three : (head : Head) (limits : Limits) → OfHead head limits → (cause : Cause) → framing_of head limits ≡ Err cause
    → (cause ≡ CodingUnknown) ⊎ ((cause ≡ BodyTooLong) ⊎ (cause ≡ BadFraming))
one_of_three head limits (misplaced is at) cause due = let both : Err BadFraming ≡ Err cause = sym at ∙ due in inr (inr (cc))
one_of_three head limits (miscounted is at) cause due = let both : Err BadFraming ≡ Err cause = sym at ∙ due in inr (inr (cc))
one_of_three head limits (unclear is at) cause due = let both : Err BadFraming ≡ Err cause = sym at ∙ due in inr (inr (cc))
one_of_three head limits (long number has lt at) cause due = let both : Err BodyTooLong ≡ Err cause = sym at ∙ due in inr (inl (cc))
one_of_three head limits (unknown is at) cause due = let both : Err CodingUnknown ≡ Err cause = sym at ∙ due in inl (cc)
one_of_three head limits (neither uncoded alone at) cause due = let both : Ok Empty ≡ Err cause = sym at ∙ due in absurd (cc)
one_of_three head limits (counted number has le at) cause due = let both : Ok (Length number) ≡ Err cause = sym at ∙ due in absurd (cc)
one_of_three head limits (chunks is at) cause due = let both : Ok Chunked ≡ Err cause = sym at ∙ due in absurd (cc)

pub framing_causes : FramingCauses
framing_causes head limits = record {
  unknown = (λ is. unknown_due head limits (of_head head limits) is, of_unknown head limits);
  long = (λ is. long_due head limits (of_head head limits) is, λ h. is_long head limits h.0 h.1 h.2 (of_number limits.body h.0));
  bad = (λ is. bad_due head limits (of_head head limits) is, is_bad head limits);
  no_other = one_of_three head limits (of_head head limits);
}
