-- Why environments of received variables keep their rules.
use Rattle.std.proofs.Common.{◌≡◌, ℕ, ◌<◌, ◌⊎◌, Bool, true, false, cond, ◌&&◌, ◌||◌, not, List, [], ◌∷◌, ◌++◌, map, filter, length, refl, ap, ap₂, ◌∙◌, ltb-true, lt-ltb, inl, inr, codes}
use Rattle.std.specs.List.{list_all, list_any}
use Rattle.std.specs.Str.{bytes_eq}
use Rattle.std.proofs.lemmas.Bool.{cases_Bool, and_parts, and_from, or_left, or_right, cond-true, cond-false}
use Rattle.std.proofs.lemmas.List.Elements.{filter-append}
use Rattle.std.proofs.lemmas.Slice.Eq.{bytes_eq-Decides}
use Rattle.httparse.specs.Grammar.{trim_ows}
use Rattle.host_base.specs.declared.fields.Field.{Field}
use Rattle.host_base.specs.declared.launch.Pair.{Pair}
use Rattle.host_base.specs.declared.site.Mapped.{Mapped}
use Rattle.meta_variables.specs.Gateway.{withheld_variables, is_variable_char, is_passed_variable, is_passed_pair, received_variable, mapping_variables, gateway_environment}
use Rattle.meta_variables.specs.GatewayRules.{GatewayNamesArePlain, refused_variables, GatewayNoNameIsHostile, mapped_names, is_of_mapping, MappingDecides, IsPassedOn, PassesInOrder, LeavesOthersOut, GatewayValuesAreTexts}
use Rattle.meta_variables.specs.Variables.{is_filled, is_kept, value_text}
use Rattle.meta_variables.proofs.NameLaws.{all_filter, all_append, all_map, all_passing, all_from, all_denied, denied}
use Rattle.meta_variables.proofs.ValueLaws.{all_to, has_clean_value, has_text, low_text, text_of_bytes, trimmed, translated_text}

-- ---- each variable

received_all : (t : Pair → Bool) → ((f : Field) → is_passed_pair f ≡ true → t (received_variable f) ≡ true) → (pairs : List Field)
    → list_all t (filter is_kept (map received_variable (filter is_passed_pair pairs))) ≡ true
received_all t each pairs =
    all_filter t is_kept (map received_variable (filter is_passed_pair pairs))
    (all_map is_passed_pair t received_variable each (filter is_passed_pair pairs) (all_passing is_passed_pair pairs))

every : (t : Pair → Bool) → ((f : Field) → is_passed_pair f ≡ true → t (received_variable f) ≡ true) → (root : List ℕ) (mapped : Mapped)
    → list_all t (mapping_variables root mapped) ≡ true → (pairs : List Field) → list_all t (gateway_environment root mapped pairs) ≡ true
every t each root mapped fixed pairs =
    all_append t (filter is_kept (map received_variable (filter is_passed_pair pairs))) (filter is_kept (mapping_variables root mapped))
    (received_all t each pairs) (all_filter t is_kept (mapping_variables root mapped) fixed)

-- ---- names

passed_plain : (name : List ℕ) → is_passed_variable name ≡ true → list_all is_variable_char name ≡ true
passed_plain name passed = (and_parts (not (list_any (bytes_eq name) withheld_variables) && is_filled name) (list_all is_variable_char name) passed).1

passed_filled : (name : List ℕ) → is_passed_variable name ≡ true → is_filled name ≡ true
passed_filled name passed =
    (and_parts (not (list_any (bytes_eq name) withheld_variables)) (is_filled name)
    (and_parts (not (list_any (bytes_eq name) withheld_variables) && is_filled name) (list_all is_variable_char name) passed).0).1

passed_free : (name : List ℕ) → is_passed_variable name ≡ true → list_any (bytes_eq name) withheld_variables ≡ false
passed_free name passed =
    denied (list_any (bytes_eq name) withheld_variables) (and_parts (not (list_any (bytes_eq name) withheld_variables)) (is_filled name)
    (and_parts (not (list_any (bytes_eq name) withheld_variables) && is_filled name) (list_all is_variable_char name) passed).0).0

-- the withheld names are the four that are refused and the four of the mapping
parted : (a b c d e f g h : Bool) → (a || (b || (c || (d || (e || (f || (g || (h || false)))))))) ≡ false
    → ((a || (f || (g || (h || false)))) ≡ false) × ((b || (c || (d || (e || false)))) ≡ false)
parted false false false false false false false false is = (refl, refl)
parted true b c d e f g h is = absurd (cc)
parted false true c d e f g h is = absurd (cc)
parted false false true d e f g h is = absurd (cc)
parted false false false true e f g h is = absurd (cc)
parted false false false false true f g h is = absurd (cc)
parted false false false false false true g h is = absurd (cc)
parted false false false false false false true h is = absurd (cc)
parted false false false false false false false true is = absurd (cc)

together : (a b c d e f g h : Bool) → (a || (f || (g || (h || false)))) ≡ false → (b || (c || (d || (e || false)))) ≡ false
    → (a || (b || (c || (d || (e || (f || (g || (h || false)))))))) ≡ false
together false false false false false f g h one two = one
together true b c d e f g h one two = absurd (cc)
together false true c d e f g h one two = absurd (cc)
together false false true d e f g h one two = absurd (cc)
together false false false true e f g h one two = absurd (cc)
together false false false false true f g h one two = absurd (cc)

free_parts : (name : List ℕ) → list_any (bytes_eq name) withheld_variables ≡ false
    → (list_any (bytes_eq name) refused_variables ≡ false) × (list_any (bytes_eq name) mapped_names ≡ false)
free_parts name free =
    parted (bytes_eq name (codes "SCGI")) (bytes_eq name (codes "GATEWAY_INTERFACE")) (bytes_eq name (codes "SCRIPT_NAME")) (bytes_eq name (codes "PATH_INFO"))
    (bytes_eq name (codes "PATH_TRANSLATED")) (bytes_eq name (codes "HTTP_PROXY")) (bytes_eq name (codes "HTTP_AUTHORIZATION")) (bytes_eq name (codes "HTTP_PROXY_AUTHORIZATION")) free

free_from : (name : List ℕ) → list_any (bytes_eq name) refused_variables ≡ false → list_any (bytes_eq name) mapped_names ≡ false
    → list_any (bytes_eq name) withheld_variables ≡ false
free_from name one two =
    together (bytes_eq name (codes "SCGI")) (bytes_eq name (codes "GATEWAY_INTERFACE")) (bytes_eq name (codes "SCRIPT_NAME")) (bytes_eq name (codes "PATH_INFO"))
    (bytes_eq name (codes "PATH_TRANSLATED")) (bytes_eq name (codes "HTTP_PROXY")) (bytes_eq name (codes "HTTP_AUTHORIZATION")) (bytes_eq name (codes "HTTP_PROXY_AUTHORIZATION")) one two

pub gateway_names_are_plain : GatewayNamesArePlain
gateway_names_are_plain root mapped pairs =
    all_from (λ v. list_all is_variable_char v.name) (gateway_environment root mapped pairs)
    (every (λ v. list_all is_variable_char v.name) (λ f passed. passed_plain f.name passed) root mapped refl pairs)

pub gateway_no_name_is_hostile : GatewayNoNameIsHostile
gateway_no_name_is_hostile root mapped pairs =
    all_denied (λ v. list_any (bytes_eq v.name) refused_variables) (gateway_environment root mapped pairs)
    (every (λ v. not (list_any (bytes_eq v.name) refused_variables)) (λ f passed. ap not (free_parts f.name (passed_free f.name passed)).0) root mapped refl pairs)

-- ---- what the mapping decides

filter_none : {X : Type 0} (p : X → Bool) (xs : List X) → list_all (λ x. not (p x)) xs ≡ true → filter p xs ≡ []
filter_none p [] all = refl
filter_none p (x ∷ xs) all =
    let parts = and_parts (not (p x)) (list_all (λ y. not (p y)) xs) all in
    cond-false (p x) (x ∷ filter p xs) (filter p xs) (denied (p x) parts.0) ∙ filter_none p xs parts.1

filter_all : {X : Type 0} (p : X → Bool) (xs : List X) → list_all p xs ≡ true → filter p xs ≡ xs
filter_all p [] all = refl
filter_all p (x ∷ xs) all =
    let parts = and_parts (p x) (list_all p xs) all in
    cond-true (p x) (x ∷ filter p xs) (filter p xs) parts.0 ∙ ap (λ l. x ∷ l) (filter_all p xs parts.1)

pub mapping_decides : MappingDecides
mapping_decides root mapped pairs =
    let received = filter is_kept (map received_variable (filter is_passed_pair pairs)) in
    let own = filter is_kept (mapping_variables root mapped) in
    filter-append is_of_mapping received own
    ∙ ap₂ (λ (a b : List Pair). a ++ b)
    (filter_none is_of_mapping received
    (received_all (λ v. not (is_of_mapping v)) (λ f passed. ap not (free_parts f.name (passed_free f.name passed)).1) pairs))
    (filter_all is_of_mapping own (all_filter is_of_mapping is_kept (mapping_variables root mapped) refl))

-- ---- what is passed on

either : (a b : Bool) → (a || b) ≡ true → (a ≡ true) ⊎ (b ≡ true)
either true b is = inl refl
either false b is = inr is

kept_text : (received : Field) → is_kept (received_variable received) ≡ true
    → (0 < length (value_text received.value)) ⊎ (received.name ≡ codes "QUERY_STRING")
kept_text received kept =
    elim (either (is_filled (value_text received.value)) (bytes_eq received.name (codes "QUERY_STRING")) kept) [
      | inl some ↦ inl (ltb-true 0 (length (value_text received.value)) some)
      | inr named ↦ inr ((bytes_eq-Decides received.name (codes "QUERY_STRING")).0 named)
    ]

text_kept : (received : Field) → (0 < length (value_text received.value)) ⊎ (received.name ≡ codes "QUERY_STRING")
    → is_kept (received_variable received) ≡ true
text_kept received (inl some) = or_left _ _ (lt-ltb 0 (length (value_text received.value)) some)
text_kept received (inr named) = or_right _ _ ((bytes_eq-Decides received.name (codes "QUERY_STRING")).1 named)

passed_on : (received : Field) → is_passed_pair received ≡ true → is_kept (received_variable received) ≡ true → IsPassedOn received
passed_on received passed kept =
    let free = free_parts received.name (passed_free received.name passed) in
    record {
      some = ltb-true 0 (length received.name) (passed_filled received.name passed);
      plain = passed_plain received.name passed;
      harmless = free.0;
      unmapped = free.1;
      text = kept_text received kept;
    }

on_passed : (received : Field) → IsPassedOn received → is_passed_pair received ≡ true
on_passed received is =
    and_from _ _ (and_from _ _ (ap not (free_from received.name is.harmless is.unmapped)) (lt-ltb 0 (length received.name) is.some)) is.plain

module _ (root : List ℕ) (mapped : Mapped) (received : Field) (after : List Field) where
  abbrev own : List Pair
  own = filter is_kept (mapping_variables root mapped)

  abbrev later : List Pair
  later = filter is_kept (map received_variable (filter is_passed_pair after))

  if_passed : (b : Bool) → is_passed_pair received ≡ b
      → gateway_environment root mapped (received ∷ after)
      ≡ filter is_kept (map received_variable (cond b (received ∷ filter is_passed_pair after) (filter is_passed_pair after))) ++ own
  if_passed b is = ap (λ t. filter is_kept (map received_variable (cond t (received ∷ filter is_passed_pair after) (filter is_passed_pair after))) ++ own) is

  if_kept : (b : Bool) → is_kept (received_variable received) ≡ b
      → filter is_kept (map received_variable (received ∷ filter is_passed_pair after)) ++ own ≡ cond b (received_variable received ∷ later) later ++ own
  if_kept b is = ap (λ t. cond t (received_variable received ∷ later) later ++ own) is

pub passes_in_order : PassesInOrder
passes_in_order root mapped received after is =
    if_passed root mapped received after true (on_passed received is) ∙ if_kept root mapped received after true (text_kept received is.text)

pub leaves_others_out : LeavesOthersOut
leaves_others_out root mapped received after never =
    elim (cases_Bool (is_passed_pair received)) [
      | inl passed ↦
          elim (cases_Bool (is_kept (received_variable received))) [
            | inl kept ↦ absurd (never (passed_on received passed kept))
            | inr empty ↦ if_passed root mapped received after true passed ∙ if_kept root mapped received after false empty
          ]
      | inr other ↦ if_passed root mapped received after false other
    ]

-- ---- values

pub gateway_values_are_texts : GatewayValuesAreTexts
gateway_values_are_texts root mapped pairs one name info all =
    all_from has_text (gateway_environment root mapped pairs)
    (all_append has_text (filter is_kept (map received_variable (filter is_passed_pair pairs))) (filter is_kept (mapping_variables root mapped))
    (all_filter has_text is_kept (map received_variable (filter is_passed_pair pairs))
    (all_map has_clean_value has_text received_variable (λ f clean. text_of_bytes (trim_ows f.value) (trimmed f.value clean)) (filter is_passed_pair pairs)
    (all_filter has_clean_value is_passed_pair pairs (all_to has_clean_value pairs all))))
    (all_filter has_text is_kept (mapping_variables root mapped)
    (and_from _ _ (low_text (codes "CGI/1.1") refl)
    (and_from _ _ name
    (and_from _ _ info
    (and_from _ _ (translated_text root mapped.path_info one info) refl))))))
