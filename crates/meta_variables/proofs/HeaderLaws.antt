-- The names of fields, each once, line by line.
use Rattle.std.proofs.Common.{◌≡◌, ℕ, ◌+◌, ◌<◌, Bool, true, false, cond, not, ◌&&◌, ◌||◌, List, [], ◌∷◌, ◌++◌, length, map, take, filter, get_or, refl, sym, ap, ◌∙◌, append_assoc, append-nil}
use Rattle.std.specs.List.{list_any}
use Rattle.std.specs.Str.{str_eq_ignore_ascii_case}
use Rattle.std.proofs.lemmas.List.{map-append, take_more}
use Rattle.std.proofs.lemmas.List.Elements.{filter-append}
use Rattle.host_base.specs.declared.fields.Field.{Field}
use Rattle.host_base.specs.declared.launch.Pair.{Pair}
use Rattle.meta_variables.specs.HeaderVariables.{is_passed, name_of, distinct_names, header_variable}
use Rattle.meta_variables.specs.Variables.{is_kept}

abbrev same : List ℕ → List ℕ → Bool
same = str_eq_ignore_ascii_case

-- one more name, where it isn't among those before
distinct_push : (names : List (List ℕ)) (x : List ℕ)
    → distinct_names (names ++ x ∷ []) ≡ distinct_names names ++ cond (list_any (λ z. same z x) names) [] (x ∷ [])
distinct_push [] x = refl
distinct_push (y ∷ names) x =
    ap (λ l. y ∷ filter (λ o. not (same y o)) l) (distinct_push names x)
    ∙ ap (λ l. y ∷ l) (filter-append (λ o. not (same y o)) (distinct_names names) (cond (list_any (λ z. same z x) names) [] (x ∷ []))
    ∙ ap (λ l. filter (λ o. not (same y o)) (distinct_names names) ++ l) (either (list_any (λ z. same z x) names) (same y x) refl))
  where
    either : (b t : Bool) → same y x ≡ t → filter (λ o. not (same y o)) (cond b [] (x ∷ [])) ≡ cond (same y x || b) [] (x ∷ [])
    either true true is = sym (ap (λ c. cond (c || true) [] (x ∷ [])) is)
    either true false is = sym (ap (λ c. cond (c || true) [] (x ∷ [])) is)
    either false true is = (λ i. cond (not (is i)) (x ∷ []) []) ∙ sym (ap (λ c. cond (c || false) [] (x ∷ [])) is)
    either false false is = (λ i. cond (not (is i)) (x ∷ []) []) ∙ sym (ap (λ c. cond (c || false) [] (x ∷ [])) is)

-- the names that are passed on
abbrev pub passed_names : List Field → List (List ℕ)
passed_names fields = filter is_passed (map name_of fields)

any_passed : (x : List ℕ) (fields : List Field) → list_any (λ f. is_passed f.name && same f.name x) fields ≡ list_any (λ z. same z x) (passed_names fields)
any_passed x [] = refl
any_passed x (f ∷ fields) = by_case (any_passed x fields) (is_passed f.name)
  where
    by_case : list_any (λ g. is_passed g.name && same g.name x) fields ≡ list_any (λ z. same z x) (passed_names fields) → (b : Bool)
        → ((b && same f.name x) || list_any (λ g. is_passed g.name && same g.name x) fields) ≡ list_any (λ z. same z x) (cond b (f.name ∷ passed_names fields) (passed_names fields))
    by_case later true = ap (λ t. same f.name x || t) later
    by_case later false = later

names_next : (before : List Field) (f : Field)
    → distinct_names (passed_names (before ++ f ∷ []))
    ≡ distinct_names (passed_names before) ++ cond (is_passed f.name && not (list_any (λ g. is_passed g.name && same g.name f.name) before)) (f.name ∷ []) []
names_next before f =
    ap (λ l. distinct_names (filter is_passed l)) (map-append name_of before (f ∷ []))
    ∙ ap distinct_names (filter-append is_passed (map name_of before) (f.name ∷ []))
    ∙ by_case (is_passed f.name)
  where
    last : (b : Bool) → cond b [] (f.name ∷ []) ≡ cond (not b) (f.name ∷ []) []
    last true = refl
    last false = refl

    by_case : (b : Bool) → distinct_names (passed_names before ++ cond b (f.name ∷ []) [])
        ≡ distinct_names (passed_names before) ++ cond (b && not (list_any (λ g. is_passed g.name && same g.name f.name) before)) (f.name ∷ []) []
    by_case true =
        distinct_push (passed_names before) f.name
        ∙ ap (λ l. distinct_names (passed_names before) ++ l)
        (ap (λ b. cond b [] (f.name ∷ [])) (sym (any_passed f.name before)) ∙ last (list_any (λ g. is_passed g.name && same g.name f.name) before))
    by_case false = ap distinct_names (append-nil (passed_names before)) ∙ sym (append-nil (distinct_names (passed_names before)))

-- the variables of the first lines, by all lines
abbrev pub variables_of : List Field → List Field → List Pair
variables_of fields before = filter is_kept (map (header_variable fields) (distinct_names (passed_names before)))

pub headers_next : (fields : List Field) (i : ℕ) (f : Field) (old mid new : List Pair) (b : Bool) → i < length fields → f ≡ get_or fields i f
    → (is_passed f.name && not (list_any (λ g. is_passed g.name && same g.name f.name) (take i fields))) ≡ b
    → mid ≡ old ++ variables_of fields (take i fields) → new ≡ mid ++ filter is_kept (map (header_variable fields) (cond b (f.name ∷ []) []))
    → new ≡ old ++ variables_of fields (take (i + 1) fields)
headers_next fields i f old mid new b below here test before step =
    let names = distinct_names (passed_names (take i fields)) in
    let next = cond b (f.name ∷ []) [] in
    step ∙ ap (λ (l : List Pair). l ++ filter is_kept (map (header_variable fields) next)) before
    ∙ append_assoc old (filter is_kept (map (header_variable fields) names)) (filter is_kept (map (header_variable fields) next))
    ∙ ap (λ (l : List Pair). old ++ l)
    (sym (filter-append is_kept (map (header_variable fields) names) (map (header_variable fields) next))
    ∙ ap (filter is_kept) (sym (map-append (header_variable fields) names next))
    ∙ ap (λ ns. filter is_kept (map (header_variable fields) ns))
    (ap (λ t. names ++ cond t (f.name ∷ []) []) (sym test) ∙ sym (names_next (take i fields) f)
    ∙ ap (λ fs. distinct_names (passed_names fs)) (ap (λ (g : Field). take i fields ++ g ∷ []) here ∙ sym (take_more fields i f below))))
