-- The names of variables: which bytes they have, and which fields have one name.
use Rattle.std.proofs.Common.{◌≡◌, ℕ, ◌+◌, Bool, true, false, cond, not, ◌&&◌, ◌||◌, List, [], ◌∷◌, ◌++◌, map, filter, drop, refl, sym, ap, ◌∙◌, arith, eqb, leb, inl, inr}
use Rattle.std.specs.Prelude.{All, None, Some, Option, option_map, slice_get}
use Rattle.std.specs.Char.{to_ascii_lowercase}
use Rattle.std.specs.List.{list_all, list_any}
use Rattle.std.specs.Str.{bytes_eq, str_eq_ignore_ascii_case, str_to_ascii_lowercase}
use Rattle.std.proofs.lemmas.Bool.{cases_Bool, and_parts, and_from, false≢true}
use Rattle.std.proofs.lemmas.Bool.Decides.{nat_tests}
use Rattle.std.proofs.lemmas.List.Elements.{All-cons, All-nil}
use Rattle.std.proofs.lemmas.Slice.Eq.{bytes_eq-Decides}
use Rattle.host_base.specs.declared.fields.Field.{Field}
use Rattle.host_base.specs.declared.launch.Pair.{Pair}
use Rattle.host_base.specs.declared.launch.Peer.{Peer}
use Rattle.host_base.specs.declared.request.Request.{Request}
use Rattle.host_base.specs.declared.site.Mapped.{Mapped}
use Rattle.host_base.specs.declared.site.Site.{Site}
use Rattle.host_base.specs.declared.site.VHost.{VHost}
use Rattle.script_map.proofs.ListLaws.{neither}
use Rattle.meta_variables.specs.Environment.{environment_at, environment_of, request_variables}
use Rattle.meta_variables.specs.EnvironmentRules.{NamesArePlain, NoNameIsHostile, hostile_names}
use Rattle.meta_variables.specs.Gateway.{is_variable_char}
use Rattle.meta_variables.specs.HeaderVariables.{is_name_char, variable_char, variable_name, withheld_names, is_passed, name_of, distinct_names, header_variable, header_variables}
use Rattle.meta_variables.specs.Variables.{is_kept}

-- ---- what passes a test in each part of a list

pub all_filter : {X : Type 0} (t p : X → Bool) (xs : List X) → list_all t xs ≡ true → list_all t (filter p xs) ≡ true
all_filter t p [] all = refl
all_filter t p (x ∷ xs) all = by_case (all_filter t p xs (and_parts (t x) (list_all t xs) all).1) (p x)
  where
    by_case : list_all t (filter p xs) ≡ true → (b : Bool) → list_all t (cond b (x ∷ filter p xs) (filter p xs)) ≡ true
    by_case later true = and_from _ _ (and_parts (t x) (list_all t xs) all).0 later
    by_case later false = later

pub all_append : {X : Type 0} (t : X → Bool) (xs ys : List X) → list_all t xs ≡ true → list_all t ys ≡ true → list_all t (xs ++ ys) ≡ true
all_append t [] ys one two = two
all_append t (x ∷ xs) ys one two =
    let parts = and_parts (t x) (list_all t xs) one in
    and_from _ _ parts.0 (all_append t xs ys parts.1 two)

pub all_map : {X Y : Type 0} (u : X → Bool) (t : Y → Bool) (f : X → Y) (goes : (x : X) → u x ≡ true → t (f x) ≡ true) (xs : List X)
    → list_all u xs ≡ true → list_all t (map f xs) ≡ true
all_map u t f goes [] all = refl
all_map u t f goes (x ∷ xs) all =
    let parts = and_parts (u x) (list_all u xs) all in
    and_from _ _ (goes x parts.0) (all_map u t f goes xs parts.1)

pub all_passing : {X : Type 0} (p : X → Bool) (xs : List X) → list_all p (filter p xs) ≡ true
all_passing p [] = refl
all_passing p (x ∷ xs) = by_case (all_passing p xs) (p x) refl
  where
    by_case : list_all p (filter p xs) ≡ true → (b : Bool) → p x ≡ b → list_all p (cond b (x ∷ filter p xs) (filter p xs)) ≡ true
    by_case later true here = and_from _ _ here later
    by_case later false other = later

pub all_distinct : (u : List ℕ → Bool) (names : List (List ℕ)) → list_all u names ≡ true → list_all u (distinct_names names) ≡ true
all_distinct u [] all = refl
all_distinct u (name ∷ names) all =
    let parts = and_parts (u name) (list_all u names) all in
    and_from _ _ parts.0 (all_filter u (λ other. not (str_eq_ignore_ascii_case name other)) (distinct_names names) (all_distinct u names parts.1))

pub all_from : {X : Type 0} (t : X → Bool) (xs : List X) → list_all t xs ≡ true → All (λ x. t x ≡ true) xs
all_from t [] all = All-nil (λ x. t x ≡ true)
all_from t (x ∷ xs) all =
    let parts = and_parts (t x) (list_all t xs) all in
    All-cons (λ y. t y ≡ true) x xs parts.0 (all_from t xs parts.1)

-- a test of names that the fixed ones pass, and those of fields that are passed on
pub each_variable : (t : Pair → Bool) (site : Site) (peer : Peer) (request : Request) (mapped : Mapped) (env : List Pair)
    → ((host : VHost) → list_all t (request_variables site host peer request mapped) ≡ true)
    → ((fields : List Field) (name : List ℕ) → is_passed name ≡ true → t (header_variable fields name) ≡ true)
    → environment_of site peer request mapped ≡ Some env → list_all t env ≡ true
each_variable t site peer request mapped env fixed header is = by_host (slice_get site.hosts mapped.host) is
  where
    headers : list_all t (header_variables request.fields) ≡ true
    headers =
        all_filter t is_kept _ (all_map is_passed t (header_variable request.fields) (header request.fields) (distinct_names (filter is_passed (map name_of request.fields)))
        (all_distinct is_passed (filter is_passed (map name_of request.fields)) (all_passing is_passed (map name_of request.fields))))

    by_host : (o : Option VHost) → option_map (λ host. environment_at site host peer request mapped) o ≡ Some env → list_all t env ≡ true
    by_host None told = absurd (cc)
    by_host (Some host) told =
        let same : environment_at site host peer request mapped ≡ env = cc in
        ap (list_all t) (sym same)
        ∙ all_append t (filter is_kept (request_variables site host peer request mapped)) (header_variables request.fields)
        (all_filter t is_kept (request_variables site host peer request mapped) (fixed host)) headers

-- ---- plain names

pub passed_chars : (name : List ℕ) → is_passed name ≡ true → list_all is_name_char name ≡ true
passed_chars name passed = (and_parts _ (list_all is_name_char name) passed).1

upper_plain : (b : ℕ) → is_name_char b ≡ true → is_variable_char (variable_char b) ≡ true
upper_plain b is = grind (arith, nat_tests)

pub names_are_plain : NamesArePlain
names_are_plain site peer request mapped env is =
    all_from (λ variable. list_all is_variable_char variable.name) env
    (each_variable (λ variable. list_all is_variable_char variable.name) site peer request mapped env (λ host. refl)
    (λ fields name passed. all_map is_name_char is_variable_char variable_char upper_plain name (passed_chars name passed)) is)

-- ---- names in any case

-- what a character of a variable's name was, in lower case
abbrev lower_of : ℕ → ℕ
lower_of v = cond (eqb v 95) 45 (cond (leb 65 v && leb v 90) (v + 32) v)

lower_is : (b : ℕ) → is_name_char b ≡ true → to_ascii_lowercase b ≡ lower_of (variable_char b)
lower_is b is = grind (arith, nat_tests)

lowers_are : (name : List ℕ) → list_all is_name_char name ≡ true → str_to_ascii_lowercase name ≡ map lower_of (map variable_char name)
lowers_are [] all = refl
lowers_are (b ∷ name) all =
    let parts = and_parts (is_name_char b) (list_all is_name_char name) all in
    λ i. lower_is b parts.0 i ∷ lowers_are name parts.1 i

-- names whose variables have one name are the same without regard to case
pub same_variable : (a b : List ℕ) → list_all is_name_char a ≡ true → list_all is_name_char b ≡ true → variable_name a ≡ variable_name b
    → str_eq_ignore_ascii_case a b ≡ true
same_variable a b one two same =
    (bytes_eq-Decides (str_to_ascii_lowercase a) (str_to_ascii_lowercase b)).1
    (lowers_are a one ∙ ap (map lower_of) (ap (drop 5) same) ∙ sym (lowers_are b two))

unlike : (name : List ℕ) (others : List (List ℕ)) → list_all is_name_char name ≡ true → list_all (list_all is_name_char) others ≡ true
    → list_any (str_eq_ignore_ascii_case name) others ≡ false → list_any (bytes_eq (variable_name name)) (map variable_name others) ≡ false
unlike name [] chars all none = refl
unlike name (other ∷ others) chars all none =
    let parts = neither (str_eq_ignore_ascii_case name other) (list_any (str_eq_ignore_ascii_case name) others) none in
    let each = and_parts (list_all is_name_char other) (list_all (list_all is_name_char) others) all in
    let later = unlike name others chars each.1 parts.1 in
    elim (cases_Bool (bytes_eq (variable_name name) (variable_name other))) [
      | inl same ↦
          absurd (false≢true (sym parts.0 ∙ same_variable name other chars each.0 ((bytes_eq-Decides (variable_name name) (variable_name other)).0 same)))
      | inr apart ↦ ap (λ b. b || list_any (bytes_eq (variable_name name)) (map variable_name others)) apart ∙ later
    ]

pub denied : (b : Bool) → not b ≡ true → b ≡ false
denied true is = absurd (cc)
denied false is = refl

passed_apart : (name : List ℕ) → is_passed name ≡ true → list_any (str_eq_ignore_ascii_case name) withheld_names ≡ false
passed_apart name passed =
    denied (list_any (str_eq_ignore_ascii_case name) withheld_names) (and_parts (not (list_any (str_eq_ignore_ascii_case name) withheld_names)) (list_all is_name_char name) passed).0

pub all_denied : {X : Type 0} (t : X → Bool) (xs : List X) → list_all (λ x. not (t x)) xs ≡ true → All (λ x. t x ≡ false) xs
all_denied t [] all = All-nil (λ x. t x ≡ false)
all_denied t (x ∷ xs) all =
    let parts = and_parts (not (t x)) (list_all (λ y. not (t y)) xs) all in
    All-cons (λ y. t y ≡ false) x xs (denied (t x) parts.0) (all_denied t xs parts.1)

pub no_name_is_hostile : NoNameIsHostile
no_name_is_hostile site peer request mapped env is =
    all_denied (λ variable. list_any (bytes_eq variable.name) hostile_names) env
    (each_variable (λ variable. not (list_any (bytes_eq variable.name) hostile_names)) site peer request mapped env (λ host. refl)
    (λ fields name passed. ap not (unlike name withheld_names (passed_chars name passed) refl (passed_apart name passed))) is)
