-- Why no two variables have one name.
use Rattle.std.proofs.Common.{◌≡◌, ℕ, Bool, true, false, cond, not, ◌&&◌, List, [], ◌∷◌, ◌++◌, map, filter, refl, sym, ap, ◌∙◌, inl, inr}
use Rattle.std.specs.Prelude.{None, Some, Option, option_map, slice_get}
use Rattle.std.specs.List.{AllByRecursion, IsDistinct, list_all}
use Rattle.std.specs.Str.{bytes_eq, str_eq_ignore_ascii_case}
use Rattle.std.proofs.lemmas.Bool.{cases_Bool, and_parts, and_from, false≢true}
use Rattle.std.proofs.lemmas.Map.Keys.{IsDistinct-cons}
use Rattle.std.proofs.lemmas.Slice.Eq.{bytes_eq-Decides}
use Rattle.host_base.specs.declared.fields.Field.{Field}
use Rattle.host_base.specs.declared.launch.Pair.{Pair}
use Rattle.host_base.specs.declared.launch.Peer.{Peer}
use Rattle.host_base.specs.declared.request.Request.{Request}
use Rattle.host_base.specs.declared.site.Mapped.{Mapped}
use Rattle.host_base.specs.declared.site.Site.{Site}
use Rattle.host_base.specs.declared.site.VHost.{VHost}
use Rattle.meta_variables.specs.Environment.{environment_at, request_variables}
use Rattle.meta_variables.specs.EnvironmentRules.{called, NamesDiffer}
use Rattle.meta_variables.specs.HeaderVariables.{variable_name, is_passed, name_of, distinct_names, header_variable, header_variables}
use Rattle.meta_variables.specs.Variables.{is_kept}
use Rattle.meta_variables.proofs.NameLaws.{all_filter, all_append, all_map, all_passing, all_distinct, passed_chars, same_variable, denied}

-- ---- lists in which no two elements are the same

differ : {X : Type 0} → (X → X → Bool) → List X → Bool
differ e [] = true
differ e (x ∷ xs) = list_all (λ y. not (e x y)) xs && differ e xs

module _ {X : Type 0} (e : X → X → Bool) where
  apart_from : (x : X) (xs : List X) → list_all (λ y. not (e x y)) xs ≡ true → AllByRecursion (λ y. e x y ≡ false) xs
  apart_from x [] all = tt
  apart_from x (y ∷ xs) all =
      let parts = and_parts (not (e x y)) (list_all (λ z. not (e x z)) xs) all in
      (denied (e x y) parts.0, apart_from x xs parts.1)

  distinct_from : (xs : List X) → differ e xs ≡ true → IsDistinct e xs
  unfolding differ IsDistinct
  distinct_from [] is = tt
  distinct_from (x ∷ xs) is =
      let parts = and_parts (list_all (λ y. not (e x y)) xs) (differ e xs) is in
      IsDistinct-cons e x xs (apart_from x xs parts.0) (distinct_from xs parts.1)

  differ_filter : (p : X → Bool) (xs : List X) → differ e xs ≡ true → differ e (filter p xs) ≡ true
  unfolding differ
  differ_filter p [] is = refl
  differ_filter p (x ∷ xs) is =
      let parts = and_parts (list_all (λ y. not (e x y)) xs) (differ e xs) is in
      by_case parts.0 (differ_filter p xs parts.1) (p x)
    where
      by_case : list_all (λ y. not (e x y)) xs ≡ true → differ e (filter p xs) ≡ true → (b : Bool) → differ e (cond b (x ∷ filter p xs) (filter p xs)) ≡ true
      by_case all later true = and_from _ _ (all_filter (λ y. not (e x y)) p xs all) later
      by_case all later false = later

all_left : {X : Type 0} (t u : X → Bool) (xs : List X) → list_all (λ x. t x && u x) xs ≡ true → (list_all t xs ≡ true) × (list_all u xs ≡ true)
all_left t u [] all = (refl, refl)
all_left t u (x ∷ xs) all =
    let parts = and_parts (t x && u x) (list_all (λ y. t y && u y) xs) all in
    let here = and_parts (t x) (u x) parts.0 in
    let later = all_left t u xs parts.1 in
    (and_from _ _ here.0 later.0, and_from _ _ here.1 later.1)

differ_append : {X : Type 0} (e : X → X → Bool) (xs ys : List X) → differ e xs ≡ true → differ e ys ≡ true
    → list_all (λ y. list_all (λ x. not (e x y)) xs) ys ≡ true → differ e (xs ++ ys) ≡ true
unfolding differ
differ_append e [] ys one two apart = two
differ_append e (x ∷ xs) ys one two apart =
    let parts = and_parts (list_all (λ y. not (e x y)) xs) (differ e xs) one in
    let each = all_left (λ y. not (e x y)) (λ y. list_all (λ z. not (e z y)) xs) ys apart in
    and_from _ _ (all_append (λ y. not (e x y)) xs ys parts.0 each.0) (differ_append e xs ys parts.1 two each.1)

all_mapped : {X Y : Type 0} (t : Y → Bool) (f : X → Y) (xs : List X) → list_all t (map f xs) ≡ list_all (λ x. t (f x)) xs
all_mapped t f [] = refl
all_mapped t f (x ∷ xs) = ap (λ b. t (f x) && b) (all_mapped t f xs)

differ_map : {X Y : Type 0} (e : Y → Y → Bool) (f : X → Y) (xs : List X) → differ e (map f xs) ≡ differ (λ a b. e (f a) (f b)) xs
unfolding differ
differ_map e f [] = refl
differ_map e f (x ∷ xs) = λ i. all_mapped (λ y. not (e (f x) y)) f xs i && differ_map e f xs i

-- ---- the names of fields

same_names : List ℕ → List ℕ → Bool
same_names a b = bytes_eq (variable_name a) (variable_name b)

both : {X : Type 0} (t u : X → Bool) (xs : List X) → list_all t xs ≡ true → list_all u xs ≡ true → list_all (λ x. t x && u x) xs ≡ true
both t u [] one two = refl
both t u (x ∷ xs) one two =
    let a = and_parts (t x) (list_all t xs) one in
    let b = and_parts (u x) (list_all u xs) two in
    and_from _ _ (and_from _ _ a.0 b.0) (both t u xs a.1 b.1)

weaker : {X : Type 0} (t u : X → Bool) → ((x : X) → t x ≡ true → u x ≡ true) → (xs : List X) → list_all t xs ≡ true → list_all u xs ≡ true
weaker t u goes [] all = refl
weaker t u goes (x ∷ xs) all =
    let parts = and_parts (t x) (list_all t xs) all in
    and_from _ _ (goes x parts.0) (weaker t u goes xs parts.1)

unlike_name : (name other : List ℕ) → is_passed name ≡ true → (is_passed other && not (str_eq_ignore_ascii_case name other)) ≡ true → not (same_names name other) ≡ true
unfolding same_names
unlike_name name other passed told =
    let parts = and_parts (is_passed other) (not (str_eq_ignore_ascii_case name other)) told in
    elim (cases_Bool (bytes_eq (variable_name name) (variable_name other))) [
      | inl same ↦
          let again = same_variable name other (passed_chars name passed) (passed_chars other parts.0) ((bytes_eq-Decides (variable_name name) (variable_name other)).0 same) in
          absurd (false≢true (sym (ap not again) ∙ parts.1))
      | inr apart ↦ ap not apart
    ]

names_differ_too : (names : List (List ℕ)) → list_all is_passed names ≡ true → differ same_names (distinct_names names) ≡ true
unfolding differ
names_differ_too [] all = refl
names_differ_too (name ∷ names) all =
    let parts = and_parts (is_passed name) (list_all is_passed names) all in
    let rest = distinct_names names in
    let p = λ (other : List ℕ). not (str_eq_ignore_ascii_case name other) in
    and_from _ _
    (weaker (λ other. is_passed other && not (str_eq_ignore_ascii_case name other)) (λ other. not (same_names name other)) (λ other told. unlike_name name other parts.0 told)
    (filter p rest) (both is_passed p (filter p rest) (all_filter is_passed p rest (all_distinct is_passed names parts.1)) (all_passing p rest)))
    (differ_filter same_names p rest (names_differ_too names parts.1))

-- ---- all variables

same_called : Pair → Pair → Bool
same_called v w = bytes_eq v.name w.name

fixed_differ : (site : Site) (host : VHost) (peer : Peer) (request : Request) (mapped : Mapped) → differ same_called (request_variables site host peer request mapped) ≡ true
unfolding differ same_called
fixed_differ site host peer request mapped = refl

headers_differ : (fields : List Field) → differ same_called (header_variables fields) ≡ true
unfolding same_called same_names
headers_differ fields =
    let names = filter is_passed (map name_of fields) in
    differ_filter same_called is_kept (map (header_variable fields) (distinct_names names))
    (differ_map same_called (header_variable fields) (distinct_names names) ∙ names_differ_too names (all_passing is_passed (map name_of fields)))

-- no fixed name begins as that of a field does
fixed_apart : (site : Site) (host : VHost) (peer : Peer) (request : Request) (mapped : Mapped) (fields : List Field) (name : List ℕ)
    → list_all (λ x. not (same_called x (header_variable fields name))) (request_variables site host peer request mapped) ≡ true
unfolding same_called
fixed_apart site host peer request mapped fields name = refl

differ_at : (site : Site) (host : VHost) (peer : Peer) (request : Request) (mapped : Mapped) → differ same_called (environment_at site host peer request mapped) ≡ true
differ_at site host peer request mapped =
    let fixed = request_variables site host peer request mapped in
    let names = distinct_names (filter is_passed (map name_of request.fields)) in
    differ_append same_called (filter is_kept fixed) (header_variables request.fields)
    (differ_filter same_called is_kept fixed (fixed_differ site host peer request mapped))
    (headers_differ request.fields)
    (all_filter (λ y. list_all (λ x. not (same_called x y)) (filter is_kept fixed)) is_kept (map (header_variable request.fields) names)
    (all_map is_passed (λ y. list_all (λ x. not (same_called x y)) (filter is_kept fixed)) (header_variable request.fields)
    (λ name passed. all_filter (λ x. not (same_called x (header_variable request.fields name))) is_kept fixed (fixed_apart site host peer request mapped request.fields name))
    names (all_distinct is_passed (filter is_passed (map name_of request.fields)) (all_passing is_passed (map name_of request.fields)))))

pub names_differ : NamesDiffer
unfolding same_called
names_differ site peer request mapped env is = by_host (slice_get site.hosts mapped.host) is
  where
    by_host : (o : Option VHost) → option_map (λ host. environment_at site host peer request mapped) o ≡ Some env → IsDistinct bytes_eq (map called env)
    by_host None told = absurd (cc)
    by_host (Some host) told =
        let same : environment_at site host peer request mapped ≡ env = cc in
        distinct_from bytes_eq (map called env)
        (differ_map bytes_eq called env ∙ ap (differ same_called) (sym same) ∙ differ_at site host peer request mapped)
