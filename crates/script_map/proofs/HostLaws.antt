-- Which host answers to a name, among hosts that can be told apart.
use Rattle.std.proofs.Common.{◌≡◌, ℕ, zero, suc, ◌+◌, ◌<◌, ◌≤◌, Bool, true, false, not, cond, ◌||◌, ◌⊎◌, List, [], ◌∷◌, ◌++◌, length, get_or, Option, Some, None, refl, sym, ap, ◌∙◌, arith, inl, inr}
use Rattle.std.specs.Prelude.{All, count_by, slice_get}
use Rattle.std.specs.Cmp.{IsEquivalence}
use Rattle.std.specs.Cmp.Lexicographic.{on_texts_equal}
use Rattle.std.specs.List.{AllByRecursion, IsDistinct, flat_map, list_any, position, position_or_len}
use Rattle.std.specs.Option.{option_or}
use Rattle.std.specs.Str.{str_eq_ignore_ascii_case, str_to_ascii_lowercase}
use Rattle.std.proofs.lemmas.Bool.{cases_Bool, false≢true}
use Rattle.std.proofs.lemmas.List.Folds.{list_any_at, list_any_none}
use Rattle.std.proofs.lemmas.List.Sums.{sum_by-cons}
use Rattle.std.proofs.lemmas.Map.Keys.{IsDistinct-head, IsDistinct-tail}
use Rattle.host_base.specs.declared.site.VHost.{VHost}
use Rattle.host_base.specs.SiteRules.{names_of, takes_any}
use Rattle.script_map.specs.Hosts.{answers_to, host_of_target}
use Rattle.script_map.specs.HostRules.{FirstHostServesNameless, NamesFindTheirHost, IsUnnamed, AnyTakesOtherNames, OtherNamesHaveNoHost}
use Rattle.script_map.proofs.ListLaws.{position_at, position_is}
use Rattle.script_map.proofs.MappingLaws.{passes_at}

abbrev same : List ℕ → List ℕ → Bool
same = str_eq_ignore_ascii_case

same_laws : IsEquivalence same
same_laws = on_texts_equal str_to_ascii_lowercase

-- ---- names of two hosts are apart

none_same : (own name : List ℕ) (xs ys : List (List ℕ)) → AllByRecursion (λ y. same own y ≡ false) (xs ++ ys) → same name own ≡ true
    → list_any (same name) ys ≡ true → ⊥
none_same own name [] [] apart here later = false≢true later
none_same own name [] (y ∷ ys) apart here later =
    elim (cases_Bool (same name y)) [
      | inl found ↦ false≢true (sym apart.0 ∙ sym (same_laws.congr name own y here) ∙ found)
      | inr other ↦ none_same own name [] ys apart.1 here (sym (ap (λ b. b || list_any (same name) ys) other) ∙ later)
    ]
none_same own name (x ∷ xs) ys apart here later = none_same own name xs ys apart.1 here later

apart_names : (name : List ℕ) (xs ys : List (List ℕ)) → IsDistinct same (xs ++ ys) → list_any (same name) xs ≡ true → list_any (same name) ys ≡ true → ⊥
apart_names name [] ys apart one two = false≢true one
apart_names name (x ∷ xs) ys apart one two =
    elim (cases_Bool (same name x)) [
      | inl here ↦ none_same x name xs ys (IsDistinct-head same x (xs ++ ys) apart) here two
      | inr other ↦
          apart_names name xs ys (IsDistinct-tail same x (xs ++ ys) apart) (sym (ap (λ b. b || list_any (same name) xs) other) ∙ one) two
    ]

distinct_back : (xs ys : List (List ℕ)) → IsDistinct same (xs ++ ys) → IsDistinct same ys
distinct_back [] ys apart = apart
distinct_back (x ∷ xs) ys apart = distinct_back xs ys (IsDistinct-tail same x (xs ++ ys) apart)

any_append : (name : List ℕ) (xs ys : List (List ℕ)) → (list_any (same name) xs ≡ true) ⊎ (list_any (same name) ys ≡ true)
    → list_any (same name) (xs ++ ys) ≡ true
any_append name [] ys (inl none) = absurd (false≢true none)
any_append name [] ys (inr later) = later
any_append name (x ∷ xs) ys either =
    elim (cases_Bool (same name x)) [
      | inl here ↦ ap (λ b. b || list_any (same name) (xs ++ ys)) here
      | inr other ↦
          ap (λ b. b || list_any (same name) (xs ++ ys)) other
          ∙ any_append name xs ys (elim either [
            | inl one ↦ inl (sym (ap (λ b. b || list_any (same name) xs) other) ∙ one)
            | inr two ↦ inr two
          ])
    ]

-- a name of a host is one of all
among_all : (name : List ℕ) (hosts : List VHost) (place : ℕ) (host : VHost) → slice_get hosts place ≡ Some host → answers_to name host ≡ true
    → list_any (same name) (flat_map names_of hosts) ≡ true
among_all name [] place host at is = absurd (cc)
among_all name (h ∷ hosts) zero host at is =
    let here : h ≡ host = cc in
    any_append name (names_of h) (flat_map names_of hosts) (inl (ap (answers_to name) here ∙ is))
among_all name (h ∷ hosts) (suc n) host at is =
    any_append name (names_of h) (flat_map names_of hosts) (inr (among_all name hosts n host at is))

-- ---- the first host

first_is : (name : List ℕ) (hosts : List VHost) (place : ℕ) (host : VHost) → IsDistinct same (flat_map names_of hosts)
    → slice_get hosts place ≡ Some host → answers_to name host ≡ true
    → (position_or_len (answers_to name) hosts ≡ place) × (place < length hosts)
first_is name [] place host apart at is = absurd (cc)
first_is name (h ∷ hosts) zero host apart at is =
    let here : h ≡ host = cc in
    (ap (λ b. cond (not b) (1 + position_or_len (answers_to name) hosts) 0) (ap (answers_to name) here ∙ is), omega arith)
first_is name (h ∷ hosts) (suc n) host apart at is =
    let later = first_is name hosts n host (distinct_back (names_of h) (flat_map names_of hosts) apart) at is in
    elim (cases_Bool (answers_to name h)) [
      | inl here ↦ absurd (apart_names name (names_of h) (flat_map names_of hosts) apart here (among_all name hosts n host at is))
      | inr other ↦
          let turn = ap (λ b. cond (not b) (1 + position_or_len (answers_to name) hosts) 0) other in
          (omega (arith, turn, later.0), omega (arith, later.1))
    ]

count-cons : (h : VHost) (hosts : List VHost) (b : Bool) → takes_any h ≡ b → count_by takes_any (h ∷ hosts) ≡ cond b 1 0 + count_by takes_any hosts
count-cons h hosts b is = sum_by-cons (λ host. cond (takes_any host) 1 0) h hosts ∙ ap (λ (t : Bool). cond t 1 0 + count_by takes_any hosts) is

counted : (hosts : List VHost) (place : ℕ) (host : VHost) → slice_get hosts place ≡ Some host → host.any ≡ true → 1 ≤ count_by takes_any hosts
counted [] place host at is = absurd (cc)
counted (h ∷ hosts) zero host at is =
    let here : h ≡ host = cc in
    let one : count_by takes_any (h ∷ hosts) ≡ 1 + count_by takes_any hosts = count-cons h hosts true (ap takes_any here ∙ is) in
    omega arith
counted (h ∷ hosts) (suc n) host at is =
    let later = counted hosts n host at is in
    let more : count_by takes_any (h ∷ hosts) ≡ cond (takes_any h) 1 0 + count_by takes_any hosts = count-cons h hosts (takes_any h) refl in
    omega arith

first_any : (hosts : List VHost) (place : ℕ) (host : VHost) → count_by takes_any hosts ≤ 1 → slice_get hosts place ≡ Some host → host.any ≡ true
    → (position_or_len takes_any hosts ≡ place) × (place < length hosts)
first_any [] place host one at is = absurd (cc)
first_any (h ∷ hosts) zero host one at is =
    let here : h ≡ host = cc in
    (ap (λ b. cond (not b) (1 + position_or_len takes_any hosts) 0) (ap takes_any here ∙ is), omega arith)
first_any (h ∷ hosts) (suc n) host one at is =
    let some = counted hosts n host at is in
    elim (cases_Bool h.any) [
      | inl here ↦
          let turn : count_by takes_any (h ∷ hosts) ≡ 1 + count_by takes_any hosts = count-cons h hosts true here in
          absurd (omega arith)
      | inr other ↦
          let counts : count_by takes_any (h ∷ hosts) ≡ 0 + count_by takes_any hosts = count-cons h hosts false other in
          let turn = ap (λ b. cond (not b) (1 + position_or_len takes_any hosts) 0) other in
          let later = first_any hosts n host (omega arith) at is in
          (omega (arith, turn, later.0), omega (arith, later.1))
    ]

position_none : {X : Type 0} (test : X → Bool) (xs : List X) → All (λ x. test x ≡ false) xs → (place : Option ℕ) → position test xs ≡ place → place ≡ None
position_none test xs none None at = refl
position_none {X} test [] none (Some n) at = absurd (omega (arith, (position_at test [] n at).0))
position_none test (x ∷ xs) none (Some n) at =
    let found = passes_at test (x ∷ xs) n x at in
    absurd (false≢true (sym (none n x found.0) ∙ found.1))

-- ---- the laws

pub first_host_serves_nameless : FirstHostServesNameless
unfolding host_of_target
first_host_serves_nameless hosts = refl

pub names_find_their_host : NamesFindTheirHost
unfolding host_of_target
names_find_their_host hosts site place host at name own has is =
    let answers = list_any_at (same name) (names_of host) has.0 own has.1 (ap (same name) has.2 ∙ is) in
    let first = first_is name hosts place host site.distinct at answers in
    ap (λ o. option_or o (position takes_any hosts)) (position_is (answers_to name) hosts place first.0 first.1)

unnamed : (hosts : List VHost) (name : List ℕ) → IsUnnamed hosts name → position (answers_to name) hosts ≡ None
unnamed hosts name none =
    position_none (answers_to name) hosts (λ k d below. list_any_none (same name) (names_of (get_or hosts k d)) (none k d below)) _ refl

pub any_takes_other_names : AnyTakesOtherNames
unfolding host_of_target
any_takes_other_names hosts site place host at any name none =
    let first = first_any hosts place host site.one_any at any in
    ap (λ o. option_or o (position takes_any hosts)) (unnamed hosts name none) ∙ position_is takes_any hosts place first.0 first.1

pub other_names_have_no_host : OtherNamesHaveNoHost
unfolding host_of_target
other_names_have_no_host hosts no_any name none =
    ap (λ o. option_or o (position takes_any hosts)) (unnamed hosts name none) ∙ position_none takes_any hosts no_any _ refl
