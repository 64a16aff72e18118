-- What the Host field lines and a text say.
use Rattle.std.proofs.Common.{◌≡◌, ◌≢◌, ℕ, Bool, List, [], ◌∷◌, length, map, Option, Some, None, refl, sym, ap, ◌∙◌, arith, inl, inr, cond, Bor}
use Rattle.std.specs.Prelude.{filter, count_by, MatchResult, Result, Ok, Err, is_ok}
use Rattle.std.specs.Option.{option_copied}
use Rattle.std.specs.Result.{result_ok}
use Rattle.std.specs.List.{find}
use Rattle.std.specs.Str.{is_utf8, IsUtf8}
use Rattle.std.proofs.lemmas.Str.{is_utf8-from_IsUtf8, IsUtf8-from_is_utf8}
use Rattle.std.proofs.lemmas.List.{nil_from_length}
use Rattle.std.proofs.lemmas.List.Sums.{length-filter}
use Rattle.std.proofs.lemmas.Bool.{cases_Bool, cond-true, cond-false}
use Rattle.host_base.specs.declared.fields.Field.{Field}
use Rattle.host_base.specs.declared.request.Version.{Version}
use Rattle.host_base.specs.declared.request.Version.TheVariants.{V10, V11}
use Rattle.host_base.specs.FieldLists.{is_named, values_named, value_of}
use Rattle.host_base.proofs.SplitLaws.{chosen}
use Rattle.script_map.specs.Authority.{host_of_authority}
use Rattle.script_map.specs.Mapping.{text_or_none}
use Rattle.script_map.specs.Targets.{host_named}

-- whether bytes could be read as a text
pub ok-is_utf8 : {A E : Type 0} (bytes : List ℕ) (V : A → Type 0) (W : E → Type 0) (r : Result A E)
    → MatchResult r (λ s. V s × IsUtf8 bytes) (λ e. (IsUtf8 bytes → ⊥) × W e) → is_ok r ≡ is_utf8 bytes
ok-is_utf8 bytes V W (Ok s) told = sym (is_utf8-from_IsUtf8 bytes told.1)
ok-is_utf8 bytes V W (Err e) told =
    elim (cases_Bool (is_utf8 bytes)) [
      | inl text ↦ absurd (told.0 (IsUtf8-from_is_utf8 bytes text))
      | inr other ↦ sym other
    ]

pub ok-text_or_none : {E : Type 0} (bytes : List ℕ) (W : E → Type 0) (r : Result (Bor (List ℕ)) E)
    → MatchResult r (λ s. (s.now ≡ bytes) × IsUtf8 bytes) (λ e. (IsUtf8 bytes → ⊥) × W e) → option_copied (result_ok r) ≡ text_or_none bytes
ok-text_or_none bytes W (Ok s) told =
    ap (λ (l : List ℕ). Some l) told.0 ∙ sym (cond-true (is_utf8 bytes) (Some bytes) None (is_utf8-from_IsUtf8 bytes told.1))
ok-text_or_none bytes W (Err e) told =
    elim (cases_Bool (is_utf8 bytes)) [
      | inl text ↦ absurd (told.0 (IsUtf8-from_is_utf8 bytes text))
      | inr other ↦ sym (cond-false (is_utf8 bytes) (Some bytes) None other)
    ]

pub filter-find : {X : Type 0} (test : X → Bool) (xs : List X) (x : X) → find test xs ≡ Some x → (rest : List X) × (filter test xs ≡ x ∷ rest)
filter-find test [] x is = absurd (cc)
filter-find test (y ∷ xs) x is =
    elim (chosen (test y) _ _ _ is) [
      | inl here ↦
          let same : y ≡ x = cc in
          (filter test xs, ap (λ b. cond b (y ∷ filter test xs) (filter test xs)) here.0 ∙ ap (λ z. z ∷ filter test xs) same)
      | inr other ↦
          let later = filter-find test xs x other.1 in
          (later.0, ap (λ b. cond b (y ∷ filter test xs) (filter test xs)) other.0 ∙ later.1)
    ]

pub filter-find_none : {X : Type 0} (test : X → Bool) (xs : List X) → find test xs ≡ None → filter test xs ≡ []
filter-find_none test [] is = refl
filter-find_none test (y ∷ xs) is =
    elim (chosen (test y) _ _ _ is) [
      | inl here ↦ absurd (cc)
      | inr other ↦ ap (λ b. cond b (y ∷ filter test xs) (filter test xs)) other.0 ∙ filter-find_none test xs other.1
    ]

-- the one Host field line
pub host_named_one : (name : List ℕ) (fields : List Field) (version : Version) (f : Field) → find (is_named name) fields ≡ Some f
    → count_by (is_named name) fields ≡ 1 → host_named (values_named name fields) version ≡ host_of_authority f.value
unfolding host_named
host_named_one name fields version f found one =
    let some = filter-find (is_named name) fields f found in
    let none : some.0 ≡ [] = nil_from_length _ (omega (arith, ap length some.1, length-filter (is_named name) fields)) in
    ap (λ fs. host_named (map value_of fs) version) (some.1 ∙ ap (λ fs. f ∷ fs) none)

-- two or more
pub host_named_more : (name : List ℕ) (fields : List Field) (version : Version) (f : Field) → find (is_named name) fields ≡ Some f
    → count_by (is_named name) fields ≢ 1 → host_named (values_named name fields) version ≡ None
unfolding host_named
host_named_more name fields version f found more =
    let some = filter-find (is_named name) fields f found in
    ap (λ fs. host_named (map value_of fs) version) some.1
    ∙ two some.0 (λ none. more (sym (length-filter (is_named name) fields) ∙ ap length (some.1 ∙ ap (λ fs. f ∷ fs) none)))
  where
    two : (rest : List Field) → (rest ≡ [] → ⊥) → host_named (map value_of (f ∷ rest)) version ≡ None
    two [] some = absurd (some refl)
    two (g ∷ rest) some = refl

-- none
pub host_named_none : (name : List ℕ) (fields : List Field) (version : Version) → find (is_named name) fields ≡ None
    → host_named (values_named name fields) version ≡ host_named [] version
host_named_none name fields version none =
    ap (λ fs. host_named (map value_of fs) version) (filter-find_none (is_named name) fields none)

pub host_named_absent : (version : Version) (host : Option (List ℕ)) → host_named [] version ≡ host → (name : List ℕ) (fields : List Field)
    → find (is_named name) fields ≡ None → host ≡ host_named (values_named name fields) version
host_named_absent version host is name fields none = sym is ∙ sym (host_named_none name fields version none)

pub host_named_in_v10 : (version : Version) → version ≡ V10 → host_named [] version ≡ Some []
unfolding host_named
host_named_in_v10 version is = ap (host_named []) is

pub host_named_in_v11 : (version : Version) → version ≡ V11 → host_named [] version ≡ None
unfolding host_named
host_named_in_v11 version is = ap (host_named []) is
