-- The longest script, and what a path decodes to.
use Rattle.std.proofs.Common.{◌≡◌, ◌≢◌, ℕ, ◌<◌, Bool, true, false, ◌&&◌, List, [], ◌∷◌, length, get_or, Option, Some, None, refl, sym, ap, ◌∙◌, subst, arith, inl, inr, cond}
use Rattle.std.specs.Prelude.{◌||◌, slice_get, option_map, option_and_then, is_some, Result, Ok, Err, is_ok, OnErr, All}
use Rattle.std.specs.Option.{ok_or}
use Rattle.std.specs.List.{position, list_any}
use Rattle.std.specs.Str.{IsUtf8, is_utf8}
use Rattle.std.proofs.lemmas.Str.{is_utf8-from_IsUtf8, IsUtf8-from_is_utf8}
use Rattle.std.proofs.lemmas.List.Sums.{passes_at_first}
use Rattle.std.proofs.lemmas.Bool.{cond-true, cond-false, cases_Bool, and_parts, and_from, or_left, or_right, eqb-false}
use Rattle.std.proofs.lemmas.List.Elements.{All-nil, All-cons}
use Rattle.host_base.proofs.SplitLaws.{chosen}
use Rattle.host_base.specs.declared.cause.Cause.TheVariants.{NoScript}
use Rattle.host_base.specs.declared.site.Mapped.{Mapped}
use Rattle.host_base.specs.declared.site.Script.{Script}
use Rattle.script_map.specs.Mapping.{fits, is_longest, mapped_by, mapped_at, script_at, text_or_none, decoded_text, mapped_text, path_takes_memory, has_dot_segment}
use Rattle.script_map.specs.Escapes.{is_percent, has_whole_escapes, has_hidden_escape}
use Rattle.script_map.proofs.ListLaws.{position_at, neither}

pub text_or_none-some : (bytes decoded text : List ℕ) → text ≡ decoded → decoded ≡ bytes → IsUtf8 decoded → Some text ≡ text_or_none bytes
text_or_none-some bytes decoded text one two utf8 =
    ap (λ (l : List ℕ). Some l) (one ∙ two)
    ∙ sym (cond-true (is_utf8 bytes) (Some bytes) None (is_utf8-from_IsUtf8 bytes (subst IsUtf8 two utf8)))

pub text_or_none-none : (bytes : List ℕ) → (IsUtf8 bytes → ⊥) → None ≡ text_or_none bytes
text_or_none-none bytes never =
    elim (cases_Bool (is_utf8 bytes)) [
      | inl text ↦ absurd (never (IsUtf8-from_is_utf8 bytes text))
      | inr other ↦ sym (cond-false (is_utf8 bytes) (Some bytes) None other)
    ]

pub script_at_some : (host : ℕ) (scripts : List Script) (path : List ℕ) (index : ℕ) (script : Script) (mapped : Mapped)
    → position (is_longest path scripts) scripts ≡ Some index → slice_get scripts index ≡ Some script → mapped ≡ mapped_by host path index script
    → Some mapped ≡ script_at host scripts path
unfolding script_at
script_at_some host scripts path index script mapped at is made =
    ap (λ (m : Mapped). Some m) made
    ∙ sym (ap (option_and_then (mapped_at host scripts path)) at ∙ ap (option_map (mapped_by host path index)) is)

pub script_at_none : (host : ℕ) (scripts : List Script) (path : List ℕ) → position (is_longest path scripts) scripts ≡ None → None ≡ script_at host scripts path
unfolding script_at
script_at_none host scripts path none = sym (ap (option_and_then (mapped_at host scripts path)) none)

pub passes_at : {X : Type 0} (test : X → Bool) (xs : List X) (n : ℕ) (d : X) → position test xs ≡ Some n → (n < length xs) × (test (get_or xs n d) ≡ true)
passes_at test xs n d is =
    let at = position_at test xs n is in
    (at.0, ap (λ (k : ℕ). test (get_or xs k d)) (sym at.1) ∙ passes_at_first test xs d (omega (arith, at.0, at.1)))

pub longest_fits : (path : List ℕ) (scripts : List Script) (script : Script) → is_longest path scripts script ≡ true → fits path script ≡ true
longest_fits path scripts script longest = (and_parts (fits path script) _ longest).0

-- the same of the text and of its bytes
pub longest_of : (path bytes : List ℕ) (scripts : List Script) → bytes ≡ path → (place : Option ℕ)
    → position (is_longest bytes scripts) scripts ≡ place → position (is_longest path scripts) scripts ≡ place
longest_of path bytes scripts same place is = subst (λ (l : List ℕ). position (is_longest l scripts) scripts ≡ place) same is

-- ---- memory

pub on_err_always : {A E : Type 0} (r : Result A E) (P : Type 0) → P → OnErr r P
on_err_always (Ok a) P holds = tt
on_err_always (Err e) P holds = holds

-- what stands where no byte is kept from being one
pub percent_stands : (bytes : List ℕ) → (All (λ b. b ≢ 37) bytes → ⊥) → list_any is_percent bytes ≡ true
percent_stands bytes never =
    elim (cases_Bool (list_any is_percent bytes)) [
      | inl some ↦ some
      | inr none ↦ absurd (never (each bytes none))
    ]
  where
    each : (xs : List ℕ) → list_any is_percent xs ≡ false → All (λ b. b ≢ 37) xs
    each [] none = All-nil (λ b. b ≢ 37)
    each (x ∷ xs) none =
        let parts = neither (is_percent x) (list_any is_percent xs) none in
        All-cons (λ b. b ≢ 37) x xs (eqb-false x 37 parts.0) (each xs parts.1)

pub script_found : (host : ℕ) (scripts : List Script) (path : List ℕ) (index : ℕ) (script : Script)
    → position (is_longest path scripts) scripts ≡ Some index → slice_get scripts index ≡ Some script → is_some (script_at host scripts path) ≡ true
script_found host scripts path index script at is =
    ap (λ (o : Option Mapped). is_some o) (sym (script_at_some host scripts path index script (mapped_by host path index script) at is refl))

pub memory_decoded : (host : ℕ) (scripts : List Script) (path : List ℕ) → (has_whole_escapes path && list_any is_percent path) ≡ true
    → path_takes_memory host scripts path ≡ true
memory_decoded host scripts path told =
    let parts = and_parts (has_whole_escapes path) (list_any is_percent path) told in
    and_from _ _ parts.0 (or_left _ _ parts.1)

whole_from : (path decoded : List ℕ) → decoded_text path ≡ Some decoded → has_whole_escapes path ≡ true
unfolding decoded_text
whole_from path decoded is =
    elim (chosen (has_whole_escapes path) _ _ _ is) [
      | inl whole ↦ whole.0
      | inr broken ↦ absurd (cc)
    ]

found_ok : (o : Option Mapped) → is_some o ≡ true → is_ok (ok_or o NoScript) ≡ true
found_ok None none = absurd (cc)
found_ok (Some m) some = refl

pub memory_mapped : (host : ℕ) (scripts : List Script) (path decoded : List ℕ) → decoded_text path ≡ Some decoded → has_hidden_escape path ≡ false
    → has_dot_segment decoded ≡ false → is_some (script_at host scripts decoded) ≡ true → path_takes_memory host scripts path ≡ true
memory_mapped host scripts path decoded is one two some =
    let ok : is_ok (mapped_text host scripts path (decoded_text path)) ≡ true =
    ap (λ (o : Option (List ℕ)). is_ok (mapped_text host scripts path o)) is
    ∙ ap (λ (b : Bool). is_ok (cond b (Err NoScript) (ok_or (script_at host scripts decoded) NoScript))) (λ i. one i || two i)
    ∙ found_ok (script_at host scripts decoded) some in
    and_from _ _ (whole_from path decoded is) (or_right _ _ ok)
