-- A place's path begins with a slash.
use Rattle.std.proofs.Common.{◌≡◌, ℕ, suc, ◌+◌, Bool, true, false, not, cond, ◌||◌, List, [], ◌∷◌, take, drop, Option, Some, None, refl, sym, ap, ◌∙◌, subst, arith, eqb, inl, inr}
use Rattle.std.specs.Prelude.{option_and_then, Ok}
use Rattle.std.specs.Option.{ok_or}
use Rattle.std.specs.List.{before_first, position_or_len, prefix_len, list_any}
use Rattle.std.proofs.lemmas.Bool.{cases_Bool, eqb-true}
use Rattle.host_base.proofs.SplitLaws.{chosen}
use Rattle.host_base.specs.declared.cause.Cause.{Cause}
use Rattle.host_base.specs.declared.cause.Cause.TheVariants.{BadTarget}
use Rattle.host_base.specs.declared.request.Head.{Head}
use Rattle.script_map.specs.Authority.{host_of_authority}
use Rattle.script_map.specs.Bytes.{begins_with}
use Rattle.script_map.specs.DotSegments.{IsRooted}
use Rattle.script_map.specs.Targets.{is_unserved, is_question, is_hash, is_authority_end, Place, place_at_host, has_http_scheme, place_of, raw_path_of, path_or_root, query_of, is_text_or_none, text_place, asked_place, place_with, place_in}

path_at_slash : (more : List ℕ) → IsRooted (raw_path_of (47 ∷ more))
path_at_slash more =
    let n = prefix_len (λ byte. not (is_question byte)) more in
    let next : 1 + n ≡ suc n = omega arith in
    ap (λ (k : ℕ). take 1 (path_or_root (take k (47 ∷ more)))) next

-- the path of a target in origin form begins with a slash
pub origin_rooted : (text : List ℕ) → begins_with 47 text ≡ true → IsRooted (before_first is_question text)
origin_rooted [] slash = absurd (cc)
origin_rooted (b ∷ more) slash =
    let n = prefix_len (λ byte. not (is_question byte)) more in
    let next : 1 + n ≡ suc n = omega arith in
    subst (λ (x : ℕ). IsRooted (before_first is_question (x ∷ more))) (sym (eqb-true b 47 slash)) (ap (λ (k : ℕ). take 1 (take k (47 ∷ more))) next)

rooted_at_slash : (rest : List ℕ) → begins_with 47 rest ≡ true → IsRooted (raw_path_of rest)
rooted_at_slash [] slash = absurd (cc)
rooted_at_slash (b ∷ more) slash = subst (λ (x : ℕ). IsRooted (raw_path_of (x ∷ more))) (sym (eqb-true b 47 slash)) (path_at_slash more)

at_end : (b : ℕ) (more : List ℕ) (slash : Bool) → eqb b 47 ≡ slash → (slash || eqb b 63) ≡ true → IsRooted (raw_path_of (b ∷ more))
at_end b more true here stop = rooted_at_slash (b ∷ more) here
at_end b more false other stop = subst (λ (x : ℕ). IsRooted (raw_path_of (x ∷ more))) (sym (eqb-true b 63 stop)) refl

-- what follows an authority
pub rooted_after : (text : List ℕ) → IsRooted (raw_path_of (drop (position_or_len is_authority_end text) text))
rooted_after [] = refl
rooted_after (b ∷ more) =
    let later = rooted_after more in
    let n = position_or_len is_authority_end more in
    let next : 1 + n ≡ suc n = omega arith in
    elim (cases_Bool (is_authority_end b)) [
      | inl here ↦
          subst (λ (t : Bool). IsRooted (raw_path_of (drop (cond (not t) (1 + n) 0) (b ∷ more)))) (sym here) (at_end b more (eqb b 47) refl here)
      | inr other ↦
          subst (λ (t : Bool). IsRooted (raw_path_of (drop (cond (not t) (1 + n) 0) (b ∷ more)))) (sym other)
          (subst (λ (k : ℕ). IsRooted (raw_path_of (drop k (b ∷ more)))) (sym next) later)
    ]

pub and_then_some : {X Y : Type 0} (f : X → Option Y) (o : Option X) (y : Y) → option_and_then f o ≡ Some y → (x : X) × (o ≡ Some x) × (f x ≡ Some y)
and_then_some f None y is = absurd (cc)
and_then_some f (Some x) y is = (x, refl, is)

rest_at_host : (rest host : List ℕ) (place : Place) → place_at_host rest host ≡ Some place → rest ≡ place.rest
rest_at_host rest [] place is = absurd (cc)
rest_at_host rest (b ∷ more) place is =
    let same : ◌≡◌ {A = Place} (record { host = b ∷ more; rest = rest }) place = cc in ap (λ (p : Place). p.rest) same

rooted_place_of : (host target : List ℕ) (place : Place) → place_of host target ≡ Some place → IsRooted (raw_path_of place.rest)
unfolding place_of
rooted_place_of host target place is =
    elim (chosen (begins_with 47 target) _ _ _ is) [
      | inl origin ↦
          let same : ◌≡◌ {A = Place} (record { host = host; rest = target }) place = cc in
          subst (λ (p : Place). IsRooted (raw_path_of p.rest)) same (rooted_at_slash target origin.0)
      | inr other ↦
          elim (chosen (has_http_scheme target) _ _ _ other.1) [
            | inl absolute ↦
                let text = drop 7 target in
                let len = position_or_len is_authority_end text in
                let found = and_then_some (place_at_host (drop len text)) (host_of_authority (take len text)) place absolute.1 in
                subst (λ (l : List ℕ). IsRooted (raw_path_of l)) (rest_at_host (drop len text) found.0 place found.2) (rooted_after text)
            | inr none ↦ absurd (cc)
          ]
    ]

same_text_place : (p place : Place) → text_place p ≡ Some place → p ≡ place
same_text_place p place is =
    elim (chosen (is_text_or_none (query_of p.rest)) (Some p) None (Some place) is) [
      | inl text ↦ cc
      | inr other ↦ absurd (cc)
    ]

rooted_asked : (host target : List ℕ) (place : Place) → asked_place host target ≡ Some place → IsRooted (raw_path_of place.rest)
unfolding asked_place
rooted_asked host target place is =
    elim (chosen (list_any is_hash target) _ _ _ is) [
      | inl hash ↦ absurd (cc)
      | inr other ↦
          let found = and_then_some text_place (place_of host target) place other.1 in
          rooted_place_of host target place (found.1 ∙ ap (λ (p : Place). Some p) (same_text_place found.0 place found.2))
    ]

pub ok_some : {X : Type 0} (o : Option X) (cause : Cause) (x : X) → ok_or o cause ≡ Ok x → o ≡ Some x
ok_some None cause x is = absurd (cc)
ok_some (Some y) cause x is = let same : y ≡ x = cc in ap (λ z. Some z) same

rooted_with : (host : Option (List ℕ)) (target : List ℕ) (place : Place) → place_with host target ≡ Ok place → IsRooted (raw_path_of place.rest)
rooted_with None target place is = absurd (cc)
rooted_with (Some host) target place is = rooted_asked host target place (ok_some (asked_place host target) BadTarget place is)

pub rooted_place_in : (head : Head) (place : Place) → place_in head ≡ Ok place → IsRooted (raw_path_of place.rest)
unfolding place_in
rooted_place_in head place is =
    elim (chosen (is_unserved head) _ _ _ is) [
      | inl unserved ↦ absurd (cc)
      | inr other ↦ rooted_with _ head.target place other.1
    ]
