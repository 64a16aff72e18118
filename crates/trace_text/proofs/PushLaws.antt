-- How a text grows piece by piece, and where its room ends.
use Rattle.std.proofs.Common.{◌≡◌, ℕ, ◌+◌, ◌<◌, ◌≤◌, List, [], ◌∷◌, ◌++◌, sym, ap, ◌∙◌, arith, length, get_or, Ok, Err, Result}
use Rattle.std.specs.Prelude.{OnErr}
use Rattle.std.proofs.lemmas.Grind.{flat_map-append}
use Rattle.std.proofs.lemmas.List.{length-append}
use Rattle.host_base.specs.declared.launch.Pair.{Pair}
use Rattle.trace_text.specs.Spelling.{Tokens, pair_tokens, pairs, spaced, spelled}

pub on_err : {T E Q : Type 0} (r : Result T E) → Q → OnErr r Q
on_err (Ok x) q = tt
on_err (Err e) q = q

pub spelled-append : (xs ys : Tokens) → spelled (xs ++ ys) ≡ spelled xs ++ spelled ys
spelled-append xs ys = flat_map-append spaced xs ys

pub pairs-cons : (p : Pair) (ps : List Pair) → spelled (pairs (p ∷ ps)) ≡ spelled (pair_tokens p) ++ spelled (pairs ps)
pairs-cons p ps = spelled-append (pair_tokens p) (pairs ps)

-- a list is added element by element, and the next finds no room
pub no_room : {X : Type 0} (f : X → List ℕ) (g : List X → List ℕ) → ((x : X) (xs : List X) → g (x ∷ xs) ≡ f x ++ g xs)
    → (t0 t : List ℕ) (rest : List X) (whole : List ℕ) (x d : X) (cap0 cap : ℕ) → 1 ≤ length rest → x ≡ get_or rest 0 d → t ++ g rest ≡ t0 ++ whole → cap0 ≤ cap
    → cap < length t + length (f x) → cap0 < length t0 + length whole
no_room f g cons t0 t [] whole x d cap0 cap some is same room full = absurd (omega arith)
no_room f g cons t0 t (y ∷ more) whole x d cap0 cap some is same room full =
    let parts : length t + length (g (y ∷ more)) ≡ length t0 + length whole = sym (length-append t (g (y ∷ more))) ∙ ap length same ∙ length-append t0 whole in
    let next : length (g (y ∷ more)) ≡ length (f y) + length (g more) = ap length (cons y more) ∙ length-append (f y) (g more) in
    let here : length (f x) ≡ length (f y) = ap (λ z. length (f z)) is in
    omega arith
