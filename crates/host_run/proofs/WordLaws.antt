-- A word cut at its first `=`.
use Rattle.std.proofs.Common.{◌≡◌, ℕ, ◌<◌, List, Option, Some, None, Bor, refl, true, false, length, arith}
use Rattle.std.specs.Prelude.{MatchOption, nat_lt}
use Rattle.std.specs.List.{position_or_len, before_first, after_first}
use Rattle.host_run.specs.Words.{is_equals, parts_of}

pub parts_from : (word : List ℕ) (r : Option (Bor (List ℕ) × Bor (List ℕ))) →
    MatchOption r (position_or_len is_equals word ≡ length word)
    (λ x. (x.0.now ≡ before_first is_equals word) × (x.1.now ≡ after_first is_equals word) × (position_or_len is_equals word < length word)) →
    MatchOption r (parts_of word ≡ None) (λ parts. parts_of word ≡ Some (parts.0.now, parts.1.now))
parts_from word None e =
    let f : nat_lt (position_or_len is_equals word) (length word) ≡ false = grind (arith, e) in
    rw f refl
parts_from word (Some parts) e =
    let f : nat_lt (position_or_len is_equals word) (length word) ≡ true = grind (arith, e.2) in
    rw (f, e.0, e.1) refl
