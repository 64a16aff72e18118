-- The word between the first two spaces of a line, by where they stand.
use Rattle.std.proofs.Common.{◌≡◌, ℕ, ◌+◌, List, [], ◌∷◌, length, take, drop, sym, ap, ◌∙◌, arith, Option, Some, None}
use Rattle.std.specs.Option.{unwrap_or}
use Rattle.std.specs.List.{slice_split, position}
use Rattle.std.proofs.lemmas.List.{length-take-le}
use Rattle.host_base.proofs.SplitLaws.{slice_split-at_position, slice_split-no_position}
use Rattle.head_lines.proofs.FrontLaws.{parts_some}
use Rattle.head_reader.specs.RequestHead.{is_space, second_word}

pub second_word_none : (line : List ℕ) → position is_space line ≡ None → second_word (slice_split is_space line) ≡ []
second_word_none line e = ap second_word (slice_split-no_position is_space line e)

pub second_word_alone : (line : List ℕ) (n : ℕ) → position is_space line ≡ Some n → position is_space (drop (n + 1) line) ≡ None
    → second_word (slice_split is_space line) ≡ []
second_word_alone line n e none =
    ap second_word ((slice_split-at_position is_space line n e).1
    ∙ ap (λ (ws : List (List ℕ)). take n line ∷ ws) (slice_split-no_position is_space (drop (n + 1) line) none))

pub second_word_some : (line : List ℕ) (n m : ℕ) → position is_space line ≡ Some n → position is_space (drop (n + 1) line) ≡ Some m
    → length (second_word (slice_split is_space line)) ≡ m
second_word_some line n m e some =
    let rest = drop (n + 1) line in
    let first = slice_split-at_position is_space line n e in
    let second = slice_split-at_position is_space rest m some in
    let third = parts_some is_space (drop (m + 1) rest) in
    ap (λ (ws : List (List ℕ)). length (second_word ws))
    (first.1 ∙ ap (λ (ws : List (List ℕ)). take n line ∷ ws) (second.1 ∙ ap (λ (ws : List (List ℕ)). take m rest ∷ ws) third.2))
    ∙ length-take-le m rest (omega (arith, second.0))

pub second_word_len_none : (line : List ℕ) → position is_space line ≡ None → 0 ≡ length (second_word (slice_split is_space line))
second_word_len_none line e = sym (ap (λ (w : List ℕ). length w) (second_word_none line e))

pub second_word_len_is : (line rest : List ℕ) (n : ℕ) (o : Option ℕ) → position is_space line ≡ Some n → rest ≡ drop (n + 1) line
    → o ≡ position is_space rest → unwrap_or o 0 ≡ length (second_word (slice_split is_space line))
second_word_len_is line rest n None e is at =
    sym (ap (λ (w : List ℕ). length w) (second_word_alone line n e (sym (at ∙ ap (position is_space) is))))
second_word_len_is line rest n (Some m) e is at = sym (second_word_some line n m e (sym (at ∙ ap (position is_space) is)))
