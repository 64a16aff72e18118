-- A read of the buffer.
use Rattle.std.proofs.Common.{◌≡◌, ℕ, ◌+◌, ◌<◌, ◌≤◌, ◌==◌, false, min, List, [], ◌++◌, length, take, drop, sym, ap, ◌∙◌, arith, length-append, length-drop, take-append-drop, drop-drop}
use Rattle.std.proofs.lemmas.List.{take_at, length-take-le}
use Rattle.std.proofs.lemmas.Bool.{eqb-false}

-- what is given and what is left are what there was, and something is given
pub reads : (xs coming left copied buf : List ℕ) (start count : ℕ) → drop start xs ≡ coming → left ≡ coming → copied ≡ take count left
    → count ≡ min (length left) (length buf) → (length left == 0) ≡ false
    → (coming ≡ take count (copied ++ drop count buf) ++ drop (start + count) xs)
    × (count ≡ 0 → 0 < length (copied ++ drop count buf) → drop (start + count) xs ≡ [])
reads xs coming left copied buf start count behind is copy least some =
    let within : count ≤ length left = omega arith in
    let len : length copied ≡ count = ap length copy ∙ length-take-le count left within in
    let front : take count (copied ++ drop count buf) ≡ take count coming =
    take_at copied (drop count buf) count len ∙ copy ∙ ap (take count) is in
    let back : drop (start + count) xs ≡ drop count coming = sym (drop-drop count start xs) ∙ ap (drop count) behind in (
      sym (ap (λ (l : List ℕ). l ++ drop (start + count) xs) front ∙ ap (λ (l : List ℕ). take count coming ++ l) back ∙ take-append-drop count coming),
      λ none room.
          let filled : length left ≡ 0 → ⊥ = eqb-false (length left) 0 some in
          absurd (filled (omega (arith, least, none, room, len, length-append copied (drop count buf), length-drop count buf))),
    )
