-- Outsides that went through lanes stand in their places.
use Rattle.std.proofs.Common.{◌≡◌, ℕ, ◌<◌, List, [], ◌∷◌, sym, subst, map, length, get_or}
use Rattle.std.specs.Prelude.{reverse}
use Rattle.std.specs.List.{AllZip}
use Rattle.host_loop.proofs.OrderLaws.{zip_outs, zip_reverse}

pub zip_same : {O : Type 0} (R : O → O → Type 0) → ((o : O) → R o o) → (os : List O) → AllZip R os os
zip_same R same [] = tt
zip_same R same (o ∷ os) = (same o, zip_same R same os)

module _ {L O : Type 0} (out : L → O) (Q : L → L → Type 0) (R : O → O → Type 0) (gives : (a b : L) → Q a b → R (out a) (out b)) where
  pub in_places : (xs ys : List L) (os ps : List O) → reverse (map out xs) ≡ os → ps ≡ reverse (map out ys) → length ys ≡ length xs →
      ((k : ℕ) (d : L) → k < length xs → Q (get_or xs k d) (get_or ys k d)) → AllZip R os ps
  in_places xs ys os ps before after same each =
      subst (λ (us : List O). AllZip R us ps) before
      (subst (λ (vs : List O). AllZip R (reverse (map out xs)) vs) (sym after) (zip_reverse R (map out xs) (map out ys) (zip_outs out Q R gives xs ys same each)))
