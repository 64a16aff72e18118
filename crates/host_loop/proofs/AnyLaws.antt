-- Some element of a list that grows at its end.
use Rattle.std.proofs.Common.{List, [], ◌∷◌, ◌++◌, inl, inr}
use Rattle.host_loop.specs.Loops.{IsAny}

pub any_before : {X : Type 0} (P : X → Type 0) (xs : List X) (x : X) → IsAny P xs → IsAny P (xs ++ x ∷ [])
any_before P [] x h = absurd h
any_before P (y ∷ xs) x (inl p) = inl p
any_before P (y ∷ xs) x (inr h) = inr (any_before P xs x h)

pub any_last : {X : Type 0} (P : X → Type 0) (xs : List X) (x : X) → P x → IsAny P (xs ++ x ∷ [])
any_last P [] x p = inl p
any_last P (y ∷ xs) x p = inr (any_last P xs x p)
