-- What was read of a file with a limit is its front.
use Rattle.std.proofs.Common.{◌≡◌, ℕ, List, [], ◌++◌, take, Option, Some, None, IfSome}
use Rattle.std.specs.Option.{option_map}

pub front-known : (n : ℕ) (all read : Option (List ℕ)) (front : List ℕ) → read ≡ option_map (take n) all
    → IfSome read (λ xs. front ≡ [] ++ xs) → IfSome all (λ xs. front ≡ take n xs)
front-known n None read front same h = tt
front-known n (Some all) read front same h = rw same at h
