-- What was given of a client's bytes and what stands in its ring.
use Rattle.std.proofs.Common.{◌≡◌, ℕ, List, ◌++◌, append_assoc}

-- bytes that are given leave the ring
pub same_all : (heard now given rest before : List ℕ) → now ≡ heard ++ given → before ≡ given ++ rest → now ++ rest ≡ heard ++ before
same_all heard now given rest before e f = rw (e, f) (append_assoc heard given rest)
