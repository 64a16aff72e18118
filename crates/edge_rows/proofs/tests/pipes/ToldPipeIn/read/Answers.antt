use Rattle.std.proofs.Common.{◌≡◌, ◌<◌, List, [], ◌∷◌, ◌++◌, ℕ, length, take, refl, arith}
use Rattle.std.specs.Prelude.{slice_set}
use Rattle.std.proofs.lemmas.Grind.{common_steps}
use Rattle.edge_rows.proofs.tests.pipes.ToldPipeIn.read.Goals as goal

-- the front of a slice after a write there
front_set : (xs : List ℕ) (b : ℕ) (rest : List ℕ) → 0 < length xs → take 1 (slice_set xs 0 b) ++ rest ≡ b ∷ rest
front_set [] b rest h = absurd (omega arith)
front_set (x ∷ xs) b rest h = refl

pub returns-in-Some-clause-bytes : goal.returns-in-Some-clause-bytes
returns-in-Some-clause-bytes c =
    let h : 0 < length c.args.into.now = grind (arith, common_steps) in
    rw (front_set c.args.into.now c.in-Some.byte c.pop_front.new.self.items h) (grind (arith, common_steps))
