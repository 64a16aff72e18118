-- The plan has so many connections.
use Rattle.std.proofs.Common.{◌≡◌, ℕ, zero, suc, ◌∷◌, [], refl, arith, length}
use Rattle.std.proofs.lemmas.List.{length-append}
use Rattle.sample_parts.specs.Plan.{plan, planned_at}

pub plan_length : (seed count : ℕ) → length (plan seed count) ≡ count
plan_length seed zero = refl
plan_length seed (suc count) = omega (arith, length-append (plan seed count) (planned_at seed count ∷ []), plan_length seed count)
