-- The two directions of a link, in memory.
use Rattle.std.specs.Prelude.{ℕ, List, Option, Some, refl}
use Rattle.std.specs.Coded.{Coded, code_by, coded×, coded_ℕ, coded_list}

pub record Directions : Type 0 where
  -- what was fed, and is not read yet
  pub coming : List ℕ
  -- what is to be sent
  pub going : List ℕ

abbrev pub directions_code : Coded Directions
directions_code =
    code_by (List ℕ × List ℕ) (coded× (coded_list coded_ℕ) (coded_list coded_ℕ)) (λ d. (d.coming, d.going))
    (λ p. record { coming = p.0; going = p.1 }) (λ _. refl)

-- what reads will give, and what was written
abbrev pub coming_of : Directions → Option (List ℕ)
coming_of d = Some d.coming

abbrev pub going_of : Directions → Option (List ℕ)
going_of d = Some d.going
