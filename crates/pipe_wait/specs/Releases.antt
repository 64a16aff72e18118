-- Of which pipe.
use Rattle.std.specs.Prelude.{◌≡◌}
use Rattle.std.specs.Arc.{arc_value}
use Rattle.pipe_wait.specs.declared.release.Release.{Release}

-- one is told what the other was told
abbrev pub IsSameRelease : Release → Release → Type 0
IsSameRelease release other = arc_value other.gone ≡ arc_value release.gone
