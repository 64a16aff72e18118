use Rattle.std.proofs.Common.{◌≡◌, drop, if◌then◌else◌}
use Rattle.std.specs.Prelude.{filter}
use Rattle.std.specs.List.{slice_get}
use Rattle.host_base.specs.SiteRules.{takes_any}
use Rattle.site_file.proofs.doubles.any_again.Given as goal

abbrev pub invariant-loop-host : goal.invariant-loop-host
invariant-loop-host l = slice_get (filter takes_any (drop l.host-index l.hosts)) (if l.is_taken then 0 else 1) ≡ slice_get (filter takes_any l.hosts) 1
