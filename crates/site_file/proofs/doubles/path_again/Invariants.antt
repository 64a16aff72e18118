use Rattle.std.proofs.Common.{◌≡◌, drop}
use Rattle.site_file.specs.Doubles.{path_again}
use Rattle.site_file.proofs.doubles.path_again.Given as goal

abbrev pub invariant-loop-host : goal.invariant-loop-host
invariant-loop-host l = path_again (drop l.host-index l.hosts) ≡ path_again l.hosts
