use Rattle.std.proofs.Common.{◌≡◌, take, map}
use Rattle.host_base.specs.SiteRules.{path_of}
use Rattle.site_file.specs.Tables.{text_at}
use Rattle.site_file.proofs.doubles.paths_of.Given as goal

abbrev pub invariant-loop-script : goal.invariant-loop-script
invariant-loop-script l = map text_at l.paths.items ≡ map path_of (take l.script-index l.scripts)
