use Rattle.std.proofs.Common.{◌≡◌, take, map}
use Rattle.std.specs.List.{flat_map}
use Rattle.host_base.specs.SiteRules.{names_of}
use Rattle.site_file.specs.Tables.{text_at}
use Rattle.site_file.proofs.doubles.names_of.Given as goal

abbrev pub invariant-loop-host : goal.invariant-loop-host
invariant-loop-host l = map text_at l.names.items ≡ flat_map names_of (take l.host-index l.hosts)
