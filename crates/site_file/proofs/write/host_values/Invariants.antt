use Rattle.std.proofs.Common.{◌≡◌, ◌++◌, drop, map}
use Rattle.toml.specs.Data.{table}
use Rattle.toml.specs.View.{view}
use Rattle.site_file.specs.SiteText.{host_tables}
use Rattle.site_file.proofs.write.host_values.Given as goal

abbrev pub invariant-loop-host : goal.invariant-loop-host
invariant-loop-host l = map view l.values.items ++ map table (host_tables (drop l.host-index l.hosts) l.left) ≡ map table (host_tables l.hosts l.folders)
