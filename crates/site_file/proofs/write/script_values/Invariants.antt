use Rattle.std.proofs.Common.{◌≡◌, ◌++◌, drop, map}
use Rattle.toml.specs.Data.{table}
use Rattle.toml.specs.View.{view}
use Rattle.site_file.specs.SiteText.{script_tables}
use Rattle.site_file.proofs.write.script_values.Given as goal

abbrev pub invariant-loop-script : goal.invariant-loop-script
invariant-loop-script l = map view l.values.items ++ map table (script_tables (drop l.script-index l.scripts)) ≡ map table (script_tables l.scripts)
