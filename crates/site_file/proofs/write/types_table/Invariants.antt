use Rattle.std.proofs.Common.{◌≡◌, ◌≤◌, drop, length}
use Rattle.toml.specs.View.{table_view}
use Rattle.site_file.specs.SiteText.{types_members}
use Rattle.site_file.proofs.write.types_table.Given as goal

abbrev pub invariant-loop-index : goal.invariant-loop-index
invariant-loop-index l = (l.index ≤ length l.types) × (table_view l.table ≡ types_members (drop l.index l.types))

abbrev pub decreases-loop-index : goal.decreases-loop-index
decreases-loop-index l = l.index
