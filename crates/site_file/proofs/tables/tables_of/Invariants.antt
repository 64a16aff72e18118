use Rattle.std.proofs.Common.{◌≡◌, drop}
use Rattle.toml.specs.Data.{as_table}
use Rattle.toml.specs.View.{items_view}
use Rattle.site_file.specs.Keys.{each_of}
use Rattle.site_file.specs.Tables.{members_of_all}
use Rattle.site_file.proofs.ArrayLaws.{with_rest}
use Rattle.site_file.proofs.tables.tables_of.Given as goal

abbrev pub invariant-loop-value : goal.invariant-loop-value
invariant-loop-value l = with_rest (members_of_all l.tables.items) (each_of as_table (items_view (drop l.value-index l.array.items))) ≡ each_of as_table (items_view l.array.items)
