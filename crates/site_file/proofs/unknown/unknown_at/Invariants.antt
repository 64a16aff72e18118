use Rattle.std.proofs.Common.{◌≡◌}
use Rattle.toml.specs.View.{members_view, table_view}
use Rattle.site_file.specs.Unknown.{unknown_at}
use Rattle.site_file.proofs.unknown.unknown_at.Given as goal

abbrev pub invariant-loop-key : goal.invariant-loop-key
invariant-loop-key l = unknown_at l.level l.place (members_view l.key-iterator) ≡ unknown_at l.level l.place (table_view l.table)
