use Rattle.std.proofs.Common.{◌≡◌}
use Rattle.toml.specs.View.{members_view, table_view}
use Rattle.site_file.proofs.EntryLaws.{types_read}
use Rattle.site_file.proofs.EachLaws.{onto}
use Rattle.site_file.proofs.read.documents.types_in.Given as goal

abbrev pub invariant-loop-extension : goal.invariant-loop-extension
invariant-loop-extension l = onto l.types (types_read l.place (members_view l.extension-iterator)) ≡ types_read l.place (table_view l.table)
