use Rattle.std.proofs.Common.{◌≡◌, ◌++◌, drop, map}
use Rattle.std.specs.Prelude.{filter}
use Rattle.site_file.specs.SiteText.{is_documents}
use Rattle.site_file.specs.Tables.{script_at}
use Rattle.site_file.proofs.write.documents_of.Given as goal

abbrev pub invariant-loop-script : goal.invariant-loop-script
invariant-loop-script l = map script_at l.list.items ++ filter is_documents (drop l.script-index l.scripts) ≡ filter is_documents l.scripts
