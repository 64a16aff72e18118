use Rattle.std.proofs.Common.{◌≡◌, ◌++◌, drop, map}
use Rattle.toml.specs.Data.{table}
use Rattle.toml.specs.View.{view}
use Rattle.site_file.specs.SiteText.{zip_documents}
use Rattle.site_file.specs.Tables.{script_at}
use Rattle.site_file.proofs.write.zip_documents.Given as goal

abbrev pub invariant-loop-index : goal.invariant-loop-index
invariant-loop-index l = map view l.values.items ++ map table (zip_documents (drop l.index (map script_at l.scripts)) (drop l.index l.folders)) ≡ map table (zip_documents (map script_at l.scripts) l.folders)
