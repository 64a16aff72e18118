use Rattle.std.proofs.Common.{◌≡◌, drop, codes}
use Rattle.site_file.specs.Keys.{entry, each_from}
use Rattle.site_file.specs.SiteFile.{documents_in, all_documents_in}
use Rattle.site_file.specs.Tables.{members_of_all}
use Rattle.site_file.proofs.EachLaws.{onto}
use Rattle.site_file.proofs.read.documents.all_documents_in.Given as goal

abbrev pub invariant-loop-index : goal.invariant-loop-index
invariant-loop-index l =
    onto l.documents (each_from (λ index table. documents_in (entry l.place (codes "documents") index) table) l.index (drop l.index (members_of_all l.tables)))
    ≡ all_documents_in l.place (members_of_all l.tables)
