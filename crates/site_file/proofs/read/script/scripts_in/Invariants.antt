use Rattle.std.proofs.Common.{◌≡◌, drop, codes}
use Rattle.site_file.specs.Keys.{entry, each_from}
use Rattle.site_file.specs.SiteFile.{script_in, scripts_in}
use Rattle.site_file.specs.Tables.{members_of_all}
use Rattle.site_file.proofs.EachLaws.{onto}
use Rattle.site_file.proofs.read.script.scripts_in.Given as goal

abbrev pub invariant-loop-index : goal.invariant-loop-index
invariant-loop-index l =
    onto l.scripts (each_from (λ index table. script_in (entry l.place (codes "script") index) table) l.index (drop l.index (members_of_all l.tables)))
    ≡ scripts_in l.place (members_of_all l.tables)
