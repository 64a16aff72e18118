use Rattle.std.proofs.Common.{◌≡◌, [], drop, codes}
use Rattle.site_file.specs.Keys.{entry, each_from}
use Rattle.site_file.specs.SiteFile.{host_in, hosts_in}
use Rattle.site_file.specs.Tables.{members_of_all}
use Rattle.site_file.proofs.EachLaws.{onto}
use Rattle.site_file.proofs.read.host.hosts_in.Given as goal

abbrev pub invariant-loop-index : goal.invariant-loop-index
invariant-loop-index l =
    onto l.hosts (each_from (λ index table. host_in (entry [] (codes "host") index) table) l.index (drop l.index (members_of_all l.tables)))
    ≡ hosts_in (members_of_all l.tables)
