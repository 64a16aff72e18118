use Rattle.std.proofs.Common.{◌≡◌, [], drop, codes}
use Rattle.site_file.specs.Keys.{entry}
use Rattle.site_file.specs.Tables.{members_of_all}
use Rattle.site_file.specs.Unknown.{unknown_in_host, unknown_in_hosts, first_from}
use Rattle.site_file.proofs.unknown.unknown_in_hosts.Given as goal

abbrev pub invariant-loop-index : goal.invariant-loop-index
invariant-loop-index l =
    first_from (λ index table. unknown_in_host (entry [] (codes "host") index) table) l.index (drop l.index (members_of_all l.tables))
    ≡ unknown_in_hosts (members_of_all l.tables)
