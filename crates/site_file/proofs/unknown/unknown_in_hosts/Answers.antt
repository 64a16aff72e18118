use Rattle.std.proofs.Common.{◌≡◌, ◌≢◌, [], Some, codes, rules, ◌∙◌}
use Rattle.site_file.specs.declared.fault.SiteFault.TheVariants.{NoMemory}
use Rattle.site_file.specs.Tables.{members_of_all}
use Rattle.site_file.specs.Unknown.{unknown_in_host, unknown_in_hosts}
use Rattle.site_file.proofs.EachLaws.{first_stops, first_goes_on, first_ends}
use Rattle.site_file.proofs.unknown.unknown_in_hosts.Goals as goal

pub returns-in_err-unknown_in_host : goal.returns-in_err-unknown_in_host
returns-in_err-unknown_in_host c =
    let fault = c.in_err-unknown_in_host.field-0.0 in
    let refused : fault ≢ NoMemory → unknown_in_hosts (members_of_all c.args.tables.now) ≡ Some fault =
    first_stops unknown_in_host [] (codes "host") c.args.tables.now c.loop-index.index c.index-tables-index.result c.as_str.result.now fault _
    c.loop-index.invariant c.loop-index-test.true c.index-tables-index.is (c.as_str.ensures.value ∙ c.in_ok-inner.ensures) c.in_err-unknown_in_host.ensures in
    search rules

pub loop-index-preserved : goal.loop-index-preserved
loop-index-preserved c =
    first_goes_on unknown_in_host [] (codes "host") c.args.tables.now c.loop-index.index c.index-tables-index.result c.as_str.result.now _
    c.loop-index.invariant c.loop-index-test.true c.index-tables-index.is (c.as_str.ensures.value ∙ c.in_ok-inner.ensures) c.in_ok-unknown_in_host.ensures

pub returns : goal.returns
returns c = first_ends unknown_in_host [] (codes "host") c.args.tables.now c.loop-index.index _ c.loop-index.invariant c.loop-index-test.false
