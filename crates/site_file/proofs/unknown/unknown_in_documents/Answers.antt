use Rattle.std.proofs.Common.{◌≡◌, ◌≢◌, Some, codes, rules, ◌∙◌}
use Rattle.site_file.specs.declared.fault.SiteFault.TheVariants.{NoMemory}
use Rattle.site_file.specs.declared.levels.Level.TheVariants.{Documents}
use Rattle.site_file.specs.Tables.{members_of_all}
use Rattle.site_file.specs.Unknown.{unknown_at, unknown_in_documents}
use Rattle.site_file.proofs.EachLaws.{first_stops, first_goes_on, first_ends}
use Rattle.site_file.proofs.unknown.unknown_in_documents.Goals as goal

pub returns-in_err-unknown_at : goal.returns-in_err-unknown_at
returns-in_err-unknown_at c =
    let fault = c.in_err-unknown_at.field-0.0 in
    let refused : fault ≢ NoMemory → unknown_in_documents c.args.place.now (members_of_all c.args.tables.now) ≡ Some fault =
    first_stops (unknown_at Documents) c.args.place.now (codes "documents") c.args.tables.now c.loop-index.index c.index-tables-index.result c.as_str.result.now fault _
    c.loop-index.invariant c.loop-index-test.true c.index-tables-index.is (c.as_str.ensures.value ∙ c.in_ok-inner.ensures) c.in_err-unknown_at.ensures in
    search rules

pub loop-index-preserved : goal.loop-index-preserved
loop-index-preserved c =
    first_goes_on (unknown_at Documents) c.args.place.now (codes "documents") c.args.tables.now c.loop-index.index c.index-tables-index.result c.as_str.result.now _
    c.loop-index.invariant c.loop-index-test.true c.index-tables-index.is (c.as_str.ensures.value ∙ c.in_ok-inner.ensures) c.in_ok-unknown_at.ensures

pub returns : goal.returns
returns c = first_ends (unknown_at Documents) c.args.place.now (codes "documents") c.args.tables.now c.loop-index.index _ c.loop-index.invariant c.loop-index-test.false
