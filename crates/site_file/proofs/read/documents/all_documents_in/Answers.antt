use Rattle.std.proofs.Common.{◌≡◌, ◌≢◌, Err, codes, rules, ◌∙◌}
use Rattle.site_file.specs.declared.fault.SiteFault.TheVariants.{NoMemory}
use Rattle.site_file.specs.SiteFile.{documents_in, all_documents_in}
use Rattle.site_file.specs.Tables.{members_of_all}
use Rattle.site_file.proofs.EachLaws.{each_stops, each_goes_on, each_ends}
use Rattle.site_file.proofs.read.documents.all_documents_in.Goals as goal

pub returns-in_err-documents_in : goal.returns-in_err-documents_in
returns-in_err-documents_in c =
    let fault = c.in_err-documents_in.field-0.0 in
    let refused : fault ≢ NoMemory → all_documents_in c.args.place.now (members_of_all c.args.tables.now) ≡ Err fault =
    each_stops documents_in c.args.place.now (codes "documents") c.loop-index.documents c.args.tables.now c.loop-index.index c.index-tables-index.result c.as_str.result.now fault _
    c.loop-index.invariant c.loop-index-test.true c.index-tables-index.is (c.as_str.ensures.value ∙ c.in_ok-inner.ensures) c.in_err-documents_in.ensures in
    search rules

pub loop-index-preserved : goal.loop-index-preserved
loop-index-preserved c =
    let goes_on = each_goes_on documents_in c.args.place.now (codes "documents") c.loop-index.documents c.args.tables.now c.loop-index.index c.index-tables-index.result c.as_str.result.now c.in_ok-documents_in.field-0 _
    c.loop-index.invariant c.loop-index-test.true c.index-tables-index.is (c.as_str.ensures.value ∙ c.in_ok-inner.ensures) c.in_ok-documents_in.ensures in
    rw c.in_ok-push.ensures.ok goes_on

pub returns : goal.returns
returns c = each_ends documents_in c.args.place.now (codes "documents") c.loop-index.documents c.args.tables.now c.loop-index.index _ c.loop-index.invariant c.loop-index-test.false
