use Rattle.std.proofs.Common.{ap, ◌∙◌}
use Rattle.toml.specs.Data.{table}
use Rattle.site_file.specs.SiteText.{documents_members}
use Rattle.site_file.proofs.WriteLaws.{zip_more, zip_past, zip_end}
use Rattle.site_file.proofs.write.zip_documents.Goals as goal

pub returns-then-index-folders : goal.returns-then-index-folders
returns-then-index-folders c = zip_past c.args.scripts.now c.args.folders.now c.loop-index.index c.loop-index.values.items _ c.loop-index.invariant c.if-index-folders.true

pub loop-index-preserved : goal.loop-index-preserved
loop-index-preserved c =
    let folder = c.index-folders-index.result in
    zip_more c.args.scripts.now c.args.folders.now c.loop-index.index c.index-scripts-index.result folder c.loop-index.values.items c.push.new.self.items c.table_of.result _
    c.loop-index.invariant c.loop-index-test.true c.index-scripts-index.is c.if-index-folders.false c.index-folders-index.is c.in_ok-push.ensures.items
    (c.table_of.ensures ∙ ap table c.in_ok-documents_table.ensures ∙ ap (λ path. table (documents_members path folder)) c.as_str.ensures)

pub returns : goal.returns
returns c = zip_end c.args.scripts.now c.args.folders.now c.loop-index.index c.loop-index.values.items _ c.loop-index.invariant c.loop-index-test.false
