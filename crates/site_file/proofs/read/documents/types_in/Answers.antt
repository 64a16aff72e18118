use Rattle.std.proofs.Common.{◌≡◌, ◌≢◌, Err, rules, sym, ◌∙◌}
use Rattle.toml.specs.View.{table_view}
use Rattle.site_file.specs.declared.fault.SiteFault.TheVariants.{NoMemory}
use Rattle.site_file.specs.SiteFile.{types_in}
use Rattle.site_file.proofs.EntryLaws.{types_stop, types_go_on, types_end, types_in_order}
use Rattle.site_file.proofs.read.documents.types_in.Goals as goal

pub returns-in_err-type_in : goal.returns-in_err-type_in
returns-in_err-type_in c =
    let fault = c.in_err-type_in.field-0.0 in
    let refused : fault ≢ NoMemory → types_in c.args.place.now (table_view c.args.table.now) ≡ Err fault =
    λ known. sym (types_in_order c.args.place.now c.args.table.now.entries c.iter-extension-items.ensures.ordered)
    ∙ types_stop c.args.place.now c.loop-extension.types c.loop-extension.extension-iterator c.next.new.self c.in-Some.extension.now c.in-Some.value.now c.as_str.result.now fault _
    c.loop-extension.invariant c.in-Some.ensures.steps c.as_str.ensures.value c.in_err-type_in.ensures known in
    search rules

pub loop-extension-preserved : goal.loop-extension-preserved
loop-extension-preserved c =
    let goes_on = types_go_on c.args.place.now c.loop-extension.types c.loop-extension.extension-iterator c.next.new.self c.in-Some.extension.now c.in-Some.value.now c.as_str.result.now c.in_ok-type_in.field-0 _
    c.loop-extension.invariant c.in-Some.ensures.steps c.as_str.ensures.value c.in_ok-type_in.ensures in
    rw c.in_ok-push.ensures.ok goes_on

pub returns : goal.returns
returns c =
    sym (types_in_order c.args.place.now c.args.table.now.entries c.iter-extension-items.ensures.ordered)
    ∙ types_end c.args.place.now c.loop-extension.types c.loop-extension.extension-iterator _ c.loop-extension.invariant c.in-None.ensures.steps.0
