use Rattle.std.proofs.Common.{arith, ap, ◌∙◌, ◌-◌}
use Rattle.toml.specs.Data.{string}
use Rattle.toml.specs.View.{members_view, table_view}
use Rattle.site_file.specs.SiteText.{put}
use Rattle.site_file.proofs.WriteLaws.{types_before, no_types}
use Rattle.site_file.proofs.write.types_table.Goals as goal

pub loop-index-init : goal.loop-index-init
loop-index-init c = (omega arith, ap members_view c.new-table.ensures.empty ∙ no_types c.args.types.now)

pub loop-index-preserved : goal.loop-index-preserved
loop-index-preserved c =
    let pair = c.index-types-index.result in
    let old = table_view c.loop-index.table in (
      omega arith,
      types_before c.args.types.now c.loop-index.index (c.loop-index.index - 1) pair old (table_view c.put_text.new.table) (omega arith) (omega arith) c.index-types-index.is c.loop-index.invariant.1
          (c.in_ok-put_text.ensures ∙ ap (λ name. put name (string c.as_str-in-loop-index.result.now) old) c.as_str.ensures ∙ ap (λ value. put pair.name (string value) old) c.as_str-in-loop-index.ensures),
    )
