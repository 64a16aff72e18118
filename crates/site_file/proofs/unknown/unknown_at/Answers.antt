use Rattle.std.proofs.Common.{◌≡◌, ◌++◌, Some, rules, sym, ◌∙◌}
use Rattle.toml.specs.View.{table_view}
use Rattle.site_file.specs.declared.fault.SiteFault.TheVariants.{Unknown}
use Rattle.site_file.specs.Unknown.{unknown_at}
use Rattle.site_file.proofs.EntryLaws.{unknown_later, unknown_here, unknown_nowhere}
use Rattle.site_file.proofs.unknown.unknown_at.Goals as goal

pub returns-then-not-knows : goal.returns-then-not-knows
returns-then-not-knows c =
    let here : unknown_at c.args.level c.args.place.now (table_view c.args.table.now) ≡ Some (Unknown (c.args.place.now ++ c.as_str-name.result.now)) =
    sym c.loop-key.invariant
    ∙ unknown_here c.args.level c.args.place.now c.loop-key.key-iterator c.next.new.self c.in-Some.key.now c.in-Some.field-0-1.now c.as_str-name.result.now c.in-Some.ensures.steps c.as_str-name.ensures.value (search rules) in
    search rules

pub loop-key-preserved : goal.loop-key-preserved
loop-key-preserved c =
    unknown_later c.args.level c.args.place.now c.loop-key.key-iterator c.next.new.self c.in-Some.key.now c.in-Some.field-0-1.now c.as_str-name.result.now
    c.in-Some.ensures.steps c.as_str-name.ensures.value (sym c.if-not-knows.ensures)
    ∙ c.loop-key.invariant

pub returns : goal.returns
returns c = sym c.loop-key.invariant ∙ unknown_nowhere c.args.level c.args.place.now c.loop-key.key-iterator c.in-None.ensures.steps.0
