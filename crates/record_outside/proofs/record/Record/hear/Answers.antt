-- The event begins a step, if nothing was too much before.
use Rattle.std.proofs.Common.{◌∙◌, ap, arith, string_bytes}
use Rattle.host_trace.specs.declared.items.Item.TheVariants.{In}
use Rattle.std.specs.Prelude.{string_capacity}
use mathlib.Core.Logic.{∥∥₁_map}
use Rattle.record_outside.proofs.KeepLaws.{begins_before, next_by, next_event, open_few, open_short, opened, stays_over}
use Rattle.record_outside.proofs.record.Record.hear.Goals as goal

pub returns-then-not-self : goal.returns-then-not-self
returns-then-not-self c = λ T kept begins. ∥∥₁_map (kept (begins_before T (In c.args.event.now) begins)) (λ so.
    let r = c.args.self.now in
    let whole = c.end_step.new.self in
    let x = In c.args.event.now in
    let was = opened r.is_over T (string_bytes r.text) (string_bytes r.step) r.count c.if-not-self.true so in
    let next = next_event T c.args.event.now (string_bytes r.text) (string_bytes r.step) (string_bytes whole.text) (string_bytes whole.step) r.count was
    (c.end_step.ensures.text (open_short T (string_bytes r.text) (string_bytes r.step) r.count was)) c.end_step.ensures.step in
    let few = open_few T (string_bytes r.text) (string_bytes r.step) r.count was in
    next_by c.push_heard.result T x (string_bytes whole.text) (string_bytes whole.step) (string_bytes c.push_heard.new.text) _ _ whole.count _ (string_capacity whole.step)
    c.is_ok-is_spelled.result _ next (c.end_step.ensures.same.0 ∙ was.counted) (omega (arith, few, c.end_step.ensures.same.0)) whole.room.1 c.is_ok-is_spelled.ensures.value
    c.push_heard.ensures.text c.push_heard.ensures.full c.count_item.ensures.count (ap string_bytes c.count_item.ensures.same.0) (ap string_bytes c.count_item.ensures.same.1)
    c.count_item.ensures.over)

pub returns-else-not-self : goal.returns-else-not-self
returns-else-not-self c = λ T kept begins. ∥∥₁_map (kept (begins_before T (In c.args.event.now) begins)) (λ so.
    let r = c.args.self.now in
    let x = In c.args.event.now in
    stays_over r.is_over T (string_bytes r.text) (string_bytes r.step) r.count x c.if-not-self.false so)
