-- The act goes on with the step, if nothing was too much before.
use Rattle.std.proofs.Common.{ap, string_bytes}
use Rattle.host_trace.specs.declared.items.Item.TheVariants.{Out}
use Rattle.std.specs.Prelude.{string_capacity}
use mathlib.Core.Logic.{∥∥₁_map}
use Rattle.record_outside.proofs.KeepLaws.{begins_before, next_act, next_by, open_few, opened, stays_over}
use Rattle.record_outside.proofs.record.Record.note.Goals as goal

pub returns-then-not-self : goal.returns-then-not-self
returns-then-not-self c = λ T kept begins. ∥∥₁_map (kept (begins_before T (Out c.args.act.now) begins)) (λ so.
    let r = c.args.self.now in
    let x = Out c.args.act.now in
    let was = opened r.is_over T (string_bytes r.text) (string_bytes r.step) r.count c.if-not-self.true so in
    let next = next_act T c.args.act.now (string_bytes r.text) (string_bytes r.step) r.count was begins in
    next_by c.push_done.result T x (string_bytes r.text) (string_bytes r.step) (string_bytes c.push_done.new.text) _ _ r.count _ (string_capacity r.step)
    c.is_ok-is_spelled.result _ next was.counted (open_few T (string_bytes r.text) (string_bytes r.step) r.count was) r.room.1 c.is_ok-is_spelled.ensures.value
    c.push_done.ensures.text c.push_done.ensures.full c.count_item.ensures.count (ap string_bytes c.count_item.ensures.same.0) (ap string_bytes c.count_item.ensures.same.1)
    c.count_item.ensures.over)

pub returns-else-not-self : goal.returns-else-not-self
returns-else-not-self c = λ T kept begins. ∥∥₁_map (kept (begins_before T (Out c.args.act.now) begins)) (λ so.
    let r = c.args.self.now in
    let x = Out c.args.act.now in
    stays_over r.is_over T (string_bytes r.text) (string_bytes r.step) r.count x c.if-not-self.false so)
