-- The whole steps are the record, with the last one where nothing was too much.
use Rattle.std.proofs.Common.{string_bytes}
use mathlib.Core.Logic.{∥∥₁_map}
use Rattle.record_outside.proofs.KeepLaws.{open_record, open_short, opened, was_over}
use Rattle.record_outside.proofs.RecordLaws.{over_record}
use Rattle.record_outside.proofs.record.Record.end.Goals as goal

pub returns-then-not-self : goal.returns-then-not-self
returns-then-not-self c = λ T kept begins. ∥∥₁_map (kept begins) (λ so.
    let r = c.args.self.now in
    let was = opened r.is_over T (string_bytes r.text) (string_bytes r.step) r.count c.if-not-self.true so in
    open_record T (string_bytes r.text) (string_bytes r.step) _ r.count was (c.end_step.ensures.text (open_short T (string_bytes r.text) (string_bytes r.step) r.count was)))

pub returns-else-not-self : goal.returns-else-not-self
returns-else-not-self c = λ T kept begins. ∥∥₁_map (kept begins) (λ so.
    let r = c.args.self.now in
    over_record T (string_bytes r.text) (was_over r.is_over T (string_bytes r.text) (string_bytes r.step) r.count c.if-not-self.false so))
