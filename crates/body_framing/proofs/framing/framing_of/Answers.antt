use Rattle.std.proofs.Common.{sym, ◌∙◌}
use Rattle.body_framing.proofs.WordLaws.{framing_without, framing_refused, framing_coded}
use Rattle.body_framing.proofs.framing.framing_of.Goals as goal

pub returns-then-not-has_field : goal.returns-then-not-has_field
returns-then-not-has_field c =
    c.framing_by_lengths.ensures
    ∙ framing_without c.args.head.now c.args.limits.now c.as_slice-fields.result.now c.as_slice-fields.ensures (sym c.if-not-has_field.ensures)

pub returns-then-is_codings_refused : goal.returns-then-is_codings_refused
returns-then-is_codings_refused c =
    framing_refused c.args.head.now c.args.limits.now c.as_slice-fields.result.now c.as_slice-fields.ensures (sym c.if-not-has_field.ensures)
    (sym c.if-is_codings_refused.ensures)

pub returns-else-is_codings_refused : goal.returns-else-is_codings_refused
returns-else-is_codings_refused c =
    c.framing_by_codings.ensures
    ∙ framing_coded c.args.head.now c.args.limits.now c.as_slice-fields.result.now c.as_slice-fields.ensures (sym c.if-not-has_field.ensures)
    (sym c.if-is_codings_refused.ensures)
