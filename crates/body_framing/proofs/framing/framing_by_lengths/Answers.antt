use Rattle.std.proofs.Common.{codes, sym, ap, ◌∙◌}
use Rattle.body_framing.specs.Framing.{length_digits}
use Rattle.body_framing.proofs.WordLaws.{lengths_none, lengths_bad, lengths_are}
use Rattle.body_framing.proofs.framing.framing_by_lengths.Goals as goal

pub returns-in_default : goal.returns-in_default
returns-in_default c = lengths_none c.args.limit (codes "Content-Length") c.args.fields.now (sym c.in_default.ensures)

pub returns-in-Some-length_digits : goal.returns-in-Some-length_digits
returns-in-Some-length_digits c =
    c.framing_if_same.ensures
    ∙ lengths_are c.args.limit (codes "Content-Length") c.args.fields.now c.in-Some.first.now c.in-Some-length_digits.digits.now c.are_lengths.result
    (sym c.in-Some.ensures) (sym (c.in-Some-length_digits.ensures ∙ ap length_digits c.as_slice.ensures)) c.are_lengths.ensures

pub returns-in-None : goal.returns-in-None
returns-in-None c =
    lengths_bad c.args.limit (codes "Content-Length") c.args.fields.now c.in-Some.first.now (sym c.in-Some.ensures)
    (sym (c.in-None.ensures ∙ ap length_digits c.as_slice.ensures))
