use Rattle.std.proofs.Common.{append_assoc}
use Rattle.reply_writer.proofs.fault.push_upgrade_fields.Goals as goal

pub returns : goal.returns
returns c =
    simp append_assoc at (rw (c.in_ok-push_field-2.ensures, c.in_ok-push_field.ensures) at c.push_field-3.ensures)
