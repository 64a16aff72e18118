use Rattle.std.proofs.Common.{◌∙◌}
use Rattle.reply_writer.proofs.DateLaws.{date_is}
use Rattle.reply_writer.proofs.date.date_text.Goals as goal

pub returns-clause-text : goal.returns-clause-text
returns-clause-text c =
    c.to_bytes.ensures ∙ date_is c.in-Ok.date c.args.secs c.requires (c.in-Ok.ensures.value)
