use Rattle.reply_writer.proofs.WholeLaws.{wholes_spell}
use Rattle.reply_writer.proofs.whole_laws.wholes_spell.Goals as goal

pub returns : goal.returns
returns c = wholes_spell
