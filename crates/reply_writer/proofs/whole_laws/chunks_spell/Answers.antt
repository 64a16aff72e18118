use Rattle.reply_writer.proofs.WholeLaws.{chunks_spell}
use Rattle.reply_writer.proofs.whole_laws.chunks_spell.Goals as goal

pub returns : goal.returns
returns c = chunks_spell
