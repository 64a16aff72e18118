use Rattle.reply_writer.proofs.ChunkReadLaws.{chunks_read_back}
use Rattle.reply_writer.proofs.whole_laws.chunks_read_back.Goals as goal

pub returns : goal.returns
returns c = chunks_read_back
