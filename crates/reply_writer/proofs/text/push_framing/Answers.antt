use Rattle.std.proofs.Common.{rules}
use Rattle.std.proofs.lemmas.List.{append-nil}
use Rattle.reply_writer.proofs.text.push_framing.Goals as goal

pub returns-in-Length : goal.returns-in-Length
returns-in-Length c = rw (c.in-Length.is, append-nil) (search rules)

pub returns-in-Chunked : goal.returns-in-Chunked
returns-in-Chunked c = rw (c.in-Chunked.is, append-nil) (search rules)
