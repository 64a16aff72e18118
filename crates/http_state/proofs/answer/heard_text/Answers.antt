use Rattle.http_state.proofs.ReadyLaws.{hears_piece}
use Rattle.http_state.proofs.answer.heard_text.Goals as goal

pub returns-clause-piece : goal.returns-clause-piece
returns-clause-piece c = hears_piece c.hear.result c.args.reply.now c.hear.new.self c.args.piece c.args.closes c.args.now c.hear.ensures.heard
