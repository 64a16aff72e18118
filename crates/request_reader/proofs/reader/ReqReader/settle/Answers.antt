use Rattle.request_reader.proofs.LookLaws.{settled_at_more}
use Rattle.request_reader.proofs.reader.ReqReader.settle.Goals as goal

pub returns-in-More-clause-state : goal.returns-in-More-clause-state
returns-in-More-clause-state c =
    settled_at_more c.args.self.now c.self.inside.limits c.args.opened c.args.step c.self.inside.opened c.self.inside.fault c.self.inside.begin
    c.self.inside.buffer.items c.truncate.new.self.items c.self.view_is c.truncate.ensures.items c.in-More.is
