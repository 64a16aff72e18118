use Rattle.exchange_request.proofs.BareLaws.{bare_known}
use Rattle.exchange_request.proofs.incoming.Incoming.is_bare.Goals as goal

pub returns-in_err-head-clause-served : goal.returns-in_err-head-clause-served
returns-in_err-head-clause-served c = bare_known c.args.self.now

pub returns-in-Whole-clause-served : goal.returns-in-Whole-clause-served
returns-in-Whole-clause-served c = bare_known c.args.self.now

pub returns-in-More-clause-served : goal.returns-in-More-clause-served
returns-in-More-clause-served c = bare_known c.args.self.now
