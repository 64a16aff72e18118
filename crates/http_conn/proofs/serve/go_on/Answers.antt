use Rattle.std.proofs.Common.{sym, subst}
use Rattle.host_base.specs.SiteRules.{IsServed}
use Rattle.http_conn.proofs.GaveLaws.{gave_then}
use Rattle.http_conn.proofs.serve.go_on.Goals as goal

pub begin-requires-clause-served : goal.begin-requires-clause-served
begin-requires-clause-served g c = subst IsServed (sym (c.answer.ensures.gave c.args.children.now).site) c.requires.served

pub returns-clause-gave : goal.returns-clause-gave
returns-clause-gave g c = gave_then (c.answer.ensures.gave c.args.children.now) c.begin.ensures.gave
