use Rattle.std.proofs.Common.{arith}
use Rattle.judge_cut.proofs.ViewLaws.{follows}
use Rattle.judge_cut.proofs.cut.following.Goals as goal

pub returns-clause-follows : goal.returns-clause-follows
returns-clause-follows g c =
    let e = c.args.e in
    follows (g.J.Cuts.site c.args.judge.now) (g.J.Cuts.conn c.args.judge.now) e.own.now e.number e.rest c.in_ok-rest.rest e.closed c.in_ok-closed.closed e.start e.end (omega (arith, c.requires.some)) c.in_ok-rest.ensures c.in_ok-closed.ensures
