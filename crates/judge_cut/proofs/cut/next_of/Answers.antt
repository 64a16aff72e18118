use Rattle.std.proofs.Common.{◌∙◌, ap}
use Rattle.std.proofs.lemmas.Result.{IfOk-weaker}
use Rattle.judge_cut.specs.Views.{exchange_of}
use Rattle.judge_cut.proofs.ViewLaws.{next_ended, next_open, pushed_at}
use Rattle.judge_cut.proofs.cut.next_of.Goals as goal

pub returns-then-branch-clause-next : goal.returns-then-branch-clause-next
returns-then-branch-clause-next g c = λ x is.
    let e = c.args.e in
    let longer = ap exchange_of c.pushed-longer.ensures ∙ pushed_at e.own.now e.number e.rest e.closed e.start e.end x c.requires.start c.requires.end is in
    IfOk-weaker c.following.result _ _ (λ next follow. next_ended (g.J.Cuts.site c.args.judge.now) (g.J.Cuts.conn c.args.judge.now) (exchange_of e) (exchange_of c.pushed-longer.result) (exchange_of next) x c.in_ok-has_ended.field-0 longer c.in_ok-has_ended.ensures c.if-branch.true follow) c.following.ensures.follows

pub returns-clause-next : goal.returns-clause-next
returns-clause-next g c = λ x is.
    let e = c.args.e in
    let longer = ap exchange_of c.pushed-longer.ensures ∙ pushed_at e.own.now e.number e.rest e.closed e.start e.end x c.requires.start c.requires.end is in
    next_open (g.J.Cuts.site c.args.judge.now) (g.J.Cuts.conn c.args.judge.now) (exchange_of e) (exchange_of c.pushed-longer.result) x c.in_ok-has_ended.field-0 longer c.in_ok-has_ended.ensures c.if-branch.false
