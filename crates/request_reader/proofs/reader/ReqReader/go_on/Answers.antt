use Rattle.std.proofs.Common.{ap, ◌∙◌, drop}
use Rattle.request_reader.proofs.LookLaws.{went_on}
use Rattle.request_reader.proofs.reader.ReqReader.go_on.Goals as goal

pub returns-in-Ok-clause-heard : goal.returns-in-Ok-clause-heard
returns-in-Ok-clause-heard c bytes taken h unfaulty =
    went_on c.args.self.now.limits bytes taken c.args.self.now c.args.opened c.advance.new.self c.in-Ok.step c.behind-rest.result.now
    c.settle.result c.settle.new.self h unfaulty c.in-Ok.ensures.head
    (c.behind-rest.ensures ∙ ap (drop c.args.opened.used) c.rest.ensures)
    (λ read is. c.in-Ok.ensures.body c.args.self.now.limits.body read taken is) c.settle.ensures.look c.settle.ensures.state
