use Rattle.std.proofs.Common.{ap, length}
use Rattle.judge_child.proofs.CountLaws.{counted_after, counted_before}
use Rattle.judge_child.proofs.decided.Counted.note.Goals as goal

pub returns-then-self-clause-counted : goal.returns-then-self-clause-counted
returns-then-self-clause-counted c = λ front was. counted_after c.args.self.now c.args.k front c.args.item.now (length c.output_heard.result.now) c.tick_len.result c.if-self.true was (ap length c.output_heard.ensures) c.tick_len.ensures

pub returns-else-self-clause-counted : goal.returns-else-self-clause-counted
returns-else-self-clause-counted c = λ front was. counted_before c.args.self.now c.args.k front c.args.item.now c.is_start-self.result c.if-self.false was c.is_start-self.ensures
