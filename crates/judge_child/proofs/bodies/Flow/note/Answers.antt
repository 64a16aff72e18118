use Rattle.std.proofs.Common.{◌∙◌, ap, length}
use Rattle.judge_child.proofs.PartLaws.{flow_next}
use Rattle.judge_child.proofs.bodies.Flow.note.Goals as goal

pub returns-clause-flow : goal.returns-clause-flow
returns-clause-flow c = λ front was. flow_next c.args.self.now c.args.k front c.args.item.now (length c.input_fed.result.now) c.from.result was (ap length c.input_fed.ensures) (c.from.ensures ∙ c.count_took.ensures)
