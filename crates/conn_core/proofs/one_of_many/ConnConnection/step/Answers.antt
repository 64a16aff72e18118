use Rattle.good_step_laws.proofs.Both.GiveLaws.{phases_give}
use Rattle.good_step_laws.proofs.Both.Given.{all_steps}
use Rattle.conn_core.specs.KindLaws.{conn_gives}
use Rattle.conn_core.proofs.one_of_many.ConnConnection.step.Goals as goal

pub returns-clause-gives : goal.returns-clause-gives
returns-clause-gives g c =
    conn_gives c.args.self.now _ c.args.children.now c.step.new.children c.args.ev c.args.now (g.O.Outside.trace c.args.out.now) (g.O.Outside.trace c.step.new.out)
    (phases_give all_steps c.args.self.now.conn c.step.new.self c.args.ev c.args.now c.args.children.now c.step.new.children (g.O.Outside.trace c.args.out.now) (g.O.Outside.trace c.step.new.out) c.args.self.now.talks c.step.ensures.steps)
