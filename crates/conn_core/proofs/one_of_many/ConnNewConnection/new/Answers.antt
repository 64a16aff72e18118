use Rattle.good_step_laws.proofs.Both.KindLaws.{phases_begin}
use Rattle.good_step_laws.proofs.Both.Given.{all_steps}
use Rattle.conn_core.proofs.one_of_many.ConnNewConnection.new.Goals as goal

pub returns-clause-stands : goal.returns-clause-stands
returns-clause-stands c = λ L ticks. phases_begin all_steps c.new.result c.args.site.now c.args.c L c.new.ensures.new c.requires ticks
