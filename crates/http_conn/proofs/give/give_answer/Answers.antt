use Rattle.std.proofs.Common.{[], subst}
use Rattle.exchange_stage.specs.declared.stage.Stage.{Stage}
use Rattle.http_conn.specs.Parts.{GivesBy}
use Rattle.http_state.proofs.KeptLaws.{put_back}
use Rattle.http_conn.proofs.PartLaws.{gave_answer_finished, gave_answer_part, gave_back, gives_none}
use Rattle.http_conn.proofs.give.give_answer.Goals as goal

pub returns-in-Running-clause-gave : goal.returns-in-Running-clause-gave
returns-in-Running-clause-gave g c n =
    gave_answer_part c.take_stage.result c.in-Running.leg c.take_stage.ensures.stage c.in-Running.is c.take_stage.ensures.rest c.take_stage.ensures.kept (c.give_part.ensures.gave n)

pub returns-in-Finishing-clause-gave : goal.returns-in-Finishing-clause-gave
returns-in-Finishing-clause-gave g c n =
    gave_answer_finished c.take_stage.result c.in-Finishing.text c.in-Finishing.closes c.take_stage.ensures.stage c.in-Finishing.is c.take_stage.ensures.rest c.take_stage.ensures.kept
    (c.give_rest.ensures.gave n)

pub returns-in_default-clause-gave : goal.returns-in_default-clause-gave
returns-in_default-clause-gave g c n =
    gave_back (put_back c.take_stage.ensures.rest c.take_stage.ensures.stage c.put.ensures.value)
    (subst (λ (s : Stage). GivesBy s c.args.conn.now n [] c.args.conn.now) c.take_stage.ensures.stage
    (gives_none c.args.conn.now n c.take_stage.result c.in_default.not-Running c.in_default.not-Finishing))
