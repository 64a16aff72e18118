use Rattle.std.proofs.Common.{[], subst}
use Rattle.exchange_stage.specs.declared.stage.Stage.{Stage}
use Rattle.http_conn.specs.Parts.{GivesHopBy}
use Rattle.http_state.proofs.KeptLaws.{put_back}
use Rattle.http_conn.proofs.PartLaws.{gave_back, gave_hop_finished, gave_hop_lost, gave_script, gives_no_hop}
use Rattle.http_conn.proofs.give.give_hop.Goals as goal

pub returns-in-Finishing-clause-gave : goal.returns-in-Finishing-clause-gave
returns-in-Finishing-clause-gave g c =
    gave_hop_finished c.take_stage.result c.in-Finishing.text c.in-Finishing.closes c.take_stage.ensures.stage c.in-Finishing.is c.take_stage.ensures.rest c.take_stage.ensures.kept
    (c.give_rest.ensures.gave c.args.children.now)

pub returns-in-Ok-clause-gave : goal.returns-in-Ok-clause-gave
returns-in-Ok-clause-gave g c =
    gave_script c.take_stage.result c.in-Starting.leg c.in-Starting.launch c.in-Starting.body c.in-Starting.whole c.in-Ok.run' c.take_stage.ensures.stage c.in-Starting.is
    c.take_stage.ensures.rest c.take_stage.ensures.kept c.in-Ok.ensures c.give_start.ensures.gave

pub returns-in-Err-clause-gave : goal.returns-in-Err-clause-gave
returns-in-Err-clause-gave g c =
    gave_hop_lost c.take_stage.result c.in-Starting.leg c.in-Starting.launch c.in-Starting.body c.in-Starting.whole c.take_stage.ensures.stage c.in-Starting.is
    c.take_stage.ensures.rest c.take_stage.ensures.kept c.lose.ensures.value

pub returns-in_default-clause-gave : goal.returns-in_default-clause-gave
returns-in_default-clause-gave g c =
    gave_back (put_back c.take_stage.ensures.rest c.take_stage.ensures.stage c.put.ensures.value)
    (subst (λ (s : Stage). GivesHopBy s c.args.conn.now c.args.children.now [] c.args.conn.now) c.take_stage.ensures.stage
    (gives_no_hop c.args.conn.now c.args.children.now c.take_stage.result c.in_default.not-Finishing c.in_default.not-Starting))
