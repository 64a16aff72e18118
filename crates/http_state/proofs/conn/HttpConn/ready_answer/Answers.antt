use Rattle.std.proofs.Common.{sym, ap, subst, ◌∙◌}
use Rattle.exchange_stage.specs.declared.stage.Leg.{Leg}
use Rattle.http_state.specs.declared.conn.HttpConn.{HttpConn}
use Rattle.http_state.specs.Ready.{Lacks, outcome_of_run}
use Rattle.http_state.specs.Settles.{is_answered}
use Rattle.http_state.proofs.TakenLaws.{given_up_taken, same_leg}
use Rattle.http_state.proofs.conn.HttpConn.ready_answer.Goals as goal

pub returns-in-Rejected-clause-gives_up : goal.returns-in-Rejected-clause-gives_up
returns-in-Rejected-clause-gives_up c = given_up_taken c.take_stage.result c.take_stage.ensures.stage (ap is_answered c.in-Rejected.is) c.take_stage.ensures.rest c.ready_fault.ensures.gives_up

pub returns-in-Interrupted-clause-gives_up : goal.returns-in-Interrupted-clause-gives_up
returns-in-Interrupted-clause-gives_up c =
    given_up_taken c.take_stage.result c.take_stage.ensures.stage (ap is_answered c.in-Interrupted.is) c.take_stage.ensures.rest c.ready_broken.ensures.gives_up

pub returns-in-Running-clause-gives_up : goal.returns-in-Running-clause-gives_up
returns-in-Running-clause-gives_up c = given_up_taken c.take_stage.result c.take_stage.ensures.stage (ap is_answered c.in-Running.is) c.take_stage.ensures.rest c.ready_by_run.ensures.gives_up

pub returns-in-Running-clause-lacks : goal.returns-in-Running-clause-lacks
returns-in-Running-clause-lacks c leg at ended found lost =
    subst (λ (l : Leg). Lacks l.reply) (same_leg (sym c.in-Running.is ∙ (c.take_stage.ensures.stage ∙ at)))
    (c.ready_by_run.ensures.lacks (ap (λ (conn : HttpConn). outcome_of_run conn.run) c.take_stage.ensures.rest ∙ ended) (ap (λ (conn : HttpConn). conn.lost) c.take_stage.ensures.rest ∙ found) lost)
