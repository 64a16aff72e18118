use Rattle.std.proofs.Common.{ap}
use Rattle.http_state.specs.Settles.{is_answered}
use Rattle.http_state.proofs.TakenLaws.{given_up_taken}
use Rattle.http_state.proofs.conn.HttpConn.ready_hop.Goals as goal

pub returns-in-Refused-clause-gives_up : goal.returns-in-Refused-clause-gives_up
returns-in-Refused-clause-gives_up c = given_up_taken c.take_stage.result c.take_stage.ensures.stage (ap is_answered c.in-Refused.is) c.take_stage.ensures.rest c.ready_refusal.ensures.gives_up

pub returns-in-Unstarted-clause-gives_up : goal.returns-in-Unstarted-clause-gives_up
returns-in-Unstarted-clause-gives_up c =
    given_up_taken c.take_stage.result c.take_stage.ensures.stage (ap is_answered c.in-Unstarted.is) c.take_stage.ensures.rest c.ready_at_place.ensures.gives_up
