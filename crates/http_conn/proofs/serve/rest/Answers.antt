use Rattle.std.proofs.Common.{inl, inr, refl, sym, subst, false}
use Rattle.http_state.specs.declared.conn.HttpConn.{HttpConn}
use Rattle.http_state.specs.Tells.{TellsMore}
use Rattle.http_state.proofs.TakenLaws.{given_up}
use Rattle.http_state.proofs.DueLaws.{lost_rests}
use Rattle.http_conn.proofs.serve.rest.Goals as goal

pub returns-then-may_go_on-clause-rests : goal.returns-then-may_go_on-clause-rests
returns-then-may_go_on-clause-rests c =
    subst (λ (conn : HttpConn). TellsMore conn false) (sym c.lose.ensures.value) (lost_rests (subst (TellsMore c.args.conn.now) c.if-may_go_on.true c.may_go_on.ensures))

pub returns-else-may_go_on-clause-rests : goal.returns-else-may_go_on-clause-rests
returns-else-may_go_on-clause-rests c = subst (TellsMore c.args.conn.now) c.if-may_go_on.false c.may_go_on.ensures

pub returns-then-may_go_on-clause-rested : goal.returns-then-may_go_on-clause-rested
returns-then-may_go_on-clause-rested c = inr (subst (TellsMore c.args.conn.now) c.if-may_go_on.true c.may_go_on.ensures, given_up c.lose.ensures.value)

pub returns-else-may_go_on-clause-rested : goal.returns-else-may_go_on-clause-rested
returns-else-may_go_on-clause-rested c = inl refl
