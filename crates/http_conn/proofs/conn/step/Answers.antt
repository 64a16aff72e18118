use Rattle.http_conn.proofs.GaveLaws.{gave_then, stepped}
use Rattle.http_conn.proofs.OpenLaws.{greeted_live, missed_then, opened, served_as}
use Rattle.http_conn.proofs.conn.step.Goals as goal

pub open-requires : goal.open-requires
open-requires g c = greeted_live c.in-Some.launch (served_as c.args.now c.in-Some.is c.serve.ensures.gave)

pub returns-in-Some-open-clause-gave : goal.returns-in-Some-open-clause-gave
returns-in-Some-open-clause-gave g c =
    opened c.open.new.conn c.open.new.children (g.O.Outside.trace c.open.new.out) c.in-Some.launch c.in-Some-open.talk c.in-Some-open.is
    (stepped c.hear.ensures.heard c.hear.ensures.exact (served_as c.args.now c.in-Some.is c.serve.ensures.gave)) c.open.ensures.opens

pub returns-in-None-open-clause-gave : goal.returns-in-None-open-clause-gave
returns-in-None-open-clause-gave g c =
    missed_then c.open.new.conn c.open.new.children (g.O.Outside.trace c.open.new.out) c.in-Some.launch c.in-None-open.is
    (stepped c.hear.ensures.heard c.hear.ensures.exact (served_as c.args.now c.in-Some.is c.serve.ensures.gave)) c.open.ensures.opens

pub returns-in-None-clause-gave : goal.returns-in-None-clause-gave
returns-in-None-clause-gave g c =
    stepped c.hear.ensures.heard c.hear.ensures.exact
    (gave_then (served_as c.args.now c.in-None.is c.serve.ensures.gave) (gave_then (c.close.ensures.gave c.serve.new.children) (c.want.ensures.gave c.serve.new.children)))
