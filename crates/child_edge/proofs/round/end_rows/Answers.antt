use Rattle.std.proofs.Common.{arith, ◌<◌, length}
use Rattle.child_edge.specs.Rows.{Ends}
use Rattle.child_edge.proofs.Lists.{front_get, front_all}
use Rattle.child_edge.proofs.round.end_rows.Goals as goal

pub loop-at-preserved : goal.loop-at-preserved
loop-at-preserved g c =
    let h : c.loop-at.at < length c.loop-at.rows = omega arith in
    front_get (Ends g.K.Kid.tells) c.loop-at.at c.args.rows.now c.loop-at.rows c.index-rows-at.result c.end.new.self h c.end.ensures c.loop-at.invariant

pub returns : goal.returns
returns g c = front_all (Ends g.K.Kid.tells) c.loop-at.at c.args.rows.now c.loop-at.rows (omega arith) c.loop-at.invariant
