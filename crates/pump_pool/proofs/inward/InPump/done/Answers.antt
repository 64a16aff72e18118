use Rattle.rtrb.specs.Ring.{received}
use Rattle.pump_pool.specs.Pumped.{PumpedIn}
use Rattle.pump_pool.proofs.Taken.{done_pumped}
use Rattle.pump_pool.proofs.inward.InPump.done.Goals as goal

pub returns-in-Ok-Done-clause-pumped : goal.returns-in-Ok-Done-clause-pumped
returns-in-Ok-Done-clause-pumped g c =
    let before = c.args.self.now in
    done_pumped (PumpedIn g.P.PipeOut.taken g.P.PipeOut.faults g.P.PipeOut.closed) (received before.hand) c.in-Ok-Done.field-0 c.in-Ok-Done.done c.in-Ok-Done.field-0-is c.in-Ok-Done.ensures.ok.2 before.ring.value before.pipe.value before.marked
