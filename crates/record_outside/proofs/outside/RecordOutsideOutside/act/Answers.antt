-- The record goes on with what was done.
use Rattle.record_outside.proofs.KeepLaws.{done, not_done}
use Rattle.record_outside.proofs.outside.RecordOutsideOutside.act.Goals as goal

pub invariant_of-self : goal.invariant_of-self
invariant_of-self g c = record { kept = done (g.O.Outside.trace c.args.self.now.inner) (g.O.Outside.trace c.act.new.self) c.args.act.now c.act.result c.args.self.now.so_far c.note.new.self c.act.ensures.told c.in-Done.is c.args.self.now.kept c.note.ensures }

pub invariant_of-self-in-NoRoom : goal.invariant_of-self-in-NoRoom
invariant_of-self-in-NoRoom g c = record { kept = not_done (g.O.Outside.trace c.args.self.now.inner) (g.O.Outside.trace c.act.new.self) c.args.act.now c.act.result c.args.self.now.so_far c.act.ensures.told c.in-NoRoom.is c.args.self.now.kept }
