-- The record goes on with what was heard.
use Rattle.record_outside.proofs.KeepLaws.{heard}
use Rattle.record_outside.proofs.outside.RecordOutsideOutside.next.Goals as goal

pub invariant_of-self : goal.invariant_of-self
invariant_of-self g c = record { kept = heard _ (g.O.Outside.trace c.args.self.now.inner) (g.O.Outside.trace c.next-event.new.self) c.next-event.result c.args.self.now.so_far c.hear.new.self c.next-event.ensures.told c.args.self.now.kept c.hear.ensures }
