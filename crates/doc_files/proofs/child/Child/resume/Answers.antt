use Rattle.std.proofs.Common.{refl}
use Rattle.host_trace.specs.declared.items.Event.TheVariants.{Started, NoRoom, Took}
use Rattle.host_trace.specs.declared.items.Item.TheVariants.{In}
use Rattle.doc_files.proofs.OwedLaws.{owes_rests}
use Rattle.doc_files.proofs.child.Child.resume.Goals as goal

pub returns-clause-kept : goal.returns-clause-kept
returns-clause-kept c = λ T held docs o.
    owes_rests held docs T c.args.self.now.k (In (Started c.args.self.now.k)) c.args.known c.args.self.now.over
    (record { no_start = refl; no_launch = refl; no_bytes = refl; no_end = refl; no_exit = refl }) o
