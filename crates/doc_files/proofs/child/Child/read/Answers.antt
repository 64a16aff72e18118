use Rattle.std.proofs.Common.{subst}
use Rattle.doc_files.specs.Owed.{OwesAs}
use Rattle.doc_files.specs.declared.child.Output.TheVariants.{Left}
use Rattle.doc_files.proofs.OwedLaws.{owes_read}
use Rattle.doc_files.proofs.child.Child.read.Goals as goal

pub returns-in-Ok-clause-kept : goal.returns-in-Ok-clause-kept
returns-in-Ok-clause-kept g c = λ T held holds is o.
    owes_read held c.args.docs.now T c.args.self.now.k c.args.launch.now c.in-Ok.pieces.items (Left c.in-Ok.pieces) c.args.self.now.over is
    (c.in-Ok.ensures.served held holds) (λ begun U left. left)
    (subst (λ w. OwesAs held c.args.docs.now T c.args.self.now.k w c.args.self.now.over) c.requires o)
