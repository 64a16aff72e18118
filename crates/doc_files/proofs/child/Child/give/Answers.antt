use Rattle.std.proofs.Common.{refl, ap}
use Rattle.std.specs.Prelude.{is_some}
use Rattle.host_trace.specs.declared.items.Item.TheVariants.{Out}
use Rattle.doc_files.proofs.KnowsLaws.{numbered_rests}
use Rattle.doc_files.proofs.OwedLaws.{is_kill_of, owes_killed, owes_rests}
use Rattle.doc_files.proofs.child.Child.give.Goals as goal

pub returns-in-Feed-clause-kept : goal.returns-in-Feed-clause-kept
returns-in-Feed-clause-kept c = λ T held docs o.
    owes_rests held docs T c.args.self.now.k (Out c.args.act.now) c.args.self.now.output c.args.self.now.over
    (numbered_rests c.args.act.now (ap is_some c.requires) c.args.self.now.k) o

pub returns-in-WantChild-clause-kept : goal.returns-in-WantChild-clause-kept
returns-in-WantChild-clause-kept c = λ T held docs o.
    owes_rests held docs T c.args.self.now.k (Out c.args.act.now) c.args.self.now.output c.args.self.now.over
    (numbered_rests c.args.act.now (ap is_some c.requires) c.args.self.now.k) o

pub returns-in-EndInput-clause-kept : goal.returns-in-EndInput-clause-kept
returns-in-EndInput-clause-kept c = λ T held docs o.
    owes_rests held docs T c.args.self.now.k (Out c.args.act.now) c.args.self.now.output c.args.self.now.over
    (numbered_rests c.args.act.now (ap is_some c.requires) c.args.self.now.k) o

pub returns-in-Release-clause-kept : goal.returns-in-Release-clause-kept
returns-in-Release-clause-kept c = λ T held docs o.
    owes_rests held docs T c.args.self.now.k (Out c.args.act.now) c.args.self.now.output c.args.self.now.over
    (numbered_rests c.args.act.now (ap is_some c.requires) c.args.self.now.k) o

pub returns-in-Kill-clause-kept : goal.returns-in-Kill-clause-kept
returns-in-Kill-clause-kept c = λ T held docs o.
    rw (is_kill_of c.args.act.now c.in-Kill.k c.args.self.now.k c.in-Kill.is c.requires)
    (owes_killed held docs T c.args.self.now.k c.args.self.now.output c.args.self.now.over o)

pub returns-in_default : goal.returns-in_default
returns-in_default c = record {
  number = refl;
  kept = λ T held docs o.
      owes_rests held docs T c.args.self.now.k (Out c.args.act.now) c.args.self.now.output c.args.self.now.over
      (numbered_rests c.args.act.now (ap is_some c.requires) c.args.self.now.k) o;
}
