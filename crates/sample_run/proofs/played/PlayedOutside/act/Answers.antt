-- An act leaves the list.
use Rattle.std.proofs.Common.{◌∙◌}
use Rattle.sample_run.proofs.StepLaws.{acts_on}
use Rattle.sample_run.proofs.played.PlayedOutside.act.Goals as goal

pub invariant_of-self : goal.invariant_of-self
invariant_of-self g c =
    let s = c.args.self.now in
    let n = c.act in
    let both = acts_on g.K.Plan.children g.K.Plan.events s.inside n.new.self s.takes s.leaves c.args.act.now n.result n.ensures.told n.ensures.listed in
    record { takes = λ T told. (both T told).0; leaves = λ T told. (both T told).1; limit = n.ensures.limit ∙ s.limit }
