-- The event was taken off the list.
use Rattle.std.proofs.Common.{◌∙◌}
use Rattle.sample_run.proofs.StepLaws.{hears_next}
use Rattle.sample_run.proofs.played.PlayedOutside.next.Goals as goal

pub invariant_of-self : goal.invariant_of-self
invariant_of-self g c =
    let s = c.args.self.now in
    let n = c.next in
    let both = hears_next g.K.Plan.children g.K.Plan.events s.inside n.new.self s.takes s.leaves n.result s.limit n.ensures.told n.ensures.event n.ensures.listed in
    record { takes = λ T told. (both T told).0; leaves = λ T told. (both T told).1; limit = n.ensures.limit ∙ s.limit }
