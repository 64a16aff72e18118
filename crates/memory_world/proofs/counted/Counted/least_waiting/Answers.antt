-- The set has its least.
use Rattle.std.proofs.Common.{◌∙◌, ap}
use Rattle.std.specs.Ordering.{nat_cmp}
use Rattle.std.specs.BTreeSet.{contains}
use Rattle.trace_tallies.specs.ChildTallies.{waits}
use Rattle.memory_world.proofs.LeastLaws.{least_open}
use Rattle.memory_world.proofs.counted.Counted.least_waiting.Goals as goal

pub returns : goal.returns
returns c =
    let t = c.args.self.now in
    let ties = t.ties c.requires in
    least_open (λ k. contains nat_cmp t.tallies.children.waiting k) c.first_of.result t.items.items c.first_of.ensures
    (λ k. ties.waiting k ∙ ap waits (ties.children k))
