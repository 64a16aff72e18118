-- The set has its least.
use Rattle.std.proofs.Common.{◌∙◌, ap}
use Rattle.std.specs.Ordering.{nat_cmp}
use Rattle.std.specs.BTreeSet.{contains}
use Rattle.trace_tallies.specs.ChildTallies.{runs}
use Rattle.memory_world.proofs.LeastLaws.{least_running}
use Rattle.memory_world.proofs.counted.Counted.least_running.Goals as goal

pub returns : goal.returns
returns c =
    let t = c.args.self.now in
    let ties = t.ties c.requires in
    least_running (λ k. contains nat_cmp t.tallies.children.running k) c.first_of.result t.items.items c.first_of.ensures
    (λ k. ties.running k ∙ ap runs (ties.children k))
