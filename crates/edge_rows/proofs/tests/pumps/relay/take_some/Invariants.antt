use Rattle.std.proofs.Common.{◌≡◌}
use Rattle.pipe_pump.specs.Rings.{SameTap, handed_up}
use Rattle.edge_rows.proofs.tests.pumps.relay.take_some.Given as goal

abbrev pub invariant-loop : goal.invariant-loop
invariant-loop g l =
    (goal.iterator-loop g).can_next l.iterator' × (goal.iterator-loop g).is_finite l.iterator'
    × SameTap l.initial.tap l.tap
    × (handed_up l.tap ≡ l.all.items)
