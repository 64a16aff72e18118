use Rattle.std.proofs.Common.{◌≡◌, true}
use Rattle.pipe_pump.specs.Rings.{is_open}
use Rattle.edge_rows.proofs.tests.pumps.relay.feed_through.Given as goal

abbrev pub invariant-loop : goal.invariant-loop
invariant-loop g l =
    (goal.iterator-loop g).can_next l.iterator' × (goal.iterator-loop g).is_finite l.iterator'
    × (is_open l.feeder ≡ true)
