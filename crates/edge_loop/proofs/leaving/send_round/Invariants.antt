use Rattle.std.proofs.Common.{◌≡◌, All}
use Rattle.std.specs.List.{AllWithin}
use Rattle.edge_loop.specs.declared.leaving.Sending.TheVariants.{Done}
use Rattle.edge_loop.proofs.leaving.send_round.Given as goal

abbrev pub invariant-loop-i : goal.invariant-loop-i
invariant-loop-i g l =
    (All g.E.Leaving.is_halted l.initial.outs → All g.E.Leaving.is_halted l.outs) × (l.all ≡ Done → AllWithin g.E.Leaving.is_sent l.outs 0 l.i)
