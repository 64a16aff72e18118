-- The variables so far were set.
use Rattle.std.proofs.Common.{take}
use Rattle.std_spawner.specs.Commands.{SetsPairs}
use Rattle.std_spawner.proofs.command.set_variables.Given as goal

abbrev pub invariant-loop-pair : goal.invariant-loop-pair
invariant-loop-pair l = SetsPairs l.initial.command l.command (take l.pair-index l.pairs)
