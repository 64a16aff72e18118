-- The words so far were added.
use Rattle.std.proofs.Common.{take}
use Rattle.std_spawner.specs.Commands.{AddsWords}
use Rattle.std_spawner.proofs.command.add_words.Given as goal

abbrev pub invariant-loop-word : goal.invariant-loop-word
invariant-loop-word l = AddsWords l.initial.command l.command (take l.word-index l.words)
