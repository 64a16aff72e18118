-- The events so far, twice over.
use Rattle.std.proofs.Common.{◌≡◌, map}
use Rattle.memory_world.specs.ListedWords.{given_of}
use Rattle.memory_world.proofs.outside.twice.Given as goal

abbrev pub invariant-loop-event : goal.invariant-loop-event
invariant-loop-event l = map given_of l.listed.items ≡ l.yielded
