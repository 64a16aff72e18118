-- No file so far has the name.
use Rattle.std.proofs.Common.{◌≡◌, drop, map}
use Rattle.host_base.specs.Outsides.{stored_at}
use Rattle.memory_world.specs.StoreWords.{stored_of}
use Rattle.memory_world.proofs.find.find.Given as goal

abbrev pub invariant-loop-file : goal.invariant-loop-file
invariant-loop-file l = stored_at l.name (map stored_of l.files) ≡ stored_at l.name (map stored_of (drop l.file-index l.files))
