-- What was gone over stands before the rest.
use Rattle.std.proofs.Common.{◌≡◌, ◌++◌, take}
use Rattle.doc_files.proofs.alike.are_alike.Given as goal

abbrev pub invariant-loop-item : goal.invariant-loop-item
invariant-loop-item g l = take l.item-index l.one ++ l.rest ≡ l.other
