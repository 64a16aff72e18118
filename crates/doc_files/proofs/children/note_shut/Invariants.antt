-- As much is known of the children as before.
use Rattle.std.proofs.Common.{◌≡◌, List, length}
use Rattle.host_base.specs.declared.site.DocRoot.{DocRoot}
use Rattle.host_trace.specs.declared.items.Item.{Item}
use Rattle.doc_files.specs.Held.{Held}
use Rattle.doc_files.specs.Owed.{Knows}
use Rattle.doc_files.proofs.children.note_shut.Given as goal

abbrev pub invariant-loop-at : goal.invariant-loop-at
invariant-loop-at l =
    (length l.children ≡ length l.initial.children)
    × ((T : List Item) (held : Held) (docs : List DocRoot) → Knows held docs T l.initial.children → Knows held docs T l.children)
