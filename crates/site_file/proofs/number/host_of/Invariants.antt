use Rattle.std.proofs.Common.{◌≡◌, ◌++◌, length, map}
use Rattle.std.specs.Vec.Iter.{into_iter_items}
use Rattle.site_file.specs.Numbering.{documents_scripts, doc_root_of}
use Rattle.site_file.proofs.number.host_of.Given as goal

abbrev pub invariant-loop-table : goal.invariant-loop-table
invariant-loop-table l =
    (l.scripts ++ documents_scripts (length l.docs) (into_iter_items l.rest) ≡ l.fn.host.scripts ++ documents_scripts (length l.fn.docs) l.fn.host.documents)
    × (l.docs ++ map doc_root_of (into_iter_items l.rest) ≡ l.fn.docs ++ map doc_root_of l.fn.host.documents)

abbrev pub decreases-loop-table : goal.decreases-loop-table
decreases-loop-table l = length (into_iter_items l.rest)
