use Rattle.std.proofs.Common.{◌≡◌, ◌++◌, length}
use Rattle.std.specs.List.{flat_map}
use Rattle.std.specs.Vec.Iter.{into_iter_items}
use Rattle.site_file.specs.Numbering.{hosts_of, folders_of}
use Rattle.site_file.proofs.number.site_of.Given as goal

abbrev pub invariant-loop-host : goal.invariant-loop-host
invariant-loop-host l =
    (l.hosts ++ hosts_of (length l.docs) (into_iter_items l.rest) ≡ hosts_of 0 l.fn.said.hosts)
    × (l.docs ++ flat_map folders_of (into_iter_items l.rest) ≡ flat_map folders_of l.fn.said.hosts)

abbrev pub decreases-loop-host : goal.decreases-loop-host
decreases-loop-host l = length (into_iter_items l.rest)
