-- The pairs so far, and those of the rest, are those of all.
use Rattle.std.proofs.Common.{◌≡◌, length}
use Rattle.std.specs.Prelude.{option_map}
use Rattle.std.specs.List.{fold}
use Rattle.fcgi_records.specs.Pairs.{pairs_of, pairs_in, put_into}
use Rattle.fcgi_records.specs.Entries.{fields_in}
use Rattle.fcgi_records.proofs.pairs.pairs_of.Given as goal

abbrev pub invariant-loop-rest : goal.invariant-loop-rest
invariant-loop-rest l = pairs_of l.fn.content ≡ option_map (fold put_into (fields_in l.values.entries)) (pairs_in l.rest)

abbrev pub decreases-loop-rest : goal.decreases-loop-rest
decreases-loop-rest l = length l.rest
