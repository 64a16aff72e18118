use Rattle.std.proofs.Common.{◌≡◌, [], take, drop, map}
use Rattle.site_file.specs.Doubles.{same_by, first_again}
use Rattle.site_file.specs.Tables.{text_at}
use Rattle.site_file.proofs.doubles.first_again.Given as goal

abbrev pub invariant-loop-index : goal.invariant-loop-index
invariant-loop-index l =
    first_again (same_by l.sameness) (take l.index (map text_at l.texts)) (drop l.index (map text_at l.texts))
    ≡ first_again (same_by l.sameness) [] (map text_at l.texts)
