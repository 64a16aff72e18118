use Rattle.std.proofs.Common.{◌≡◌, ◌++◌, All, length}
use Rattle.std.specs.List.{concat}
use Rattle.document_output.specs.Pieces.{IsPiece}
use Rattle.document_output.proofs.pieces.push_cut.Given as goal

abbrev pub invariant-loop-rest : goal.invariant-loop-rest
invariant-loop-rest l = record {
  joined : concat l.pieces.items ++ l.rest ≡ concat l.initial.pieces.items ++ l.bytes;
  each : All IsPiece l.pieces.items;
}

abbrev pub decreases-loop-rest : goal.decreases-loop-rest
decreases-loop-rest l = length l.rest
