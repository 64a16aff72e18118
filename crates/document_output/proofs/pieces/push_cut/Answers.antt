use Rattle.std.proofs.Common.{◌≡◌, ℕ, List, [], ◌∷◌, ◌++◌, All, sym, subst}
use Rattle.std.specs.List.{concat}
use Rattle.std.proofs.lemmas.List.Elements.{All-push}
use Rattle.document_output.specs.Pieces.{IsPiece}
use Rattle.document_output.proofs.OutputLaws.{piece_more}
use Rattle.document_output.proofs.pieces.push_cut.Goals as goal

pub loop-rest-preserved : goal.loop-rest-preserved
loop-rest-preserved c =
    let is : c.push_piece.new.pieces.items ≡ c.loop-rest.pieces.items ++ c.cut.result.0.now ∷ [] = c.in_ok-push_piece.ensures in
    record {
      joined =
          piece_more c.loop-rest.pieces.items c.push_piece.new.pieces.items c.cut.result.0.now c.cut.result.1.now c.loop-rest.rest.now
          (concat c.args.pieces.now.items ++ c.args.bytes.now) is c.cut.ensures.whole c.loop-rest.invariant.joined;
      each =
          subst (λ (l : List (List ℕ)). All IsPiece l) (sym is)
          (All-push IsPiece c.loop-rest.pieces.items c.cut.result.0.now c.loop-rest.invariant.each
          (record { some = c.cut.ensures.some; few = c.cut.ensures.few }));
    }
