use Rattle.std.proofs.Common.{◌≡◌, ℕ, true, false, List, ◌++◌, length, ◌==◌, sym, ap, subst, ◌∙◌}
use Rattle.std.proofs.lemmas.Bool.{eqb-true, false≢true}
use Rattle.std.proofs.lemmas.List.{nil_from_length}
use Rattle.exchange_reply.specs.declared.reply.LegReply.{LegReply}
use Rattle.trace_child.specs.Words.{is_filled}
use Rattle.http_state.specs.Ready.{HasBegun, HearsPiece, HearsTick}
use Rattle.http_state.proofs.conn.HttpConn.next_text.Goals as goal

pub returns-then-is_empty-clause-tick : goal.returns-then-is_empty-clause-tick
returns-then-is_empty-clause-tick c came none =
    subst (λ (r : LegReply). HearsTick r c.args.closes c.args.now c.in_ok-more.more c.ticked_text.new.reply) (c.in_ok-text.ensures.none (c.next_piece-piece.ensures.piece ∙ none)).0
    (c.in_ok-more.ensures.tick (c.replace-came.ensures.value ∙ came))

pub returns-clause-tick : goal.returns-clause-tick
returns-clause-tick c came none =
    absurd (false≢true (c.if-is_empty.ensures ∙ ap (λ (text : List ℕ). length text == 0) (c.in_ok-text.ensures.none (c.next_piece-piece.ensures.piece ∙ none)).1))

pub returns-then-is_empty-clause-filled : goal.returns-then-is_empty-clause-filled
returns-then-is_empty-clause-filled c came none =
    subst (λ (r : LegReply). is_filled c.in_ok-more.more ≡ true → HasBegun r false) (c.in_ok-text.ensures.none (c.next_piece-piece.ensures.piece ∙ none)).0 c.in_ok-more.ensures.filled

behind_none : (text more : List ℕ) → true ≡ (length text == 0) → more ≡ text ++ more
behind_none text more none = ap (λ (front : List ℕ). front ++ more) (sym (nil_from_length text (eqb-true (length text) 0 (sym none))))

pub returns-then-is_empty-clause-both : goal.returns-then-is_empty-clause-both
returns-then-is_empty-clause-both c came = record {
  mid = c.heard_text.new.reply;
  first = c.in_ok-text.text;
  more = c.in_ok-more.more;
  heard = subst (λ (piece : List ℕ). HearsPiece c.args.leg.now.reply piece c.args.closes c.args.now c.in_ok-text.text c.heard_text.new.reply) c.next_piece-piece.ensures.piece
      c.in_ok-text.ensures.piece;
  ticked = c.in_ok-more.ensures.tick (c.replace-came.ensures.value ∙ came);
  text_is = behind_none c.in_ok-text.text c.in_ok-more.more c.if-is_empty.ensures;
}

pub returns-clause-both : goal.returns-clause-both
returns-clause-both c came = record {
  mid = c.heard_text.new.reply;
  first = c.in_ok-text.text;
  more = c.in_ok-more.more;
  heard = subst (λ (piece : List ℕ). HearsPiece c.args.leg.now.reply piece c.args.closes c.args.now c.in_ok-text.text c.heard_text.new.reply) c.next_piece-piece.ensures.piece
      c.in_ok-text.ensures.piece;
  ticked = c.in_ok-more.ensures.tick (c.replace-came.ensures.value ∙ came);
  text_is = c.in_ok-extend_from_slice.ensures.ok ∙ ap (λ (more : List ℕ). c.in_ok-text.text ++ more) c.as_slice.ensures;
}
