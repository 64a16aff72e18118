use Rattle.trace_text.specs.Spelling.{pair_tokens, pairs, spelled}
use Rattle.trace_text.proofs.PushLaws.{no_room, on_err, pairs-cons}
use Rattle.trace_text.proofs.spelling.push_pairs.Goals as goal

pub returns-in_err-push_pair-clause-full : goal.returns-in_err-push_pair-clause-full
returns-in_err-push_pair-clause-full c =
    on_err _ (no_room (λ p. spelled (pair_tokens p)) (λ l. spelled (pairs l)) pairs-cons _ _ c.loop-rest.rest.now _ c.pair-item.result _ _ _ c.in-len1-up.len_at_least c.pair-item.is c.loop-rest.invariant.0 c.loop-rest.invariant.1 c.in_err-push_pair.ensures.full)
