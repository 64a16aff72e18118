use Rattle.std.proofs.Common.{refl, ◌∷◌, ℕ, List}
use Rattle.trace_text.specs.Spelling.{hex, spelled, texts}
use Rattle.trace_text.proofs.PushLaws.{no_room, on_err}
use Rattle.trace_text.proofs.spelling.push_texts.Goals as goal

pub returns-in_err-push_bytes-clause-full : goal.returns-in_err-push_bytes-clause-full
returns-in_err-push_bytes-clause-full c =
    let full = rw c.as_bytes.ensures at c.in_err-push_bytes.ensures.full in
    on_err _ (no_room (λ (t : List ℕ). 32 ∷ hex t) (λ l. spelled (texts l)) (λ x xs. refl) _ _ c.loop-rest.rest.now _ c.one-item.result _ _ _ c.in-len1-up.len_at_least c.one-item.is c.loop-rest.invariant.0 c.loop-rest.invariant.1 full)
