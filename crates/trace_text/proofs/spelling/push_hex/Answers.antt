use Rattle.std.proofs.Common.{refl}
use Rattle.std.specs.List.{flat_map}
use Rattle.trace_text.specs.Spelling.{hex_byte}
use Rattle.trace_text.proofs.PushLaws.{no_room, on_err}
use Rattle.trace_text.proofs.spelling.push_hex.Goals as goal

pub returns-in_err-push_hex_byte-clause-full : goal.returns-in_err-push_hex_byte-clause-full
returns-in_err-push_hex_byte-clause-full c =
    on_err _ (no_room hex_byte (flat_map hex_byte) (λ x xs. refl) _ _ c.loop-rest.rest.now _ _ 0 _ _ c.in-len1-up.len_at_least refl c.loop-rest.invariant.0 c.loop-rest.invariant.1 c.in_err-push_hex_byte.ensures.full)
