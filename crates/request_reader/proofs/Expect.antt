-- What is expected, by how many words there are.
use Rattle.std.proofs.Common.{◌≡◌, ℕ, Bool, false, cond, eqb, List, [], ◌∷◌, length, min, ap, arith, Ok, Err}
use Rattle.std.specs.Prelude.{codes}
use Rattle.std.specs.List.{list_any}
use Rattle.std.proofs.lemmas.Bool.{ne_eqb}
use Rattle.host_base.specs.declared.cause.Cause.TheVariants.{BadExpect}
use Rattle.host_base.specs.declared.request.Framing.{Framing}
use Rattle.body_framing.specs.Framing.{is_other_word}
use Rattle.request_reader.specs.Request.{expects_by_words, has_content}

pub expects_are : (words : List (List ℕ)) (framing : Framing) (count : ℕ) (other : Bool) → count ≡ min 2 (length words)
    → other ≡ list_any (is_other_word (codes "100-continue")) words
    → cond (eqb count 0) (Ok false) (cond other (Err BadExpect) (Ok (has_content framing))) ≡ expects_by_words words framing
expects_are [] framing count other count_is other_is =
    ap (λ (n : ℕ). cond (eqb n 0) (Ok false) (cond other (Err BadExpect) (Ok (has_content framing)))) count_is
expects_are (word ∷ words) framing count other count_is other_is =
    let some : eqb count 0 ≡ false = ne_eqb count 0 (λ e. absurd (omega arith)) in
    λ i. cond (some i) (Ok false) (cond (other_is i) (Err BadExpect) (Ok (has_content framing)))
