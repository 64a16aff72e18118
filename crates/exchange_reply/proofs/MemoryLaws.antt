-- A reply that is to be written may find no memory.
use Rattle.std.proofs.Common.{◌≡◌, Bool, true, false, refl, ap, ◌∙◌}
use Rattle.std.specs.Prelude.{◌&&◌, ◌||◌, not}
use Rattle.trace_model.specs.Answer.{answer, is_final, stage}
use Rattle.trace_model.specs.Demands.{is_live, is_to_stream, may_go_on, must_answer, must_stream, waits_its_turn}
use Rattle.trace_model.specs.Exchange.{all_of, has_final}
use Rattle.trace_model.specs.Standing.{stands_whole}
use Rattle.exchange_reply.specs.MemoryRules.{AnswersAreLacked, DuesAreLacked}

or_last : (a b : Bool) → b ≡ true → (a || b) ≡ true
or_last true b is = refl
or_last false b is = is

or_one : (a b : Bool) → a ≡ true → (a || b) ≡ true
or_one a b is = ap (λ (x : Bool). x || b) is

both : (a b : Bool) → a ≡ true → b ≡ true → (a && b) ≡ true
both a b left right = ap (λ (x : Bool). x && b) left ∙ right

pub dues_are_lacked : DuesAreLacked
dues_are_lacked site c e leg live at due none =
    or_last (must_answer site c e && not (stands_whole site c e)) (must_stream site c e && not (has_final site c e))
    (both (must_stream site c e) (not (has_final site c e))
    (both (is_live c (all_of e)) (is_to_stream e (stage site c e)) live (ap (is_to_stream e) at ∙ due))
    (ap not none))

pub answers_are_lacked : AnswersAreLacked
answers_are_lacked site c e live final turn whole =
    let now : (not (waits_its_turn (stage site c e)) || may_go_on c e) ≡ true = or_one (not (waits_its_turn (stage site c e))) (may_go_on c e) (ap not turn) in
    let must : must_answer site c e ≡ true =
    ap (λ (b : Bool). b && is_final (answer site c e) && (not (waits_its_turn (stage site c e)) || may_go_on c e)) live
    ∙ ap (λ (b : Bool). b && (not (waits_its_turn (stage site c e)) || may_go_on c e)) final
    ∙ now in
    or_one (must_answer site c e && not (stands_whole site c e)) (must_stream site c e && not (has_final site c e))
    (both (must_answer site c e) (not (stands_whole site c e)) must (ap not whole))
