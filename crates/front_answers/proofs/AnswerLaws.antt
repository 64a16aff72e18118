-- Answers.
use Rattle.std.proofs.Common.{◌≡◌, ℕ, true, List, [], ◌∷◌, refl}
use Rattle.std.proofs.lemmas.Bool.{false≢true}
use Rattle.front_answers.specs.Answer.{by_output, is_some_byte, text_of_answer}
use Rattle.front_answers.specs.AnswerLaws.{AnswersAreFilled, OutputsAreAnswers}

filled : (output : List ℕ) → is_some_byte (text_of_answer (by_output output)) ≡ true
filled [] = refl
filled (byte ∷ output) = refl

pub answers_are_filled : AnswersAreFilled
answers_are_filled = record { of_a_script = filled; of_a_fault = λ cause. refl }

pub outputs_are_answers : OutputsAreAnswers
outputs_are_answers [] some = absurd (false≢true some)
outputs_are_answers (byte ∷ output) some = refl
