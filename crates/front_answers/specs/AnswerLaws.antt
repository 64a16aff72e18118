-- What holds of answers.
use Rattle.std.specs.Prelude.{ℕ, true, List, ◌≡◌}
use Rattle.host_base.specs.declared.cause.Cause.{Cause}
use Rattle.reply_writer.specs.FaultReply.{fault_text}
use Rattle.front_answers.specs.Answer.{by_output, is_some_byte, text_of_answer}

-- There is no empty answer: a script without output is answered for.
pub record AnswersAreFilled : Type 0 where
  pub of_a_script : (output : List ℕ) → is_some_byte (text_of_answer (by_output output)) ≡ true
  pub of_a_fault : (cause : Cause) → is_some_byte (fault_text cause) ≡ true

-- A script's output that isn't empty is its answer, byte for byte.
abbrev pub OutputsAreAnswers : Type 0
OutputsAreAnswers = (output : List ℕ) → is_some_byte output ≡ true → text_of_answer (by_output output) ≡ output
