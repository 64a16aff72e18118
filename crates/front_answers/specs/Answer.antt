-- The answer to a request that came through a web server: the output of its script as it is, which the web server reads
-- (RFC 3875 6), or the host's own in the same form.
use Rattle.std.specs.Prelude.{ℕ, Bool, true, false, List, [], ◌∷◌, Option, Some, None}
use Rattle.host_base.specs.declared.cause.Cause.{Cause}
use Rattle.host_base.specs.declared.cause.Cause.TheVariants.{NoOutput}
use Rattle.host_trace.specs.Decider.{Outcome, derived, unanswered, failed}
use Rattle.reply_writer.specs.FaultReply.{fault_text}

-- these bytes; or none, and there will be none; or not known yet
pub data Answer : Type 0 where
  answered : List ℕ → Answer
  no_answer undecided : Answer

abbrev pub fault : Cause → Answer
fault cause = answered (fault_text cause)

-- the whole output of a script, as it is
abbrev pub by_output : List ℕ → Answer
by_output [] = fault NoOutput
by_output (byte ∷ output) = answered (byte ∷ output)

-- by the outcome of the run of a script with this output, where it is decided
abbrev pub by_outcome : List ℕ → Option Outcome → Answer
by_outcome output None = undecided
by_outcome output (Some derived) = by_output output
by_outcome output (Some (failed cause)) = fault cause
by_outcome output (Some unanswered) = no_answer

abbrev pub is_answered : Answer → Bool
is_answered (answered bytes) = true
is_answered no_answer = false
is_answered undecided = false

abbrev pub text_of_answer : Answer → List ℕ
text_of_answer (answered bytes) = bytes
text_of_answer no_answer = []
text_of_answer undecided = []

-- a byte stands in it
abbrev pub is_some_byte : List ℕ → Bool
is_some_byte [] = false
is_some_byte (byte ∷ bytes) = true
