-- What a connection comes to is what the model says of it.
use Rattle.std.specs.Prelude.{ℕ, true, false, ◌≡◌, List, [], Option, Some, None}
use Rattle.std.specs.Option.{option_map}
use Rattle.host_base.specs.declared.cause.Cause.{Cause}
use Rattle.host_base.specs.declared.launch.Launch.{Launch}
use Rattle.host_base.specs.declared.site.Site.{Site}
use Rattle.host_trace.specs.declared.items.Item.{Item}
use Rattle.host_trace.specs.Projections.{children}
use Rattle.child_core.specs.declared.ending.Outcome.{Outcome}
use Rattle.child_core.specs.Knows.{read}
use Rattle.front_answers.specs.Answer.{by_outcome, fault, is_answered, is_some_byte, text_of_answer}
use Rattle.scgi_reader.specs.declared.reader.ScgiStep.{ScgiStep}
use Rattle.scgi_model.specs.Answer.{by_launch}
use Rattle.scgi_model.specs.Request.{body_of, is_more, launch_of}
use Rattle.scgi_model.specs.Rules.{launch_due}
use Rattle.scgi_conn.specs.declared.stage.End.{End}
use Rattle.scgi_conn.specs.declared.stage.Stage.{Stage}
use Rattle.scgi_conn.specs.declared.stage.Stage.TheVariants.{Answered, Over, Starting}
use Rattle.scgi_conn.specs.Parts.{is_hearing, is_written}
use Rattle.scgi_conn.specs.Stages.{after_run, broken_off, by_reading}

-- ---- what a stage brings

-- what is to be written
abbrev pub text_in : Stage → List ℕ
text_in (Answered bytes) = bytes
text_in _ = []

-- what is to be started
abbrev pub launch_in : Stage → Option Launch
launch_in (Starting launch request) = Some launch
launch_in _ = None

-- .. and what is there for its input
abbrev pub body_in : Stage → List ℕ
body_in (Starting launch request) = request.body
body_in _ = []

-- ---- the bytes of a client

-- what these bytes are as a request, which were read as `step`: more is to come; a script is to be started, with this for
-- its input; or this is the answer, on a connection with these items, for which no child was started
pub record AreRead (site : Site) (step : ScgiStep) (stage : Stage) : Type 0 where
  pub hears : is_hearing stage ≡ is_more step
  pub starts : launch_in stage ≡ launch_due (launch_of site step)
  pub feeds : (launch : Launch) → launch_in stage ≡ Some launch → body_in stage ≡ body_of step
  pub answers : (c : ℕ) (L : List Item) → children L c ≡ [] → is_written stage ≡ is_answered (by_launch site c L (launch_of site step))
  pub text : (c : ℕ) (L : List Item) → children L c ≡ [] → text_in stage ≡ text_of_answer (by_launch site c L (launch_of site step))

abbrev pub BytesAreRead : Type 0
BytesAreRead = (site : Site) (bytes : List ℕ) (step : ScgiStep) → AreRead site step (by_reading site.hosts site.limits bytes step)

-- ---- a run that was decided

-- by what decided it: this is the answer, or there is none
pub record IsAnsweredBy (output : List ℕ) (outcome : Option Outcome) (stage : Stage) : Type 0 where
  pub answers : is_written stage ≡ is_answered (by_outcome output (option_map read outcome))
  pub text : text_in stage ≡ text_of_answer (by_outcome output (option_map read outcome))

abbrev pub RunsAreAnswered : Type 0
RunsAreAnswered = (output : List ℕ) (outcome : Option Outcome) → IsAnsweredBy output outcome (after_run output outcome)

-- ---- no more of a request comes

-- The answer is the cause where a byte was heard; else there is none, and it is shut.
pub record IsBrokenOff (bytes : List ℕ) (cause : Cause) (end : End) (stage : Stage) : Type 0 where
  pub answers : is_some_byte bytes ≡ true → stage ≡ Answered (text_of_answer (fault cause))
  pub leaves : is_some_byte bytes ≡ false → stage ≡ Over end

abbrev pub RequestsBreakOff : Type 0
RequestsBreakOff = (bytes : List ℕ) (cause : Cause) (end : End) → IsBrokenOff bytes cause end (broken_off bytes cause end)
