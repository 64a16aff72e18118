-- What is proved of steps in the crates below.
use Rattle.good_step_laws.proofs.Steps.GoodLaws.{steps_are_good}
use Rattle.good_step_laws.proofs.Opens.ClosedLaws.{closed_pass}
use Rattle.good_step_laws.proofs.Opens.MissLaws.{misses_are_good}
use Rattle.good_step_laws.proofs.Opens.OpeningLaws.{openings_are_good}
use Rattle.good_step_laws.proofs.Opens.UntalkedLaws.{untalked_stays}
use Rattle.talk_laws.proofs.Steps.StepLaws.{talk_steps_are_good}
use Rattle.good_step_laws.specs.Both.Laws.{AllSteps}

pub all_steps : AllSteps
all_steps = record {
  http = steps_are_good;
  opens = openings_are_good;
  misses = misses_are_good;
  passes = closed_pass;
  untalked = untalked_stays;
  talks = talk_steps_are_good;
}
