use Rattle.trace_laws.proofs.TurnLaws.{in_form}
use Rattle.trace_laws.proofs.laws.acts_come_in_form.Goals as goal

pub returns : goal.returns
returns c = in_form
