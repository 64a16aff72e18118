use Rattle.trace_model.proofs.SamenessLaws.{tests_tell_apart}
use Rattle.trace_model.proofs.laws.tests_tell_apart.Goals as goal

pub returns : goal.returns
returns c = tests_tell_apart
