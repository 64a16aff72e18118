use Rattle.exchange_reply.proofs.AgreementLaws.{faults_are_spelled}
use Rattle.exchange_reply.proofs.laws.faults_are_spelled.Goals as goal

pub returns : goal.returns
returns c = faults_are_spelled
