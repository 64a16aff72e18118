use Rattle.cgi_header.proofs.StayLaws.{faults_are_first}
use Rattle.cgi_header.proofs.laws.faults_are_first.Goals as goal

pub returns : goal.returns
returns c = faults_are_first
