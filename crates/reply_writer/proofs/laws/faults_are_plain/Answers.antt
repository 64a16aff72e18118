use Rattle.reply_writer.proofs.FaultLaws.{faults_are_plain}
use Rattle.reply_writer.proofs.ReadEndLaws.{faults_leave_end}
use Rattle.reply_writer.proofs.laws.faults_are_plain.Goals as goal

pub returns-clause-plain : goal.returns-clause-plain
returns-clause-plain c = faults_are_plain

pub returns-clause-ends : goal.returns-clause-ends
returns-clause-ends c = faults_leave_end
