use Rattle.exchange_reply.proofs.StepLaws.{endings_stand, faults_finish, handings_keep_rules, handings_stand, lefts_may_stand}
use Rattle.exchange_reply.proofs.laws.handings_stand.Goals as goal

pub returns : goal.returns
returns c = record { handed = handings_stand; rules = handings_keep_rules; left = lefts_may_stand; ended = endings_stand; faults = faults_finish }
