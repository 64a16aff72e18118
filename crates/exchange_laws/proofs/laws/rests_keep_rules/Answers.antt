use Rattle.exchange_laws.proofs.RuleLaws.{losses_keep_rules, rests_keep_rules}
use Rattle.exchange_laws.proofs.laws.rests_keep_rules.Goals as goal

pub returns : goal.returns
returns c = record { rests = rests_keep_rules; lost = losses_keep_rules }
