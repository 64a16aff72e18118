use Rattle.exchange_laws.proofs.PassLaws.{events_pass, last_legs_are_one, quiet_acts_keep, quiet_acts_pass}
use Rattle.exchange_laws.proofs.laws.items_pass.Goals as goal

pub returns : goal.returns
returns c = record { acts = quiet_acts_pass; all = quiet_acts_keep; events = events_pass; last = last_legs_are_one }
