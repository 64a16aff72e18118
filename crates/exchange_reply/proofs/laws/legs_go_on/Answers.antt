use Rattle.exchange_reply.proofs.LegLaws.{dues_are_demanded, first_bytes_are_due, items_are_told, replies_go_on}
use Rattle.exchange_reply.proofs.laws.legs_go_on.Goals as goal

pub returns : goal.returns
returns c = record { rules = replies_go_on; demanded = dues_are_demanded; told = items_are_told; sooner = first_bytes_are_due }
