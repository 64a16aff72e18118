use Rattle.child_core.proofs.CallLaws.{gone-is, bad-is, binary-is, no_room-is, memory-is, cut-is, text-is}
use Rattle.child_core.proofs.laws.ends_are_items.Goals as goal

pub returns : goal.returns
returns c = λ c v. record { gone = gone-is c v; bad = bad-is c v; binary = binary-is c v; no_room = no_room-is c v; memory = memory-is c v; cut = cut-is c v; text = text-is c v }
