use Rattle.exchange_laws.proofs.LegsLaws.{legs_are}
use Rattle.exchange_laws.proofs.WholeLaws.{begun_by_starts, continues_come_first, continues_stand, stages_are_walked}
use Rattle.exchange_laws.proofs.laws.stages_are_walked.Goals as goal

pub returns : goal.returns
returns c = record { begun = begun_by_starts; continues = continues_stand; first = continues_come_first; walked = stages_are_walked; legs = legs_are }
