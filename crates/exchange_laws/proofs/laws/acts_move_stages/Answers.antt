use Rattle.exchange_laws.proofs.GiveLaws.{starts_are_given}
use Rattle.exchange_laws.proofs.WriteLaws.{continues_are_written, parts_are_written, rests_are_written}
use Rattle.exchange_laws.proofs.laws.acts_move_stages.Goals as goal

pub returns : goal.returns
returns c = record { continues = continues_are_written; parts = parts_are_written; rests = rests_are_written; starts = starts_are_given }
