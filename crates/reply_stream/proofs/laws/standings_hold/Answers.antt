use Rattle.reply_stream.proofs.StageLaws.{beginnings_are_written, standings_hold}
use Rattle.reply_stream.proofs.laws.standings_hold.Goals as goal

pub returns : goal.returns
returns c = record { hold = standings_hold; written = beginnings_are_written }
