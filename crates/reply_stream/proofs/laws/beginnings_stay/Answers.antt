use Rattle.reply_stream.proofs.HearingLaws.{beginnings_stay, ticks_count}
use Rattle.reply_stream.proofs.laws.beginnings_stay.Goals as goal

pub returns : goal.returns
returns c = record { stay = beginnings_stay; ticks = ticks_count }
