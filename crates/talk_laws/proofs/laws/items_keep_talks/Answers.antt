use Rattle.talk_laws.proofs.HearLaws.{events_keep_talks}
use Rattle.talk_laws.proofs.QuietLaws.{quiet_events_take_none}
use Rattle.talk_laws.proofs.StartLaws.{talks_start}
use Rattle.talk_laws.proofs.laws.items_keep_talks.Goals as goal

pub returns : goal.returns
returns c = record { starts = talks_start; events = events_keep_talks; quiet = quiet_events_take_none }
