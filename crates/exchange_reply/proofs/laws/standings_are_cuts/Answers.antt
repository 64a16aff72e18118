use Rattle.exchange_reply.proofs.AgreementLaws.{cuts_stay, standings_are_cuts}
use Rattle.exchange_reply.proofs.KnownLaws.{known_stand}
use Rattle.exchange_reply.proofs.laws.standings_are_cuts.Goals as goal

pub returns : goal.returns
returns c = record { known = known_stand; full = standings_are_cuts; stay = cuts_stay }
