use Rattle.exchange_laws.proofs.CutLaws.{cuts_are_ready, ends_are_ready, losses_are_known}
use Rattle.exchange_laws.proofs.TellLaws.{tells_are_handed}
use Rattle.exchange_laws.proofs.laws.replies_move_stages.Goals as goal

pub returns : goal.returns
returns c = record { told = tells_are_handed; ended = ends_are_ready; cut = cuts_are_ready; lost = losses_are_known }
