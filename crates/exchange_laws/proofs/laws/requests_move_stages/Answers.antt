use Rattle.exchange_laws.proofs.FinishLaws.{faults_are_ready, looks_move}
use Rattle.exchange_laws.proofs.PlaceLaws.{places_are_found}
use Rattle.exchange_laws.proofs.laws.requests_move_stages.Goals as goal

pub returns : goal.returns
returns c = record { looks = looks_move; faults = faults_are_ready; places = places_are_found }
