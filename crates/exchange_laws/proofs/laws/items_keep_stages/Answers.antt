use Rattle.exchange_laws.proofs.ItemLaws.{items_keep_stages}
use Rattle.exchange_laws.proofs.LostLaws.{breaks_interrupt, items_keep_lost}
use Rattle.exchange_laws.proofs.laws.items_keep_stages.Goals as goal

pub returns : goal.returns
returns c = record { kept = items_keep_stages; lost = items_keep_lost; broken = breaks_interrupt }
