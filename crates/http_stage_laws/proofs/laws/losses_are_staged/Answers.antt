use Rattle.http_stage_laws.proofs.ItemLaws.{losses_staged}
use Rattle.http_stage_laws.proofs.laws.losses_are_staged.Goals as goal

pub returns : goal.returns
returns c = losses_staged
