use Rattle.http_stage_laws.proofs.ItemLaws.{serves_staged}
use Rattle.http_stage_laws.proofs.laws.serves_are_staged.Goals as goal

pub returns : goal.returns
returns c = serves_staged
