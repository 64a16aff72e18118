use Rattle.http_stage_laws.proofs.ItemLaws.{next_staged}
use Rattle.http_stage_laws.proofs.laws.next_are_staged.Goals as goal

pub returns : goal.returns
returns c = next_staged
