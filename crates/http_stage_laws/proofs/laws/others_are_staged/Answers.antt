use Rattle.http_stage_laws.proofs.ItemLaws.{others_staged}
use Rattle.http_stage_laws.proofs.laws.others_are_staged.Goals as goal

pub returns : goal.returns
returns c = others_staged
