use Rattle.exchange_reply.proofs.AgreementLaws.{ends_conclude}
use Rattle.exchange_reply.proofs.laws.ends_conclude.Goals as goal

pub returns : goal.returns
returns c = ends_conclude
