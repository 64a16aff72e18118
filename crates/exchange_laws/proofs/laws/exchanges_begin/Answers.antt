use Rattle.exchange_laws.proofs.BeginLaws.{first_is_read, next_is_read}
use Rattle.exchange_laws.proofs.laws.exchanges_begin.Goals as goal

pub returns : goal.returns
returns c = record { next = next_is_read; first = first_is_read }
