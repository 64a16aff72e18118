use Rattle.exchange_laws.proofs.ReadLaws.{answered_are_read}
use Rattle.exchange_laws.proofs.WholeLaws.{closing_is_known, ends_are_answered, whole_is_answered}
use Rattle.exchange_laws.proofs.laws.wholes_are_answered.Goals as goal

pub returns : goal.returns
returns c = record { whole = whole_is_answered; ended = ends_are_answered; closing = closing_is_known; read = answered_are_read }
