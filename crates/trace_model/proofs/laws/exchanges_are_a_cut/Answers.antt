use Rattle.trace_model.proofs.ExchangeLaws.{is_cut}
use Rattle.trace_model.proofs.laws.exchanges_are_a_cut.Goals as goal

pub returns : goal.returns
returns c = is_cut
