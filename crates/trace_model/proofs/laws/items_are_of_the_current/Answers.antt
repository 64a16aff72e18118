use Rattle.trace_model.proofs.ExchangeLaws.{is_next_item}
use Rattle.trace_model.proofs.laws.items_are_of_the_current.Goals as goal

pub returns : goal.returns
returns c = is_next_item
