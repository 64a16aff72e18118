use Rattle.fcgi_turns.proofs.SeenLaws.{seen_are_items}
use Rattle.fcgi_turns.proofs.laws.seen_are_items.Goals as goal

pub returns : goal.returns
returns c = seen_are_items
