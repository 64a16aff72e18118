-- One ping or pong more.
use Rattle.ws_link.proofs.LinkLemmas.{passed_more}
use Rattle.ws_link.proofs.link.Link.next.Goals as goal

pub loop-preserved : goal.loop-preserved
loop-preserved c = passed_more _ _ _ c.loop.invariant c.in_default.ensures
