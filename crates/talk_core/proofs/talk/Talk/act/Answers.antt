-- The messages, and then the close frame.
use Rattle.host_trace.proofs.AddsLaws.{Adds-trans}
use Rattle.talk_core.proofs.talk.Talk.act.Goals as goal

pub returns-clause-told : goal.returns-clause-told
returns-clause-told g c =
    let close = rw c.in_ok-len.ensures.talk at c.close.ensures.told in
    Adds-trans c.in_ok-len.ensures.told close
