-- A new reader has read nothing.
use Rattle.std.proofs.Common.{ap}
use Rattle.talk_core.specs.View.{given_up}
use Rattle.talk_core.proofs.LineLaws.{fresh_kept, fresh_rest}
use Rattle.talk_core.proofs.talk.Talk.shut.Goals as goal

pub invariant_of-self : goal.invariant_of-self
invariant_of-self c = fresh_kept c.new.result _ c.new.ensures.stands c.new.ensures.not_ended c.new.ensures.limit

pub returns : goal.returns
returns c =
    rw (fresh_rest c.new.result _ c.new.ensures.stands c.new.ensures.not_ended c.new.ensures.limit, c.new-2.ensures)
    (ap given_up c.self.view_is)
