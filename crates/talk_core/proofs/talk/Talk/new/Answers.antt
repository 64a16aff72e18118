-- A new reader has read nothing.
use Rattle.std.proofs.Common.{refl}
use Rattle.talk_core.proofs.LineLaws.{fresh_kept, fresh_rest}
use Rattle.talk_core.proofs.talk.Talk.new.Goals as goal

pub invariant_of-result : goal.invariant_of-result
invariant_of-result c = fresh_kept c.new.result _ c.new.ensures.stands c.new.ensures.not_ended c.new.ensures.limit

pub returns : goal.returns
returns c = rw (fresh_rest c.new.result _ c.new.ensures.stands c.new.ensures.not_ended c.new.ensures.limit, c.new-2.ensures) refl
