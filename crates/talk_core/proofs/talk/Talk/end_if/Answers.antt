-- A new reader has read nothing.
use Rattle.std.proofs.Common.{ap, true}
use Rattle.talk_core.specs.Hearing.{ended_if}
use Rattle.talk_core.proofs.LineLaws.{fresh_kept, fresh_rest}
use Rattle.talk_core.proofs.talk.Talk.end_if.Goals as goal

pub invariant_of-self : goal.invariant_of-self
invariant_of-self c = fresh_kept c.new.result _ c.new.ensures.stands c.new.ensures.not_ended c.new.ensures.limit

pub returns-then-over : goal.returns-then-over
returns-then-over c =
    rw (fresh_rest c.new.result _ c.new.ensures.stands c.new.ensures.not_ended c.new.ensures.limit, c.code_of-self-inside.ensures, c.if-over.true)
    (ap (λ w. ended_if true w c.args.ev.now) c.self.view_is)
