-- The reader is asked for what it kept, and a new one takes its place.
use Rattle.std.proofs.Common.{ap}
use Rattle.talk_core.specs.Hearing.{read_out}
use Rattle.talk_core.proofs.LineLaws.{end_texts, fresh_kept, fresh_rest}
use Rattle.talk_core.proofs.talk.Talk.read_end.Goals as goal

pub invariant_of-self-2 : goal.invariant_of-self-2
invariant_of-self-2 c = fresh_kept c.new.result _ c.new.ensures.stands c.new.ensures.not_ended c.new.ensures.limit

pub returns-clause-ok : goal.returns-clause-ok
returns-clause-ok c =
    rw (
      fresh_rest c.new.result _ c.new.ensures.stands c.new.ensures.not_ended c.new.ensures.limit,
      end_texts c.self.inside.lines c.self.inside.limit c.self.invariant c.in_ok-texts.texts (c.in_ok-texts.ensures.texts c.self.inside.lines.rest c.self.invariant.0),
    ) (ap read_out c.self.view_is)
