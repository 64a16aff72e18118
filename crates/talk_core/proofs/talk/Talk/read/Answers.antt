-- A piece of the output goes through the reader; behind a line that is too long a new one takes its place.
use Rattle.std.proofs.Common.{ap, true, false}
use Rattle.talk_core.specs.Hearing.{read_on}
use Rattle.talk_core.proofs.LineLaws.{fed_kept, fed_rest, fresh_kept, fresh_rest, rest_long, rest_short, step_long, step_texts}
use Rattle.talk_core.proofs.talk.Talk.read.Goals as goal

pub invariant_of-self-in-Texts : goal.invariant_of-self-in-Texts
invariant_of-self-in-Texts c =
    let step = rw c.in-Texts.is at (c.in_ok-texts.ensures.step c.self.inside.lines.rest c.self.invariant.0) in
    fed_kept c.self.inside.lines c.self.inside.limit c.self.invariant c.args.piece.now c.in-Texts.texts c.feed.new.self step
    (c.in_ok-texts.ensures.stands c.self.inside.lines.rest c.self.invariant.0) c.in_ok-texts.ensures.limit c.in_ok-texts.ensures.not_ended

pub invariant_of-self-in-TooLong : goal.invariant_of-self-in-TooLong
invariant_of-self-in-TooLong c = fresh_kept c.new.result _ c.new.ensures.stands c.new.ensures.not_ended c.new.ensures.limit

pub returns-in-Texts-clause-ok : goal.returns-in-Texts-clause-ok
returns-in-Texts-clause-ok c =
    let step = rw c.in-Texts.is at (c.in_ok-texts.ensures.step c.self.inside.lines.rest c.self.invariant.0) in
    let short = step_long c.self.inside.lines c.self.inside.limit c.self.invariant c.args.piece.now _ false step step.too_long in
    let behind = fed_rest c.self.inside.lines c.self.inside.limit c.self.invariant c.args.piece.now c.in-Texts.texts c.feed.new.self step
    (c.in_ok-texts.ensures.stands c.self.inside.lines.rest c.self.invariant.0) c.in_ok-texts.ensures.limit c.in_ok-texts.ensures.not_ended in
    rw (
      rest_short c.self.inside.lines c.self.inside.limit c.self.invariant c.args.piece.now short c.feed.new.self.rest behind,
      step_texts c.self.inside.lines c.self.inside.limit c.self.invariant c.args.piece.now _ step,
    ) (ap (λ w. read_on w c.args.piece.now) c.self.view_is)

pub returns-in-TooLong-clause-ok : goal.returns-in-TooLong-clause-ok
returns-in-TooLong-clause-ok c =
    let step = rw c.in-TooLong.is at (c.in_ok-texts.ensures.step c.self.inside.lines.rest c.self.invariant.0) in
    let long = step_long c.self.inside.lines c.self.inside.limit c.self.invariant c.args.piece.now _ true step step.too_long in
    let none = fresh_rest c.new.result _ c.new.ensures.stands c.new.ensures.not_ended c.new.ensures.limit in
    rw (
      rest_long c.self.inside.lines c.self.inside.limit c.self.invariant c.args.piece.now long c.new.result.rest none,
      step_texts c.self.inside.lines c.self.inside.limit c.self.invariant c.args.piece.now _ step,
    ) (ap (λ w. read_on w c.args.piece.now) c.self.view_is)
