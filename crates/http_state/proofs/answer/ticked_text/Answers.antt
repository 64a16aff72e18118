use Rattle.std.proofs.Common.{List, ℕ, sym, subst, ◌∙◌}
use Rattle.std.proofs.lemmas.Bool.{false≢true}
use Rattle.http_state.specs.Ready.{HearsTick}
use Rattle.http_state.proofs.ReadyLaws.{begun_ticks, hears_tick, lacks_tick}
use Rattle.http_state.proofs.answer.ticked_text.Goals.{else-came-via-else-came, else-came-via-then-came+else-not-has_begun}
use Rattle.http_state.proofs.answer.ticked_text.Goals as goal

pub returns-then-not-has_begun-clause-tick : goal.returns-then-not-has_begun-clause-tick
returns-then-not-has_begun-clause-tick c came = hears_tick c.tick.result c.args.reply.now c.tick.new.self c.args.closes c.args.now c.tick.ensures.ticked

pub returns-then-not-has_begun-clause-lacks : goal.returns-then-not-has_begun-clause-lacks
returns-then-not-has_begun-clause-lacks c = lacks_tick c.tick.result c.args.reply.now c.args.came c.if-came.true c.tick.ensures.memory

pub returns-else-came-clause-tick : goal.returns-else-came-clause-tick
returns-else-came-clause-tick c came =
    subst (λ (text : List ℕ). HearsTick c.args.reply.now c.args.closes c.args.now text c.args.reply.now) (sym c.new.ensures)
    (elim c.else-came.branch [
      | else-came-via-then-came+else-not-has_begun w ↦
          begun_ticks c.args.reply.now c.args.closes c.args.now (λ asked told ticked stood k. sym w.if-not-has_begun.false ∙ w.has_begun.ensures asked told ticked stood k)
      | else-came-via-else-came w ↦ absurd (false≢true (sym w.if-came.false ∙ came))
    ])
