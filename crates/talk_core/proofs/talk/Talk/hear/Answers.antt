-- What was offered, heard and ended of the run is what the event makes of it.
use Rattle.std.proofs.Common.{sym, ◌∙◌, ap}
use Rattle.talk_core.proofs.NoteLaws.{heard_long, heard_short}
use Rattle.talk_core.proofs.talk.Talk.hear.Goals.{then-is_long, else-is_long}
use Rattle.talk_core.proofs.talk.Talk.hear.Goals as goal

pub returns-after-decided-clause-run : goal.returns-after-decided-clause-run
returns-after-decided-clause-run c =
    let same = ap (λ t. t.conn) c.self.view_is in
    elim c.if-is_long.branch [
      | then-is_long w ↦
          w.run-is ∙ (w.end_by-then-is_long.ensures
          ∙ heard_long c.args.self.now c.args.run.now c.requires.talks c.take-taken.new.run c.hear_run-2.new.run _ c.args.ev.now same c.in-Ok.ensures.run c.hear_run-2.ensures
          (sym c.in-Ok.ensures.long ∙ w.if-is_long.true))
      | else-is_long w ↦
          w.run-is
          ∙ heard_short c.args.self.now c.args.run.now c.requires.talks c.take-taken.new.run c.hear_run-2.new.run _ c.args.ev.now same c.in-Ok.ensures.run c.hear_run-2.ensures
          (sym c.in-Ok.ensures.long ∙ w.if-is_long.false)
    ]
