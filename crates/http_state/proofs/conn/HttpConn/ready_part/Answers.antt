use Rattle.std.proofs.Common.{ap, ◌∙◌}
use Rattle.exchange_stage.specs.declared.stage.Leg.{Leg}
use Rattle.exchange_stage.specs.declared.stage.Stage.TheVariants.{Running}
use Rattle.http_state.specs.declared.conn.HttpConn.{HttpConn}
use Rattle.http_state.specs.Ready.{drained_run}
use Rattle.http_state.proofs.conn.HttpConn.ready_part.Goals as goal

pub returns-in-Ok-clause-part : goal.returns-in-Ok-clause-part
returns-in-Ok-clause-part c lost = record {
  text = c.in-Ok.text;
  reply = c.next_text.new.leg.reply;
  closes = c.closes_by-closes.result;
  closes_is = c.closes_by-closes.ensures;
  is = c.put.ensures.value
      ∙ (ap (λ (conn : HttpConn). record conn { stage = Running (record c.next_text.new.leg { text = c.in-Ok.text }) }) c.next_text.ensures.run
      ∙ ap (λ (leg : Leg). record c.args.self.now { run = drained_run c.args.self.now.run; stage = Running (record leg { text = c.in-Ok.text }) }) c.in-Ok.ensures.leg);
  piece = c.in-Ok.ensures.piece;
  tick = c.in-Ok.ensures.tick;
  none = c.in-Ok.ensures.none;
  filled = c.in-Ok.ensures.filled;
  both = c.in-Ok.ensures.both;
}
