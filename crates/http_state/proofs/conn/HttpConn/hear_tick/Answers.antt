use Rattle.std.proofs.Common.{◌-◌, ◌==◌, sym, ap, subst, ◌∙◌}
use Rattle.host_trace.specs.declared.items.Event.TheVariants.{Tick}
use Rattle.http_state.specs.declared.conn.HttpConn.{HttpConn}
use Rattle.http_state.specs.Kept.{HeardOwn}
use Rattle.http_state.specs.Moves.{IdlesOut}
use Rattle.http_state.specs.Slot.{run_settled}
use Rattle.http_state.proofs.HearLaws.{heard_tick_counted, heard_tick_idly, heard_tick_last}
use Rattle.http_state.proofs.conn.HttpConn.hear_tick.Goals as goal
use Rattle.http_state.proofs.conn.HttpConn.hear_tick.Goals.{else-is_settled-via-then-is_settled+else-tick, else-is_settled-via-else-is_settled}

pub returns-then-tick-clause-front : goal.returns-then-tick-clause-front
returns-then-tick-clause-front c secs =
    heard_tick_last c.args.self.now secs c.tick.new.self (sym (c.if-is_settled.ensures ∙ ap (λ (conn : HttpConn). run_settled conn.run) c.note_tick.ensures))
    (c.tick.ensures.left ∙ ap (λ (conn : HttpConn). conn.idle_left - 1) c.note_tick.ensures)
    (sym (c.if-tick.ensures.met ∙ ap (λ (conn : HttpConn). conn.idle_left == 1) c.note_tick.ensures))
    (subst (λ (conn : HttpConn). IdlesOut (record conn { idle_left = c.tick.new.self }) c.idle_out.new.self) c.note_tick.ensures c.idle_out.ensures.front)

pub returns-else-is_settled-clause-front : goal.returns-else-is_settled-clause-front
returns-else-is_settled-clause-front c secs =
    elim c.else-is_settled.branch [
      | else-is_settled-via-then-is_settled+else-tick w ↦
          subst (λ (conn : HttpConn). HeardOwn c.args.self.now (Tick secs) conn) (sym (w.self-is ∙ ap (λ (conn : HttpConn). record conn { idle_left = w.tick.new.self }) c.note_tick.ensures))
          (heard_tick_counted c.args.self.now secs w.tick.new.self (sym (w.if-is_settled.ensures ∙ ap (λ (conn : HttpConn). run_settled conn.run) c.note_tick.ensures))
          (w.tick.ensures.left ∙ ap (λ (conn : HttpConn). conn.idle_left - 1) c.note_tick.ensures)
          (sym (w.if-tick.ensures.met ∙ ap (λ (conn : HttpConn). conn.idle_left == 1) c.note_tick.ensures)))
      | else-is_settled-via-else-is_settled w ↦
          subst (λ (conn : HttpConn). HeardOwn c.args.self.now (Tick secs) conn) (sym (w.self-is ∙ c.note_tick.ensures))
          (heard_tick_idly c.args.self.now secs (sym (w.if-is_settled.ensures ∙ ap (λ (conn : HttpConn). run_settled conn.run) c.note_tick.ensures)))
    ]
