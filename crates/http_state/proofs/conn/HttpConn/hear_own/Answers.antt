use Rattle.std.proofs.Common.{refl, sym, subst, ◌∙◌}
use Rattle.host_trace.specs.declared.items.Event.{Event}
use Rattle.http_state.specs.Kept.{HeardOwn}
use Rattle.http_state.proofs.KeptLaws.{kept_same}
use Rattle.http_state.proofs.HearLaws.{heard_kept, is_gone, is_other, is_others_bytes}
use Rattle.http_state.proofs.conn.HttpConn.hear_own.Goals as goal

pub returns-in-ClientBytes-clause-front : goal.returns-in-ClientBytes-clause-front
returns-in-ClientBytes-clause-front c =
    subst (λ (ev : Event). HeardOwn c.args.self.now ev c.args.self.now) (sym c.in-ClientBytes.is)
    (heard_kept (is_others_bytes c.args.self.now.flags.c c.args.self.now.peer c.in-ClientBytes.c c.in-ClientBytes.bytes (λ is. c.if-c.false (c.c.ensures ∙ is))) (kept_same c.args.self.now))

pub returns-then-c-2-clause-front : goal.returns-then-c-2-clause-front
returns-then-c-2-clause-front c =
    subst (λ (ev : Event). HeardOwn c.args.self.now ev c.hear_end.new.self) (sym c.in-ClientEof.is)
    (heard_kept (record { anew = refl; tick = refl; bytes = refl; peer_is = refl }) c.hear_end.ensures.kept)

pub returns-in-ClientEof-clause-front : goal.returns-in-ClientEof-clause-front
returns-in-ClientEof-clause-front c =
    subst (λ (ev : Event). HeardOwn c.args.self.now ev c.args.self.now) (sym c.in-ClientEof.is)
    (heard_kept (record { anew = refl; tick = refl; bytes = refl; peer_is = refl }) (kept_same c.args.self.now))

pub returns-in-NoRoom-clause-front : goal.returns-in-NoRoom-clause-front
returns-in-NoRoom-clause-front c =
    subst (λ (ev : Event). HeardOwn c.args.self.now ev c.args.self.now) (sym c.in-NoRoom.is)
    (heard_kept (record { anew = refl; tick = refl; bytes = refl; peer_is = refl }) (kept_same c.args.self.now))

pub returns-in-Tick-clause-front : goal.returns-in-Tick-clause-front
returns-in-Tick-clause-front c = subst (λ (ev : Event). HeardOwn c.args.self.now ev c.hear_tick.new.self) (sym c.in-Tick.is) (c.hear_tick.ensures.front c.in-Tick.secs)

pub returns-then-c-4-clause-front : goal.returns-then-c-4-clause-front
returns-then-c-4-clause-front c = heard_kept (is_gone c.args.self.now.flags.c c.args.self.now.peer c.args.ev c.in-ClientGone.c c.in-ClientGone.is) c.end_run.ensures.kept

pub returns-in-ClientGone-clause-front : goal.returns-in-ClientGone-clause-front
returns-in-ClientGone-clause-front c = heard_kept (is_gone c.args.self.now.flags.c c.args.self.now.peer c.args.ev c.in-ClientGone.c c.in-ClientGone.is) (kept_same c.args.self.now)

pub returns-clause-front : goal.returns-clause-front
returns-clause-front c = heard_kept (is_other c.args.self.now.flags.c c.args.self.now.peer c.args.ev c.in_default.not-Accepted c.in_default.not-ClientBytes c.in_default.not-Tick) (kept_same c.args.self.now)
