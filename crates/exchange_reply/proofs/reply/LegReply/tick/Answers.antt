use Rattle.std.proofs.Common.{refl}
use Rattle.exchange_reply.proofs.KnownLaws.{gives_tick, on_err, tick_without}
use Rattle.exchange_reply.proofs.reply.LegReply.tick.Goals as goal

pub returns-in_err-text-clause-memory : goal.returns-in_err-text-clause-memory
returns-in_err-text-clause-memory c = λ asked output ticked stood knows.
    on_err c.from_residual.result
    (tick_without asked knows.told output ticked stood knows.output_is knows.ticked_is (c.in_err-text.ensures.memory asked knows.told stood knows.is_at))

pub returns-clause-ticked : goal.returns-clause-ticked
returns-clause-ticked c = λ asked output ticked stood knows.
    gives_tick asked output ticked c.args.closes_now c.args.now stood c.in_ok-text.text c.args.self.now
    (record { alloc = c.args.self.now.alloc; asked = c.args.self.now.asked; stream = c.tick.new.self; closes = c.closes-closes.result })
    knows refl (c.closes-closes.ensures asked output ticked stood knows) (c.in_ok-text.ensures.ticked asked knows.told stood knows.is_at)
