use Rattle.std.proofs.Common.{refl}
use Rattle.exchange_reply.proofs.KnownLaws.{gives_piece}
use Rattle.exchange_reply.proofs.reply.LegReply.hear.Goals as goal

pub returns-clause-heard : goal.returns-clause-heard
returns-clause-heard c = λ asked output ticked stood knows.
    gives_piece asked output c.args.piece ticked c.args.closes_now c.args.now stood c.in_ok-text.text c.args.self.now
    (record { alloc = c.args.self.now.alloc; asked = c.args.self.now.asked; stream = c.hear.new.self; closes = c.closes-closes.result })
    knows refl (c.closes-closes.ensures asked output ticked stood knows) (c.in_ok-text.ensures.heard asked knows.told stood knows.is_at)
