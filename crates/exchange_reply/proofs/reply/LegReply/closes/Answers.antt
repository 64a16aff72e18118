use Rattle.std.proofs.Common.{sym, ◌∙◌}
use Rattle.exchange_reply.proofs.KnownLaws.{closes_begun, closes_unbegun}
use Rattle.exchange_reply.proofs.reply.LegReply.closes.Goals as goal

pub returns-then-has_begun : goal.returns-then-has_begun
returns-then-has_begun c = λ asked output ticked stood knows.
    closes_begun stood c.args.self.now.closes c.args.closes_now (sym (c.has_begun.ensures asked output ticked stood knows) ∙ c.if-has_begun.true) knows.closes_is

pub returns-else-has_begun : goal.returns-else-has_begun
returns-else-has_begun c = λ asked output ticked stood knows.
    closes_unbegun stood c.args.closes_now (sym (c.has_begun.ensures asked output ticked stood knows) ∙ c.if-has_begun.false)
