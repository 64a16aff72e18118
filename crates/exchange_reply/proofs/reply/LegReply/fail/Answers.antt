use Rattle.std.proofs.Common.{sym, ◌∙◌, subst}
use Rattle.reply_stream.specs.declared.asked.Asked.{Asked}
use Rattle.exchange_reply.specs.Reply.{SpellsFault}
use Rattle.exchange_reply.proofs.KnownLaws.{fails_none, fails_some, on_err}
use Rattle.exchange_reply.proofs.reply.LegReply.fail.Goals as goal

pub returns-then-has_begun-clause-fails : goal.returns-then-has_begun-clause-fails
returns-then-has_begun-clause-fails c = λ asked output ticked stood knows.
    fails_none asked c.args.cause c.args.closes_now c.args.now stood (sym (c.has_begun.ensures asked output ticked stood knows) ∙ c.if-has_begun.true)

pub returns-in_err-text-clause-memory : goal.returns-in_err-text-clause-memory
returns-in_err-text-clause-memory c = λ asked output ticked stood knows.
    on_err c.from_residual.result (sym (c.has_begun.ensures asked output ticked stood knows) ∙ c.if-has_begun.false)

pub returns-clause-fails : goal.returns-clause-fails
returns-clause-fails c = λ asked output ticked stood knows.
    fails_some asked c.args.cause c.args.closes_now c.args.now stood c.in_ok-text.text (sym (c.has_begun.ensures asked output ticked stood knows) ∙ c.if-has_begun.false)
    (subst (λ (a : Asked). SpellsFault c.args.cause a.head_only c.args.closes_now c.args.now c.in_ok-text.text) knows.asked_is c.in_ok-text.ensures)
