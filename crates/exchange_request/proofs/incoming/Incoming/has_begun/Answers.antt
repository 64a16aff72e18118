use Rattle.std.proofs.Common.{sym, ◌∙◌}
use Rattle.exchange_request.proofs.KnowsLaws.{begun_known}
use Rattle.exchange_request.proofs.incoming.Incoming.has_begun.Goals as goal

pub returns-then-is_some : goal.returns-then-is_some
returns-then-is_some c bytes taken k two =
    c.if-is_some.true ∙ begun_known c.args.self.now bytes taken k two (sym c.is_some.ensures ∙ c.if-is_some.true)
