-- The open line grows, or is too long.
use Rattle.std.proofs.Common.{sym, ◌∙◌}
use Rattle.line_messages.proofs.ReadingLemmas.{takes_open, takes_open_long}
use Rattle.line_messages.proofs.reading.Lines.feed_open.Goals as goal

pub returns-then-passes_limit-clause-step : goal.returns-then-passes_limit-clause-step
returns-then-passes_limit-clause-step c =
    takes_open_long _ _ c.self.view_is c.args.piece.now c.new.result c.new.ensures c.self.invariant.0 c.requires.no_lf
    (sym c.passes_limit.ensures ∙ c.if-passes_limit.true)

pub returns-clause-step : goal.returns-clause-step
returns-clause-step c =
    takes_open _ _ c.self.view_is c.args.piece.now c.extend_from_slice.new.self.items c.new-2.result c.new-2.ensures c.self.invariant.0 c.requires.no_lf
    c.in_ok-extend_from_slice.ensures.items c.requires.going (sym c.passes_limit.ensures ∙ c.if-passes_limit.false)
