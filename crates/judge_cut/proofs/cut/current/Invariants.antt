-- The exchange so far, and the items that are left, make the exchange at the end.
use Rattle.std.proofs.Common.{◌≡◌, drop}
use Rattle.trace_model.specs.Exchanges.{current, current_after}
use Rattle.judge_cut.specs.Views.{IsAt, exchange_of}
use Rattle.judge_cut.proofs.cut.current.Given as goal

abbrev pub invariant-loop-i : goal.invariant-loop-i
invariant-loop-i g l = record {
  rest : current_after (g.J.Cuts.site l.judge) (g.J.Cuts.conn l.judge) (exchange_of l.e) (drop l.i l.own) ≡ current (g.J.Cuts.site l.judge) (g.J.Cuts.conn l.judge) l.own;
  at : IsAt l.e l.own l.i;
}
