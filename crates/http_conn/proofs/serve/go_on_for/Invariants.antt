use Rattle.std.proofs.Common.{◌≡◌}
use Rattle.http_state.specs.Kept.{Gave}
use Rattle.http_conn.specs.Parts.{Rounds}
use Rattle.http_conn.proofs.serve.go_on_for.Given as goal

abbrev pub invariant-loop-turn : goal.invariant-loop-turn
invariant-loop-turn g l = record {
  gave : Gave (Rounds l._turn l.now) l.initial.conn l.initial.children (g.O.Outside.trace l.initial.out) l.conn l.children (g.O.Outside.trace l.out);
  limit : g.O.Outside.limit l.out ≡ g.O.Outside.limit l.initial.out;
}
