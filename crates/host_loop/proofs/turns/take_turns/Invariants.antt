-- The core stands for what was told so far, which has as many events as there were turns; it accepted no more connections, and what
-- is told was told at first.
use Rattle.std.specs.Prelude.{◌≡◌, ◌≤◌, List, Some, false}
use Rattle.host_trace.specs.declared.items.Item.{Item}
use Rattle.host_trace.specs.Projections.{event_count}
use Rattle.host_core.specs.Owners.{Sound, served}
use Rattle.host_core.specs.Stands.{Stands}
use Rattle.host_loop.specs.Loops.{WasTold}
use Rattle.host_loop.specs.Served.{is_over, over_count}
use Rattle.host_loop.proofs.turns.take_turns.Given as goal

abbrev pub invariant-loop-turn : goal.invariant-loop-turn
invariant-loop-turn g l = record {
  stands : (T : List Item) → g.O.Outside.trace l.out ≡ Some T → Stands l.core T;
  count : (T : List Item) → g.O.Outside.trace l.out ≡ Some T → event_count T ≡ l.turn;
  never : (T : List Item) → g.O.Outside.trace l.out ≡ Some T → over_count T ≡ 0;
  over : (T : List Item) → g.O.Outside.trace l.out ≡ Some T → is_over T ≡ false;
  sound : Sound l.core;
  accepted : l.core.accepted ≤ l.turn;
  site : served l.core ≡ served l.initial.core;
  limit : g.O.Outside.limit l.out ≡ (served l.initial.core).limits.children;
  told : WasTold (g.O.Outside.trace l.initial.out) (g.O.Outside.trace l.out);
}
