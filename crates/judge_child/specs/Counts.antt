-- What a run's test of an item looks at, counted as the items come.
use Rattle.std.specs.Prelude.{ℕ, ◌≡◌, List, length}
use Rattle.host_trace.specs.declared.items.Item.{Item}
use Rattle.host_trace.specs.First.{since}
use Rattle.host_trace.specs.Kinds.{is_start}
use Rattle.host_trace.specs.Projections.{child_in, child_out, start_stands, tick_count, took_sum}
use Rattle.judge_child.specs.declared.decided.Counted.{Counted}
use Rattle.judge_child.specs.declared.bodies.Flow.{Flow}

-- these are the counts of child k after the items
pub record IsCounted (counted : Counted) (k : ℕ) (front : List Item) : Type 0 where
  pub started : counted.started ≡ start_stands front k
  pub output : counted.output ≡ length (child_out (since (is_start k) front) k)
  pub ticks : counted.ticks ≡ tick_count (since (is_start k) front)

-- so many bytes were fed to child k, and taken
pub record IsFlow (flow : Flow) (k : ℕ) (front : List Item) : Type 0 where
  pub fed : flow.fed ≡ length (child_in front k)
  pub took : flow.took ≡ took_sum front k
