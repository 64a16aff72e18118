-- What the rules on a child look at, at the end of a step and before its acts.
use Rattle.std.specs.Prelude.{ℕ, ◌≡◌, List}
use Rattle.host_trace.specs.declared.items.Item.{Item}
use Rattle.host_trace.specs.Projections.{child_wanted, exited, input_ended, killed, output_ended, started, stopped}
use Rattle.trace_child.specs.ChildDemands.{has_lingered, is_all_taken, is_fed_whole, is_hung_up, is_left_alone}
use Rattle.trace_child.specs.Decided.{is_by_other, is_decided}
use Rattle.trace_child.specs.Feeds.{lacks_body}
use Rattle.trace_child.specs.Run.{Run, takes_body}
use Rattle.judge_child.specs.declared.facts.Before.{Before}
use Rattle.judge_child.specs.declared.facts.Facts.{Facts}
use Rattle.judge_child.specs.declared.facts.Input.{Input}
use Rattle.judge_child.specs.declared.facts.Ending.{Ending}

-- what happened to child k in the items
pub record AreBefore (b : Before) (k : ℕ) (items : List Item) : Type 0 where
  pub started : b.started ≡ started items k
  pub exited : b.exited ≡ exited items k
  pub killed : b.killed ≡ killed items k
  pub input_ended : b.input_ended ≡ input_ended items k
  pub output_ended : b.output_ended ≡ output_ended items k
  pub wanted : b.wanted ≡ child_wanted items k

-- what there is for its input, and what it got
pub record IsInput (i : Input) (run : Run) (items : List Item) : Type 0 where
  pub takes_body : i.takes_body ≡ takes_body run
  pub fed_whole : i.fed_whole ≡ is_fed_whole run items
  pub all_taken : i.all_taken ≡ is_all_taken items run.child
  pub lacks_body : i.lacks_body ≡ lacks_body run items

-- how it ends
pub record IsEnding (e : Ending) (run : Run) (items : List Item) : Type 0 where
  pub decided : e.decided ≡ is_decided run items
  pub by_other : e.by_other ≡ is_by_other run items
  pub hung_up : e.hung_up ≡ is_hung_up run items
  pub left_alone : e.left_alone ≡ is_left_alone run items
  pub lingered : e.lingered ≡ has_lingered run items

-- these are the facts of a run after the items
pub record AreFacts (f : Facts) (run : Run) (items : List Item) : Type 0 where
  pub child : f.child ≡ run.child
  pub was : AreBefore f.was run.child items
  pub input : IsInput f.input run items
  pub ending : IsEnding f.ending run items
  pub stopped : f.stopped ≡ stopped items
