-- All rules on one child, at the end of a step.
use Rattle.std.specs.Prelude.{Bool, true, ◌&&◌, List, ◌≡◌}
use Rattle.host_trace.specs.declared.items.Act.{Act}
use Rattle.host_trace.specs.declared.items.Item.{Item}
use Rattle.host_trace.specs.Account.{is_account}
use Rattle.trace_child.specs.Run.{Run}
use Rattle.trace_child.specs.Bodies.{bodies}
use Rattle.trace_child.specs.Feeds.{feeds}
use Rattle.trace_child.specs.HandlesDecided.{handles_decided}
use Rattle.trace_child.specs.Lingers.{lingers}
use Rattle.trace_child.specs.Stops.{stops_child}
use Rattle.trace_child.specs.ChildActs.{child_acts}

-- `items` are those of a list in which the child's Start stands, up to the end of the step; `heard` are those with the
-- step's event and before its acts; `room` says that not too much waits to be sent to the connection there
pub record ChildGood (run : Run) (room : Bool) (heard : List Item) (acts : List Act) (items : List Item) : Type 0 where
  pub account : is_account items run.child ≡ true
  pub bodies : bodies run items ≡ true
  pub acts_due : child_acts run room heard acts items ≡ true
  pub feeds : feeds run items ≡ true
  pub handles_decided : handles_decided run items ≡ true
  pub lingers : lingers run room items ≡ true
  pub stops : stops_child run items ≡ true

-- the same as one test
abbrev pub is_child_good : Run → Bool → List Item → List Act → List Item → Bool
is_child_good run room heard acts items =
    is_account items run.child && bodies run items && child_acts run room heard acts items && feeds run items
    && handles_decided run items && lingers run room items && stops_child run items
