-- While a run is fed, not all of the body heard was fed only while the input pipe has not yet taken what was; and where
-- the whole body was fed, its input is ended.
use Rattle.std.specs.Prelude.{Bool, not, ◌&&◌, nat_lt, List, length}
use Rattle.host_trace.specs.declared.items.Item.{Item}
use Rattle.host_trace.specs.Projections.{child_in, started, exited, input_ended}
use Rattle.trace_child.specs.Words.{implies}
use Rattle.trace_child.specs.Run.{Run, takes_body}
use Rattle.trace_child.specs.Decided.{is_decided}
use Rattle.trace_child.specs.ChildDemands.{is_all_taken, is_fed_whole}

-- it was started, nothing decided it, it has not exited, and its input is open
abbrev pub is_fed_now : Run → List Item → Bool
is_fed_now run items =
    takes_body run && started items run.child && not (is_decided run items) && not (exited items run.child)
    && not (input_ended items run.child)

abbrev pub lacks_body : Run → List Item → Bool
lacks_body run items = nat_lt (length (child_in items run.child)) (length (run.offered items).body)

abbrev pub feeds : Run → List Item → Bool
feeds run items =
    implies (is_fed_now run items)
    (implies (lacks_body run items) (not (is_all_taken items run.child)) && not (is_fed_whole run items))
