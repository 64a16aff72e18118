-- A child whose output has ended, or whose client closed its WebSocket, may linger until it exits or nobody waits for it;
-- one that was killed and has exited has no output left; of one that runs undecided, output is asked for.
use Rattle.std.specs.Prelude.{Bool, not, ◌&&◌, ◌||◌, List}
use Rattle.host_trace.specs.declared.items.Item.{Item}
use Rattle.host_trace.specs.Projections.{child_wanted, started, exited, killed, input_ended, output_ended}
use Rattle.trace_child.specs.Words.{implies}
use Rattle.trace_child.specs.Run.{Run}
use Rattle.trace_child.specs.ChildDemands.{has_lingered, is_hung_up, is_left_alone, must_ask}

abbrev pub lingers : Run → Bool → List Item → Bool
lingers run room items =
    implies (started items run.child)
    (implies (has_lingered run items && not (exited items run.child)) (killed items run.child)
    && implies (is_hung_up run items) (input_ended items run.child)
    && implies (is_left_alone run items) (killed items run.child || exited items run.child && output_ended items run.child)
    && implies (killed items run.child && exited items run.child) (output_ended items run.child)
    && implies (must_ask run room items) (child_wanted items run.child))
