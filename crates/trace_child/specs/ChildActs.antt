-- Which acts a step gives to a child.
use Rattle.std.specs.Prelude.{Bool, not, ◌&&◌, ◌==◌, List}
use Rattle.host_trace.specs.declared.items.Act.{Act}
use Rattle.host_trace.specs.declared.items.Item.{Item}
use Rattle.host_trace.specs.Kinds.{is_end_input, is_kill, is_release, is_want_child}
use Rattle.host_trace.specs.Projections.{child_wanted, killed, input_ended, output_ended}
use Rattle.trace_child.specs.Words.{given, once}
use Rattle.trace_child.specs.Run.{Run}
use Rattle.trace_child.specs.ChildDemands.{must_end_input, must_kill, must_release, must_ask}

-- Each of these acts stands in a step at whose end it is demanded, where it did not stand when the step's event was
-- heard; so each of the first three stands once at most, and in the first such step. `heard` are the items with the
-- event and before the acts, `items` those up to the end at which the demand is read.
abbrev pub child_acts : Run → Bool → List Item → List Act → List Item → Bool
child_acts run room heard acts items =
    given (is_end_input run.child) acts == once (must_end_input run items && not (input_ended heard run.child))
    && given (is_kill run.child) acts == once (must_kill run items && not (killed heard run.child))
    && given (is_release run.child) acts == once (must_release run items && not (output_ended heard run.child))
    && given (is_want_child run.child) acts == once (must_ask run room items && not (child_wanted heard run.child))
