-- What is counted of the children beside a trace.
use Rattle.std.specs.Prelude.{ℕ, Bool, false, not, ◌&&◌, ◌||◌, ◌+◌, ◌^◌, nat_lt, nat_le, List, length, count_by, if◌then◌else◌}
use Rattle.host_trace.specs.declared.items.Event.{Event}
use Rattle.host_trace.specs.declared.items.Act.{Act}
use Rattle.host_trace.specs.declared.items.Item.{Item}
use Rattle.host_trace.specs.declared.items.Item.TheVariants.{In, Out}
use Rattle.host_trace.specs.Kinds.{is_child_answer, is_want_child, is_start, is_start_answer, is_started, is_exited, is_input_end, is_output_end, input_fed, count_took}
use Rattle.host_trace.specs.Projections.{child_in, took_sum, start_stands, start_answered, started, exited, input_ended, output_ended}
use Rattle.trace_tallies.specs.declared.child_tally.ChildTally.{ChildTally}

-- the tally of child k
abbrev pub child_tally : List Item → ℕ → ChildTally
child_tally T k = record {
  wants = count_by (is_want_child k) T;
  answers = count_by (is_child_answer k) T;
  fed = length (child_in T k);
  took = took_sum T k;
  is_asked_for = start_stands T k;
  is_answered = start_answered T k;
  is_started = started T k;
  is_exited = exited T k;
  is_input_over = input_ended T k;
  is_output_over = output_ended T k;
}

abbrev pub no_child : ChildTally
no_child = record {
  wants = 0;
  answers = 0;
  fed = 0;
  took = 0;
  is_asked_for = false;
  is_answered = false;
  is_started = false;
  is_exited = false;
  is_input_over = false;
  is_output_over = false;
}

-- ---- one item more

abbrev pub child_with : ℕ → Item → ChildTally → ChildTally
child_with k x tally = record {
  wants = tally.wants + (if is_want_child k x then 1 else 0);
  answers = tally.answers + (if is_child_answer k x then 1 else 0);
  fed = tally.fed + length (input_fed k x);
  took = tally.took + count_took k x;
  is_asked_for = tally.is_asked_for || is_start k x;
  is_answered = tally.is_answered || is_start_answer k x;
  is_started = tally.is_started || is_started k x;
  is_exited = tally.is_exited || is_exited k x;
  is_input_over = tally.is_input_over || is_input_end k x;
  is_output_over = tally.is_output_over || is_output_end k x;
}

-- .. where it is an event
abbrev pub child_heard : ℕ → Event → ChildTally → ChildTally
child_heard k event tally = record {
  wants = tally.wants;
  answers = tally.answers + (if is_child_answer k (In event) then 1 else 0);
  fed = tally.fed;
  took = tally.took + count_took k (In event);
  is_asked_for = tally.is_asked_for;
  is_answered = tally.is_answered || is_start_answer k (In event);
  is_started = tally.is_started || is_started k (In event);
  is_exited = tally.is_exited || is_exited k (In event);
  is_input_over = tally.is_input_over || is_input_end k (In event);
  is_output_over = tally.is_output_over || is_output_end k (In event);
}

-- .. where it is an act
abbrev pub child_asked : ℕ → Act → ChildTally → ChildTally
child_asked k act tally = record {
  wants = tally.wants + (if is_want_child k (Out act) then 1 else 0);
  answers = tally.answers;
  fed = tally.fed + length (input_fed k (Out act));
  took = tally.took;
  is_asked_for = tally.is_asked_for || is_start k (Out act);
  is_answered = tally.is_answered;
  is_started = tally.is_started;
  is_exited = tally.is_exited;
  is_input_over = tally.is_input_over || is_input_end k (Out act);
  is_output_over = tally.is_output_over || is_output_end k (Out act);
}

-- its numbers are those of a tally
abbrev pub holds_child : ChildTally → Bool
holds_child tally = nat_lt tally.wants (2 ^ 64) && (nat_lt tally.answers (2 ^ 64) && (nat_lt tally.fed (2 ^ 128) && nat_lt tally.took (2 ^ 128)))

-- ---- what a tally lets come next

-- its Start waits for an answer
abbrev pub waits : ChildTally → Bool
waits tally = tally.is_asked_for && not tally.is_answered

-- its output was asked for and has not ended
abbrev pub answers_next : ChildTally → Bool
answers_next tally = tally.is_started && not tally.is_output_over && nat_lt tally.answers tally.wants

-- n bytes more can have been taken
abbrev pub takes : ℕ → ChildTally → Bool
takes n tally = tally.is_started && nat_le 1 n && nat_le (tally.took + n) tally.fed

-- its input has not ended
abbrev pub feeds : ChildTally → Bool
feeds tally = tally.is_started && not tally.is_input_over

abbrev pub runs : ChildTally → Bool
runs tally = tally.is_started && not tally.is_exited

-- nothing of it is left in the machine: its start was refused, or it was reaped and both its pipes have ended
abbrev pub settles : ChildTally → Bool
settles tally = tally.is_answered && not tally.is_started || tally.is_exited && tally.is_input_over && tally.is_output_over
