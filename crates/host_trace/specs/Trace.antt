-- The steps of a trace: each event with the acts that follow it up to the next event.
use Rattle.std.specs.Prelude.{List, [], ◌∷◌, ◌++◌, map}
use Rattle.std.specs.List.{AllByRecursion}
use Rattle.host_trace.specs.declared.items.Event.{Event}
use Rattle.host_trace.specs.declared.items.Act.{Act}
use Rattle.host_trace.specs.declared.items.Item.{Item}
use Rattle.host_trace.specs.declared.items.Item.TheVariants.{In, Out}

-- what stood before, the event, and the acts that followed
pub record Step : Type 0 where
  pub before : List Item
  pub event : Event
  pub acts : List Act

abbrev pub step_of : List Item → Event → List Act → Step
step_of before event acts = record { before = before; event = event; acts = acts }

-- the trace with one more step
abbrev pub after_step : List Item → Event → List Act → List Item
after_step before event acts = before ++ In event ∷ map Out acts

-- the trace up to the end of the step
abbrev pub end_of : Step → List Item
end_of s = after_step s.before s.event s.acts

-- the steps of what follows, where the last step so far is open
abbrev pub steps_from : List Item → Event → List Act → List Item → List Step
steps_from before event acts [] = step_of before event acts ∷ []
steps_from before event acts (In e ∷ items) =
    step_of before event acts ∷ steps_from (after_step before event acts) e [] items
steps_from before event acts (Out a ∷ items) = steps_from before event (acts ++ a ∷ []) items

-- an act before the first event belongs to no step
abbrev pub steps_after : List Item → List Item → List Step
steps_after before [] = []
steps_after before (In e ∷ items) = steps_from before e [] items
steps_after before (Out a ∷ items) = steps_after (before ++ Out a ∷ []) items

abbrev pub steps : List Item → List Step
steps T = steps_after [] T

-- a claim on steps holds of each step of a trace
abbrev pub AtEachStep : (Step → Type 0) → List Item → Type 0
AtEachStep claim T = AllByRecursion claim (steps T)
