-- What holds of the rules on a child.
use Rattle.std.specs.Prelude.{ℕ, Bool, true, false, List, [], ◌∷◌, ◌++◌, ◌≡◌, Some, None}
use Rattle.host_trace.specs.declared.items.Act.{Act}
use Rattle.host_trace.specs.declared.items.Item.{Item}
use Rattle.host_trace.specs.Account.{settled}
use Rattle.host_trace.specs.Decider.{Outcome}
use Rattle.host_trace.specs.Projections.{child_in, started, exited}
use Rattle.trace_child.specs.Run.{Run, takes_body}
use Rattle.trace_child.specs.Decided.{decides_run, decided_at, outcome_of, is_decided}
use Rattle.trace_child.specs.Bodies.{bodies, owes_whole}
use Rattle.trace_child.specs.ChildGood.{ChildGood}

-- an item decides the run, and none before it did
pub record IsFirst (run : Run) (items front : List Item) : Type 0 where
  pub before : List Item
  pub item : Item
  pub later : List Item
  pub ends : front ≡ before ++ item ∷ []
  pub within : items ≡ front ++ later
  pub decides : decides_run run before item ≡ true
  pub no_earlier : decided_at run before ≡ None

-- A run is decided by the first item that decides it.
abbrev pub DecidersAreFirst : Type 0
DecidersAreFirst = (run : Run) (items front : List Item) → decided_at run items ≡ Some front → IsFirst run items front

-- Where it is not decided, no item decides it.
abbrev pub DecidersAreFound : Type 0
DecidersAreFound = (run : Run) (before : List Item) (item : Item) (later : List Item)
    → decided_at run (before ++ item ∷ later) ≡ None → decides_run run before item ≡ false

-- What decides a run decides it whatever follows, and so does its outcome stay.
abbrev pub DecidersStay : Type 0
DecidersStay = (run : Run) (items more front : List Item) → decided_at run items ≡ Some front → decided_at run (items ++ more) ≡ Some front

abbrev pub OutcomesStay : Type 0
OutcomesStay = (run : Run) (items more : List Item) (outcome : Outcome) → outcome_of run items ≡ Some outcome → outcome_of run (items ++ more) ≡ Some outcome

-- what was fed is a front of the body heard
pub record IsFedOf (run : Run) (items : List Item) : Type 0 where
  pub unfed : List ℕ
  pub front : (run.offered items).body ≡ child_in items run.child ++ unfed

-- .. and all of it is the body
pub record IsFedAll (run : Run) (items : List Item) : Type 0 where
  pub whole : (run.offered items).whole ≡ true
  pub all : child_in items run.child ≡ (run.offered items).body

-- A child of a request is fed a front of the body heard, in order; and the whole body where its input was ended, unless
-- its input, the child or its run had ended before.
abbrev pub BodiesAreFronts : Type 0
BodiesAreFronts = (run : Run) (items : List Item) → takes_body run ≡ true → bodies run items ≡ true → IsFedOf run items

abbrev pub BodiesAreWhole : Type 0
BodiesAreWhole = (run : Run) (items : List Item) → takes_body run ≡ true → bodies run items ≡ true → owes_whole run items ≡ true → IsFedAll run items

-- A child that has exited and whose run is decided has nothing left in the machine.
abbrev pub ExitsSettle : Type 0
ExitsSettle = (run : Run) (room : Bool) (heard : List Item) (acts : List Act) (items : List Item) → ChildGood run room heard acts items
    → started items run.child ≡ true → exited items run.child ≡ true → is_decided run items ≡ true → settled items run.child ≡ true
