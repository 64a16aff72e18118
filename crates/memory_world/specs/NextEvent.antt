-- Which event an outside in memory hands up next.
use Rattle.std.specs.Prelude.{ℕ, Bool, not, ◌||◌, min, List, [], ◌∷◌, filter, Option, Some, None, if◌then◌else◌}
use Rattle.std.specs.List.{flat_map, fold}
use Rattle.std.specs.Option.{unwrap_or}
use Rattle.host_trace.specs.declared.items.Event.{Event}
use Rattle.host_trace.specs.declared.items.Event.TheVariants.{Started, Exited, Tick, Stop}
use Rattle.host_trace.specs.declared.items.Item.{Item}
use Rattle.host_trace.specs.declared.items.Item.TheVariants.{In}
use Rattle.host_trace.specs.Kinds.{start_number}
use Rattle.host_trace.specs.Projections.{stopped, start_answered, exited}
use Rattle.host_trace.specs.Fits.{fits}

-- ---- from the list

-- a listed event is taken where it fits, and in the wild always
abbrev pub is_taken : Bool → ℕ → List Item → Event → Bool
is_taken wild limit T event = wild || fits limit T event

-- the first listed event that is taken
abbrev pub first_listed : Bool → ℕ → List Item → List Event → Option Event
first_listed wild limit T [] = None
first_listed wild limit T (event ∷ events) =
    if is_taken wild limit T event then Some event else first_listed wild limit T events

-- what is left of the list then: those before it are dropped
abbrev pub left_listed : Bool → ℕ → List Item → List Event → List Event
left_listed wild limit T [] = []
left_listed wild limit T (event ∷ events) =
    if is_taken wild limit T event then events else left_listed wild limit T events

-- ---- once the list is used up

abbrev pub started_number : Item → List ℕ
started_number (In (Started k)) = k ∷ []
started_number _ = []

-- the children whose Start was not answered, and those that run
abbrev pub open_starts : List Item → List ℕ
open_starts T = filter (λ k. not (start_answered T k)) (flat_map start_number T)

abbrev pub running : List Item → List ℕ
running T = filter (λ k. not (exited T k)) (flat_map started_number T)

abbrev pub lesser : Option ℕ → ℕ → Option ℕ
lesser None k = Some k
lesser (Some least) k = Some (min least k)

-- the least number
abbrev pub least : List ℕ → Option ℕ
least ks = fold lesser None ks

abbrev pub started_or_exited : Option ℕ → Option ℕ → Event
started_or_exited (Some k) run = Started k
started_or_exited None (Some k) = Exited k
started_or_exited None None = Tick 0

-- Stop, then Started for each open Start by rising number, then Exited for each running child by rising
-- number, then Ticks
abbrev pub after_list : List Item → Event
after_list T = if not (stopped T) then Stop else started_or_exited (least (open_starts T)) (least (running T))

-- the next event
abbrev pub next_event : Bool → ℕ → List Item → List Event → Event
next_event wild limit T events = unwrap_or (first_listed wild limit T events) (after_list T)
