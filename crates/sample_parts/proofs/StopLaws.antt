-- Stop is the last event of a sample, and there is no other.
use Rattle.std.proofs.Common.{◌≡◌, ℕ, zero, suc, ◌+◌, ◌/◌, true, false, ◌⊎◌, List, [], ◌∷◌, ◌++◌, inl, inr, refl}
use Rattle.std.specs.List.{flat_map}
use Rattle.std.specs.Fork.{slice_chunk}
use Rattle.host_trace.specs.declared.items.Event.{Event}
use Rattle.host_trace.specs.declared.items.Event.TheVariants.{Stop}
use Rattle.host_trace.specs.declared.items.Item.TheVariants.{In}
use Rattle.host_trace.specs.Kinds.{is_stop}
use Rattle.sample_parts.specs.declared.plan.Kind.{Kind}
use Rattle.sample_parts.specs.declared.plan.Kind.TheVariants.{Get, Missing, Head, CutHeader, NoStart, Leaves}
use Rattle.sample_parts.specs.declared.plan.Planned.{Planned}
use Rattle.sample_parts.specs.declared.events.Phase.{Phase}
use Rattle.sample_parts.specs.declared.events.Phase.TheVariants.{Connect, Ask, Start, Write, End, Exit}
use Rattle.sample_parts.specs.Plan.{plan}
use Rattle.sample_parts.specs.Listed.{end_of, exit_of, in_phase, of_group, of_groups, output_of, sample_events, start_of}

-- the last event is a Stop, and no other one is
abbrev pub StopsLast : List Event → Type 0
StopsLast [] = ⊥
StopsLast (event ∷ events) = ((is_stop (In event) ≡ true) × (events ≡ [])) ⊎ ((is_stop (In event) ≡ false) × StopsLast events)

abbrev NoStops : List Event → Type 0
NoStops [] = Unit {0}
NoStops (event ∷ events) = (is_stop (In event) ≡ false) × NoStops events

both : (xs ys : List Event) → NoStops xs → NoStops ys → NoStops (xs ++ ys)
both [] ys one two = two
both (x ∷ xs) ys one two = (one.0, both xs ys one.1 two)

of_each : (f : Planned → List Event) (ps : List Planned) → ((p : Planned) → NoStops (f p)) → NoStops (flat_map f ps)
of_each f [] each = tt
of_each f (p ∷ ps) each = both (f p) (flat_map f ps) (each p) (of_each f ps each)

in_start : (k : ℕ) (kind : Kind) → NoStops (start_of k kind)
in_start k Get = (refl, tt)
in_start k Missing = tt
in_start k Head = (refl, tt)
in_start k CutHeader = (refl, tt)
in_start k NoStart = (refl, tt)
in_start k Leaves = (refl, tt)

in_output : (k : ℕ) (kind : Kind) → NoStops (output_of k kind)
in_output k Get = (refl, tt)
in_output k Missing = tt
in_output k Head = (refl, tt)
in_output k CutHeader = (refl, tt)
in_output k NoStart = tt
in_output k Leaves = (refl, tt)

in_end : (c k : ℕ) (kind : Kind) → NoStops (end_of c k kind)
in_end c k Get = (refl, tt)
in_end c k Missing = tt
in_end c k Head = (refl, tt)
in_end c k CutHeader = (refl, tt)
in_end c k NoStart = tt
in_end c k Leaves = (refl, tt)

in_exit : (k : ℕ) (kind : Kind) → NoStops (exit_of k kind)
in_exit k Get = (refl, tt)
in_exit k Missing = tt
in_exit k Head = (refl, tt)
in_exit k CutHeader = (refl, tt)
in_exit k NoStart = tt
in_exit k Leaves = (refl, tt)

in_each : (phase : Phase) (p : Planned) → NoStops (in_phase phase p)
in_each Connect p = (refl, tt)
in_each Ask p = (refl, tt)
in_each Start p = in_start p.k p.kind
in_each Write p = in_output p.k p.kind
in_each End p = in_end p.c p.k p.kind
in_each Exit p = in_exit p.k p.kind

phase_of : (phase : Phase) (group : List Planned) → NoStops (flat_map (in_phase phase) group)
phase_of phase group = of_each (in_phase phase) group (in_each phase)

in_group : (group : List Planned) → NoStops (of_group group)
in_group group =
    both _ _ (both _ _ (both _ _ (both _ _ (both _ _ (phase_of Connect group) (phase_of Ask group)) (phase_of Start group)) (phase_of Write group)) (phase_of End group)) (phase_of Exit group)

in_groups : (planned : List Planned) (count : ℕ) → NoStops (of_groups planned count)
in_groups planned zero = tt
in_groups planned (suc count) = both (of_groups planned count) (of_group (slice_chunk planned 8 count)) (in_groups planned count) (in_group (slice_chunk planned 8 count))

then_stop : (events : List Event) → NoStops events → StopsLast (events ++ Stop ∷ [])
then_stop [] none = inl (refl, refl)
then_stop (event ∷ events) none = inr (none.0, then_stop events none.1)

pub sample_stops_last : (seed count : ℕ) → StopsLast (sample_events seed count)
sample_stops_last seed count = then_stop _ (in_groups (plan seed count) ((count + 7) / 8))
