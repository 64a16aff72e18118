-- The events of a sample, in the order in which they are to come.
use Rattle.std.specs.Prelude.{ℕ, zero, suc, ◌+◌, ◌/◌, List, [], ◌∷◌, ◌++◌, codes}
use Rattle.std.specs.List.{flat_map}
use Rattle.std.specs.Fork.{slice_chunk}
use Rattle.host_trace.specs.declared.items.Event.{Event}
use Rattle.host_trace.specs.declared.items.Event.TheVariants.{Accepted, ClientBytes, ClientGone, Started, StartFailed, ChildBytes, ChildEof, Exited, Stop}
use Rattle.sample_parts.specs.declared.plan.Kind.{Kind}
use Rattle.sample_parts.specs.declared.plan.Kind.TheVariants.{Get, Missing, Head, CutHeader, NoStart, Leaves}
use Rattle.sample_parts.specs.declared.plan.Planned.{Planned}
use Rattle.sample_parts.specs.declared.events.Phase.{Phase}
use Rattle.sample_parts.specs.declared.events.Phase.TheVariants.{Connect, Ask, Start, Write, End, Exit}
use Rattle.sample_parts.specs.Plan.{plan}

-- ---- one connection, by its kind

abbrev pub request_of : Kind → List ℕ
request_of Get = codes "GET /s HTTP/1.1\r\nHost: a\r\nConnection: close\r\n\r\n"
request_of Missing = codes "GET /none HTTP/1.1\r\nHost: a\r\nConnection: close\r\n\r\n"
request_of Head = codes "HEAD /s HTTP/1.1\r\nHost: a\r\nConnection: close\r\n\r\n"
request_of CutHeader = codes "GET /s HTTP/1.1\r\nHost: a\r\nConnection: close\r\n\r\n"
request_of NoStart = codes "GET /s HTTP/1.1\r\nHost: a\r\nConnection: close\r\n\r\n"
request_of Leaves = codes "GET /s HTTP/1.1\r\nHost: a\r\nConnection: close\r\n\r\n"

-- what becomes of the Start of child k
abbrev pub start_of : ℕ → Kind → List Event
start_of k Get = Started k ∷ []
start_of k Missing = []
start_of k Head = Started k ∷ []
start_of k CutHeader = Started k ∷ []
start_of k NoStart = StartFailed k ∷ []
start_of k Leaves = Started k ∷ []

-- what it writes
abbrev pub output_of : ℕ → Kind → List Event
output_of k Get = ChildBytes k (codes "Content-Type: text/plain\n\nhi\n") ∷ []
output_of k Missing = []
output_of k Head = ChildBytes k (codes "Content-Type: text/plain\n\nhi\n") ∷ []
output_of k CutHeader = ChildBytes k (codes "Content-Type: text/plain\n") ∷ []
output_of k NoStart = []
output_of k Leaves = ChildBytes k (codes "Content-Type: text/plain\n\nhi\n") ∷ []

-- its output ends, or its client c fails
abbrev pub end_of : ℕ → ℕ → Kind → List Event
end_of c k Get = ChildEof k ∷ []
end_of c k Missing = []
end_of c k Head = ChildEof k ∷ []
end_of c k CutHeader = ChildEof k ∷ []
end_of c k NoStart = []
end_of c k Leaves = ClientGone c ∷ []

abbrev pub exit_of : ℕ → Kind → List Event
exit_of k Get = Exited k ∷ []
exit_of k Missing = []
exit_of k Head = Exited k ∷ []
exit_of k CutHeader = Exited k ∷ []
exit_of k NoStart = []
exit_of k Leaves = Exited k ∷ []

-- what a connection adds to a phase
abbrev pub in_phase : Phase → Planned → List Event
in_phase Connect p = Accepted (record { 0 = codes "192.0.2.1" }) ∷ []
in_phase Ask p = ClientBytes p.c (request_of p.kind) ∷ []
in_phase Start p = start_of p.k p.kind
in_phase Write p = output_of p.k p.kind
in_phase End p = end_of p.c p.k p.kind
in_phase Exit p = exit_of p.k p.kind

-- ---- all connections

-- each phase goes over the group in order
abbrev pub of_group : List Planned → List Event
of_group group =
    flat_map (in_phase Connect) group ++ flat_map (in_phase Ask) group ++ flat_map (in_phase Start) group
    ++ flat_map (in_phase Write) group ++ flat_map (in_phase End) group ++ flat_map (in_phase Exit) group

-- connections are taken in groups of 8, the last perhaps smaller
abbrev pub of_groups : List Planned → ℕ → List Event
of_groups planned zero = []
of_groups planned (suc count) = of_groups planned count ++ of_group (slice_chunk planned 8 count)

-- the events of so many connections, and then Stop
abbrev pub sample_events : ℕ → ℕ → List Event
sample_events seed count = of_groups (plan seed count) ((count + 7) / 8) ++ Stop ∷ []
