-- What the connections of a sample are, by its seed.
use Rattle.std.specs.Prelude.{ℕ, zero, suc, ◌+◌, ◌*◌, ◌/◌, ◌%◌, ◌==◌, Bool, true, false, List, [], ◌∷◌, ◌++◌, if◌then◌else◌}
use Rattle.sample_parts.specs.declared.plan.Kind.{Kind}
use Rattle.sample_parts.specs.declared.plan.Kind.TheVariants.{Get, Missing, Head, CutHeader, NoStart, Leaves}
use Rattle.sample_parts.specs.declared.plan.Planned.{Planned}

-- the generator: where it begins, and where it stands after so many connections
abbrev pub drawn : ℕ → ℕ → ℕ
drawn seed zero = seed % 65537
drawn seed (suc count) = (drawn seed count * 75 + 74) % 65537

abbrev pub kind_numbered : ℕ → Kind
kind_numbered n =
    if n == 0 then Get
    else (if n == 1 then Missing
    else (if n == 2 then Head
    else (if n == 3 then CutHeader
    else (if n == 4 then NoStart else Leaves))))

-- the kind of connection c
abbrev pub kind_at : ℕ → ℕ → Kind
kind_at seed c = kind_numbered (drawn seed (suc c) / 16 % 6)

-- its request is one for the script
abbrev pub has_child : Kind → Bool
has_child Missing = false
has_child Get = true
has_child Head = true
has_child CutHeader = true
has_child NoStart = true
has_child Leaves = true

-- how many of the connections below this one have a child
abbrev pub children_below : ℕ → ℕ → ℕ
children_below seed zero = 0
children_below seed (suc c) = children_below seed c + (if has_child (kind_at seed c) then 1 else 0)

-- children are numbered by the order of their requests
abbrev pub planned_at : ℕ → ℕ → Planned
planned_at seed c = record { c = c; k = children_below seed c; kind = kind_at seed c }

-- so many connections, in their order
abbrev pub plan : ℕ → ℕ → List Planned
plan seed zero = []
plan seed (suc count) = plan seed count ++ planned_at seed count ∷ []
