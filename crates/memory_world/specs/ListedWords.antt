-- Listed events, and counts.
use Rattle.std.specs.Prelude.{ℕ, Bool, ◌&&◌, ◌+◌, ◌-◌, ◌^◌, nat_lt, if◌then◌else◌}
use Rattle.host_trace.specs.declared.items.Event.{Event}
use Rattle.memory_world.specs.declared.events.Listed.{Listed}

abbrev pub given_of : Listed → Event
given_of listed = listed.given

-- a count that goes on to the last value of a u64
abbrev pub count_up : Bool → ℕ → ℕ
count_up rises count = if rises && nat_lt count (2 ^ 64 - 1) then count + 1 else count
