-- What a server was told to do, and when it is to end.
use Rattle.std.specs.Prelude.{ℕ, ◌+◌, ◌-◌, ◌^◌, min, Bool, true, false, not, ◌&&◌, ◌||◌, nat_lt}
use Rattle.edge_loop.specs.declared.orders.Order.{Order}
use Rattle.edge_loop.specs.declared.orders.Order.TheVariants.{Stop, Drain}
use Rattle.edge_loop.specs.declared.ending.Ending.{Ending}

-- which orders were given
pub record OrdersTold : Type 0 where
  pub stop : Bool
  pub drain : Bool

abbrev pub told_after : Order → OrdersTold → OrdersTold
told_after Stop told = record told { stop = true }
told_after Drain told = record told { drain = true }

-- ---- the end of a loop

-- nothing was ordered
abbrev pub no_end : Ending
no_end = record { ordered = false; draining = false; ticks = 0; stopped = false }

abbrev pub ordered_by : Order → Ending → Ending
ordered_by Stop ending = record ending { ordered = true }
ordered_by Drain ending = record ending { draining = true }

-- a tick counts once a quiet end was ordered
abbrev pub ticks_after : Bool → ℕ → ℕ
ticks_after true ticks = min (ticks + 1) (2 ^ 32 - 1)
ticks_after false ticks = ticks

abbrev pub ticked : Ending → Ending
ticked ending = record ending { ticks = ticks_after ending.draining ending.ticks }

abbrev pub stopped_by : Ending → Ending
stopped_by ending = record ending { stopped = true }

-- Stop is due: it was not given, and an end was ordered, or a quiet end that is reached, or was ordered 300 ticks ago
abbrev pub is_stop_due : Bool → Ending → Bool
is_stop_due quiet ending = not ending.stopped && (ending.ordered || ending.draining && (quiet || not (nat_lt ending.ticks 300)))
