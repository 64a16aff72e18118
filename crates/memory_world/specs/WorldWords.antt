-- What a world in memory tells, and when it can be entered.
use Rattle.std.specs.Prelude.{ℕ, ◌≡◌, Bool, false, ◌&&◌, ◌==◌, List, Option, Some, None, Vec, vec_len, if◌then◌else◌}
use Rattle.std.specs.List.{list_all}
use Rattle.host_trace.specs.declared.items.Item.{Item}
use Rattle.host_trace.specs.declared.world.Entry.{Entry}
use Rattle.memory_world.specs.declared.world.MemoryWorld.{MemoryWorld}
use Rattle.memory_world.specs.declared.outside.MemoryOutside.{MemoryOutside}
use Rattle.memory_world.specs.MemoryWords.{is_new_for}

abbrev pub given_of_world : MemoryWorld → Option (List (List Item))
given_of_world w = if w.tells then Some w.given.items else None

abbrev pub entries_of_world : MemoryWorld → Option (List Entry)
entries_of_world w = if w.tells_entries then Some w.entries.items else None

-- there are so many outsides, each of which is new, has this limit and tells where `tells` is true
abbrev pub are_fresh : {A : Type 0} → ℕ → ℕ → Bool → Option (Vec MemoryOutside A) → Bool
are_fresh limit loops tells None = false
are_fresh limit loops tells (Some outs) = vec_len outs == loops && list_all (is_new_for limit tells) outs.items

-- it was not entered before, and has these outsides for so many loops over a site of this limit
abbrev pub may_enter : ℕ → ℕ → MemoryWorld → Bool
may_enter limit loops w = are_fresh limit loops w.tells w.fresh

-- the traces that came back and the telling may have changed, and the rest is as it was
pub record IsRest (old new : MemoryWorld) : Type 0 where
  pub fresh : new.fresh ≡ old.fresh
  pub entries : entries_of_world new ≡ entries_of_world old
  pub out : new.out ≡ old.out
  pub faults : new.faults ≡ old.faults
