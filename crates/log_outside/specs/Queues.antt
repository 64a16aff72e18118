-- What a queue of lines takes.
use Rattle.std.specs.Prelude.{ℕ, ◌≡◌, ◌⊎◌, ◌+◌, ◌-◌, ◌^◌, ◌++◌, min}
use Rattle.rtrb.specs.Ring.{sent}
use Rattle.log_line.specs.declared.entry.Entry.{Entry}
use Rattle.log_line.specs.Line.{line_of}
use Rattle.log_outside.specs.declared.queue.LineQueue.{LineQueue}

-- one more, up to the last value of a u64
abbrev pub one_more : ℕ → ℕ
one_more count = min (count + 1) (2 ^ 64 - 1)

-- the entry, with how many lines were dropped before it
abbrev pub counting : ℕ → Entry → Entry
counting dropped entry = record entry { dropped = dropped }

-- the whole line was handed over, and says how many were dropped; or nothing of it was, and it counts as dropped
abbrev pub Tells : Entry → LineQueue → LineQueue → Type 0
Tells entry old new =
    ((sent new.ring ≡ sent old.ring ++ line_of (counting old.dropped entry)) × (new.dropped ≡ 0))
    ⊎ ((sent new.ring ≡ sent old.ring) × (new.dropped ≡ one_more old.dropped))
