-- The tallies that are kept of the children.
use Rattle.std.specs.Prelude.{ℕ, ◌≡◌, ◌≤◌, Bool, true, false, Option, Some, None, List}
use Rattle.std.specs.Option.{unwrap_or}
use Rattle.std.specs.Ordering.{nat_cmp}
use Rattle.std.specs.BTreeMap.{BTreeMap, get}
use Rattle.std.specs.BTreeSet.{BTreeSet, contains}
use Rattle.host_trace.specs.declared.items.Item.{Item}
use Rattle.trace_tallies.specs.declared.child_tally.ChildTally.{ChildTally}
use Rattle.trace_tallies.specs.ChildTallies.{child_tally, no_child}

-- the tally that is kept of child k
abbrev pub child_at : BTreeMap ℕ ChildTally → ℕ → ChildTally
child_at rows k = unwrap_or (get nat_cmp rows k) no_child

-- the tallies are those of the trace
abbrev pub ChildrenTie : BTreeMap ℕ ChildTally → List Item → Type 0
ChildrenTie rows T = (k : ℕ) → child_at rows k ≡ child_tally T k

-- the set has those whose tally passes
abbrev pub Sets : (ChildTally → Bool) → BTreeMap ℕ ChildTally → BTreeSet ℕ → Type 0
Sets test rows ks = (k : ℕ) → contains nat_cmp ks k ≡ test (child_at rows k)

-- the least number that passes, where one does
abbrev pub IsLeast : (ℕ → Bool) → Option ℕ → Type 0
IsLeast test None = (k : ℕ) → test k ≡ false
IsLeast test (Some m) = (test m ≡ true) × ((k : ℕ) → test k ≡ true → m ≤ k)
