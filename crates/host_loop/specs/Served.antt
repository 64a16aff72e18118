-- How a loop ends.
use Rattle.std.specs.Prelude.{ℕ, List, [], ◌≡◌, ◌≤◌, ◌&&◌, Bool, true, false, count_by}
use Rattle.host_trace.specs.declared.items.Item.{Item}
use Rattle.host_trace.specs.Projections.{stopped, event_count}
use Rattle.host_trace.specs.Trace.{end_of, steps}
use Rattle.host_trace.specs.Account.{all_settled}
use Rattle.host_loop.specs.declared.serve.LoopEnd.{LoopEnd}
use Rattle.host_loop.specs.declared.serve.LoopEnd.TheVariants.{Done, Spent, NoMemory}

-- Stop was heard, and all is settled
abbrev pub is_over : List Item → Bool
is_over T = stopped T && all_settled T

-- at how many steps' ends that is so
abbrev pub over_count : List Item → ℕ
over_count T = count_by (λ s. is_over (end_of s)) (steps T)

-- that is so at the trace's end, and at no step's end before
pub record IsFirstOver (turns : ℕ) (T : List Item) : Type 0 where
  pub over : is_over T ≡ true
  pub first : over_count T ≡ 1
  pub within : event_count T ≤ turns

-- that is so at no step's end, and as many events were heard as there are turns
pub record IsSpent (turns : ℕ) (T : List Item) : Type 0 where
  pub never : over_count T ≡ 0
  pub not_over : is_over T ≡ false
  pub heard : event_count T ≡ turns

-- what is so of the trace by how its loop ended
abbrev pub Served : ℕ → LoopEnd → List Item → Type 0
Served turns Done T = IsFirstOver turns T
Served turns Spent T = IsSpent turns T
Served turns NoMemory T = T ≡ []
