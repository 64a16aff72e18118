-- What a part of a step leaves of the lists of all connections.
use Rattle.std.specs.Prelude.{ℕ, List, [], ◌∷◌, ◌++◌, ◌≡◌, ◌≢◌, ◌≤◌, map}
use Rattle.host_trace.specs.declared.items.Event.{Event}
use Rattle.host_trace.specs.declared.items.Act.{Act}
use Rattle.host_trace.specs.declared.items.Item.{Item}
use Rattle.host_trace.specs.declared.items.Item.TheVariants.{In, Out}
use Rattle.host_trace.specs.Projections.{own, start_count, accepted_count}
use Rattle.own_traces.specs.Whose.{next_after, Rises}
use Rattle.own_traces.specs.Between.{Between}

-- acts of connection c alone
pub record Moved (T : List Item) (c : ℕ) (acts : List Act) : Type 0 where
  pub mine : own (T ++ map Out acts) c ≡ own T c ++ map Out acts
  pub others : (d : ℕ) → d ≢ c → own (T ++ map Out acts) d ≡ own T d
  pub between : Between (T ++ map Out acts)
  pub count : start_count (T ++ map Out acts) ≡ next_after (start_count T) acts
  pub accepted : accepted_count (T ++ map Out acts) ≡ accepted_count T
  pub rises : (low : ℕ) → low ≤ c → Rises T low acts c

-- an event of connection c alone
pub record Heard (T : List Item) (c : ℕ) (event : Event) : Type 0 where
  pub mine : own (T ++ In event ∷ []) c ≡ own T c ++ In event ∷ []
  pub others : (d : ℕ) → d ≢ c → own (T ++ In event ∷ []) d ≡ own T d
  pub between : Between (T ++ In event ∷ [])
  pub count : start_count (T ++ In event ∷ []) ≡ start_count T
  pub accepted : accepted_count (T ++ In event ∷ []) ≡ accepted_count T

-- an event of all connections
pub record HeardByAll (T : List Item) (event : Event) : Type 0 where
  pub all : (c : ℕ) → own (T ++ In event ∷ []) c ≡ own T c ++ In event ∷ []
  pub between : Between (T ++ In event ∷ [])
  pub count : start_count (T ++ In event ∷ []) ≡ start_count T
  pub accepted : accepted_count (T ++ In event ∷ []) ≡ accepted_count T
