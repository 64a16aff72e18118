-- What holds between the connections of a trace.
use Rattle.std.specs.Prelude.{ℕ, true, false, List, ◌≡◌, ◌≤◌, ◌<◌, filter}
use Rattle.std.specs.List.{list_any}
use Rattle.host_trace.specs.declared.items.Item.{Item}
use Rattle.host_trace.specs.Kinds.{names, names_child, is_stop, is_tick}
use Rattle.host_trace.specs.Projections.{own, children, start_numbers, start_count, accepted_count, is_known}
use Rattle.own_traces.specs.Whose.{has, numbers_below}
use Rattle.own_traces.specs.OwnFits.{was_accepted}

-- a child was started for a connection that was accepted
pub record Owner (T : List Item) (k : ℕ) : Type 0 where
  pub owner : ℕ
  pub is : has (children T owner) k ≡ true
  pub known : owner < accepted_count T

-- the i-th Start has number i, each child is of one connection, and no item names a connection or a child before its
-- Accepted or its Start; and what a trace says of a connection stands in the list of that connection
pub record Between (T : List Item) : Type 0 where
  pub numbers : start_numbers T ≡ numbers_below (start_count T)
  pub below : (c k : ℕ) → has (children T c) k ≡ true → k < start_count T
  pub apart : (c d k : ℕ) → has (children T c) k ≡ true → has (children T d) k ≡ true → c ≡ d
  pub named : (k : ℕ) → start_count T ≤ k → list_any (names_child k) T ≡ false
  pub known : (c : ℕ) → accepted_count T ≤ c → list_any (names c) T ≡ false
  pub owned : (k : ℕ) → k < start_count T → Owner T k
  pub conns : (c : ℕ) → filter (names c) (own T c) ≡ filter (names c) T
  pub kids : (c k : ℕ) → has (children T c) k ≡ true → filter (names_child k) (own T c) ≡ filter (names_child k) T
  pub ticks : (c : ℕ) → filter is_tick (own T c) ≡ filter is_tick T
  pub stops : (c : ℕ) → filter is_stop (own T c) ≡ filter is_stop T
  pub accepts : (c : ℕ) → was_accepted (own T c) ≡ is_known T c
