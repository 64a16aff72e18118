-- Whether an event may come next, by what is counted of the connection and of the child that it names.
use Rattle.std.specs.Prelude.{ℕ, ◌≡◌, ◌≤◌, Bool, true, false, not, ◌&&◌, ◌==◌, nat_lt, Option, Some, None, List}
use Rattle.host_trace.specs.declared.items.Event.{Event}
use Rattle.host_trace.specs.declared.items.Event.TheVariants.{Accepted, ClientBytes, ClientEof, ClientGone, Wrote, Started, StartFailed, StartFull, ChildBytes, ChildEof, ChildBroken, Took, InputGone, Exited, WsText, WsBinary, WsClosed, WsBad, NoRoom, Tick, Stop}
use Rattle.host_trace.specs.declared.items.Item.{Item}
use Rattle.host_trace.specs.declared.items.Item.TheVariants.{In}
use Rattle.host_trace.specs.Kinds.{names, names_child}
use Rattle.host_trace.specs.Projections.{accepted_count, stopped}
use Rattle.host_trace.specs.Fits.{is_piece, is_clock}
use Rattle.trace_tallies.specs.declared.client_tally.ClientTally.{ClientTally}
use Rattle.trace_tallies.specs.declared.child_tally.ChildTally.{ChildTally}
use Rattle.trace_tallies.specs.declared.fits.Rows.{Rows}
use Rattle.trace_tallies.specs.ClientTallies.{client_tally, asks, asks_upgraded, leaves, stays_open}
use Rattle.trace_tallies.specs.ChildTallies.{child_tally, waits, answers_next, takes, feeds, runs}

-- there is a row, and it passes
abbrev pub passes : {A : Type 0} → (A → Bool) → Option A → Bool
passes test None = false
passes test (Some row) = test row

module _ (r : Rows) where
  abbrev pub opens : ℕ → Bool
  opens c = nat_lt c r.accepted && passes stays_open r.client

  -- where a row is wanting, nothing that names its connection or child passes
  abbrev pub fits_by : ℕ → Event → Bool
  fits_by limit (Accepted peer) = not r.is_stopped
  fits_by limit (ClientBytes c bytes) = passes asks r.client && is_piece bytes
  fits_by limit (ClientEof c) = passes asks r.client
  fits_by limit (ClientGone c) = opens c
  fits_by limit (Wrote c n) = passes (leaves n) r.client
  fits_by limit (Started k) = passes waits r.child
  fits_by limit (StartFailed k) = passes waits r.child
  fits_by limit (StartFull k seen) = passes waits r.child && seen == limit
  fits_by limit (ChildBytes k bytes) = passes answers_next r.child && is_piece bytes
  fits_by limit (ChildEof k) = passes answers_next r.child
  fits_by limit (ChildBroken k) = passes answers_next r.child
  fits_by limit (Took k n) = passes (takes n) r.child
  fits_by limit (InputGone k) = passes feeds r.child
  fits_by limit (Exited k) = passes runs r.child
  fits_by limit (WsText c bytes) = passes asks_upgraded r.client
  fits_by limit (WsBinary c) = passes asks_upgraded r.client
  fits_by limit (WsClosed c) = passes asks_upgraded r.client
  fits_by limit (WsBad c) = passes asks_upgraded r.client
  fits_by limit (NoRoom c) = opens c
  fits_by limit (Tick secs) = is_clock secs
  fits_by limit Stop = not r.is_stopped

-- what is counted of a trace, and the rows of what the event names; a row may be wanting, and so may connections that were accepted
pub record RowsOf (T : List Item) (event : Event) (r : Rows) : Type 0 where
  pub client : (c : ℕ) (row : ClientTally) → names c (In event) ≡ true → r.client ≡ Some row → row ≡ client_tally T c
  pub child : (k : ℕ) (row : ChildTally) → names_child k (In event) ≡ true → r.child ≡ Some row → row ≡ child_tally T k
  pub accepted : r.accepted ≤ accepted_count T
  pub stops : r.is_stopped ≡ stopped T

-- .. where none is wanting
pub record AllRowsOf (T : List Item) (event : Event) (r : Rows) : Type 0 where
  pub client : (c : ℕ) → names c (In event) ≡ true → r.client ≡ Some (client_tally T c)
  pub child : (k : ℕ) → names_child k (In event) ≡ true → r.child ≡ Some (child_tally T k)
  pub accepted : r.accepted ≡ accepted_count T
  pub stops : r.is_stopped ≡ stopped T
