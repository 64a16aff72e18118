-- What the run of a connection's child knows of the connection's items.
use Rattle.std.specs.Prelude.{ℕ, true, false, ◌==◌, ◌≡◌, List, [], ◌∷◌, ◌++◌}
use Rattle.host_base.specs.declared.limits.Limits.{Limits}
use Rattle.host_trace.specs.declared.items.Event.{Event}
use Rattle.host_trace.specs.declared.items.Event.TheVariants.{ClientEof, WsBinary, WsClosed}
use Rattle.host_trace.specs.declared.items.Item.{Item}
use Rattle.host_trace.specs.declared.items.Item.TheVariants.{In}
use Rattle.host_trace.specs.Decider.{is_websocket}
use Rattle.trace_child.specs.Run.{Offer}
use Rattle.child_core.specs.Calls.{fits_run, heard, is_kept}
use Rattle.child_core.specs.Knows.{KnowsRun}
use Rattle.child_core.specs.Setting.{Setting}
use Rattle.child_core.specs.View.{View}
use Rattle.scgi_conn.specs.Parts.{told_run}

-- the body of the whole request is there for its input from its Start on
abbrev pub setting : ℕ → Limits → Offer → Setting
setting c limits offer = record { conn = c; limits = limits; offered = λ L. offer }

-- The event neither ends the client's input nor is of a WebSocket: the client is not asked while a script runs, and never
-- speaks WebSocket.
abbrev pub IsApt : ℕ → Event → Type 0
IsApt c (ClientEof d) = (c == d) ≡ false
IsApt c (WsBinary d) = (c == d) ≡ false
IsApt c (WsClosed d) = (c == d) ≡ false
IsApt c _ = Unit {0}

-- What the run is told of an event is what the list says of it.
abbrev pub EventsAreTold : Type 0
EventsAreTold = (c : ℕ) (limits : Limits) (offer : Offer) (v : View) (L : List Item) (ev : Event) → is_websocket v.kind ≡ false → KnowsRun false (setting c limits offer) v L
    → fits_run v ev ≡ true → IsApt c ev → KnowsRun false (setting c limits offer) (told_run c v ev true) (L ++ In ev ∷ [])

-- .. and so it is of output that found no room, before the run is given up.
abbrev pub UnkeptIsTold : Type 0
UnkeptIsTold = (c : ℕ) (limits : Limits) (offer : Offer) (v : View) (L : List Item) (ev : Event) → is_websocket v.kind ≡ false → KnowsRun false (setting c limits offer) v L
    → fits_run v ev ≡ true → is_kept v ev ≡ true → KnowsRun false (setting c limits offer) (heard v ev false) (L ++ In ev ∷ [])
