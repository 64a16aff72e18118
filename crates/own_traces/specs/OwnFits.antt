-- Whether an event may come next, told from the list of one connection alone.
use Rattle.std.specs.Prelude.{ℕ, Bool, not, ◌&&◌, List}
use Rattle.std.specs.List.{list_any}
use Rattle.host_trace.specs.declared.items.Event.{Event}
use Rattle.host_trace.specs.declared.items.Event.TheVariants.{Accepted, ClientBytes, ClientEof, ClientGone, Wrote, Started, StartFailed, StartFull, ChildBytes, ChildEof, ChildBroken, Took, InputGone, Exited, WsText, WsBinary, WsClosed, WsBad, NoRoom, Tick, Stop}
use Rattle.host_trace.specs.declared.items.Item.{Item}
use Rattle.host_trace.specs.Kinds.{is_accepted}
use Rattle.host_trace.specs.Projections.{stopped, shut}
use Rattle.host_trace.specs.Fits.{fits}

-- The Accepted of the connection stands in its list. How many connections were accepted can't be told from one list.
abbrev pub was_accepted : List Item → Bool
was_accepted L = list_any is_accepted L

-- it was accepted and is not shut
abbrev pub is_open_own : List Item → ℕ → Bool
is_open_own L c = was_accepted L && not (shut L c)

-- the event of a connection may come next after the items of the connection
abbrev pub fits_own : ℕ → List Item → Event → Bool
fits_own limit L (Accepted peer) = not (stopped L) && not (was_accepted L)
fits_own limit L (ClientGone c) = is_open_own L c
fits_own limit L (NoRoom c) = is_open_own L c
fits_own limit L (ClientBytes c bytes) = fits limit L (ClientBytes c bytes)
fits_own limit L (ClientEof c) = fits limit L (ClientEof c)
fits_own limit L (Wrote c n) = fits limit L (Wrote c n)
fits_own limit L (Started k) = fits limit L (Started k)
fits_own limit L (StartFailed k) = fits limit L (StartFailed k)
fits_own limit L (StartFull k seen) = fits limit L (StartFull k seen)
fits_own limit L (ChildBytes k bytes) = fits limit L (ChildBytes k bytes)
fits_own limit L (ChildEof k) = fits limit L (ChildEof k)
fits_own limit L (ChildBroken k) = fits limit L (ChildBroken k)
fits_own limit L (Took k n) = fits limit L (Took k n)
fits_own limit L (InputGone k) = fits limit L (InputGone k)
fits_own limit L (Exited k) = fits limit L (Exited k)
fits_own limit L (WsText c bytes) = fits limit L (WsText c bytes)
fits_own limit L (WsBinary c) = fits limit L (WsBinary c)
fits_own limit L (WsClosed c) = fits limit L (WsClosed c)
fits_own limit L (WsBad c) = fits limit L (WsBad c)
fits_own limit L (Tick secs) = fits limit L (Tick secs)
fits_own limit L Stop = fits limit L Stop
