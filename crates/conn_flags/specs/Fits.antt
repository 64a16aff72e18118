-- Whether an event that names the connection may come next, by its flags.
use Rattle.std.specs.Prelude.{ℕ, Bool, true, not, ◌||◌, ◌&&◌, ◌==◌, nat_le}
use Rattle.host_trace.specs.declared.items.Event.{Event}
use Rattle.host_trace.specs.declared.items.Event.TheVariants.{Accepted, ClientBytes, ClientEof, ClientGone, Wrote, WsText, WsBinary, WsClosed, WsBad, NoRoom, Stop}
use Rattle.host_trace.specs.Fits.{is_piece}
use Rattle.conn_flags.specs.View.{View, is_live}

-- its client was asked and has not answered, before the upgrade and after it
abbrev pub is_asked : View → Bool
is_asked m = not m.shut && not m.upgraded && m.asked

abbrev pub is_asked_upgraded : View → Bool
is_asked_upgraded m = not m.shut && m.upgraded && m.asked

-- so many bytes more may leave
abbrev pub may_leave : View → ℕ → Bool
may_leave m n = not m.shut && nat_le 1 n && nat_le n m.pending

-- An event of the connection, its Accepted or Stop may come next; every other event may, as far as this connection goes.
abbrev pub fits_flags : View → Event → Bool
fits_flags m (Accepted peer) = not m.stopped && not m.accepted
fits_flags m (ClientBytes c bytes) = not (m.c == c) || is_asked m && is_piece bytes
fits_flags m (ClientEof c) = not (m.c == c) || is_asked m
fits_flags m (ClientGone c) = not (m.c == c) || is_live m
fits_flags m (Wrote c n) = not (m.c == c) || may_leave m n
fits_flags m (WsText c bytes) = not (m.c == c) || is_asked_upgraded m
fits_flags m (WsBinary c) = not (m.c == c) || is_asked_upgraded m
fits_flags m (WsClosed c) = not (m.c == c) || is_asked_upgraded m
fits_flags m (WsBad c) = not (m.c == c) || is_asked_upgraded m
fits_flags m (NoRoom c) = not (m.c == c) || is_live m
fits_flags m Stop = not m.stopped
fits_flags m _ = true
