-- Whether an event may come next after a trace.
use Rattle.std.specs.Prelude.{ℕ, Bool, not, ◌&&◌, ◌+◌, ◌==◌, nat_lt, nat_le, List, length}
use Rattle.host_trace.specs.declared.items.Event.{Event}
use Rattle.host_trace.specs.declared.items.Event.TheVariants.{Accepted, ClientBytes, ClientEof, ClientGone, Wrote, Started, StartFailed, StartFull, ChildBytes, ChildEof, ChildBroken, Took, InputGone, Exited, WsText, WsBinary, WsClosed, WsBad, NoRoom, Tick, Stop}
use Rattle.host_trace.specs.declared.items.Item.{Item}
use Rattle.host_trace.specs.Projections.{stopped, shut, upgraded, is_known, client_wanted, child_wanted, start_stands, start_answered, started, exited, input_ended, output_ended, sent_of_phase, left_of_phase, child_in, took_sum}

-- a piece of bytes: 1 to 65,536
abbrev pub is_piece : List ℕ → Bool
is_piece bytes = nat_lt 0 (length bytes) && nat_le (length bytes) 65536

-- Unix seconds before the year 10,000, the last that a date of RFC 9110 5.6.7 can name
abbrev pub is_clock : ℕ → Bool
is_clock secs = nat_lt secs 253402300800

-- c was accepted and is not shut
abbrev pub is_open : List Item → ℕ → Bool
is_open T c = is_known T c && not (shut T c)

-- the client was asked and has not answered, before Upgrade and after it
abbrev pub is_asked : List Item → ℕ → Bool
is_asked T c = not (shut T c) && not (upgraded T c) && client_wanted T c

abbrev pub is_asked_upgraded : List Item → ℕ → Bool
is_asked_upgraded T c = not (shut T c) && upgraded T c && client_wanted T c

-- n bytes more left for the client than before, of those written or said in this phase
abbrev pub may_leave : List Item → ℕ → ℕ → Bool
may_leave T c n = not (shut T c) && nat_le 1 n && nat_le (left_of_phase T c + n) (sent_of_phase T c)

-- Start k stands and was not answered
abbrev pub is_start_open : List Item → ℕ → Bool
is_start_open T k = start_stands T k && not (start_answered T k)

-- k's output was asked for and has not ended
abbrev pub is_output_asked : List Item → ℕ → Bool
is_output_asked T k = started T k && not (output_ended T k) && child_wanted T k

-- n bytes more were taken by k's input pipe, of those fed
abbrev pub may_take : List Item → ℕ → ℕ → Bool
may_take T k n = started T k && nat_le 1 n && nat_le (took_sum T k + n) (length (child_in T k))

-- the event may come next, where as many children as `limit` may run
abbrev pub fits : ℕ → List Item → Event → Bool
fits limit T (Accepted peer) = not (stopped T)
fits limit T (ClientBytes c bytes) = is_asked T c && is_piece bytes
fits limit T (ClientEof c) = is_asked T c
fits limit T (ClientGone c) = is_open T c
fits limit T (Wrote c n) = may_leave T c n
fits limit T (Started k) = is_start_open T k
fits limit T (StartFailed k) = is_start_open T k
fits limit T (StartFull k seen) = is_start_open T k && seen == limit
fits limit T (ChildBytes k bytes) = is_output_asked T k && is_piece bytes
fits limit T (ChildEof k) = is_output_asked T k
fits limit T (ChildBroken k) = is_output_asked T k
fits limit T (Took k n) = may_take T k n
fits limit T (InputGone k) = started T k && not (input_ended T k)
fits limit T (Exited k) = started T k && not (exited T k)
fits limit T (WsText c bytes) = is_asked_upgraded T c
fits limit T (WsBinary c) = is_asked_upgraded T c
fits limit T (WsClosed c) = is_asked_upgraded T c
fits limit T (WsBad c) = is_asked_upgraded T c
fits limit T (NoRoom c) = is_open T c
fits limit T (Tick secs) = is_clock secs
fits limit T Stop = not (stopped T)
