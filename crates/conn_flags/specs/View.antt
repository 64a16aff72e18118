-- What is known of a connection beside its exchanges, and what one more item makes of it.
use Rattle.std.specs.Prelude.{ℕ, zero, suc, Bool, false, not, ◌||◌, ◌&&◌, ◌+◌, ◌-◌, nat_le, List, length, sum_by, if◌then◌else◌}
use Rattle.host_trace.specs.declared.items.Item.{Item}
use Rattle.host_trace.specs.Kinds.{is_accepted, is_stop, is_client_gone, is_ws_bad, is_shut, is_no_room, is_want_client, is_client_answer, is_client_eof, is_upgrade, bytes_written, texts_said, count_wrote}

pub record View : Type 0 where
  pub c : ℕ
  pub accepted : Bool
  pub stopped : Bool
  pub gone : Bool
  pub shut : Bool
  pub no_room : Bool  -- no memory was found to hear it
  pub asked : Bool  -- its client was asked and has not answered
  pub ended : Bool  -- its client ended its input
  pub upgraded : Bool
  pub pending : ℕ  -- how many bytes were written, or after the upgrade said, and have not left

-- nothing was heard of it
abbrev pub fresh : ℕ → View
fresh c = record {
  c = c;
  accepted = false;
  stopped = false;
  gone = false;
  shut = false;
  no_room = false;
  asked = false;
  ended = false;
  upgraded = false;
  pending = 0;
}

-- ---- small words, each of which leaves the old value where nothing is added

abbrev pub more_by : ℕ → ℕ → ℕ
more_by zero n = n
more_by (suc m) n = n + suc m

abbrev pub less_by : ℕ → ℕ → ℕ
less_by zero n = n
less_by (suc m) n = n - suc m

-- how many bytes an item sends, by whether the connection speaks WebSocket
abbrev pub count_sent : Bool → ℕ → Item → ℕ
count_sent upgraded c x = if upgraded then sum_by length (texts_said c x) else length (bytes_written c x)

abbrev pub pending_after : View → Item → ℕ
pending_after m x =
    if is_upgrade m.c x && not m.upgraded then 0
    else less_by (count_wrote m.c x) (more_by (count_sent m.upgraded m.c x) m.pending)

-- ---- one more item of the list

abbrev pub noted : View → Item → View
noted m x = record m {
  accepted = is_accepted x || m.accepted;
  stopped = is_stop x || m.stopped;
  gone = (is_client_gone m.c x || is_ws_bad m.c x) || m.gone;
  shut = is_shut m.c x || m.shut;
  no_room = is_no_room m.c x || m.no_room;
  asked = is_want_client m.c x || not (is_client_answer m.c x) && m.asked;
  ended = is_client_eof m.c x || m.ended;
  upgraded = is_upgrade m.c x || m.upgraded;
  pending = pending_after m x;
}

-- ---- what they tell

-- it was accepted and is not shut
abbrev pub is_live : View → Bool
is_live m = m.accepted && not m.shut

-- .. and speaks HTTP
abbrev pub may_write : View → Bool
may_write m = is_live m && not m.upgraded

-- so many bytes more find a place among those that wait to be sent
abbrev pub has_place : View → ℕ → Bool
has_place m n = nat_le (m.pending + n) 344064

-- not too much waits to be sent
abbrev pub has_room : View → Bool
has_room m = m.shut || nat_le m.pending 262144
