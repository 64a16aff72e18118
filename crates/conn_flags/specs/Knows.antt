-- What the flags of a connection know of a list of items.
use Rattle.std.specs.Prelude.{ℕ, Bool, true, false, ◌||◌, ◌+◌, ◌≡◌, ◌≤◌, List, count_by, if◌then◌else◌}
use Rattle.std.specs.List.{list_any}
use Rattle.host_trace.specs.declared.items.Item.{Item}
use Rattle.host_trace.specs.Kinds.{is_accepted, is_client_gone, is_ws_bad, is_no_room, is_want_client, is_client_answer, is_client_eof, count_wrote}
use Rattle.host_trace.specs.Projections.{stopped, shut, upgraded, sent_of_phase, left_of_phase}
use Rattle.conn_flags.specs.View.{View}

abbrev pub one_if : Bool → ℕ
one_if b = if b then 1 else 0

-- the connection failed, or a frame of its WebSocket was refused
abbrev pub is_gone_by : ℕ → Item → Bool
is_gone_by c x = is_client_gone c x || is_ws_bad c x

pub record KnowsFlags (m : View) (L : List Item) : Type 0 where
  pub accepted : m.accepted ≡ list_any is_accepted L
  pub stopped : m.stopped ≡ stopped L
  pub gone : m.gone ≡ list_any (is_gone_by m.c) L
  pub shut : m.shut ≡ shut L m.c
  pub no_room : m.no_room ≡ list_any (is_no_room m.c) L
  pub asked : count_by (is_want_client m.c) L ≡ count_by (is_client_answer m.c) L + one_if m.asked
  pub ended : m.ended ≡ list_any (is_client_eof m.c) L
  pub upgraded : m.upgraded ≡ upgraded L m.c
  pub sent : m.shut ≡ false → sent_of_phase L m.c ≡ left_of_phase L m.c + m.pending

-- what may come next
pub record Admits (m : View) (x : Item) : Type 0 where
  pub asks : is_want_client m.c x ≡ true → m.asked ≡ false
  pub answers : is_client_answer m.c x ≡ true → m.asked ≡ true
  pub leaves : m.shut ≡ false → count_wrote m.c x ≤ m.pending
