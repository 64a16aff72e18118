-- What is counted of the connections beside a trace.
use Rattle.std.specs.Prelude.{ℕ, Bool, false, not, ◌||◌, ◌&&◌, ◌+◌, ◌^◌, nat_lt, nat_le, List, length, count_by, if◌then◌else◌}
use Rattle.host_trace.specs.declared.items.Event.{Event}
use Rattle.host_trace.specs.declared.items.Act.{Act}
use Rattle.host_trace.specs.declared.items.Item.{Item}
use Rattle.host_trace.specs.declared.items.Item.TheVariants.{In, Out}
use Rattle.host_trace.specs.Kinds.{is_client_answer, is_want_client, is_shut, is_upgrade, bytes_written, count_wrote}
use Rattle.host_trace.specs.Projections.{shut, upgraded, sent_of_phase, left_of_phase}
use Rattle.trace_tallies.specs.Sums.{texts_len}
use Rattle.trace_tallies.specs.declared.client_tally.ClientTally.{ClientTally}

-- the tally of connection c
abbrev pub client_tally : List Item → ℕ → ClientTally
client_tally T c = record {
  wants = count_by (is_want_client c) T;
  answers = count_by (is_client_answer c) T;
  sent = sent_of_phase T c;
  left = left_of_phase T c;
  is_shut = shut T c;
  is_upgraded = upgraded T c;
}

abbrev pub no_client : ClientTally
no_client = record { wants = 0; answers = 0; sent = 0; left = 0; is_shut = false; is_upgraded = false }

-- ---- one item more

-- an Upgrade begins a phase in which nothing was said and nothing left
abbrev pub sent_with : ℕ → Item → ClientTally → ℕ
sent_with c x tally =
    if tally.is_upgraded then tally.sent + texts_len c x else (if is_upgrade c x then 0 else tally.sent + length (bytes_written c x))

abbrev pub left_with : ℕ → Item → ClientTally → ℕ
left_with c x tally =
    if tally.is_upgraded then tally.left + count_wrote c x else (if is_upgrade c x then 0 else tally.left + count_wrote c x)

-- the tally with one item more
abbrev pub client_with : ℕ → Item → ClientTally → ClientTally
client_with c x tally = record {
  wants = tally.wants + (if is_want_client c x then 1 else 0);
  answers = tally.answers + (if is_client_answer c x then 1 else 0);
  sent = sent_with c x tally;
  left = left_with c x tally;
  is_shut = tally.is_shut || is_shut c x;
  is_upgraded = tally.is_upgraded || is_upgrade c x;
}

-- .. where it is an event
abbrev pub client_heard : ℕ → Event → ClientTally → ClientTally
client_heard c event tally = record {
  wants = tally.wants;
  answers = tally.answers + (if is_client_answer c (In event) then 1 else 0);
  sent = tally.sent;
  left = tally.left + count_wrote c (In event);
  is_shut = tally.is_shut;
  is_upgraded = tally.is_upgraded;
}

-- .. where it is an act
abbrev pub left_asked : ℕ → Act → ClientTally → ℕ
left_asked c act tally = if tally.is_upgraded then tally.left else (if is_upgrade c (Out act) then 0 else tally.left)

abbrev pub client_asked : ℕ → Act → ClientTally → ClientTally
client_asked c act tally = record {
  wants = tally.wants + (if is_want_client c (Out act) then 1 else 0);
  answers = tally.answers;
  sent = sent_with c (Out act) tally;
  left = left_asked c act tally;
  is_shut = tally.is_shut || is_shut c (Out act);
  is_upgraded = tally.is_upgraded || is_upgrade c (Out act);
}

-- its numbers are those of a tally
abbrev pub holds_client : ClientTally → Bool
holds_client tally = nat_lt tally.wants (2 ^ 64) && (nat_lt tally.answers (2 ^ 64) && (nat_lt tally.sent (2 ^ 128) && nat_lt tally.left (2 ^ 128)))

-- ---- what a tally lets come next

-- the client was asked and has not answered, before Upgrade and after it
abbrev pub asks : ClientTally → Bool
asks tally = not tally.is_shut && not tally.is_upgraded && nat_lt tally.answers tally.wants

abbrev pub asks_upgraded : ClientTally → Bool
asks_upgraded tally = not tally.is_shut && tally.is_upgraded && nat_lt tally.answers tally.wants

-- n bytes more can have left
abbrev pub leaves : ℕ → ClientTally → Bool
leaves n tally = not tally.is_shut && nat_le 1 n && nat_le (tally.left + n) tally.sent

abbrev pub stays_open : ClientTally → Bool
stays_open tally = not tally.is_shut
