-- What a step of a connection does.
use Rattle.std.specs.Prelude.{ℕ, Bool, true, false, ◌≡◌, List, ◌++◌, Option}
use Rattle.host_trace.specs.declared.items.Act.{Act}
use Rattle.host_trace.specs.declared.items.Event.{Event}
use Rattle.host_trace.specs.declared.items.Item.{Item}
use Rattle.host_trace.specs.Told.{Adds}
use Rattle.scgi_conn.specs.declared.conn.ScgiConn.{ScgiConn}
use Rattle.scgi_conn.specs.Parts.{acted_conn, acts_acted, acts_asked, acts_begun, acts_shut, acts_written, asked_conn, begun_conn, heard_conn, is_ask_due, is_run_fed, is_written, next_begun, run_kept, settled_conn, shut_conn, told_conn, why_of, written_conn}

-- The event was told to the child, then heard as a piece of the request or its end; an answer that is decided was made and
-- written; then what was due for the child was given, or its Start; and the connection was shut, or its client asked. Memory
-- might be wanting for each of the first six.
pub record Steps (old : ScgiConn) (ev : Event) (n : ℕ) (acts : List Act) (new : ScgiConn) (m : ℕ) : Type 0 where
  pub room : Bool
  pub heard : Bool
  pub settled : Bool
  pub written : Bool
  pub fed : Bool
  pub begun : Bool
  pub first : ScgiConn
  pub first_is : first ≡ told_conn room ev old
  pub second : ScgiConn
  pub second_is : second ≡ heard_conn heard ev first
  pub third : ScgiConn
  pub third_is : third ≡ settled_conn settled second
  pub fourth : ScgiConn
  pub fourth_is : fourth ≡ written_conn written third
  pub fifth : ScgiConn
  pub fifth_is : fifth ≡ acted_conn fed fourth
  pub sixth : ScgiConn
  pub sixth_is : sixth ≡ begun_conn begun n fifth
  pub last : ScgiConn
  pub last_is : last ≡ shut_conn (why_of sixth) sixth
  pub is : new ≡ asked_conn (is_ask_due last) last
  pub next : m ≡ next_begun begun fifth n
  pub acts_are : acts ≡ (acts_written written third ++ (acts_acted fed fourth ++ acts_begun begun n fifth)) ++ (acts_shut sixth.flags.c (why_of sixth) ++ acts_asked last.flags.c (is_ask_due last))
  pub memory : room ≡ false → run_kept old.run ev ≡ true
  pub unwritten : written ≡ false → is_written third.stage ≡ true
  pub unfed : fed ≡ false → is_run_fed fourth.run ≡ true

-- .. and its acts were given
pub record Stepped (old : ScgiConn) (ev : Event) (n : ℕ) (before : Option (List Item)) (new : ScgiConn) (m : ℕ) (after : Option (List Item)) : Type 0 where
  pub acts : List Act
  pub told : Adds before acts after
  pub does : Steps old ev n acts new m
