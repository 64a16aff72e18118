-- What a step of a connection that speaks WebSocket does.
use Rattle.std.specs.Prelude.{ℕ, Bool, true, false, ◌≡◌, ◌||◌, List, ◌++◌, Option}
use Rattle.host_trace.specs.declared.items.Act.{Act}
use Rattle.host_trace.specs.declared.items.Event.{Event}
use Rattle.host_trace.specs.declared.items.Item.{Item}
use Rattle.host_trace.specs.declared.items.Item.TheVariants.{In}
use Rattle.host_trace.specs.Kinds.{is_no_room}
use Rattle.host_trace.specs.Told.{Adds}
use Rattle.child_core.specs.Due.{is_feed_due}
use Rattle.trace_child.specs.Words.{is_filled}
use Rattle.talk_core.specs.Hearing.{takes_memory}
use Rattle.talk_conn.specs.declared.conn.TalkConn.{TalkConn}
use Rattle.talk_conn.specs.Parts.{acted_conn, acts_acted, acts_asked, acts_said, acts_shut, asked_conn, heard_conn, is_ask_due, said_conn, shut_conn, why_of}

-- The event was heard, then the messages and the close frame given, then what was due for the child; and the connection
-- was shut, or its client asked. Memory might be wanting for each of the first three.
pub record Steps (old : TalkConn) (ev : Event) (acts : List Act) (new : TalkConn) : Type 0 where
  pub heard : Bool
  pub said : Bool
  pub fed : Bool
  pub first : TalkConn
  pub first_is : first ≡ heard_conn heard ev old
  pub second : TalkConn
  pub second_is : second ≡ said_conn said first
  pub third : TalkConn
  pub third_is : third ≡ acted_conn fed second
  pub last : TalkConn
  pub last_is : last ≡ shut_conn (why_of third) third
  pub is : new ≡ asked_conn (is_ask_due last) last
  pub acts_are : acts ≡ (acts_said said first ++ acts_acted fed second) ++ (acts_shut third.flags.c (why_of third) ++ acts_asked last.flags.c (is_ask_due last))
  pub memory : heard ≡ false → (takes_memory old.talk ev || is_no_room old.flags.c (In ev)) ≡ true
  pub room : heard ≡ true → is_no_room old.flags.c (In ev) ≡ false
  pub said_memory : said ≡ false → is_filled first.talk.texts ≡ true
  pub fed_memory : fed ≡ false → is_feed_due second.run ≡ true

-- .. and its acts were given
pub record Stepped (old : TalkConn) (ev : Event) (before : Option (List Item)) (new : TalkConn) (after : Option (List Item)) : Type 0 where
  pub acts : List Act
  pub told : Adds before acts after
  pub does : Steps old ev acts new
