-- How a connection comes to speak WebSocket, once the accept text of its handshake is written.
use Rattle.std.specs.Prelude.{ℕ, ◌≡◌, ◌<◌, ◌^◌, ◌-◌, ◌+◌, Bool, true, false, List, [], ◌∷◌, ◌++◌, Option, Some, None, drop}
use Rattle.host_base.specs.declared.launch.Launch.{Launch}
use Rattle.host_base.specs.declared.site.ScriptKind.TheVariants.{WebSocket}
use Rattle.host_trace.specs.declared.items.Act.{Act}
use Rattle.host_trace.specs.declared.items.Act.TheVariants.{Shut as Shuts, Start, Upgrade}
use Rattle.host_trace.specs.declared.items.Event.{Event}
use Rattle.host_trace.specs.declared.items.Item.{Item}
use Rattle.host_trace.specs.declared.items.Item.TheVariants.{Out}
use Rattle.host_trace.specs.declared.items.Why.TheVariants.{NoMemory}
use Rattle.host_trace.specs.Told.{Adds}
use Rattle.request_reader.specs.Request.{used_by}
use Rattle.child_core.specs.declared.ending.Ending.TheVariants.{Dropped}
use Rattle.child_core.specs.View.{begun as run_begun}
use Rattle.conn_flags.specs.View.{noted}
use Rattle.conn_flags.specs.Form.{given_all}
use Rattle.talk_core.specs.View.{begun as talk_begun}
use Rattle.talk_conn.specs.declared.conn.TalkConn.{TalkConn}
use Rattle.talk_conn.specs.View.{flags_of as talk_flags, run_of as talk_run, site_of as talk_site, talk_of, was_lost}
use Rattle.exchange_request.specs.Knows.{KnowsRequest, is_taken, reading_of}
use Rattle.http_state.specs.declared.conn.HttpConn.{HttpConn}
use Rattle.http_conn.specs.declared.conn.Onward.{Onward}
use Rattle.http_conn.specs.declared.conn.Onward.TheVariants.{Http, Talk, Shut}
use Rattle.http_state.specs.Kept.{flags_of, number_of, site_of}
use Rattle.http_state.specs.Moves.{ended_run}
use Rattle.http_conn.specs.Step.{Stepped, SteppedBy}
use Rattle.http_conn.specs.Welcomes.{Greets}

-- what the client sent behind the request, where that was read to its end
abbrev pub IsRestOf : HttpConn → List ℕ → Type 0
IsRestOf conn rest = (bytes : List ℕ) (taken : ℕ) → KnowsRequest conn.request bytes taken → is_taken conn.request ≡ true
    → rest ≡ drop (used_by (reading_of conn.request bytes)) bytes

-- ---- each act, where there was room for it or not

abbrev pub acts_upgraded : ℕ → List ℕ → Bool → List Act
acts_upgraded c rest true = Upgrade c rest ∷ []
acts_upgraded c rest false = []

abbrev pub upgraded_by : List ℕ → Bool → HttpConn → HttpConn
upgraded_by rest true conn = record conn { flags = noted conn.flags (Out (Upgrade conn.flags.c rest)) }
upgraded_by rest false conn = conn

-- ---- together

-- The Upgrade with what came behind the handshake, and the Start of the program: the talk begins.
pub record Opens (launch : Launch) (old : HttpConn) (n : ℕ) (before : Option (List Item)) (talk : TalkConn) (m : ℕ) (after : Option (List Item)) : Type 0 where
  pub rest : List ℕ
  pub rest_is : IsRestOf old rest
  pub told : Adds before (Upgrade (number_of old) rest ∷ Start n (number_of old) old.number 0 launch ∷ []) after
  pub counted : old.number < 2 ^ 128 - 1
  pub next : m ≡ n + 1
  pub site : talk_site talk ≡ site_of old
  pub flags : talk_flags talk ≡ noted (flags_of old) (Out (Upgrade (number_of old) rest))
  pub talk_is : talk_of talk ≡ talk_begun (number_of old) n (site_of old).limits.ws_text
  pub run : talk_run talk ≡ run_begun n WebSocket (site_of old).limits
  pub found : was_lost talk ≡ false

-- the connection is shut for want of memory, given up as it was
abbrev pub missed : List Act → HttpConn → HttpConn
missed acts conn = record conn {
  flags = noted (given_all conn.flags acts) (Out (Shuts conn.flags.c NoMemory));
  lost = true;
  run = ended_run Dropped (ended_run Dropped conn.run);
}

-- Memory ran out for one of the two.
pub record Misses (old : HttpConn) (n : ℕ) (before : Option (List Item)) (new : HttpConn) (m : ℕ) (after : Option (List Item)) : Type 0 where
  pub rest : List ℕ
  pub upgraded : Bool
  pub rest_is : upgraded ≡ true → IsRestOf old rest
  pub told : Adds before (acts_upgraded (number_of old) rest upgraded ++ Shuts (number_of old) NoMemory ∷ []) after
  pub next : m ≡ n
  pub is : new ≡ missed (acts_upgraded (number_of old) rest upgraded) old

abbrev pub OpensOr : Option TalkConn → Launch → HttpConn → ℕ → Option (List Item) → HttpConn → ℕ → Option (List Item) → Type 0
OpensOr (Some talk) launch old n before new m after = Opens launch old n before talk m after
OpensOr None launch old n before new m after = Misses old n before new m after

-- ---- a step

-- First the event was heard, and all was done up to the accept text of a handshake; then the talk began.
pub record Opened (old : HttpConn) (ev : Event) (stamp : Option ℕ) (n : ℕ) (before : Option (List Item)) (talk : TalkConn) (m : ℕ) (after : Option (List Item)) : Type 0 where
  pub launch : Launch
  pub conn : HttpConn
  pub k : ℕ
  pub then_told : Option (List Item)
  pub greets : SteppedBy (Greets launch stamp) old ev n before conn k then_told
  pub opens : Opens launch conn k then_told talk m after

-- .. or memory ran out for that
pub record Missed (old : HttpConn) (ev : Event) (stamp : Option ℕ) (n : ℕ) (before : Option (List Item)) (new : HttpConn) (m : ℕ) (after : Option (List Item)) : Type 0 where
  pub launch : Launch
  pub conn : HttpConn
  pub k : ℕ
  pub then_told : Option (List Item)
  pub greets : SteppedBy (Greets launch stamp) old ev n before conn k then_told
  pub misses : Misses conn k then_told new m after

-- A connection speaks HTTP or WebSocket from the step on, or is over.
abbrev pub StepsTo : Onward → HttpConn → Event → Option ℕ → ℕ → Option (List Item) → HttpConn → ℕ → Option (List Item) → Type 0
StepsTo Http old ev stamp n before new m after = Stepped old ev stamp n before new m after
StepsTo (Talk talk) old ev stamp n before new m after = Opened old ev stamp n before talk m after
StepsTo Shut old ev stamp n before new m after = Missed old ev stamp n before new m after
