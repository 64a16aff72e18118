-- What the parts of a step make of a connection, where that is told by its fields alone.
use Rattle.std.specs.Prelude.{ℕ, zero, ◌++◌, Bool, true, false, not, ◌≡◌, ◌≤◌, ◌||◌, ◌&&◌, List, Option, Some, None, is_some}
use Rattle.child_core.specs.declared.ending.Ending.{Ending}
use Rattle.child_core.specs.declared.ending.Ending.TheVariants.{Dropped}
use Rattle.child_core.specs.Calls.{ended}
use Rattle.child_core.specs.View.{View}
use Rattle.request_reader.specs.Request.{is_begun}
use Rattle.exchange_request.specs.Knows.{KnowsRequest, is_ready, limits_of}
use Rattle.exchange_stage.specs.declared.stage.Stage.{Stage}
use Rattle.exchange_stage.specs.declared.stage.Stage.TheVariants.{Running, Unstarted}
use Rattle.conn_laws.specs.Front.{Front}
use Rattle.http_state.specs.declared.conn.HttpConn.{HttpConn}
use Rattle.http_state.specs.Kept.{HasChildIn, front_of, is_reading, flags_of, peer_of, site_of}

-- its child, where it has one, is ended
abbrev pub ended_run : Ending → Option View → Option View
ended_run ending None = None
ended_run ending (Some v) = Some (ended v ending)

-- memory ran out: its child is given up
abbrev pub losing : HttpConn → HttpConn
losing conn = record conn { lost = true; run = ended_run Dropped conn.run }

-- it was shut, for want of memory or not
abbrev pub given_up_by : Bool → Option View → Option View
given_up_by true run = ended_run Dropped run
given_up_by false run = run

-- ---- events

-- the reply of the leg is to be told of a Tick
abbrev pub ticked_stage : Stage → Stage
ticked_stage (Running leg) = Running (record leg { ticked = true })
ticked_stage stage = stage

-- a script that waits for its turn is to have more of the body
abbrev pub grown_stage : List ℕ → Stage → Stage
grown_stage body (Unstarted zero request) = Unstarted zero (record request { body = request.body ++ body })
grown_stage body stage = stage

-- nothing changes but these two fields of the front, the stage and the child, which it still has
pub record Stays (old new : HttpConn) (was now : Front) : Type 0 where
  pub site : site_of new ≡ site_of old
  pub flags : flags_of new ≡ flags_of old
  pub peer_is : peer_of new ≡ peer_of old
  pub child : (ks : List ℕ) → HasChildIn old ks → HasChildIn new ks
  pub lost : old.lost ≡ true → new.lost ≡ true
  pub reading : is_reading old.stage ≡ false → is_reading new.stage ≡ false
  pub front : was ≡ now

-- but for this of the request
abbrev pub with_request : HttpConn → HttpConn → Front
with_request conn other = record (front_of conn) { request = other.request }

-- what came of the body of the request was taken up, unless memory ran out
pub record OnlyBody (old new : HttpConn) : Type 0 where
  pub stays : Stays old new (with_request old new) (front_of new)
  pub limits : limits_of new.request ≡ limits_of old.request
  pub ready : is_ready new.request ≡ is_ready old.request
  pub knows : (bytes : List ℕ) (taken : ℕ) → KnowsRequest old.request bytes taken → (new.lost ≡ false → (taken' : ℕ) × KnowsRequest new.request bytes taken')

abbrev pub with_idled : HttpConn → HttpConn → Front
with_idled conn other = record (front_of conn) { idled = other.idled }

-- the idle time is over: the request is broken, or the connection idled out
pub record IdlesOut (old new : HttpConn) : Type 0 where
  pub stays : Stays old new (with_idled old new) (front_of new)
  pub idled : (bytes : List ℕ) (taken : ℕ) → 2 ≤ (limits_of old.request).head → KnowsRequest old.request bytes taken
      → new.idled ≡ (old.idled || (is_some old.peer && not (is_begun bytes)))
