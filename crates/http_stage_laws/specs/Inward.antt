-- What the fields of a connection say of one another.
use Rattle.std.specs.Prelude.{◌≡◌, Bool, true, false, ◌&&◌, ◌||◌, Option, Some, None, is_some}
use Rattle.host_base.specs.declared.cause.Cause.{Cause}
use Rattle.child_core.specs.declared.ending.Outcome.{Outcome}
use Rattle.child_core.specs.declared.ending.Outcome.TheVariants.{Dropped, Failed, Gone, Stopped}
use Rattle.child_core.specs.Calls.{is_settled}
use Rattle.child_core.specs.View.{View}
use Rattle.exchange_request.specs.Knows.{is_looked_at, is_taken}
use Rattle.exchange_stage.specs.declared.stage.Stage.{Stage}
use Rattle.exchange_stage.specs.declared.stage.Stage.TheVariants.{Running, Silent, Starting, Unstarted}
use Rattle.http_conn.specs.HttpConn.{HttpConn}
use Rattle.http_conn.specs.Kept.{is_reading, flags_of}
use Rattle.http_conn.specs.Ready.{outcome_of_run}
use Rattle.http_conn.specs.Settles.{is_answered}

abbrev pub IsDecided : Option View → Type 0
IsDecided None = Unit {0}
IsDecided (Some v) = is_some v.outcome ≡ true

-- the cause for which a reply that had begun can't be finished, by what decided its run
abbrev pub CutBy : Option Outcome → Option Cause → Type 0
CutBy (Some (Failed cause)) cut = cut ≡ Some cause
CutBy _ cut = cut ≡ None

abbrev pub CutIs : Stage → Option Outcome → Option Cause → Type 0
CutIs Silent outcome cut = CutBy outcome cut
CutIs _ outcome cut = cut ≡ None

-- its child is not settled, and no act settles it
abbrev pub StaysRun : Option View → Type 0
StaysRun None = Unit {0}
StaysRun (Some v) = (is_settled v ≡ false) × ((v.started && v.exited) ≡ false)

-- nobody waits for the answer of a run that came to this
abbrev pub is_left : Option Outcome → Bool
is_left (Some Gone) = true
is_left (Some Stopped) = true
is_left (Some Dropped) = true
is_left outcome = false

abbrev pub is_running : Stage → Bool
is_running (Running leg) = true
is_running stage = false

-- its request was not read to its end, and all that was heard was looked at while it is read
pub record IsWithin (conn : HttpConn) : Type 0 where
  pub untaken : is_taken conn.request ≡ false
  pub looked : is_reading conn.stage ≡ true → is_looked_at conn.request ≡ true

-- no script of the first hop is to be started, and the run of one that was is decided
abbrev pub IsPast : Stage → Option View → Type 0
IsPast (Unstarted hop request) run = hop ≡ 0 → ⊥
IsPast (Starting leg launch body whole) run = leg.hop ≡ 0 → ⊥
IsPast (Running leg) run = leg.hop ≡ 0 → IsDecided run
IsPast stage run = Unit {0}

pub record Inward (conn : HttpConn) : Type 0 where
  -- no request began within the idle time: its answer doesn't stand whole
  pub calm : conn.idled ≡ true → is_answered conn.stage ≡ false
  -- .. nor does a script run
  pub calm_found : conn.lost ≡ false → conn.idled ≡ true → is_running conn.stage ≡ false
  pub accepted : is_reading conn.stage ≡ false → (flags_of conn).accepted ≡ true
  pub http : (flags_of conn).upgraded ≡ false
  pub lost_in : conn.lost ≡ true → (flags_of conn).accepted ≡ true
  -- what its child, where it has one, came to is known unless its script runs
  pub decided : conn.lost ≡ false → is_running conn.stage ≡ false → IsDecided conn.run
  -- nobody waits for its answer only where the client is gone or the server is to end
  pub left : conn.lost ≡ false → is_left (outcome_of_run conn.run) ≡ true → ((flags_of conn).stopped || (flags_of conn).gone) ≡ true
  pub cut_is : conn.lost ≡ false → CutIs conn.stage (outcome_of_run conn.run) conn.cut
  -- once it is shut its child is decided
  pub held : (flags_of conn).shut ≡ true → IsDecided conn.run
  -- the server is to end, or the client is gone: no exchange whose answer stands whole ends before it is shut for that
  pub stays : conn.lost ≡ false → (flags_of conn).shut ≡ false → ((flags_of conn).stopped || (flags_of conn).gone) ≡ true → is_answered conn.stage ≡ true → StaysRun conn.run
  -- an answer that closes the connection stands whole
  pub closes_is : conn.closes ≡ true → is_answered conn.stage ≡ true
  pub room : conn.lost ≡ false → (flags_of conn).no_room ≡ false
  -- only a client that had not ended its input was asked, of a connection that was accepted
  pub asked : (flags_of conn).asked ≡ true → ((flags_of conn).accepted ≡ true) × ((flags_of conn).ended ≡ false)
  -- it is asked, and ends its input, only within a request, unless an earlier answer closes the connection
  pub within : conn.lost ≡ false → conn.closing ≡ false → ((flags_of conn).asked || (flags_of conn).ended) ≡ true → IsWithin conn
  -- .. and nothing more is begun of the request once it ended it
  pub past : conn.lost ≡ false → conn.closing ≡ false → (flags_of conn).shut ≡ false → (flags_of conn).ended ≡ true → IsPast conn.stage conn.run
