-- What a step does.
use Rattle.std.specs.Prelude.{ℕ, true, ◌≡◌, ◌≤◌, List, Option, ◌++◌}
use Rattle.host_trace.specs.declared.items.Act.{Act}
use Rattle.host_trace.specs.declared.items.Event.{Event}
use Rattle.host_trace.specs.declared.items.Item.{Item}
use Rattle.host_trace.specs.declared.items.Item.TheVariants.{In}
use Rattle.host_trace.specs.Told.{Adds}
use Rattle.own_traces.specs.Whose.{next_after}
use Rattle.conn_flags.specs.View.{noted}
use Rattle.conn_flags.specs.Form.{given_all, are_given}
use Rattle.trace_model.specs.Exchange.{Exchange, pushed}
use Rattle.conn_laws.specs.FrontLaws.{peer_after}
use Rattle.conn_laws.specs.Moves.{Move, acts_of}
use Rattle.http_state.specs.declared.conn.HttpConn.{HttpConn}
use Rattle.http_state.specs.Hears.{Hears}
use Rattle.http_state.specs.Kept.{AreOwn, HasChildIn, Heard, Led, StandsFor, is_settled_as, flags_of, number_of, peer_of, site_of}
use Rattle.http_state.specs.Deeds.{Deed}
use Rattle.http_conn.specs.Parts.{Steps}
use Rattle.http_state.specs.Slot.{run_settled}

-- First the event was heard, and then this was done: acts of the connection and its child alone, as with the parts of a
-- step.
pub record SteppedBy (Does : Deed) (old : HttpConn) (ev : Event) (n : ℕ) (before : Option (List Item)) (new : HttpConn) (m : ℕ) (after : Option (List Item)) : Type 0 where
  pub acts : List Act
  pub told : Adds before acts after
  pub next : m ≡ next_after n acts
  pub site : site_of new ≡ site_of old
  pub peer_is : peer_of new ≡ peer_after (peer_of old) ev
  pub form : are_given (noted (flags_of old) (In ev)) acts ≡ true
  pub flags : flags_of new ≡ given_all (noted (flags_of old) (In ev)) acts
  pub own : (ks : List ℕ) → HasChildIn old ks → AreOwn (number_of old) n ks acts new
  pub mid : HttpConn
  pub heard : Heard old ev mid
  pub exact : Hears old ev mid
  pub later : List Move
  pub does : Does mid n later new
  pub moves : List Move
  pub are : moves ≡ heard.moves ++ later
  pub same : acts_of moves ≡ acts
  pub keeps : (e : Exchange) → 2 ≤ (site_of old).limits.head → run_settled old.run ≡ is_settled_as old e → StandsFor old e
      → Led (site_of old) (number_of old) new (pushed e (In ev)) moves

-- .. all that was due, as of a time stamp
abbrev pub Stepped : HttpConn → Event → Option ℕ → ℕ → Option (List Item) → HttpConn → ℕ → Option (List Item) → Type 0
Stepped old ev stamp n before new m after = SteppedBy (Steps stamp) old ev n before new m after
