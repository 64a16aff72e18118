-- What no step changes of a connection, and whose its acts are.
use Rattle.std.specs.Prelude.{ℕ, ◌≡◌, true, List, Option, Some, None}
use Rattle.host_trace.specs.declared.items.Act.{Act}
use Rattle.host_trace.specs.declared.items.Event.{Event}
use Rattle.own_traces.specs.Whose.{are_of, has, kids_after, next_after}
use Rattle.trace_child.specs.Words.{given}
use Rattle.trace_model.specs.Between.{turns_away}
use Rattle.scgi_conn.specs.declared.conn.ScgiConn.{ScgiConn}
use Rattle.scgi_conn.specs.Slot.{last_child_of}
use Rattle.scgi_conn.specs.Step.{Steps}
use Rattle.scgi_conn.specs.View.{number_of, site_of}

-- the child, where there is one, is one of these
abbrev pub IsWithin : Option ℕ → List ℕ → Type 0
IsWithin None ks = Unit {0}
IsWithin (Some k) ks = has ks k ≡ true

-- The acts of a step are of the connection and its child alone, which was one of these; and so is its child afterwards.
pub record AreOwn (old new : ScgiConn) (n : ℕ) (ks : List ℕ) (acts : List Act) : Type 0 where
  pub are : are_of (number_of old) ks n acts ≡ true
  pub child : IsWithin (last_child_of new) (kids_after ks (number_of old) acts)

-- It stays the same connection of the same site; the numbers of its children rise by one for each Start; it turns nobody
-- away; and its acts are its own.
pub record Keeps (old new : ScgiConn) (n m : ℕ) (acts : List Act) : Type 0 where
  pub site : site_of new ≡ site_of old
  pub number : number_of new ≡ number_of old
  pub next : m ≡ next_after n acts
  pub stays : (c : ℕ) → given (turns_away c) acts ≡ 0
  pub its : (ks : List ℕ) → IsWithin (last_child_of old) ks → AreOwn old new n ks acts

abbrev pub StepsKeep : Type 0
StepsKeep = (old new : ScgiConn) (ev : Event) (n m : ℕ) (acts : List Act) → Steps old ev n acts new m → Keeps old new n m acts
