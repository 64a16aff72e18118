-- Why a connection is shut, that after Stop it is, and when no memory runs out.
use Rattle.std.specs.Prelude.{ℕ, ◌≡◌, ◌≤◌, Bool, true, List, [], ◌∷◌, ◌++◌, Option, is_some}
use Rattle.host_trace.specs.declared.items.Event.{Event}
use Rattle.host_trace.specs.declared.items.Item.{Item}
use Rattle.host_trace.specs.declared.items.Item.TheVariants.{In}
use Rattle.host_trace.specs.Projections.{last_secs}
use Rattle.host_trace.specs.Trace.{step_of}
use Rattle.trace_model.specs.Breaks.{idled}
use Rattle.trace_model.specs.Exchange.{Exchange}
use Rattle.trace_model.specs.Shuts.{shuts}
use Rattle.trace_model.specs.Steps.{goes_on}
use Rattle.trace_model.specs.Stops.{stops}
use Rattle.trace_model.specs.TakesNoMemory.{takes_no_memory}
use Rattle.conn_flags.specs.Form.{are_given}
use Rattle.conn_flags.specs.View.{is_live}
use Rattle.child_laws.specs.Step.{waiting}
use Rattle.conn_laws.specs.Moves.{Move, acts_of}
use Rattle.http_conn.specs.HttpConn.{HttpConn}
use Rattle.http_conn.specs.Kept.{flags_of, number_of, site_of}
use Rattle.http_conn.specs.Parts.{Steps}
use Rattle.http_step_laws.specs.Standing.{Apt, Standing}
use Rattle.good_step_laws.specs.Shuts.Memory.{MemoryIsKnown}

-- At the end of a step after Stop the connection is shut.
abbrev pub StepsEndAtStop : Type 0
StepsEndAtStop = (L : List Item) (ev : Event) (e : Exchange) (old new : HttpConn) (n : ℕ) (moves : List Move) (stamp : Option ℕ) → Standing L ev [] waiting n e old
    → 2 ≤ (site_of old).limits.head → stamp ≡ last_secs (L ++ In ev ∷ []) → Apt e old → Steps stamp old n moves new → are_given (flags_of old) (acts_of moves) ≡ true
    → stops (number_of old) (goes_on (site_of old) (number_of old) (step_of L ev (acts_of moves))) ≡ true

-- An exchange after an answer that closes, on a connection that is not shut yet: what is held of its idle time is so.
abbrev pub IdleIsKnown : HttpConn → Exchange → Type 0
IdleIsKnown conn e = is_live (flags_of conn) ≡ true → e.closed ≡ true → conn.idled ≡ is_some (idled (site_of conn) (number_of conn) e)

-- A step shuts the connection once at most, and for the first of the reasons that there are at its end, or for want of
-- memory.
abbrev pub StepsShutDuly : Type 0
StepsShutDuly = (L : List Item) (ev : Event) (e : Exchange) (old new : HttpConn) (n : ℕ) (moves : List Move) (stamp : Option ℕ) → Standing L ev [] waiting n e old
    → 2 ≤ (site_of old).limits.head → stamp ≡ last_secs (L ++ In ev ∷ []) → Apt e old → Steps stamp old n moves new → are_given (flags_of old) (acts_of moves) ≡ true
    → IdleIsKnown old e → shuts (site_of old) (number_of old) (step_of L ev (acts_of moves)) ≡ true

-- No memory runs out in a step in which the model takes none.
abbrev pub StepsTakeNoMemory : Type 0
StepsTakeNoMemory = (L : List Item) (ev : Event) (e : Exchange) (old new : HttpConn) (n : ℕ) (moves : List Move) (stamp : Option ℕ) → (s : Standing L ev [] waiting n e old)
    → 2 ≤ (site_of old).limits.head → stamp ≡ last_secs (L ++ In ev ∷ []) → Apt e old → Steps stamp old n moves new → are_given (flags_of old) (acts_of moves) ≡ true
    → MemoryIsKnown ev e old s.over → takes_no_memory (site_of old) (number_of old) (step_of L ev (acts_of moves)) ≡ true
