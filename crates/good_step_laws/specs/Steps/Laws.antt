-- A step of one connection is good by the model.
use Rattle.std.specs.Prelude.{ℕ, ◌≡◌, true, List, [], ◌∷◌, ◌++◌, Option}
use Rattle.host_trace.specs.declared.items.Event.{Event}
use Rattle.host_trace.specs.declared.items.Item.{Item}
use Rattle.host_trace.specs.declared.items.Item.TheVariants.{In}
use Rattle.host_trace.specs.Projections.{children, last_secs}
use Rattle.host_trace.specs.Trace.{after_step, step_of}
use Rattle.own_traces.specs.OwnFits.{fits_own}
use Rattle.own_traces.specs.Whose.{are_of, next_after}
use Rattle.trace_model.specs.Exchange.{Exchange}
use Rattle.trace_model.specs.Good.{StepGood}
use Rattle.trace_model.specs.Legs.{Leg as Started}
use Rattle.conn_flags.specs.View.{noted}
use Rattle.conn_flags.specs.Form.{are_given}
use Rattle.conn_laws.specs.Moves.{Move, acts_of}
use Rattle.http_conn.specs.HttpConn.{HttpConn}
use Rattle.http_conn.specs.Hears.{Hears}
use Rattle.http_conn.specs.Kept.{flags_of, number_of, site_of}
use Rattle.http_conn.specs.Parts.{Steps}
use Rattle.http_stage_laws.specs.HeardStages.{AtRest}

-- All rules of the model on the connection hold of the step by its event and the acts of these moves, and the connection
-- is at rest again.
pub record IsGoodStep (old new : HttpConn) (L : List Item) (ev : Event) (n : ℕ) (moves : List Move) : Type 0 where
  pub good : StepGood (site_of old) (number_of old) (step_of L ev (acts_of moves))
  pub exchange : Exchange
  pub legs : List Started
  pub rests : AtRest new (after_step L ev (acts_of moves)) exchange legs (next_after n (acts_of moves))

-- So it is of a connection at rest, whatever event comes that fits, where its acts are of the connection and its child
-- alone, each of them allowed when it is given, as of what the clock showed at the last Tick.
abbrev pub StepsAreGood : Type 0
StepsAreGood = (old mid new : HttpConn) (L : List Item) (e : Exchange) (legs : List Started) (ev : Event) (stamp : Option ℕ) (n : ℕ) (moves : List Move) → AtRest old L e legs n
    → fits_own (site_of old).limits.children L ev ≡ true → stamp ≡ last_secs (L ++ In ev ∷ []) → Hears old ev mid → Steps stamp mid n moves new
    → are_given (noted (flags_of old) (In ev)) (acts_of moves) ≡ true → are_of (number_of old) (children L (number_of old)) n (acts_of moves) ≡ true
    → IsGoodStep old new L ev n moves
