-- Which rules on the acts of a step are kept behind an event, beside those of http_step_laws.
use Rattle.std.specs.Prelude.{ℕ, ◌≡◌, ◌≤◌, true, List, [], ◌∷◌, ◌++◌, Option}
use Rattle.host_trace.specs.declared.items.Event.{Event}
use Rattle.host_trace.specs.declared.items.Item.{Item}
use Rattle.host_trace.specs.declared.items.Item.TheVariants.{In}
use Rattle.host_trace.specs.Projections.{last_secs}
use Rattle.host_trace.specs.Trace.{step_of}
use Rattle.trace_model.specs.Exchange.{Exchange}
use Rattle.trace_model.specs.Form.{order}
use Rattle.trace_model.specs.Wants.{wants}
use Rattle.conn_flags.specs.Form.{are_given}
use Rattle.child_laws.specs.Step.{waiting}
use Rattle.conn_laws.specs.Moves.{Move, acts_of}
use Rattle.http_conn.specs.HttpConn.{HttpConn}
use Rattle.http_conn.specs.Kept.{flags_of, number_of, site_of}
use Rattle.http_conn.specs.Parts.{Steps}
use Rattle.http_step_laws.specs.Standing.{Apt, Standing}

-- The acts of a step come in the order of their places.
abbrev pub StepsAreOrdered : Type 0
StepsAreOrdered = (L : List Item) (ev : Event) (e : Exchange) (old new : HttpConn) (n : ℕ) (moves : List Move) (stamp : Option ℕ) → Standing L ev [] waiting n e old
    → 2 ≤ (site_of old).limits.head → stamp ≡ last_secs (L ++ In ev ∷ []) → Apt e old → Steps stamp old n moves new → are_given (flags_of old) (acts_of moves) ≡ true
    → order (site_of old) (number_of old) (step_of L ev (acts_of moves)) ≡ true

-- The client is asked in it where it must be heard by its end, and no question was unanswered; and nowhere else.
abbrev pub StepsAsk : Type 0
StepsAsk = (L : List Item) (ev : Event) (e : Exchange) (old new : HttpConn) (n : ℕ) (moves : List Move) (stamp : Option ℕ) → Standing L ev [] waiting n e old
    → 2 ≤ (site_of old).limits.head → stamp ≡ last_secs (L ++ In ev ∷ []) → Apt e old → Steps stamp old n moves new → are_given (flags_of old) (acts_of moves) ≡ true
    → wants (site_of old) (number_of old) (step_of L ev (acts_of moves)) ≡ true
