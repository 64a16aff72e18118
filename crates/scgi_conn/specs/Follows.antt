-- What the flags of a connection know of its items after a step.
use Rattle.std.specs.Prelude.{ℕ, ◌≡◌, true, List}
use Rattle.host_trace.specs.declared.items.Act.{Act}
use Rattle.host_trace.specs.declared.items.Event.{Event}
use Rattle.host_trace.specs.declared.items.Item.{Item}
use Rattle.host_trace.specs.Trace.{after_step}
use Rattle.own_traces.specs.OwnFits.{fits_own}
use Rattle.conn_flags.specs.Knows.{KnowsFlags}
use Rattle.scgi_conn.specs.declared.conn.ScgiConn.{ScgiConn}
use Rattle.scgi_conn.specs.Step.{Steps}
use Rattle.scgi_conn.specs.View.{flags_of}

-- What they know of its items they know of those with the step's, where its event may come next.
abbrev pub FlagsFollow : Type 0
FlagsFollow = (old new : ScgiConn) (ev : Event) (n m : ℕ) (acts : List Act) (limit : ℕ) (L : List Item) → Steps old ev n acts new m
    → KnowsFlags (flags_of old) L → fits_own limit L ev ≡ true → KnowsFlags (flags_of new) (after_step L ev acts)
