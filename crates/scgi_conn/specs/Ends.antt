-- Why a connection is over.
use Rattle.host_trace.specs.declared.items.Why.{Why}
use Rattle.host_trace.specs.declared.items.Why.TheVariants as For
use Rattle.scgi_conn.specs.declared.stage.End.{End}
use Rattle.scgi_conn.specs.declared.stage.End.TheVariants.{Done, Idle, Gone, Stopped, NoMemory}

-- as the outside is told
abbrev pub why_for : End → Why
why_for Done = For.Done
why_for Idle = For.Idle
why_for Gone = For.Gone
why_for Stopped = For.Stopped
why_for NoMemory = For.NoMemory
