-- How far loops that are over have come.
use Rattle.edge_loop.specs.declared.leaving.Sending.{Sending}
use Rattle.edge_loop.specs.declared.leaving.Sending.TheVariants.{Done, Moving, Blocked}

-- how far two are: one that moves tells that more may be sent at once, and only where both are done nothing is unsent
abbrev pub both : Sending → Sending → Sending
both Moving _ = Moving
both Done other = other
both Blocked Moving = Moving
both Blocked Done = Blocked
both Blocked Blocked = Blocked
