-- What is written to a client. Of an exchange that has ended the whole answer stands, by the cut; of the one that goes
-- on stands what its answer allows, and where memory was wanting no more than that.
use Rattle.std.specs.Prelude.{ℕ, Bool, not, List, if◌then◌else◌}
use Rattle.std.specs.List.{list_all}
use Rattle.host_base.specs.declared.site.Site.{Site}
use Rattle.host_trace.specs.Projections.{shut_for_memory}
use Rattle.trace_child.specs.Words.{implies, is_filled}
use Rattle.trace_model.specs.Exchange.{Exchange, all_of, written}
use Rattle.trace_model.specs.Standing.{may_stand, may_stand_in_part}

abbrev pub replies : Site → ℕ → Exchange → Bool
replies site c e = if shut_for_memory (all_of e) c then may_stand_in_part site c e else may_stand site c e

-- After an answer that closes nothing is written (RFC 9112 9.6). One that began after a closing one and ended in the
-- same step is seen here alone, so this is said of all exchanges of a step.
abbrev pub is_silent_once_closed : ℕ → Exchange → Bool
is_silent_once_closed c e = implies e.closed (not (is_filled (written c e)))

abbrev pub replies_end : ℕ → List Exchange → Bool
replies_end c es = list_all (is_silent_once_closed c) es
