-- By the place of the first.
use Rattle.std.proofs.Common.{◌+◌, sym}
use Rattle.std.proofs.lemmas.List.{take_rest}
use Rattle.host_trace.proofs.FirstLaws.{since-at_position, since-no_position}
use Rattle.host_trace.specs.Kinds.{is_child_eof}
use Rattle.trace_tests.proofs.parts.since_child_eof.Goals as goal

pub returns-in-Some : goal.returns-in-Some
returns-in-Some c =
    rw (take_rest c.args.items.now (c.in-Some.at + 1)) (sym (since-at_position (is_child_eof c.args.k) c.args.items.now c.in-Some.at (sym c.in-Some.ensures)))

pub returns-in-None : goal.returns-in-None
returns-in-None c = sym (since-no_position (is_child_eof c.args.k) c.args.items.now (sym c.in-None.ensures))
