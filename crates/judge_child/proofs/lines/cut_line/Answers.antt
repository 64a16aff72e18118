-- The first part ends at the first LF.
use Rattle.std.proofs.Common.{◌+◌, sym}
use Rattle.std.proofs.lemmas.List.{take_rest}
use Rattle.host_base.proofs.SplitLaws.{slice_split-at_position, slice_split-no_position}
use Rattle.host_trace.specs.Decider.{is_line_feed}
use Rattle.judge_child.proofs.lines.cut_line.Goals as goal

pub returns-in-Some-clause-parts : goal.returns-in-Some-clause-parts
returns-in-Some-clause-parts c =
    rw (take_rest c.args.bytes.now (c.in-Some.at + 1)) (slice_split-at_position is_line_feed c.args.bytes.now c.in-Some.at (sym c.in-Some.ensures)).1

pub returns-in-None-clause-alone : goal.returns-in-None-clause-alone
returns-in-None-clause-alone c = slice_split-no_position is_line_feed c.args.bytes.now (sym c.in-None.ensures)
