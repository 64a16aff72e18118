-- The lines of the codes so far.
use Rattle.std.proofs.Common.{◌≡◌, ◌++◌}
use Rattle.std.specs.Prelude.{string_bytes}
use Rattle.sample_parts.specs.Counts.{code_lines}
use Rattle.sample_parts.specs.Fronts.{count_of}
use Rattle.sample_parts.proofs.report.push_code_lines.Given as goal

abbrev pub invariant-loop-n : goal.invariant-loop-n
invariant-loop-n l = string_bytes l.text ≡ string_bytes l.fn.text ++ code_lines (count_of l.codes) l.n
