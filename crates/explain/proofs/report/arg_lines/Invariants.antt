use Rattle.std.proofs.Common.{◌≡◌, take, string_bytes}
use Rattle.std.specs.List.{flat_map}
use Rattle.explain.specs.Explanation.{arg_line}
use Rattle.explain.proofs.report.arg_lines.Given as goal

abbrev pub invariant-loop-word : goal.invariant-loop-word
invariant-loop-word l = string_bytes l.lines ≡ flat_map arg_line (take l.word-index l.args)
