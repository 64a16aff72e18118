use Rattle.std.proofs.Common.{◌≡◌, take, string_bytes}
use Rattle.std.specs.List.{flat_map}
use Rattle.explain.specs.Explanation.{env_line}
use Rattle.explain.proofs.report.env_lines.Given as goal

abbrev pub invariant-loop-pair : goal.invariant-loop-pair
invariant-loop-pair l = string_bytes l.lines ≡ flat_map env_line (take l.pair-index l.env)
