use Rattle.std.proofs.Common.{◌≡◌, ◌≤◌, ◌+◌, not, take, length}
use Rattle.std.specs.List.{suffix_len}
use Rattle.script_map.specs.DotSegments.{is_slash}
use Rattle.script_map.proofs.segments.front_len.Given as goal

abbrev pub invariant-loop-len : goal.invariant-loop-len
invariant-loop-len l = record {
  within : l.len ≤ length l.path;
  same : l.len + suffix_len (λ byte. not (is_slash byte)) l.path ≡ length l.path + suffix_len (λ byte. not (is_slash byte)) (take l.len l.path);
}

abbrev pub decreases-loop-len : goal.decreases-loop-len
decreases-loop-len l = l.len
