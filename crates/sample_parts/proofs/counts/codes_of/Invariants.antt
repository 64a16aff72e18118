-- The codes so far.
use Rattle.std.proofs.Common.{◌≡◌, ◌≤◌, take, map, length, vec_len}
use Rattle.std.specs.Prelude.{vec_capacity}
use Rattle.sample_parts.specs.Counts.{code_of}
use Rattle.sample_parts.proofs.counts.codes_of.Given as goal

abbrev pub invariant-loop-front : goal.invariant-loop-front
invariant-loop-front l = record {
  codes : l.codes.items ≡ map code_of (take l.front-index l.fronts);
  len : vec_len l.codes ≡ l.front-index;
  room : length l.fronts ≤ vec_capacity l.codes;
}
