-- Each front so far has nothing in it.
use Rattle.std.proofs.Common.{◌≡◌, ◌≤◌, ℕ, [], vec_len}
use Rattle.std.specs.Prelude.{slice_index_or, vec_capacity}
use Rattle.sample_parts.proofs.fronts.no_fronts.Given as goal

abbrev pub invariant-loop-c : goal.invariant-loop-c
invariant-loop-c l = record {
  each : (c : ℕ) → slice_index_or l.fronts.items c [] ≡ [];
  len : vec_len l.fronts ≡ l.c;
  room : l.count ≤ vec_capacity l.fronts;
}
