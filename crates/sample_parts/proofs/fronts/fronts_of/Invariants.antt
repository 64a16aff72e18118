-- What the items so far wrote to each connection first.
use Rattle.std.proofs.Common.{◌≡◌, ◌<◌, ℕ, [], take, vec_len}
use Rattle.std.specs.Prelude.{slice_index_or}
use Rattle.host_trace.specs.Projections.{client_out}
use Rattle.sample_parts.proofs.fronts.fronts_of.Given as goal

abbrev pub invariant-loop-item : goal.invariant-loop-item
invariant-loop-item l = record {
  len : vec_len l.fronts ≡ l.count;
  each : (c : ℕ) → c < l.count → slice_index_or l.fronts.items c [] ≡ take 12 (client_out (take l.item-index l.items) c);
}
