-- The length of what is joined is the sum of the lengths.
use Rattle.std.proofs.Common.{sym, ◌∙◌}
use Rattle.std.proofs.lemmas.List.Concat.{length-flat_map}
use Rattle.host_trace.specs.Kinds.{bytes_written}
use Rattle.memory_world.proofs.sums.written_len.Goals as goal

pub returns : goal.returns
returns c = c.write_sum.ensures ∙ sym (length-flat_map (bytes_written c.args.c) c.args.items.now)
