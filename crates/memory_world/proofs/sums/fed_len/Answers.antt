-- The length of what is joined is the sum of the lengths.
use Rattle.std.proofs.Common.{sym, ◌∙◌}
use Rattle.std.proofs.lemmas.List.Concat.{length-flat_map}
use Rattle.host_trace.specs.Kinds.{input_fed}
use Rattle.memory_world.proofs.sums.fed_len.Goals as goal

pub returns : goal.returns
returns c = c.feed_sum.ensures ∙ sym (length-flat_map (input_fed c.args.k) c.args.items.now)
