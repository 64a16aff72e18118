-- The length of all texts is the sum over the acts.
use Rattle.std.proofs.Common.{◌-◌, ◌^◌, min, sym, ◌∙◌, ap}
use Rattle.trace_tallies.proofs.SumLaws.{said_len-acts}
use Rattle.memory_world.proofs.sums.said_len.Goals as goal

pub returns : goal.returns
returns c = c.say_sum.ensures ∙ ap (λ n. min n (2 ^ 128 - 1)) (sym (said_len-acts c.args.items.now c.args.c))
