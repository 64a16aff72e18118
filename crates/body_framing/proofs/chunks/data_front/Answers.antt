use Rattle.std.proofs.Common.{◌+◌, take, arith}
use Rattle.std.proofs.lemmas.List.{length-take-le}
use Rattle.body_framing.proofs.Runs.{data_within, data_whole}
use Rattle.body_framing.proofs.chunks.data_front.Goals as goal

pub returns-then-count-left-clause-next : goal.returns-then-count-left-clause-next
returns-then-count-left-clause-next c limit decoded =
    data_whole limit c.args.left decoded (take (c.args.left + 1) c.args.bytes.now)
    (omega (arith, length-take-le (c.args.left + 1) c.args.bytes.now (omega arith)))

pub returns-else-count-left-clause-next : goal.returns-else-count-left-clause-next
returns-else-count-left-clause-next c limit decoded = data_within limit c.args.left decoded c.args.bytes.now (omega arith)
