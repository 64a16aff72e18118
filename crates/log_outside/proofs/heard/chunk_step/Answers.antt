-- Nothing was fed before.
use Rattle.std.proofs.Common.{[]}
use Rattle.log_outside.proofs.heard.chunk_step.Goals as goal

pub returns : goal.returns
returns c = c.feed.ensures.exact c.args.limit [] c.new-chunks.ensures
