use Rattle.std.proofs.Common.{ap, ◌∙◌}
use Rattle.body_framing.specs.Chunked.{Standing, step_at}
use Rattle.body_framing.proofs.Runs.{answer_joined}
use Rattle.body_framing.proofs.chunks.Chunks.feed.Goals as goal

pub returns-in-Ok-clause-exact : goal.returns-in-Ok-clause-exact
returns-in-Ok-clause-exact c limit fed old_is =
    c.step_at.ensures ∙ ap (λ (s : Standing). step_at s.place c.in-Ok.used) c.self-2.view_is
    ∙ answer_joined limit fed c.args.piece.now c.args.self.now c.read.new.self c.in-Ok.used old_is c.in-Ok.ensures.read.0 c.in-Ok.ensures.read.1
