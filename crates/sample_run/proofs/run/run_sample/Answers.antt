-- The site and the list are those of the sample.
use Rattle.std.proofs.lemmas.Result.{IfOk-weaker}
use Rattle.memory_world.specs.WorldWords.{given_of_world}
use Rattle.sample_run.proofs.HasLaws.{has_run}
use Rattle.sample_run.proofs.run.run_sample.Goals as goal

pub returns : goal.returns
returns c =
    IfOk-weaker c.play_world.result _ _ (λ w played. has_run c.args.seed c.args.count (given_of_world w) (rw (c.in_ok-site.ensures.site, c.in_ok-outside.ensures.events) at played)) c.play_world.ensures
