-- The children of the plan are those of the site.
use Rattle.sample_run.proofs.play.play.Goals as goal

pub returns : goal.returns
returns c = λ T told. record {
  good = c.play_plan.ensures.good T told;
  served = c.play_plan.ensures.served T told;
  takes = rw c.requires.limit at (c.play_plan.ensures.takes T told);
}
