-- The core keeps what the model promises.
use Rattle.sample_run.proofs.GoodLaws.{good_by_model}
use Rattle.sample_run.proofs.play.play_plan.Goals as goal

pub returns-clause-good : goal.returns-clause-good
returns-clause-good g c = λ T told. good_by_model c.args.site.now T (c.serve_one-end.ensures.good T told)
