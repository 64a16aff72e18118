-- How explaining ended, and what was put of it.
use Rattle.host_run.proofs.ExplainLaws.{explained}
use Rattle.host_run.proofs.explaining.run_explain.Goals as goal

pub returns-in-Ok-clause-explains : goal.returns-in-Ok-clause-explains
returns-in-Ok-clause-explains g c = explained _ _ _ _ _ _ _ c.in-Ok.ensures.gives c.put_end.ensures.puts
