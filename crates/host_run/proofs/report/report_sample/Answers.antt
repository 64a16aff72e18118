-- What was put is the text of a sample.
use Rattle.std.proofs.Common.{List, ℕ, ◌∙◌, sym, subst}
use Rattle.sample_run.specs.Run.{IsSampleText}
use Rattle.host_run.proofs.StatusLaws.{puts_as}
use Rattle.host_run.proofs.report.report_sample.Goals as goal

pub returns-in-Ok-clause-text : goal.returns-in-Ok-clause-text
returns-in-Ok-clause-text g c =
    puts_as _ _ _ (λ text is. subst (λ (t : List ℕ). IsSampleText c.args.seed c.args.count t) (sym (is ∙ c.as_str.ensures.value)) c.in-Ok.ensures) c.put.ensures.text
