use Rattle.std.proofs.Common.{subst}
use Rattle.site_file.specs.Steps.{Reads}
use Rattle.site_file.proofs.ServedLaws.{said_in_text, said_by_no_text}
use Rattle.site_file.proofs.site.read.Goals as goal

pub returns-in-Ok : goal.returns-in-Ok
returns-in-Ok c = subst (λ expected. Reads expected c.site_in_text.result) (said_in_text c.args.bytes.now c.in-Ok.text.now c.in-Ok.ensures.cases.0 c.in-Ok.ensures.cases.1) c.site_in_text.ensures

pub returns-in-Err : goal.returns-in-Err
returns-in-Err c = λ _. said_by_no_text c.args.bytes.now c.in-Err.ensures.cases.0
