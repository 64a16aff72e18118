-- A mapping names a script.
use Rattle.explain.proofs.TextLaws.{mapped_names}
use Rattle.explain.proofs.report.request_text.Goals as goal

pub launch-requires-clause-script : goal.launch-requires-clause-script
launch-requires-clause-script c = mapped_names c.args.site.now c.args.request.now.target c.in-Ok.mapped c.in-Ok.ensures.exact
