use Rattle.std.proofs.Common.{sym, ◌∙◌}
use Rattle.std.proofs.lemmas.Result.{IfOk-weaker}
use Rattle.request_reader.proofs.ReadingLaws.{reading_at, started}
use Rattle.request_reader.proofs.start.first_look.Goals as goal

pub returns-in-Whole-clause-exact : goal.returns-in-Whole-clause-exact
returns-in-Whole-clause-exact c =
    IfOk-weaker c.open_head.result _ _
    (λ start s. started c.args.limits.now c.args.bytes.now c.behind.result.now c.in-Whole.head c.in-Whole.used start
    (sym c.in_ok-head.ensures.exact ∙ c.in-Whole.is) c.behind.ensures s)
    c.open_head.ensures

pub returns-in-More-clause-exact : goal.returns-in-More-clause-exact
returns-in-More-clause-exact c = reading_at c.args.limits.now c.args.bytes.now _ (sym c.in_ok-head.ensures.exact ∙ c.in-More.is)

pub returns-in-Bad-clause-exact : goal.returns-in-Bad-clause-exact
returns-in-Bad-clause-exact c = reading_at c.args.limits.now c.args.bytes.now _ (sym c.in_ok-head.ensures.exact ∙ c.in-Bad.is)
