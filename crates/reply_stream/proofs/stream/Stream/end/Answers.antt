use Rattle.std.proofs.Common.{◌≡◌, sym, ◌∙◌, ap}
use Rattle.reply_stream.specs.declared.stage.Stage.TheVariants.{Going}
use Rattle.reply_stream.specs.Stages.{State}
use Rattle.reply_stream.proofs.StageLaws.{last_going}
use Rattle.reply_stream.proofs.stream.Stream.end.Goals as goal

pub returns-clause-last : goal.returns-clause-last
returns-clause-last c = λ asked told stood is_at.
    let stage : c.args.self.stage ≡ Going c.in-Going.flow = ap (λ (s : State). s.stage) (sym c.self.view_is) ∙ c.in-Going.is in
    last_going asked told c.args.close c.args.stamp stood c.args.self c.in-Going.flow c.in_ok-end_text-in-Going.field-0 stage is_at c.in_ok-end_text-in-Going.ensures.text
