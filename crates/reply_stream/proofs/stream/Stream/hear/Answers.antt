use Rattle.std.proofs.Common.{◌≡◌, sym, ◌∙◌, ap}
use Rattle.reply_stream.specs.declared.stage.Stage.TheVariants.{Settled, Going}
use Rattle.reply_stream.specs.Stages.{State}
use Rattle.reply_stream.proofs.StageLaws.{going_heard, settled_piece}
use Rattle.reply_stream.proofs.stream.Stream.hear.Goals as goal

pub returns-in-Settled-clause-heard : goal.returns-in-Settled-clause-heard
returns-in-Settled-clause-heard c = λ asked told stood is_at.
    let stage : c.args.self.now.stage ≡ Settled = ap (λ (s : State). s.stage) (sym c.self.view_is) ∙ c.in-Settled.is in
    rw c.new.ensures (settled_piece asked told c.args.bytes c.args.close c.args.stamp stood c.args.self.now stage is_at)

pub returns-in-Going-clause-heard : goal.returns-in-Going-clause-heard
returns-in-Going-clause-heard c = λ asked told stood is_at.
    let stage : c.args.self.now.stage ≡ Going c.in-Going.flow = ap (λ (s : State). s.stage) (sym c.self.view_is) ∙ c.in-Going.is in
    going_heard c.piece_text.result asked told c.args.bytes c.args.close c.args.stamp stood c.args.self.now c.in-Going.flow stage is_at c.piece_text.ensures
