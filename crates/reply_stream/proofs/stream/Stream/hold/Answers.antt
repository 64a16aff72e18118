use Rattle.std.proofs.Common.{◌≡◌, ◌++◌, ◌∙◌, ap}
use Rattle.reply_stream.specs.Stages.{State}
use Rattle.reply_stream.proofs.HoldLaws.{joins}
use Rattle.reply_stream.proofs.stream.Stream.hold.Goals as goal

pub returns-in-Ok-clause-heard : goal.returns-in-Ok-clause-heard
returns-in-Ok-clause-heard c = λ asked told is_at.
    let new : State = record { asked = c.self.inside.asked; held = c.add.new.held; stage = c.self.inside.stage } in
    let joined : c.add.new.held ≡ c.args.self.now.held ++ c.args.bytes =
    c.in_ok-add.ensures.ok ∙ ap (λ (s : State). s.held ++ c.args.bytes) c.self.view_is in
    c.in-Ok.ensures.joined asked _
    (joins asked told c.args.bytes c.args.self.now new c.requires.stage is_at (ap (λ (s : State). s.asked) c.self.view_is)
    (ap (λ (s : State). s.stage) c.self.view_is) joined)
