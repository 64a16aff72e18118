use Rattle.std.proofs.Common.{◌≡◌, sym, ◌∙◌, ap, inl, inr}
use Rattle.reply_stream.specs.declared.stage.Stage.TheVariants.{Ready}
use Rattle.reply_stream.specs.Stages.{State}
use Rattle.reply_stream.proofs.HoldLaws.{waiting_tick}
use Rattle.reply_stream.proofs.StageLaws.{going_tick, settled_tick, ticked_needs, ticked_ready}
use Rattle.reply_stream.proofs.stream.Stream.tick.Goals as goal

pub returns-in-Ready-clause-ticked : goal.returns-in-Ready-clause-ticked
returns-in-Ready-clause-ticked c = λ asked told stood is_at.
    let stage : c.args.self.now.stage ≡ Ready = ap (λ (s : State). s.stage) (sym c.self.view_is) ∙ c.in-Ready.is in
    ticked_ready c.look.result asked told c.args.close c.args.stamp stood c.args.self.now c.look.new.self stage is_at (c.look.ensures.looks asked)

pub returns-in-Ready-clause-memory : goal.returns-in-Ready-clause-memory
returns-in-Ready-clause-memory c = λ asked told stood is_at.
    let stage : c.args.self.now.stage ≡ Ready = ap (λ (s : State). s.stage) (sym c.self.view_is) ∙ c.in-Ready.is in
    ticked_needs c.look.result asked told stood c.args.self.now stage is_at

pub returns-in-Waiting : goal.returns-in-Waiting
returns-in-Waiting c = record {
  ticked = λ asked told stood is_at.
      let view = ap (λ (s : State). s.stage) (sym c.self.view_is) in
      rw c.new.ensures (elim c.in-Waiting.is [
        | inl waiting ↦ waiting_tick asked told c.args.close c.args.stamp stood c.args.self.now waiting.0 (view ∙ waiting.1) is_at
        | inr other ↦
            elim other [
              | inl settled ↦ settled_tick asked told c.args.close c.args.stamp stood c.args.self.now (view ∙ settled) is_at
              | inr going ↦ going_tick asked told c.args.close c.args.stamp stood c.args.self.now going.0 (view ∙ going.1) is_at
            ]
      ]);
  memory = λ asked told stood is_at. tt;
  err = tt;
}
