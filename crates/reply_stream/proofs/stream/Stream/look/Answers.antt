use Rattle.std.proofs.Common.{◌≡◌, List, ℕ, sym, subst}
use Rattle.reply_stream.specs.declared.stage.Opening.TheVariants.{Wait, Settle, Begin}
use Rattle.reply_stream.specs.Openings.{Opens}
use Rattle.reply_stream.specs.Stages.{Looks, State}
use Rattle.reply_stream.proofs.HoldLaws.{looked_open, looked_settled, looked_begun}
use Rattle.reply_stream.proofs.stream.Stream.look.Goals as goal

pub returns-in-Wait-clause-looks : goal.returns-in-Wait-clause-looks
returns-in-Wait-clause-looks c = λ asked told looks.
    let state : State = record { asked = c.self.inside.asked; held = c.self.inside.held; stage = c.self.inside.stage } in
    let is : state ≡ c.args.self.now = c.self.view_is in
    let opens : Opens state.asked c.args.close c.args.stamp state.held Wait =
    subst (Opens state.asked c.args.close c.args.stamp state.held) c.in-Wait.is
    (subst (λ (l : List ℕ). Opens state.asked c.args.close c.args.stamp l c.in_ok-open.field-0) c.as_slice.ensures c.in_ok-open.ensures) in
    let now : Opens c.args.self.now.asked c.args.close c.args.stamp c.args.self.now.held Wait =
    subst (λ (s : State). Opens s.asked c.args.close c.args.stamp s.held Wait) is opens in
    rw c.new.ensures (looked_open asked told c.args.close c.args.stamp c.args.self.now looks now)

pub returns-in-Settle-clause-looks : goal.returns-in-Settle-clause-looks
returns-in-Settle-clause-looks c = λ asked told looks.
    let state : State = record { asked = c.self.inside.asked; held = c.self.inside.held; stage = c.self.inside.stage } in
    let is : state ≡ c.args.self.now = c.self.view_is in
    let mine : Looks asked told state = subst (λ (s : State). Looks asked told s) (sym is) looks in
    let opens : Opens state.asked c.args.close c.args.stamp state.held Settle =
    subst (Opens state.asked c.args.close c.args.stamp state.held) c.in-Settle.is
    (subst (λ (l : List ℕ). Opens state.asked c.args.close c.args.stamp l c.in_ok-open.field-0) c.as_slice.ensures c.in_ok-open.ensures) in
    rw c.new-in-Settle.ensures (looked_settled asked told c.args.close c.args.stamp state mine opens)

pub returns-in-Begin-clause-looks : goal.returns-in-Begin-clause-looks
returns-in-Begin-clause-looks c = λ asked told looks.
    let state : State = record { asked = c.self.inside.asked; held = c.self.inside.held; stage = c.self.inside.stage } in
    let is : state ≡ c.args.self.now = c.self.view_is in
    let mine : Looks asked told state = subst (λ (s : State). Looks asked told s) (sym is) looks in
    let opens : Opens state.asked c.args.close c.args.stamp state.held (Begin c.in-Begin.flow c.in-Begin.text) =
    subst (Opens state.asked c.args.close c.args.stamp state.held) c.in-Begin.is
    (subst (λ (l : List ℕ). Opens state.asked c.args.close c.args.stamp l c.in_ok-open.field-0) c.as_slice.ensures c.in_ok-open.ensures) in
    rw c.new-in-Begin.ensures (looked_begun asked told c.args.close c.args.stamp state c.in-Begin.flow c.in-Begin.text mine opens)
