-- From what a piece does to the open line to the whole output.
use Rattle.std.proofs.Common.{◌≡◌, ℕ, false, List, sym, ap, ◌∙◌, subst}
use Rattle.line_messages.specs.Reading.{Takes}
use Rattle.line_messages.specs.State.{Reading}
use Rattle.line_messages.proofs.ReadingLemmas.{if_ok, on_ok, stands_past, stands_taken, step_past, step_taken}
use Rattle.line_messages.proofs.reading.Lines.feed.Goals as goal

pub returns-then-self-clause-step : goal.returns-then-self-clause-step
returns-then-self-clause-step c =
    step_past c.args.self.now c.args.piece.now c.new.result (sym (ap (λ (r : Reading). r.over) c.self.view_is) ∙ c.if-self.true) c.new.ensures

pub returns-then-self-clause-stands : goal.returns-then-self-clause-stands
returns-then-self-clause-stands c =
    stands_past c.args.self.now c.args.piece.now (sym (ap (λ (r : Reading). r.over) c.self.view_is) ∙ c.if-self.true)

pub returns-in-None-clause-step : goal.returns-in-None-clause-step
returns-in-None-clause-step c =
    let going : c.args.self.now.over ≡ false = sym (ap (λ (r : Reading). r.over) c.self.view_is) ∙ c.if-self.false in
    if_ok c.feed_open.result _ _ (λ step t. step_taken c.args.self.now c.feed_open.new.self c.args.piece.now step going t) c.feed_open.ensures.step

pub returns-in-None-clause-stands : goal.returns-in-None-clause-stands
returns-in-None-clause-stands c =
    let going : c.args.self.now.over ≡ false = sym (ap (λ (r : Reading). r.over) c.self.view_is) ∙ c.if-self.false in
    on_ok c.feed_open.result _ _ (λ step t. stands_taken c.args.self.now c.feed_open.new.self c.args.piece.now step going t) c.feed_open.ensures.step

pub returns-in-Some-clause-step : goal.returns-in-Some-clause-step
returns-in-Some-clause-step c =
    let going : c.args.self.now.over ≡ false = sym (ap (λ (r : Reading). r.over) c.self.view_is) ∙ c.if-self.false in
    if_ok c.feed_lines.result _ _
    (λ step t. step_taken c.args.self.now c.feed_lines.new.self c.args.piece.now step going
    (subst (λ (b : List ℕ). Takes c.args.self.now b step c.feed_lines.new.self) (sym c.in-Some.ensures.parts) t)) c.feed_lines.ensures.step

pub returns-in-Some-clause-stands : goal.returns-in-Some-clause-stands
returns-in-Some-clause-stands c =
    let going : c.args.self.now.over ≡ false = sym (ap (λ (r : Reading). r.over) c.self.view_is) ∙ c.if-self.false in
    on_ok c.feed_lines.result _ _
    (λ step t. stands_taken c.args.self.now c.feed_lines.new.self c.args.piece.now step going
    (subst (λ (b : List ℕ). Takes c.args.self.now b step c.feed_lines.new.self) (sym c.in-Some.ensures.parts) t)) c.feed_lines.ensures.step
