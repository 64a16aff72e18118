-- An item is an event or an act.
use Rattle.std.proofs.Common.{sym, ◌∙◌, ap}
use Rattle.trace_tallies.proofs.ChildTallyLaws.{goes_on, none_with, heard_with, asked_with}
use Rattle.trace_tallies.specs.ChildTallies.{child_with}
use Rattle.trace_tallies.proofs.child_tally.ChildTally.with.Goals as goal

pub returns-in-In-clause-some : goal.returns-in-In-clause-some
returns-in-In-clause-some c = goes_on c.heard.result _ _ c.heard.ensures.some (sym (heard_with c.args.k c.in-In.event c.args.self.now) ∙ ap (λ x. child_with c.args.k x c.args.self.now) (sym c.in-In.is))

pub returns-in-In-clause-none : goal.returns-in-In-clause-none
returns-in-In-clause-none c = none_with c.heard.result _ _ c.heard.ensures.none (sym (heard_with c.args.k c.in-In.event c.args.self.now) ∙ ap (λ x. child_with c.args.k x c.args.self.now) (sym c.in-In.is))

pub returns-in-Out-clause-some : goal.returns-in-Out-clause-some
returns-in-Out-clause-some c = goes_on c.asked.result _ _ c.asked.ensures.some (sym (asked_with c.args.k c.in-Out.act c.args.self.now) ∙ ap (λ x. child_with c.args.k x c.args.self.now) (sym c.in-Out.is))

pub returns-in-Out-clause-none : goal.returns-in-Out-clause-none
returns-in-Out-clause-none c = none_with c.asked.result _ _ c.asked.ensures.none (sym (asked_with c.args.k c.in-Out.act c.args.self.now) ∙ ap (λ x. child_with c.args.k x c.args.self.now) (sym c.in-Out.is))
