-- The open line ends, and lines follow it.
use Rattle.std.proofs.Common.{sym, ◌∙◌}
use Rattle.line_messages.proofs.ReadingLemmas.{all_pushed, kept, takes_first_long, takes_lines, takes_lines_long}
use Rattle.line_messages.proofs.reading.Lines.feed_lines.Goals as goal

pub returns-then-passes_limit-clause-step : goal.returns-then-passes_limit-clause-step
returns-then-passes_limit-clause-step c =
    takes_first_long _ _ c.self.view_is c.args.line.now c.args.more.now c.new-texts.result c.new-texts.ensures c.self.invariant.0 c.requires.no_lf
    (sym c.passes_limit.ensures ∙ c.if-passes_limit.true)

pub invariant_of-self-in-Some : goal.invariant_of-self-in-Some
invariant_of-self-in-Some c =
    let within = rw c.in-Some.is at c.in_ok-push_lines.ensures.within in
    let behind = rw c.in-Some.is at c.in_ok-push_lines.ensures.behind in
    kept c.self.inside.limit c.args.more.now _ within (c.in_ok-self-inside-in-Some.ensures.items ∙ behind)

pub returns-in-None-clause-step : goal.returns-in-None-clause-step
returns-in-None-clause-step c =
    let long = rw c.in-None.is at c.in_ok-push_lines.ensures.long in
    takes_lines_long _ _ c.self.view_is c.args.line.now c.args.more.now c.push_lines.new.texts c.self.invariant.0 c.requires.no_lf long
    (sym c.passes_limit.ensures ∙ c.if-passes_limit.false)
    (all_pushed c.new-texts.result c.push.new.self c.push_lines.new.texts _ c.in_ok-ended_message.field-0 _
    c.new-texts.ensures c.in_ok-push.ensures.ok c.in_ok-ended_message.ensures c.in_ok-push_lines.ensures.texts)

pub returns-in_ok-self-inside-in-Some-clause-step : goal.returns-in_ok-self-inside-in-Some-clause-step
returns-in_ok-self-inside-in-Some-clause-step c =
    let within = rw c.in-Some.is at c.in_ok-push_lines.ensures.within in
    let behind = rw c.in-Some.is at c.in_ok-push_lines.ensures.behind in
    takes_lines _ _ c.self.view_is c.args.line.now c.args.more.now c.in_ok-self-inside-in-Some.field-0.items c.push_lines.new.texts c.self.invariant.0 c.requires.no_lf
    within (c.in_ok-self-inside-in-Some.ensures.items ∙ behind) c.requires.going (sym c.passes_limit.ensures ∙ c.if-passes_limit.false)
    (all_pushed c.new-texts.result c.push.new.self c.push_lines.new.texts _ c.in_ok-ended_message.field-0 _
    c.new-texts.ensures c.in_ok-push.ensures.ok c.in_ok-ended_message.ensures c.in_ok-push_lines.ensures.texts)
