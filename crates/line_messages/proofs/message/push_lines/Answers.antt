-- A line at a time, up to one that is too long or the last LF.
use Rattle.std.proofs.Common.{true, false, sym, ◌∙◌}
use Rattle.line_messages.specs.Lines.{message_of}
use Rattle.line_messages.proofs.ReadingLemmas.{behind_end, long_end, long_line, pushed, reads_line, texts_end, texts_long}
use Rattle.line_messages.proofs.message.push_lines.Goals as goal

pub returns-then-is_long-clause-texts : goal.returns-then-is_long-clause-texts
returns-then-is_long-clause-texts c =
    texts_long c.args.limit c.args.bytes.now c.args.texts.now c.loop-line.texts c.loop-line.rest.now c.in-Some.line.now c.in-Some.more.now
    c.loop-line.invariant c.in-Some.ensures.parts c.in-Some.ensures.line (sym c.is_long.ensures ∙ c.if-is_long.true)

pub returns-then-is_long-clause-long : goal.returns-then-is_long-clause-long
returns-then-is_long-clause-long c =
    long_line c.args.limit c.args.bytes.now c.args.texts.now c.loop-line.texts c.loop-line.rest.now c.in-Some.line.now c.in-Some.more.now
    c.loop-line.invariant c.in-Some.ensures.parts c.in-Some.ensures.line (sym c.is_long.ensures ∙ c.if-is_long.true)

pub loop-line-preserved : goal.loop-line-preserved
loop-line-preserved c =
    reads_line c.args.limit c.args.bytes.now c.args.texts.now c.loop-line.texts c.push.new.self c.loop-line.rest.now c.in-Some.line.now c.in-Some.more.now
    c.loop-line.invariant c.in-Some.ensures.parts c.in-Some.ensures.line (sym c.is_long.ensures ∙ c.if-is_long.false)
    (c.in_ok-push.ensures.ok ∙ pushed c.loop-line.texts c.in_ok-message.field-0 (message_of c.in-Some.line.now) c.in_ok-message.ensures)

pub returns-then-is_long-2-clause-texts : goal.returns-then-is_long-2-clause-texts
returns-then-is_long-2-clause-texts c =
    texts_end c.args.limit c.args.bytes.now c.args.texts.now c.loop-line.texts c.loop-line.rest.now c.loop-line.invariant c.in_default.ensures.none

pub returns-then-is_long-2-clause-long : goal.returns-then-is_long-2-clause-long
returns-then-is_long-2-clause-long c =
    long_end c.args.limit c.args.bytes.now c.args.texts.now c.loop-line.texts c.loop-line.rest.now true c.loop-line.invariant c.in_default.ensures.none
    (sym c.is_long-2.ensures ∙ c.if-is_long-2.true)

pub returns-clause-texts : goal.returns-clause-texts
returns-clause-texts c =
    texts_end c.args.limit c.args.bytes.now c.args.texts.now c.loop-line.texts c.loop-line.rest.now c.loop-line.invariant c.in_default.ensures.none

pub returns-clause-within : goal.returns-clause-within
returns-clause-within c =
    long_end c.args.limit c.args.bytes.now c.args.texts.now c.loop-line.texts c.loop-line.rest.now false c.loop-line.invariant c.in_default.ensures.none
    (sym c.is_long-2.ensures ∙ c.if-is_long-2.false)

pub returns-clause-behind : goal.returns-clause-behind
returns-clause-behind c =
    behind_end c.args.limit c.args.bytes.now c.args.texts.now c.loop-line.texts c.loop-line.rest.now c.loop-line.invariant c.in_default.ensures.none
