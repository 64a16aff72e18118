use Rattle.std.proofs.Common.{ap, sym, ◌∙◌, length, take}
use Rattle.std.proofs.lemmas.List.{take_rest}
use Rattle.body_framing.specs.Places.{is_done}
use Rattle.body_framing.specs.Chunked.{Standing}
use Rattle.body_framing.proofs.Runs.{has_read-none, has_read-more, has_read-done, has_read-all}
use Rattle.body_framing.proofs.chunks.Chunks.read.Goals as goal

pub loop-at-init : goal.loop-at-init
loop-at-init c = has_read-none c.args.self.now c.args.bytes.now

pub returns-in_err-at-clause-kept : goal.returns-in_err-at-clause-kept
returns-in_err-at-clause-kept c =
    ap (λ (s : Standing). take (length c.args.self.now.decoded) s.decoded) c.in_err-at.ensures.err ∙ c.loop-at.invariant.kept

pub returns-in_err-at-clause-limit : goal.returns-in_err-at-clause-limit
returns-in_err-at-clause-limit c = ap (λ (s : Standing). s.limit) c.in_err-at.ensures.err ∙ c.loop-at.invariant.limit

pub loop-at-preserved : goal.loop-at-preserved
loop-at-preserved c =
    has_read-more c.args.self.now c.loop-at.self c.read_some.new.self c.args.bytes.now _ c.loop-at.at c.in_ok-at.field-0 c.loop-at.invariant
    (take_rest c.args.bytes.now c.loop-at.at) c.in_ok-at.ensures.read c.in_ok-at.ensures.within.1 c.in_ok-at.ensures.counted

pub returns-else-not-is_done-clause-read : goal.returns-else-not-is_done-clause-read
returns-else-not-is_done-clause-read c =
    has_read-done c.args.self.now c.loop-at.self c.args.bytes.now c.loop-at.at c.loop-at.invariant
    (ap (λ (s : Standing). is_done s.place) (sym c.self.view_is) ∙ sym c.is_done.ensures ∙ c.if-not-is_done.false)

pub returns-else-not-is_done-clause-kept : goal.returns-else-not-is_done-clause-kept
returns-else-not-is_done-clause-kept c = c.loop-at.invariant.kept

pub returns-else-not-is_done-clause-limit : goal.returns-else-not-is_done-clause-limit
returns-else-not-is_done-clause-limit c = c.loop-at.invariant.limit

pub returns-after-loop-at-clause-read : goal.returns-after-loop-at-clause-read
returns-after-loop-at-clause-read c =
    has_read-all c.args.self.now c.loop-at.self c.args.bytes.now c.loop-at.at c.loop-at.invariant c.loop-at-test.false
