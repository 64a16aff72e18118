-- One more line.
use Rattle.std.proofs.Common.{refl}
use Rattle.std.proofs.lemmas.List.{append-nil}
use Rattle.sample_parts.proofs.TextLaws.{code_lines_none, code_lines_step}
use Rattle.sample_parts.proofs.report.push_code_lines.Goals as goal

pub loop-n-init : goal.loop-n-init
loop-n-init c = rw (code_lines_none, append-nil) refl

pub loop-n-preserved : goal.loop-n-preserved
loop-n-preserved c = code_lines_step _ _ _ _ _ _ c.loop-n.invariant c.code_count.ensures c.in_ok-push_code_line.ensures
