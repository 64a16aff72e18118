-- Fewer bytes are left each time.
use Rattle.log_writer.proofs.writer.take_bytes.Given as goal

abbrev pub decreases-loop-left : goal.decreases-loop-left
decreases-loop-left l = l.left
