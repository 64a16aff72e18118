use Rattle.std.proofs.Common.{drop, take-append-drop}
use Rattle.part_rows.proofs.tests.requests.heads.is_right_at_cut.Goals as goal

pub read_head_from-requires-2 : goal.read_head_from-requires-2
read_head_from-requires-2 c =
    simp take-append-drop at (c.in_ok-front.ensures.kept (drop c.args.cut c.args.text.now))
