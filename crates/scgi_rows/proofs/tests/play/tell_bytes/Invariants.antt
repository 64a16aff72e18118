use Rattle.host_base.specs.SiteRules.{IsServed}
use Rattle.scgi_conn.specs.View.{site_of}
use Rattle.scgi_rows.proofs.tests.play.tell_bytes.Given as goal

abbrev pub invariant-loop-piece : goal.invariant-loop-piece
invariant-loop-piece l =
    (goal.iterator-loop-piece).can_next l.piece-iterator ×
    (goal.iterator-loop-piece).is_finite l.piece-iterator ×
    IsServed (site_of l.conn)
