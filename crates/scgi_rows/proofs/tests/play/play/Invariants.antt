use Rattle.host_base.specs.SiteRules.{IsServed}
use Rattle.scgi_conn.specs.View.{site_of}
use Rattle.scgi_rows.proofs.tests.play.play.Given as goal

abbrev pub invariant-loop-each : goal.invariant-loop-each
invariant-loop-each l = IsServed (site_of l.conn)
