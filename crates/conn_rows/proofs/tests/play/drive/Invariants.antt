use Rattle.host_base.specs.SiteRules.{IsServed}
use Rattle.conn_phase.specs.Phase.{may_step, site_of}
use Rattle.conn_rows.proofs.tests.play.drive.Given as goal

abbrev pub invariant-loop-event : goal.invariant-loop-event
invariant-loop-event l = IsServed (site_of l.conn) × may_step l.conn
