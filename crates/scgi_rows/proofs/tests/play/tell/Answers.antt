use Rattle.std.proofs.Common.{sym, subst}
use Rattle.host_base.specs.SiteRules.{IsServed}
use Rattle.scgi_conn.proofs.KeepLaws.{steps_keep}
use Rattle.scgi_rows.proofs.tests.play.tell.Goals as goal

pub returns : goal.returns
returns c =
    let w = c.step.ensures.stepped in
    subst IsServed (sym (steps_keep c.args.conn.now c.step.new.self c.args.event.now c.args.children.now c.step.new.children w.acts w.does).site) c.requires
