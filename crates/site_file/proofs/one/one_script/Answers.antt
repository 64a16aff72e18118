use Rattle.std.proofs.Common.{sym, subst}
use Rattle.host_base.specs.SiteRules.{IsServed}
use Rattle.site_file.specs.SiteFile.{IsSaid}
use Rattle.site_file.proofs.OneLaws.{one_is_said, one_is_served}
use Rattle.site_file.proofs.one.one_script.Goals as goal

pub returns-clause-said : goal.returns-clause-said
returns-clause-said c =
    subst IsSaid (sym c.in_ok-site.ensures)
    (one_is_said c.args.path.now c.args.program.now (sym c.if-not-is_script_path.ensures) (sym c.if-not-is_program.ensures))

pub returns-clause-served : goal.returns-clause-served
returns-clause-served c =
    subst IsServed (sym c.in_ok-site.ensures)
    (one_is_served c.args.path.now c.args.program.now (sym c.if-not-is_script_path.ensures) (sym c.if-not-is_program.ensures))
