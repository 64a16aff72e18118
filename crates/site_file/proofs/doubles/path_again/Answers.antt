use Rattle.std.proofs.Common.{ap, sym, ◌∙◌}
use Rattle.std.specs.Option.{option_copied}
use Rattle.site_file.proofs.DoubleLaws.{path_here, path_later, path_nowhere}
use Rattle.site_file.proofs.doubles.path_again.Goals as goal

pub returns-in-Some : goal.returns-in-Some
returns-in-Some c =
    path_here c.args.hosts.now c.loop-host.host-index c.host-item.result c.loop-host-test.true c.host-item.is c.in-Some.path.now _ c.loop-host.invariant
    (sym c.in_ok-path.ensures ∙ ap option_copied c.in-Some.is)

pub loop-host-preserved : goal.loop-host-preserved
loop-host-preserved c =
    path_later c.args.hosts.now c.loop-host.host-index c.host-item.result c.loop-host-test.true c.host-item.is _ c.loop-host.invariant
    (sym c.in_ok-path.ensures ∙ ap option_copied c.in-None.is)

pub returns : goal.returns
returns c = path_nowhere c.args.hosts.now c.loop-host.host-index _ c.loop-host.invariant c.loop-host-test.false
