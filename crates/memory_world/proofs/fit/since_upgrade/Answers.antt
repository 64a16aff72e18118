-- What comes after the first Upgrade, by its place.
use Rattle.std.proofs.Common.{◌+◌, sym}
use Rattle.std.proofs.lemmas.List.{take_rest}
use Rattle.host_trace.specs.Kinds.{is_upgrade}
use Rattle.host_trace.proofs.FirstLaws.{since-at_position, since-no_position}
use Rattle.memory_world.proofs.fit.since_upgrade.Goals as goal

pub returns-in-Some : goal.returns-in-Some
returns-in-Some c =
    rw (take_rest c.args.items.now (c.in-Some.at + 1)) (sym (since-at_position (is_upgrade c.args.c) c.args.items.now c.in-Some.at (sym c.in-Some.ensures)))

pub returns-in-None : goal.returns-in-None
returns-in-None c = sym (since-no_position (is_upgrade c.args.c) c.args.items.now (sym c.in-None.ensures))
