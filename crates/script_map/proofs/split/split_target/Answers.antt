use Rattle.std.proofs.Common.{sym}
use Rattle.script_map.specs.Places.{said}
use Rattle.script_map.proofs.PlaceLaws.{rooted_place_in}
use Rattle.script_map.proofs.split.split_target.Goals as goal

pub copy_target-requires : goal.copy_target-requires
copy_target-requires c = rooted_place_in c.args.head.now (said c.in-Ok.spot) (sym c.in-Ok.ensures)
