-- What the code's view of a place stands for.
use Rattle.script_map.specs.declared.targets.Spot.{Spot}
use Rattle.script_map.specs.Targets.{Place}

abbrev pub said : Spot → Place
said spot = record { host = spot.host.now; rest = spot.rest.now }
