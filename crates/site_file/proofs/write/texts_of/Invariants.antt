use Rattle.std.proofs.Common.{◌≡◌, take, map}
use Rattle.toml.specs.Data.{string}
use Rattle.toml.specs.View.{view}
use Rattle.site_file.proofs.write.texts_of.Given as goal

abbrev pub invariant-loop-text : goal.invariant-loop-text
invariant-loop-text l = map view l.values.items ≡ map string (take l.text-index l.list)
