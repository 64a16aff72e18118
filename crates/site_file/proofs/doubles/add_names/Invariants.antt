use Rattle.std.proofs.Common.{◌≡◌, ◌∷◌, ◌++◌, take, map}
use Rattle.site_file.specs.Tables.{text_at}
use Rattle.site_file.proofs.doubles.add_names.Given as goal

abbrev pub invariant-loop-alias : goal.invariant-loop-alias
invariant-loop-alias l = map text_at l.names.items ≡ map text_at l.fn.names.items ++ l.host.name ∷ take l.alias-index l.host.aliases
