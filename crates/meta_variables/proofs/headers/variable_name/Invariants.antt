use Rattle.std.proofs.Common.{◌≡◌, take}
use Rattle.std.specs.Prelude.{string_bytes}
use Rattle.meta_variables.specs.HeaderVariables.{variable_name}
use Rattle.meta_variables.proofs.headers.variable_name.Given as goal

abbrev pub invariant-loop-byte : goal.invariant-loop-byte
invariant-loop-byte l = string_bytes l.text ≡ variable_name (take l.byte-index l.name)
