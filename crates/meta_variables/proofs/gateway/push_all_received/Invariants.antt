use Rattle.std.proofs.Common.{◌≡◌, ◌++◌, map, filter, take}
use Rattle.meta_variables.specs.Gateway.{is_passed_pair, received_variable}
use Rattle.meta_variables.specs.Variables.{is_kept}
use Rattle.meta_variables.proofs.gateway.push_all_received.Given as goal

abbrev pub invariant-loop-pair : goal.invariant-loop-pair
invariant-loop-pair l = l.variables ≡ l.initial.variables ++ filter is_kept (map received_variable (filter is_passed_pair (take l.pair-index l.pairs)))
