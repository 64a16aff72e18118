use Rattle.std.proofs.Common.{sym, ◌∙◌}
use Rattle.meta_variables.proofs.PlaceLaws.{passed_text}
use Rattle.meta_variables.proofs.gateway.push_received.Goals as goal

pub known_text-requires : goal.known_text-requires
known_text-requires c = passed_text c.as_slice-name.result.now (sym c.is_passed_variable.ensures ∙ c.if-not-is_passed_variable.false)
