use Rattle.std.proofs.Common.{◌∙◌}
use Rattle.script_map.proofs.TargetLaws.{ok-is_utf8}
use Rattle.http_state.proofs.begin.is_text.Goals as goal

pub returns : goal.returns
returns c = c.is_ok.ensures.value ∙ ok-is_utf8 c.args.bytes.now _ _ c.from_utf8.result c.from_utf8.ensures.cases
