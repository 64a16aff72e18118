use Rattle.std.proofs.Common.{ap, ◌∙◌}
use Rattle.std.specs.Option.{option_copied}
use Rattle.script_map.proofs.TargetLaws.{ok-text_or_none}
use Rattle.script_map.proofs.mapping.as_text.Goals as goal

pub returns : goal.returns
returns c = ap option_copied c.ok.ensures.value ∙ ok-text_or_none c.args.bytes.now _ c.from_utf8.result c.from_utf8.ensures.cases
