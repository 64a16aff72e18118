use Rattle.std.proofs.Common.{ap, ◌∙◌}
use Rattle.std.specs.Option.{option_copied}
use Rattle.trace_text.proofs.ReadLaws.{ok-utf8_of}
use Rattle.trace_text.proofs.fields.as_text.Goals as goal

pub returns : goal.returns
returns c = ap option_copied c.ok.ensures.value ∙ ok-utf8_of c.args.bytes.now _ c.from_utf8.result c.from_utf8.ensures.cases
