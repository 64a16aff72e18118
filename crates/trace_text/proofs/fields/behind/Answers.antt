use Rattle.std.proofs.Common.{◌∙◌, ap, map}
use Rattle.std.proofs.lemmas.List.{take_rest}
use Rattle.trace_text.specs.Reading.{now_of}
use Rattle.trace_text.proofs.ReadLaws.{map_drop}
use Rattle.trace_text.proofs.fields.behind.Goals as goal

pub returns-then-count-tokens : goal.returns-then-count-tokens
returns-then-count-tokens c = ap (map now_of) (take_rest c.args.tokens.now c.args.count) ∙ map_drop now_of c.args.count c.args.tokens.now
