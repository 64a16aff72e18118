use Rattle.trace_text.specs.Reading.{now_of}
use Rattle.trace_text.proofs.ReadLaws.{map_take}
use Rattle.trace_text.proofs.fields.front.Goals as goal

pub returns-then-count-tokens : goal.returns-then-count-tokens
returns-then-count-tokens c = map_take now_of c.args.count c.args.tokens.now
