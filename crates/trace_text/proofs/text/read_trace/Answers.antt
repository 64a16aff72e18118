use Rattle.trace_text.proofs.LineLaws.{begins_if, few_if, spelled_if}
use Rattle.trace_text.proofs.text.read_trace.Goals as goal

pub returns-clause-spelled : goal.returns-clause-spelled
returns-clause-spelled c = spelled_if c.args.text.now c.read_text.result c.read_text.ensures

pub returns-clause-begins : goal.returns-clause-begins
returns-clause-begins c = begins_if c.args.text.now c.read_text.result c.read_text.ensures

pub returns-clause-few : goal.returns-clause-few
returns-clause-few c = few_if c.args.text.now c.read_text.result c.read_text.ensures
