use Rattle.document_output.proofs.SpanLaws.{spans_join}
use Rattle.document_output.proofs.laws.spans_join.Goals as goal

pub returns : goal.returns
returns c = spans_join
