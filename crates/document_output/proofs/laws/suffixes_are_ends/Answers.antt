use Rattle.document_output.proofs.SpanLaws.{suffixes_are_ends}
use Rattle.document_output.proofs.laws.suffixes_are_ends.Goals as goal

pub returns : goal.returns
returns c = suffixes_are_ends
