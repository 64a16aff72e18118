use Rattle.document_output.proofs.FolderLaws.{folders_are_numbered}
use Rattle.document_output.proofs.laws.folders_are_numbered.Goals as goal

pub returns : goal.returns
returns c = folders_are_numbered
