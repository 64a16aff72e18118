use Rattle.doc_run.proofs.NamedLaws.{documents_name_their_folders}
use Rattle.doc_run.proofs.laws.documents_name_their_folders.Goals as goal

pub returns : goal.returns
returns c = documents_name_their_folders
