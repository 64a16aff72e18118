use Rattle.doc_run.proofs.NamedLaws.{programs_name_no_folder}
use Rattle.doc_run.proofs.laws.programs_name_no_folder.Goals as goal

pub returns : goal.returns
returns c = programs_name_no_folder
