use Rattle.toml.proofs.Views.{view-Boolean}
use Rattle.site_file.proofs.write.flag.Goals as goal

pub returns : goal.returns
returns c = view-Boolean _
