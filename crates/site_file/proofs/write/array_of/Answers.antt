use Rattle.toml.proofs.Views.{view-Array}
use Rattle.site_file.proofs.write.array_of.Goals as goal

pub returns : goal.returns
returns c = view-Array _
