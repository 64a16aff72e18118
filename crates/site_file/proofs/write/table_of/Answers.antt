use Rattle.toml.proofs.Views.{view-Table}
use Rattle.site_file.proofs.write.table_of.Goals as goal

pub returns : goal.returns
returns c = view-Table _
