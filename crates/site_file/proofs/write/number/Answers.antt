use Rattle.std.proofs.Common.{ap, ◌∙◌, w64}
use Rattle.std.proofs.lemmas.Int.{to_z_pos}
use Rattle.toml.specs.Data.{integer}
use Rattle.toml.proofs.Views.{view-Integer}
use Rattle.site_file.proofs.write.number.Goals as goal

pub returns : goal.returns
returns c = view-Integer _ ∙ ap integer (to_z_pos w64 c.args.n c.requires)
