use Rattle.site_file.proofs.ServedLaws.{reads_said, reads_served}
use Rattle.site_file.proofs.site.read_site.Goals as goal

pub returns-clause-said : goal.returns-clause-said
returns-clause-said c = reads_said c.args.bytes.now c.read.result c.read.ensures

pub returns-clause-served : goal.returns-clause-served
returns-clause-served c = reads_served c.args.bytes.now c.read.result c.read.ensures
