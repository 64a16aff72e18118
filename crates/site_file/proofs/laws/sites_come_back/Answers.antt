use Rattle.site_file.proofs.SiteBackLaws.{said_back}
use Rattle.site_file.proofs.laws.sites_come_back.Goals as goal

pub returns : goal.returns
returns c = said_back
