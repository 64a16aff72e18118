-- What reading and writing a site say of each other.
use Rattle.std.specs.Prelude.{◌≡◌, Ok}
use Rattle.toml.specs.Data.{Members}
use Rattle.host_base.specs.declared.site.Site.{Site}
use Rattle.site_file.specs.SiteFile.{site_in}
use Rattle.site_file.specs.SiteText.{document_of}

-- The site that a document of either version says is the site that the version 2 document written for it says. So a
-- version 1 file means its version 2 form.
abbrev pub SitesComeBack : Type 0
SitesComeBack = (table : Members) (site : Site) → site_in table ≡ Ok site → site_in (document_of site) ≡ Ok site
