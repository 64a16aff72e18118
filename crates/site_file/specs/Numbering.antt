-- The site of a site file: documents are numbered over the whole site.
use Rattle.std.specs.Prelude.{ℕ, ◌+◌, List, [], ◌∷◌, ◌++◌, map, length, None, codes}
use Rattle.std.specs.Fmt.{decimal}
use Rattle.std.specs.List.{flat_map}
use Rattle.host_base.specs.declared.site.DocRoot.{DocRoot}
use Rattle.host_base.specs.declared.site.Script.{Script}
use Rattle.host_base.specs.declared.site.ScriptKind.TheVariants.{Cgi}
use Rattle.host_base.specs.declared.site.Site.{Site}
use Rattle.host_base.specs.declared.site.VHost.{VHost}
use Rattle.site_file.specs.declared.said.SaidDocuments.{SaidDocuments}
use Rattle.site_file.specs.declared.said.SaidHost.{SaidHost}
use Rattle.site_file.specs.declared.said.SaidSite.{SaidSite}

-- the program of the documents of a number
abbrev pub documents_program : ℕ → List ℕ
documents_program number = codes "documents:" ++ decimal number

-- documents are a script of kind cgi
abbrev pub documents_script : ℕ → SaidDocuments → Script
documents_script number documents = record { path = documents.path; program = documents_program number; kind = Cgi; origins = None }

-- .. of the numbers from one on
abbrev pub documents_scripts : ℕ → List SaidDocuments → List Script
documents_scripts number [] = []
documents_scripts number (first ∷ rest) = documents_script number first ∷ documents_scripts (number + 1) rest

-- the documents of a host stand after its scripts
abbrev pub host_of : ℕ → SaidHost → VHost
host_of number host = record {
  name = host.name;
  aliases = host.aliases;
  any = host.any;
  root = host.root;
  scripts = host.scripts ++ documents_scripts number host.documents;
}

-- the hosts, whose documents have the numbers from one on
abbrev pub hosts_of : ℕ → List SaidHost → List VHost
hosts_of number [] = []
hosts_of number (host ∷ hosts) = host_of number host ∷ hosts_of (number + length host.documents) hosts

abbrev pub doc_root_of : SaidDocuments → DocRoot
doc_root_of documents = record { root = documents.root; types = documents.types }

-- the folders of a host's documents
abbrev pub folders_of : SaidHost → List DocRoot
folders_of host = map doc_root_of host.documents

abbrev pub site_of : SaidSite → Site
site_of said = record {
  listen = said.listen;
  port = said.port;
  limits = said.limits;
  hosts = hosts_of 0 said.hosts;
  docs = flat_map folders_of said.hosts;
}
