-- The programs by which a site file's documents are told from scripts.
use Rattle.std.specs.Prelude.{ℕ, ◌≡◌, ◌<◌, ◌+◌, ◌^◌, true, List, ◌∷◌, ◌++◌, length, Some, None}
use Rattle.std.specs.List.{flat_map}
use Rattle.host_base.specs.declared.site.DocRoot.{DocRoot}
use Rattle.host_base.specs.declared.site.Script.{Script}
use Rattle.host_base.specs.declared.site.VHost.{VHost}
use Rattle.site_file.specs.Numbering.{doc_root_of, documents_script, folders_of, host_of, site_of}
use Rattle.site_file.specs.Ranges.{is_program}
use Rattle.site_file.specs.declared.said.SaidDocuments.{SaidDocuments}
use Rattle.site_file.specs.declared.said.SaidHost.{SaidHost}
use Rattle.site_file.specs.declared.said.SaidSite.{SaidSite}
use Rattle.document_output.specs.Folders.{folder_of}

-- a table of documents of a host, with the hosts and the tables that stand before it and behind
pub record StandsIn (said : SaidSite) (documents : SaidDocuments) : Type 0 where
  pub hosts_before : List SaidHost
  pub host : SaidHost
  pub hosts_behind : List SaidHost
  pub before : List SaidDocuments
  pub behind : List SaidDocuments
  pub hosts : said.hosts ≡ hosts_before ++ host ∷ hosts_behind
  pub tables : host.documents ≡ before ++ documents ∷ behind

-- how many tables of documents stand before its host in the whole site
abbrev pub number_before : List SaidHost → ℕ
number_before hosts = length (flat_map folders_of hosts)

-- It is a script of its host, behind the host's own and at its place among the documents; and the program of that script
-- names its folder.
pub record IsNamed (said : SaidSite) (documents : SaidDocuments) (at : StandsIn said documents) : Type 0 where
  pub others_before : List VHost
  pub others_behind : List VHost
  pub hosts : (site_of said).hosts ≡ others_before ++ host_of (number_before at.hosts_before) at.host ∷ others_behind
  pub count : length others_before ≡ length at.hosts_before
  pub front : List Script
  pub back : List Script
  pub scripts : (host_of (number_before at.hosts_before) at.host).scripts
      ≡ at.host.scripts ++ (front ++ documents_script (number_before at.hosts_before + length at.before) documents ∷ back)
  pub place : length front ≡ length at.before
  pub folder : folder_of (site_of said).docs (documents_script (number_before at.hosts_before + length at.before) documents).program ≡ Some (doc_root_of documents)

abbrev pub DocumentsNameTheirFolders : Type 0
DocumentsNameTheirFolders = (said : SaidSite) (documents : SaidDocuments) (at : StandsIn said documents)
    → number_before at.hosts_before + length at.before < 10 ^ 18 → IsNamed said documents at

abbrev pub ProgramsNameNoFolder : Type 0
ProgramsNameNoFolder = (docs : List DocRoot) (program : List ℕ) → is_program program ≡ true → folder_of docs program ≡ None
