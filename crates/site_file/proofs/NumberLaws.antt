-- Documents numbered one after the other.
use Rattle.std.proofs.Common.{◌≡◌, ◌+◌, List, [], ◌∷◌, ◌++◌, map, length, append_assoc, length-append, rules, ap, sym, ◌∙◌}
use Rattle.std.proofs.lemmas.List.{length-map}
use Rattle.std.specs.List.{flat_map}
use Rattle.host_base.specs.declared.site.DocRoot.{DocRoot}
use Rattle.host_base.specs.declared.site.Script.{Script}
use Rattle.host_base.specs.declared.site.VHost.{VHost}
use Rattle.site_file.specs.declared.said.SaidDocuments.{SaidDocuments}
use Rattle.site_file.specs.declared.said.SaidHost.{SaidHost}
use Rattle.site_file.specs.Numbering.{documents_script, documents_scripts, doc_root_of, host_of, hosts_of, folders_of}

scripts_more : (scripts : List Script) (docs : List DocRoot) (table : SaidDocuments) (rest all : List SaidDocuments) → all ≡ table ∷ rest
    → (scripts ++ documents_script (length docs) table ∷ []) ++ documents_scripts (length (docs ++ doc_root_of table ∷ [])) rest ≡ scripts ++ documents_scripts (length docs) all
scripts_more scripts docs table rest all is =
    append_assoc scripts (documents_script (length docs) table ∷ []) (documents_scripts (length (docs ++ doc_root_of table ∷ [])) rest)
    ∙ ap (λ count. scripts ++ documents_script (length docs) table ∷ documents_scripts count rest) (length-append docs (doc_root_of table ∷ []))
    ∙ ap (λ documents. scripts ++ documents_scripts (length docs) documents) (sym is)

folders_more : (docs : List DocRoot) (table : SaidDocuments) (rest all : List SaidDocuments) → all ≡ table ∷ rest
    → (docs ++ doc_root_of table ∷ []) ++ map doc_root_of rest ≡ docs ++ map doc_root_of all
folders_more docs table rest all is = append_assoc docs (doc_root_of table ∷ []) (map doc_root_of rest) ∙ ap (λ documents. docs ++ map doc_root_of documents) (sym is)

length-folders : (host : SaidHost) → length (folders_of host) ≡ length host.documents
length-folders host = search (rules, length-map)

hosts_more : (hosts : List VHost) (docs : List DocRoot) (host : SaidHost) (rest all : List SaidHost) → all ≡ host ∷ rest
    → (hosts ++ host_of (length docs) host ∷ []) ++ hosts_of (length (docs ++ folders_of host)) rest ≡ hosts ++ hosts_of (length docs) all
hosts_more hosts docs host rest all is =
    append_assoc hosts (host_of (length docs) host ∷ []) (hosts_of (length (docs ++ folders_of host)) rest)
    ∙ ap (λ count. hosts ++ host_of (length docs) host ∷ hosts_of count rest) (length-append docs (folders_of host) ∙ ap (λ more. length docs + more) (length-folders host))
    ∙ ap (λ hosts'. hosts ++ hosts_of (length docs) hosts') (sym is)

docs_more : (docs : List DocRoot) (host : SaidHost) (rest all : List SaidHost) → all ≡ host ∷ rest
    → (docs ++ folders_of host) ++ flat_map folders_of rest ≡ docs ++ flat_map folders_of all
docs_more docs host rest all is = append_assoc docs (folders_of host) (flat_map folders_of rest) ∙ ap (λ hosts. docs ++ flat_map folders_of hosts) (sym is)

-- one table more of a host's documents
pub tables_go_on : (scripts scripts' all_scripts : List Script) (docs docs' all_docs : List DocRoot) (table : SaidDocuments) (rest all : List SaidDocuments)
    → (scripts ++ documents_scripts (length docs) all ≡ all_scripts) × (docs ++ map doc_root_of all ≡ all_docs)
    → all ≡ table ∷ rest → scripts' ≡ scripts ++ documents_script (length docs) table ∷ [] → docs' ≡ docs ++ doc_root_of table ∷ []
    → (scripts' ++ documents_scripts (length docs') rest ≡ all_scripts) × (docs' ++ map doc_root_of rest ≡ all_docs)
tables_go_on scripts scripts' all_scripts docs docs' all_docs table rest all so_far is more_scripts more_docs = (
  ap (λ front. front ++ documents_scripts (length docs') rest) more_scripts
      ∙ ap (λ folders. (scripts ++ documents_script (length docs) table ∷ []) ++ documents_scripts (length folders) rest) more_docs
      ∙ scripts_more scripts docs table rest all is ∙ so_far.0,
  ap (λ front. front ++ map doc_root_of rest) more_docs ∙ folders_more docs table rest all is ∙ so_far.1,
)

-- one host more
pub hosts_go_on : (hosts hosts' all_hosts : List VHost) (docs docs' all_docs : List DocRoot) (host : SaidHost) (rest all : List SaidHost)
    → (hosts ++ hosts_of (length docs) all ≡ all_hosts) × (docs ++ flat_map folders_of all ≡ all_docs)
    → all ≡ host ∷ rest → hosts' ≡ hosts ++ host_of (length docs) host ∷ [] → docs' ≡ docs ++ folders_of host
    → (hosts' ++ hosts_of (length docs') rest ≡ all_hosts) × (docs' ++ flat_map folders_of rest ≡ all_docs)
hosts_go_on hosts hosts' all_hosts docs docs' all_docs host rest all so_far is more_hosts more_docs = (
  ap (λ front. front ++ hosts_of (length docs') rest) more_hosts
      ∙ ap (λ folders. (hosts ++ host_of (length docs) host ∷ []) ++ hosts_of (length folders) rest) more_docs
      ∙ hosts_more hosts docs host rest all is ∙ so_far.0,
  ap (λ front. front ++ flat_map folders_of rest) more_docs ∙ docs_more docs host rest all is ∙ so_far.1,
)
