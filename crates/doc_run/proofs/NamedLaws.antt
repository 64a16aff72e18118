-- Why the program of a table of documents names its folder, and that of a script none.
use Rattle.std.proofs.Common.{◌≡◌, ◌<◌, ℕ, zero, suc, ◌+◌, ◌^◌, Bool, true, false, List, [], ◌∷◌, ◌++◌, map, length, Option, Some, None, refl, sym, ap, ◌∙◌, append_assoc, subst, arith}
use Rattle.std.specs.Prelude.{◌&&◌, ◌==◌, slice_get, option_and_then, codes}
use Rattle.std.specs.List.{flat_map, starts_with}
use Rattle.std.proofs.lemmas.Grind.{flat_map-append}
use Rattle.std.proofs.lemmas.List.{length-append, length-map, map-append}
use Rattle.std.proofs.lemmas.Bool.{and_parts, eqb-true}
use Rattle.host_base.specs.declared.site.DocRoot.{DocRoot}
use Rattle.host_base.specs.declared.site.Script.{Script}
use Rattle.host_base.specs.declared.site.VHost.{VHost}
use Rattle.site_file.specs.Numbering.{doc_root_of, documents_script, documents_scripts, folders_of, host_of, hosts_of, site_of}
use Rattle.site_file.specs.Ranges.{is_program}
use Rattle.site_file.specs.declared.said.SaidDocuments.{SaidDocuments}
use Rattle.site_file.specs.declared.said.SaidHost.{SaidHost}
use Rattle.site_file.specs.declared.said.SaidSite.{SaidSite}
use Rattle.document_output.specs.Folders.{folder_of}
use Rattle.document_output.proofs.FolderLaws.{folders_are_numbered}
use Rattle.doc_run.specs.Named.{DocumentsNameTheirFolders, IsNamed, ProgramsNameNoFolder, StandsIn, number_before}

-- the scripts of tables that stand before one
scripts_at : (n : ℕ) (before behind : List SaidDocuments) (d : SaidDocuments)
    → (back : List Script) × (documents_scripts n (before ++ d ∷ behind) ≡ documents_scripts n before ++ documents_script (n + length before) d ∷ back)
scripts_at n [] behind d =
    let e : n + 0 ≡ n = omega arith in
    (documents_scripts (n + 1) behind, ap (λ m. documents_script m d ∷ documents_scripts (n + 1) behind) (sym e))
scripts_at n (b ∷ before) behind d =
    let rest = scripts_at (n + 1) before behind d in
    let e : n + 1 + length before ≡ n + length (b ∷ before) = omega arith in
    (rest.0, ap (λ l. documents_script n b ∷ l) (rest.1 ∙ ap (λ m. documents_scripts (n + 1) before ++ documents_script m d ∷ rest.0) e))

scripts_length : (n : ℕ) (ds : List SaidDocuments) → length (documents_scripts n ds) ≡ length ds
scripts_length n [] = refl
scripts_length n (d ∷ ds) = ap (λ m. suc m) (scripts_length (n + 1) ds)

folders_length : (h : SaidHost) (hs : List SaidHost) → number_before (h ∷ hs) ≡ length h.documents + number_before hs
folders_length h hs =
    length-append (folders_of h) (flat_map folders_of hs) ∙ ap (λ n. n + number_before hs) (length-map h.documents doc_root_of)

hosts_at : (n : ℕ) (before behind : List SaidHost) (h : SaidHost)
    → (others : List VHost) × ((back : List VHost) × ((hosts_of n (before ++ h ∷ behind) ≡ others ++ host_of (n + number_before before) h ∷ back) × (length others ≡ length before)))
hosts_at n [] behind h =
    let e : n + 0 ≡ n = omega arith in
    ([], (hosts_of (n + length h.documents) behind, (ap (λ m. host_of m h ∷ hosts_of (n + length h.documents) behind) (sym e), refl)))
hosts_at n (b ∷ before) behind h =
    let rest = hosts_at (n + length b.documents) before behind h in
    let f = folders_length b before in
    let e : n + length b.documents + number_before before ≡ n + number_before (b ∷ before) = omega arith in (
      host_of n b ∷ rest.0,
      (
        rest.1.0,
        (ap (λ l. host_of n b ∷ l) (rest.1.1.0 ∙ ap (λ m. rest.0 ++ host_of m h ∷ rest.1.0) e), ap (λ m. suc m) rest.1.1.1),
      ),
    )

-- what stands behind as many others
get_behind : (xs ys : List DocRoot) (y : DocRoot) → slice_get (xs ++ y ∷ ys) (length xs) ≡ Some y
get_behind [] ys y = refl
get_behind (x ∷ xs) ys y = get_behind xs ys y

docs_at : (said : SaidSite) (d : SaidDocuments) (at : StandsIn said d)
    → (site_of said).docs ≡ (flat_map folders_of at.hosts_before ++ map doc_root_of at.before) ++ doc_root_of d ∷ (map doc_root_of at.behind ++ flat_map folders_of at.hosts_behind)
docs_at said d at =
    ap (flat_map folders_of) at.hosts
    ∙ flat_map-append folders_of at.hosts_before (at.host ∷ at.hosts_behind)
    ∙ ap (λ l. flat_map folders_of at.hosts_before ++ (l ++ flat_map folders_of at.hosts_behind)) (ap (map doc_root_of) at.tables ∙ map-append doc_root_of at.before (d ∷ at.behind))
    ∙ ap (λ l. flat_map folders_of at.hosts_before ++ l) (append_assoc (map doc_root_of at.before) (doc_root_of d ∷ map doc_root_of at.behind) (flat_map folders_of at.hosts_behind))
    ∙ sym (append_assoc (flat_map folders_of at.hosts_before) (map doc_root_of at.before) (doc_root_of d ∷ (map doc_root_of at.behind ++ flat_map folders_of at.hosts_behind)))

pub documents_name_their_folders : DocumentsNameTheirFolders
documents_name_their_folders said d at few =
    let n = number_before at.hosts_before in
    let hosts = hosts_at 0 at.hosts_before at.hosts_behind at.host in
    let zero_n : 0 + number_before at.hosts_before ≡ number_before at.hosts_before = omega arith in
    let scripts = scripts_at n at.before at.behind d in
    let front = flat_map folders_of at.hosts_before ++ map doc_root_of at.before in
    let back = map doc_root_of at.behind ++ flat_map folders_of at.hosts_behind in
    let long : length front ≡ n + length at.before =
    length-append (flat_map folders_of at.hosts_before) (map doc_root_of at.before) ∙ ap (λ m. n + m) (length-map at.before doc_root_of) in
    record {
      others_before = hosts.0;
      others_behind = hosts.1.0;
      hosts = ap (hosts_of 0) at.hosts ∙ hosts.1.1.0 ∙ ap (λ m. hosts.0 ++ host_of m at.host ∷ hosts.1.0) zero_n;
      count = hosts.1.1.1;
      front = documents_scripts n at.before;
      back = scripts.0;
      scripts = ap (λ l. at.host.scripts ++ documents_scripts n l) at.tables ∙ ap (λ l. at.host.scripts ++ l) scripts.1;
      place = scripts_length n at.before;
      folder =
          folders_are_numbered (site_of said).docs (n + length at.before) few
          ∙ ap (λ docs. slice_get docs (n + length at.before)) (docs_at said d at)
          ∙ ap (λ m. slice_get (front ++ doc_root_of d ∷ back) m) (sym long)
          ∙ get_behind front back (doc_root_of d);
    }

-- ---- scripts

-- a script's program begins with "/", and that of documents doesn't
pub programs_name_no_folder : ProgramsNameNoFolder
programs_name_no_folder docs [] is = refl
programs_name_no_folder docs (byte ∷ rest) is =
    let begins = (and_parts _ _ (and_parts _ _ is).0).0 in
    let slash : 47 ≡ byte = eqb-true 47 byte (and_parts (47 == byte) true begins).0 in
    subst (λ b. folder_of docs (b ∷ rest) ≡ None) slash refl
