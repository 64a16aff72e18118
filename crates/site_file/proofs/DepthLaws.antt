-- The document of a site is no deeper than a reader takes.
use Rattle.std.proofs.Common.{◌≡◌, ℕ, suc, ◌≤◌, List, [], ◌∷◌, map, Option, Some, None, Ordering, Less, Equal, Greater, arith, option_map, codes, refl, subst}
use Rattle.std.specs.Cmp.Lexicographic.{slice_cmp}
use Rattle.std.specs.Ordering.{nat_cmp, match_ordering}
use Rattle.std.specs.Prelude.{filter}
use Rattle.toml.specs.Data.{Data, string, table, Members, no_members, member, depth, items_depth, members_depth}
use Rattle.toml.specs.View.{items_of}
use Rattle.host_base.specs.declared.launch.Pair.{Pair}
use Rattle.host_base.specs.declared.limits.Limits.{Limits}
use Rattle.host_base.specs.declared.site.DocRoot.{DocRoot}
use Rattle.host_base.specs.declared.site.Script.{Script}
use Rattle.host_base.specs.declared.site.Site.{Site}
use Rattle.host_base.specs.declared.site.VHost.{VHost}
use Rattle.site_file.specs.SiteText.{put, put_some, texts, tables, some_tables, put_bytes, put_ticks, put_counts, limits_members, script_members, types_members, documents_members, script_tables, zip_documents, documents_tables, is_documents, has_file, host_members, host_tables, document_of}

chosen : (o : Ordering) (a b c : Members) (n : ℕ) → members_depth a ≤ n → members_depth b ≤ n → members_depth c ≤ n → members_depth (match_ordering o a b c) ≤ n
chosen Less a b c n ha hb hc = ha
chosen Equal a b c n ha hb hc = hb
chosen Greater a b c n ha hb hc = hc

put_depth : (n : ℕ) (key : List ℕ) (found : Data) (rest : Members) → depth found ≤ n → members_depth rest ≤ n → members_depth (put key found rest) ≤ n
unfolding put
put_depth n key found no_members here others = omega arith
put_depth n key found (member first other rest) here others =
    chosen (slice_cmp nat_cmp key first) (member key found (member first other rest)) (member first found rest) (member first other (put key found rest)) n
    (omega arith) (omega arith) (let later = put_depth n key found rest here (omega arith) in omega arith)

put_some_depth : (n : ℕ) (key : List ℕ) (found : Option Data) (rest : Members) → ((value : Data) → found ≡ Some value → depth value ≤ n) → members_depth rest ≤ n → members_depth (put_some key found rest) ≤ n
put_some_depth n key None rest here others = others
put_some_depth n key (Some found) rest here others = put_depth n key found rest (here found refl) others

strings_depth : (list : List (List ℕ)) → items_depth (items_of (map string list)) ≤ 0
strings_depth [] = omega arith
strings_depth (text ∷ list) = let rest = strings_depth list in omega arith

texts_depth : (list : List (List ℕ)) → depth (texts list) ≤ 1
texts_depth list = let inside = strings_depth list in omega arith

-- each table of a list is no deeper than n
record AreShallow (n : ℕ) (list : List Members) : Type 0 where
  pub items : items_depth (items_of (map table list)) ≤ suc n

none_shallow : (n : ℕ) → AreShallow n []
none_shallow n = record { items = omega arith }

one_shallow : (n : ℕ) (first : Members) (rest : List Members) → members_depth first ≤ n → AreShallow n rest → AreShallow n (first ∷ rest)
one_shallow n first rest here others = let later = others.items in record { items = omega arith }

some_depth : (n : ℕ) (list : List Members) → AreShallow n list → (found : Data) → some_tables list ≡ Some found → depth found ≤ suc (suc n)
some_depth n [] shallow found e = absurd (cc e)
some_depth n (first ∷ rest) shallow found e =
    let inside = shallow.items in
    let same : tables (first ∷ rest) ≡ found = cc e in
    subst (λ found. depth found ≤ suc (suc n)) same (omega arith)

origins_depth : (origins : Option (List (List ℕ))) (found : Data) → option_map texts origins ≡ Some found → depth found ≤ 1
origins_depth None found e = absurd (cc e)
origins_depth (Some list) found e = let same : texts list ≡ found = cc e in subst (λ found. depth found ≤ 1) same (texts_depth list)

script_depth : (script : Script) → members_depth (script_members script) ≤ 1
unfolding script_members
script_depth script =
    put_depth 1 _ _ _ (omega arith) (put_depth 1 _ _ _ (omega arith) (put_depth 1 _ _ _ (omega arith)
    (put_some_depth 1 (codes "origins") (option_map texts script.origins) no_members (origins_depth script.origins) (omega arith))))

types_depth : (types : List Pair) → members_depth (types_members types) ≤ 0
unfolding types_members
types_depth [] = omega arith
types_depth (type ∷ types) = put_depth 0 type.name (string type.value) (types_members types) (omega arith) (types_depth types)

documents_depth : (path : List ℕ) (folder : DocRoot) → members_depth (documents_members path folder) ≤ 1
unfolding documents_members
documents_depth path folder =
    let inside = types_depth folder.types in
    put_depth 1 _ _ _ (omega arith) (put_depth 1 _ _ _ (omega arith) (put_depth 1 (codes "types") (table (types_members folder.types)) no_members (omega arith) (omega arith)))

scripts_shallow : (scripts : List Script) → AreShallow 1 (map script_members scripts)
scripts_shallow [] = none_shallow 1
scripts_shallow (script ∷ scripts) = one_shallow 1 (script_members script) (map script_members scripts) (script_depth script) (scripts_shallow scripts)

documents_shallow : (scripts : List Script) (folders : List DocRoot) → AreShallow 1 (zip_documents scripts folders)
documents_shallow [] folders = none_shallow 1
documents_shallow (script ∷ scripts) [] = none_shallow 1
documents_shallow (script ∷ scripts) (folder ∷ folders) = one_shallow 1 (documents_members script.path folder) (zip_documents scripts folders) (documents_depth script.path folder) (documents_shallow scripts folders)

host_depth : (host : VHost) (folders : List DocRoot) → members_depth (host_members host folders) ≤ 3
unfolding host_members
host_depth host folders =
    let aliases = texts_depth host.aliases in
    put_depth 3 _ _ _ (omega arith) (put_depth 3 (codes "aliases") (texts host.aliases) _ (omega arith) (put_depth 3 _ _ _ (omega arith) (put_depth 3 _ _ _ (omega arith)
    (put_some_depth 3 (codes "script") (some_tables (script_tables host.scripts)) _ (some_depth 1 (script_tables host.scripts) (scripts_shallow (filter has_file host.scripts)))
    (put_some_depth 3 (codes "documents") (some_tables (documents_tables host.scripts folders)) no_members (some_depth 1 (documents_tables host.scripts folders) (documents_shallow (filter is_documents host.scripts) folders)) (omega arith))))))

hosts_shallow : (hosts : List VHost) (folders : List DocRoot) → AreShallow 3 (host_tables hosts folders)
unfolding host_tables
hosts_shallow [] folders = none_shallow 3
hosts_shallow (host ∷ hosts) folders = one_shallow 3 (host_members host folders) _ (host_depth host folders) (hosts_shallow hosts _)

limits_depth : (limits : Limits) → members_depth (limits_members limits) ≤ 0
unfolding limits_members put_bytes put_ticks put_counts
limits_depth limits =
    put_depth 0 _ _ _ (omega arith) (put_depth 0 _ _ _ (omega arith) (put_depth 0 _ _ _ (omega arith) (put_depth 0 _ _ _ (omega arith)
    (put_depth 0 _ _ _ (omega arith) (put_depth 0 _ _ _ (omega arith) (put_depth 0 _ _ _ (omega arith)
    (put_depth 0 _ _ _ (omega arith) (put_depth 0 _ _ _ (omega arith) (put_depth 0 _ _ _ (omega arith) (put_depth 0 _ _ _ (omega arith) (omega arith)))))))))))

pub document_depth : (site : Site) → members_depth (document_of site) ≤ 80
unfolding document_of
document_depth site =
    let limits = limits_depth site.limits in
    let hosts = (hosts_shallow site.hosts site.docs).items in
    put_depth 80 _ _ _ (omega arith) (put_depth 80 _ _ _ (omega arith) (put_depth 80 _ _ _ (omega arith)
    (put_depth 80 (codes "limits") (table (limits_members site.limits)) _ (omega arith) (put_depth 80 (codes "host") (tables (host_tables site.hosts site.docs)) no_members (omega arith) (omega arith)))))
