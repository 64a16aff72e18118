-- The version 2 document of a site.
use Rattle.std.specs.Prelude.{ℕ, pos, Bool, not, ◌==◌, List, [], ◌∷◌, map, filter, drop, count_by, codes, Option, Some, None, option_map}
use Rattle.std.specs.List.{starts_with}
use Rattle.std.specs.Cmp.Lexicographic.{slice_cmp}
use Rattle.std.specs.Ordering.{nat_cmp, match_ordering}
use Rattle.toml.specs.Data.{Data, string, integer, boolean, array, table, Members, no_members, member}
use Rattle.toml.specs.View.{items_of}
use Rattle.host_base.specs.declared.launch.Pair.{Pair}
use Rattle.host_base.specs.declared.limits.Limits.{Limits}
use Rattle.host_base.specs.declared.site.DocRoot.{DocRoot}
use Rattle.host_base.specs.declared.site.Script.{Script}
use Rattle.host_base.specs.declared.site.Site.{Site}
use Rattle.host_base.specs.declared.site.VHost.{VHost}
use Rattle.site_file.specs.Ranges.{word_of}

-- a member among others whose keys ascend
unfoldable pub put : List ℕ → Data → Members → Members
put key found no_members = member key found no_members
put key found (member first other rest) = match_ordering (slice_cmp nat_cmp key first) (member key found (member first other rest)) (member first found rest) (member first other (put key found rest))

-- a member, where there is something
abbrev pub put_some : List ℕ → Option Data → Members → Members
put_some key None rest = rest
put_some key (Some found) rest = put key found rest

abbrev pub number : ℕ → Data
number n = integer (pos n)

abbrev pub texts : List (List ℕ) → Data
texts list = array (items_of (map string list))

abbrev pub tables : List Members → Data
tables list = array (items_of (map table list))

-- an array, where it has an item
abbrev pub some_array : List Data → Option Data
some_array [] = None
some_array (first ∷ rest) = Some (array (items_of (first ∷ rest)))

abbrev pub some_tables : List Members → Option Data
some_tables list = some_array (map table list)

unfoldable pub put_bytes : Limits → Members → Members
put_bytes limits rest =
    put (codes "head") (number limits.head) (put (codes "target") (number limits.target) (put (codes "body") (number limits.body) (put (codes "output") (number limits.output) rest)))

unfoldable pub put_ticks : Limits → Members → Members
put_ticks limits rest =
    put (codes "run_ticks") (number limits.run_ticks) (put (codes "idle_ticks") (number limits.idle_ticks) (put (codes "linger_ticks") (number limits.linger_ticks) rest))

unfoldable pub put_counts : Limits → Members → Members
put_counts limits rest =
    put (codes "redirects") (number limits.redirects) (put (codes "connections") (number limits.connections)
    (put (codes "children") (number limits.children) (put (codes "ws_text") (number limits.ws_text) rest)))

unfoldable pub limits_members : Limits → Members
limits_members limits = put_bytes limits (put_ticks limits (put_counts limits no_members))

unfoldable pub script_members : Script → Members
script_members script =
    put (codes "path") (string script.path) (put (codes "program") (string script.program) (put (codes "kind") (string (word_of script.kind))
    (put_some (codes "origins") (option_map texts script.origins) no_members)))

unfoldable pub types_members : List Pair → Members
types_members [] = no_members
types_members (type ∷ types) = put type.name (string type.value) (types_members types)

unfoldable pub documents_members : List ℕ → DocRoot → Members
documents_members path folder = put (codes "path") (string path) (put (codes "root") (string folder.root) (put (codes "types") (table (types_members folder.types)) no_members))

-- a script whose program is a file; the others stand for documents
abbrev pub has_file : Script → Bool
has_file script = starts_with (λ a b. a == b) script.program (codes "/")

abbrev pub is_documents : Script → Bool
is_documents script = not (has_file script)

abbrev pub script_tables : List Script → List Members
script_tables scripts = map script_members (filter has_file scripts)

-- the documents of scripts, with the folders in their order
abbrev pub zip_documents : List Script → List DocRoot → List Members
zip_documents [] folders = []
zip_documents (script ∷ scripts) [] = []
zip_documents (script ∷ scripts) (folder ∷ folders) = documents_members script.path folder ∷ zip_documents scripts folders

abbrev pub documents_tables : List Script → List DocRoot → List Members
documents_tables scripts folders = zip_documents (filter is_documents scripts) folders

unfoldable pub host_members : VHost → List DocRoot → Members
host_members host folders =
    put (codes "name") (string host.name) (put (codes "aliases") (texts host.aliases) (put (codes "any") (boolean host.any) (put (codes "root") (string host.root)
    (put_some (codes "script") (some_tables (script_tables host.scripts)) (put_some (codes "documents") (some_tables (documents_tables host.scripts folders)) no_members)))))

-- each host takes as many folders as it has documents
unfoldable pub host_tables : List VHost → List DocRoot → List Members
host_tables [] folders = []
host_tables (host ∷ hosts) folders = host_members host folders ∷ host_tables hosts (drop (count_by is_documents host.scripts) folders)

-- the document
unfoldable pub document_of : Site → Members
document_of site =
    put (codes "version") (number 2) (put (codes "listen") (string site.listen) (put (codes "port") (number site.port)
    (put (codes "limits") (table (limits_members site.limits)) (put (codes "host") (tables (host_tables site.hosts site.docs)) no_members))))
