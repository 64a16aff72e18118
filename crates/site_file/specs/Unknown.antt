-- The keys that there are, and the first unknown key of a site file: of the top, then of limits, then of each host
-- followed by its scripts and its documents. Of a table it is the least by its bytes; tables ascend by their keys.
use Rattle.std.specs.Prelude.{ℕ, ◌+◌, Bool, false, not, List, [], ◌∷◌, ◌++◌, Option, None, option_map, option_and_then, unwrap_or, find, codes, if◌then◌else◌}
use Rattle.std.specs.List.{list_any}
use Rattle.std.specs.Option.{option_map_or}
use Rattle.std.specs.Str.{bytes_eq}
use Rattle.toml.specs.Data.{Members, no_members, member, get_member, as_str, as_table}
use Rattle.site_file.specs.declared.fault.SiteFault.{SiteFault}
use Rattle.site_file.specs.declared.fault.SiteFault.TheVariants.{Unknown}
use Rattle.site_file.specs.declared.levels.Level.{Level}
use Rattle.site_file.specs.declared.levels.Level.TheVariants.{Version1, Version2, Limits, Host, Script, WebSocketScript, Documents}
use Rattle.site_file.specs.Levels.{known_at}
use Rattle.site_file.specs.Keys.{as_tables, entry}
use Rattle.site_file.specs.Steps.{or_else}

abbrev pub is_unknown : Level → List ℕ → Bool
is_unknown level key = not (list_any (bytes_eq key) (known_at level))

-- the keys of a table, which ascend by their bytes
abbrev pub keys_of : Members → List (List ℕ)
keys_of no_members = []
keys_of (member key found rest) = key ∷ keys_of rest

-- the first unknown key of a table
unfoldable pub unknown_at : Level → List ℕ → Members → Option SiteFault
unknown_at level place table = option_map (λ key. Unknown (place ++ key)) (find (is_unknown level) (keys_of table))

-- the table at a key, which is empty where there is none
abbrev pub table_at : List ℕ → Members → Members
table_at key table = unwrap_or (option_and_then as_table (get_member key table)) no_members

-- the tables at a key, none where there are none
abbrev pub tables_at : List ℕ → Members → List Members
tables_at key table = unwrap_or (option_and_then as_tables (get_member key table)) []

-- the first fault of the tables of an array, from an index on
unfoldable pub first_from : (ℕ → Members → Option SiteFault) → ℕ → List Members → Option SiteFault
first_from look index [] = None
first_from look index (table ∷ tables) = or_else (look index table) (first_from look (index + 1) tables)

-- a script of kind websocket
unfoldable pub is_web_socket : Members → Bool
is_web_socket table = option_map_or (bytes_eq (codes "websocket")) (option_and_then as_str (get_member (codes "kind") table)) false

-- only a websocket script has origins
abbrev pub level_of_script : Members → Level
level_of_script table = if is_web_socket table then WebSocketScript else Script

unfoldable pub unknown_in_script : List ℕ → Members → Option SiteFault
unknown_in_script place table = unknown_at (level_of_script table) place table

unfoldable pub unknown_in_scripts : List ℕ → List Members → Option SiteFault
unknown_in_scripts place tables = first_from (λ index table. unknown_in_script (entry place (codes "script") index) table) 0 tables

unfoldable pub unknown_in_documents : List ℕ → List Members → Option SiteFault
unknown_in_documents place tables = first_from (λ index table. unknown_at Documents (entry place (codes "documents") index) table) 0 tables

unfoldable pub unknown_in_limits : Members → Option SiteFault
unknown_in_limits table = unknown_at Limits (codes "limits.") (table_at (codes "limits") table)

unfoldable pub unknown_in_host : List ℕ → Members → Option SiteFault
unknown_in_host place table =
    or_else (unknown_at Host place table)
    (or_else (unknown_in_scripts place (tables_at (codes "script") table)) (unknown_in_documents place (tables_at (codes "documents") table)))

unfoldable pub unknown_in_hosts : List Members → Option SiteFault
unknown_in_hosts tables = first_from (λ index table. unknown_in_host (entry [] (codes "host") index) table) 0 tables

unfoldable pub unknown_in_1 : Members → Option SiteFault
unknown_in_1 table = or_else (unknown_at Version1 [] table) (or_else (unknown_in_limits table) (unknown_in_scripts [] (tables_at (codes "script") table)))

unfoldable pub unknown_in_2 : Members → Option SiteFault
unknown_in_2 table = or_else (unknown_at Version2 [] table) (or_else (unknown_in_limits table) (unknown_in_hosts (tables_at (codes "host") table)))
