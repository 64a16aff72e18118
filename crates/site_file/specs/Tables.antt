-- Tables that a reading lends, as the members that they hold.
use Rattle.std.specs.Prelude.{◌≡◌, ◌≢◌, ℕ, List, map, Option, Some, None, Result, Ok, Err, String, Vec}
use denote.Ref.{Bor}
use Rattle.std.specs.BTreeMap.{BTreeMap}
use Rattle.std.specs.Global.{Global}
use Rattle.toml.specs.Data.{Members, no_members}
use Rattle.toml.specs.View.{table_view}
use Rattle.toml.specs.declared.value.Value.{Value}
use Rattle.host_base.specs.declared.site.Script.{Script}
use Rattle.site_file.specs.declared.fault.SiteFault.{SiteFault}
use Rattle.site_file.specs.declared.fault.SiteFault.TheVariants.{NoMemory}

abbrev pub Table : Type 0
Table = BTreeMap (String Global) Value

abbrev pub members_at : Bor Table → Members
members_at table = table_view table.now

-- the members of each table
abbrev pub members_of_all : List (Bor Table) → List Members
members_of_all tables = map members_at tables

-- the members of a table, none where there is none
abbrev pub members_or_none : Option (Bor Table) → Members
members_or_none None = no_members
members_or_none (Some table) = table_view table.now

abbrev pub ReadsTable : Result Members SiteFault → Result (Option (Bor Table)) SiteFault → Type 0
ReadsTable expected (Ok table) = expected ≡ Ok (members_or_none table)
ReadsTable expected (Err fault) = fault ≢ NoMemory → expected ≡ Err fault

abbrev pub ReadsTables : Result (List Members) SiteFault → Result (Vec (Bor Table) Global) SiteFault → Type 0
ReadsTables expected (Ok tables) = expected ≡ Ok (members_of_all tables.items)
ReadsTables expected (Err fault) = fault ≢ NoMemory → expected ≡ Err fault

-- the bytes of a text that is lent
abbrev pub text_at : Bor (List ℕ) → List ℕ
text_at text = text.now

-- the script that is lent
abbrev pub script_at : Bor Script → Script
script_at script = script.now
