-- The texts that a range admits.
use Rattle.std.specs.Prelude.{ℕ, Bool, List}
use Rattle.site_file.specs.declared.ranges.TextRange.{TextRange}
use Rattle.site_file.specs.declared.ranges.TextRange.TheVariants.{HostName, Address, Folder, ScriptPath, Program, Kind}
use Rattle.site_file.specs.Ranges.{is_host_name, is_address, is_folder, is_script_path, is_program, is_kind}

abbrev pub admits : TextRange → List ℕ → Bool
admits HostName text = is_host_name text
admits Address text = is_address text
admits Folder text = is_folder text
admits ScriptPath text = is_script_path text
admits Program text = is_program text
admits Kind text = is_kind text
