-- The site of one script is what a file with that script alone says.
use Rattle.std.proofs.Common.{◌≡◌, ℕ, pos, true, List, Ok, codes}
use Rattle.toml.specs.Data.{string, integer, array, table, no_items, item, Members, no_members, member}
use Rattle.host_base.specs.SiteRules.{IsServed}
use Rattle.site_file.specs.Doubles.{first_again, path_again, double_in}
use Rattle.site_file.specs.Keys.{required, optional, required_number, optional_number, each_from}
use Rattle.site_file.specs.OneScript.{site_of_one}
use Rattle.site_file.specs.Ranges.{is_script_path, is_program}
use Rattle.site_file.specs.SiteFile.{byte_limits_in, tick_limits_in, count_limits_in, limits_in, limits_of, port_in, origins_in, script_in, scripts_in, file_1, site_in, IsSaid}
use Rattle.site_file.specs.Unknown.{unknown_at, is_web_socket, first_from, unknown_in_script, unknown_in_scripts, unknown_in_limits, unknown_in_1}
use Rattle.site_file.proofs.ServedLaws.{said_is_served}

-- version = 1 and one table of `script`, with its path and program
one_document : List ℕ → List ℕ → Members
one_document path program =
    member (codes "script") (array (item (table (member (codes "path") (string path) (member (codes "program") (string program) no_members))) no_items))
    (member (codes "version") (integer (pos 1)) no_members)

one_is_in : (path program : List ℕ) → is_script_path path ≡ true → is_program program ≡ true → site_in (one_document path program) ≡ Ok (site_of_one path program)
unfolding one_document site_in required required_number optional optional_number each_from byte_limits_in tick_limits_in count_limits_in limits_in limits_of port_in origins_in script_in scripts_in file_1 unknown_at is_web_socket first_from unknown_in_script unknown_in_scripts unknown_in_limits unknown_in_1 first_again path_again double_in
one_is_in path program rooted file = rw (rooted, file)

pub one_is_said : (path program : List ℕ) → is_script_path path ≡ true → is_program program ≡ true → IsSaid (site_of_one path program)
one_is_said path program rooted file = (one_document path program, one_is_in path program rooted file)

pub one_is_served : (path program : List ℕ) → is_script_path path ≡ true → is_program program ≡ true → IsServed (site_of_one path program)
one_is_served path program rooted file = said_is_served (one_document path program) (site_of_one path program) (one_is_in path program rooted file)
