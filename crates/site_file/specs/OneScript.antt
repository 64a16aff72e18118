-- The site of one script, as a version 1 file with that script alone would say it.
use Rattle.std.specs.Prelude.{ℕ, true, List, [], ◌∷◌, Option, Some, None, codes, if◌then◌else◌}
use Rattle.host_base.specs.declared.site.ScriptKind.TheVariants.{Cgi}
use Rattle.host_base.specs.declared.site.Site.{Site}
use Rattle.host_base.specs.LimitRanges.{default_limits}
use Rattle.site_file.specs.declared.fault.SiteFault.{SiteFault}
use Rattle.site_file.specs.declared.fault.SiteFault.TheVariants.{OutOfRange}
use Rattle.site_file.specs.Ranges.{is_script_path, is_program}

-- the first fault, path before program
abbrev pub fault_of : List ℕ → List ℕ → Option SiteFault
fault_of path program =
    if is_script_path path then (if is_program program then None else Some (OutOfRange (codes "script[0].program")))
    else Some (OutOfRange (codes "script[0].path"))

-- one script of kind cgi, and the defaults
abbrev pub site_of_one : List ℕ → List ℕ → Site
site_of_one path program = record {
  listen = codes "127.0.0.1";
  port = 8080;
  limits = default_limits;
  hosts =
      record {
        name = codes "localhost";
        aliases = [];
        any = true;
        root = codes "/srv/www";
        scripts = record { path = path; program = program; kind = Cgi; origins = None } ∷ [];
      } ∷ [];
  docs = [];
}
