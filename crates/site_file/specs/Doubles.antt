-- Names of hosts, and paths of a host, that stand twice.
use Rattle.std.specs.Prelude.{ℕ, Bool, List, [], ◌∷◌, ◌++◌, map, filter, option_map, Option, Some, None, slice_get, if◌then◌else◌}
use Rattle.std.specs.List.{list_any, flat_map}
use Rattle.std.specs.Str.{bytes_eq, str_eq_ignore_ascii_case}
use Rattle.host_base.specs.declared.site.VHost.{VHost}
use Rattle.host_base.specs.SiteRules.{path_of, names_of, takes_any}
use Rattle.site_file.specs.declared.doubles.Sameness.{Sameness}
use Rattle.site_file.specs.declared.doubles.Sameness.TheVariants.{Exact, AnyCase}
use Rattle.site_file.specs.declared.fault.SiteFault.{SiteFault}
use Rattle.site_file.specs.declared.fault.SiteFault.TheVariants.{DoubleHost, DoubleScript}
use Rattle.site_file.specs.Steps.{or_else}

-- how two texts are compared: byte for byte, or without regard to ASCII case
abbrev pub same_by : Sameness → List ℕ → List ℕ → Bool
same_by Exact a b = bytes_eq a b
same_by AnyCase a b = str_eq_ignore_ascii_case a b

-- the first text that is the same as one before it or as one of `seen`
unfoldable pub first_again : (List ℕ → List ℕ → Bool) → List (List ℕ) → List (List ℕ) → Option (List ℕ)
first_again same seen [] = None
first_again same seen (text ∷ texts) = if list_any (same text) seen then Some text else first_again same (seen ++ text ∷ []) texts

-- the first name or alias that stood before, without regard to ASCII case (RFC 3986 3.2.2)
abbrev pub name_again : List VHost → Option (List ℕ)
name_again hosts = first_again (same_by AnyCase) [] (flat_map names_of hosts)

abbrev pub name_of : VHost → List ℕ
name_of host = host.name

-- the name of the second host that takes any name
abbrev pub any_again : List VHost → Option (List ℕ)
any_again hosts = option_map name_of (slice_get (filter takes_any hosts) 1)

-- the first path of a host that stood before
abbrev pub path_again_in : VHost → Option (List ℕ)
path_again_in host = first_again (same_by Exact) [] (map path_of host.scripts)

abbrev pub path_or : Option (List ℕ) → Option (List ℕ) → Option (List ℕ)
path_or None later = later
path_or (Some path) later = Some path

-- the first path of the first host that has one twice
unfoldable pub path_again : List VHost → Option (List ℕ)
path_again [] = None
path_again (host ∷ hosts) = path_or (path_again_in host) (path_again hosts)

unfoldable pub double_in : List VHost → Option SiteFault
double_in hosts =
    or_else (option_map DoubleHost (name_again hosts))
    (or_else (option_map DoubleHost (any_again hosts)) (option_map DoubleScript (path_again hosts)))
