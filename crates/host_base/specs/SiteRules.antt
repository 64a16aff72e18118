-- What every site keeps that is served.
use Rattle.std.specs.Prelude.{ℕ, Bool, ◌<◌, ◌≤◌, ◌^◌, List, ◌∷◌, map, length, count_by, All}
use Rattle.std.specs.List.{IsDistinct, flat_map}
use Rattle.std.specs.Str.{bytes_eq, str_eq_ignore_ascii_case}
use Rattle.host_base.specs.declared.site.Script.{Script}
use Rattle.host_base.specs.declared.site.VHost.{VHost}
use Rattle.host_base.specs.declared.site.Site.{Site}
use Rattle.host_base.specs.LimitRanges.{AreInRange}

abbrev pub path_of : Script → List ℕ
path_of script = script.path

-- fewer than 2^32 scripts, no two of one path
pub record HasScripts (scripts : List Script) : Type 0 where
  pub few : length scripts < 2 ^ 32
  pub distinct : IsDistinct bytes_eq (map path_of scripts)

-- the names that a host answers to
abbrev pub names_of : VHost → List (List ℕ)
names_of host = host.name ∷ host.aliases

abbrev pub takes_any : VHost → Bool
takes_any host = host.any

abbrev pub HasOwnScripts : VHost → Type 0
HasOwnScripts host = HasScripts host.scripts

-- at least one host and fewer than 2^32, whose scripts and names can be told apart; names are compared without regard to ASCII case (RFC 3986 3.2.2)
pub record HasHosts (hosts : List VHost) : Type 0 where
  pub some : 1 ≤ length hosts
  pub few : length hosts < 2 ^ 32
  pub scripts : All HasOwnScripts hosts
  pub distinct : IsDistinct str_eq_ignore_ascii_case (flat_map names_of hosts)
  pub one_any : count_by takes_any hosts ≤ 1

-- the limits are in their ranges, and the hosts can be told apart
pub record IsServed (site : Site) : Type 0 where
  pub limits : AreInRange site.limits
  pub hosts : HasHosts site.hosts
