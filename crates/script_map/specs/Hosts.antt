-- The host of a target (RFC 9110 7.2).
use Rattle.std.specs.Prelude.{ℕ, Bool, List, [], Option, Some, None, slice_get}
use Rattle.std.specs.List.{list_any, position}
use Rattle.std.specs.Option.{option_or, option_map_or}
use Rattle.std.specs.Str.{str_eq_ignore_ascii_case}
use Rattle.host_base.specs.declared.site.Script.{Script}
use Rattle.host_base.specs.declared.site.VHost.{VHost}
use Rattle.host_base.specs.SiteRules.{names_of, takes_any}

-- the host has this name or alias; names are compared without regard to ASCII case (RFC 3986 3.2.2)
abbrev pub answers_to : List ℕ → VHost → Bool
answers_to name host = list_any (str_eq_ignore_ascii_case name) (names_of host)

-- The place of the host of a target: the first host where the target names none, else the one that has the
-- name, else the one that takes any.
unfoldable pub host_of_target : List VHost → Option (List ℕ) → Option ℕ
host_of_target hosts None = Some 0
host_of_target hosts (Some name) = option_or (position (answers_to name) hosts) (position takes_any hosts)

abbrev pub scripts_of : VHost → List Script
scripts_of host = host.scripts

-- the scripts of the host at a place
abbrev pub scripts_at : List VHost → ℕ → List Script
scripts_at hosts place = option_map_or scripts_of (slice_get hosts place) []
