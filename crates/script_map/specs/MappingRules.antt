-- What the script of a path is.
use Rattle.std.specs.Prelude.{◌≡◌, ◌≤◌, ℕ, true, false, ◌⊎◌, ◌↔◌, List, ◌∷◌, ◌++◌, map, length, All, Any, Option, slice_get, None, Some, Ok, Err, IsOk}
use Rattle.std.specs.List.{slice_split}
use Rattle.std.specs.Str.{is_utf8}
use Rattle.percent_encoding.specs.Percent.{percent_decode}
use Rattle.host_base.specs.declared.cause.Cause.TheVariants.{BadPath, NoScript, UnknownHost}
use Rattle.host_base.specs.declared.request.Target.{Target}
use Rattle.host_base.specs.declared.site.Mapped.{Mapped}
use Rattle.host_base.specs.declared.site.Script.{Script}
use Rattle.host_base.specs.declared.site.VHost.{VHost}
use Rattle.script_map.specs.DotSegments.{is_slash, is_dot_segment}
use Rattle.script_map.specs.Escapes.{has_whole_escapes, has_hidden_escape}
use Rattle.script_map.specs.Hosts.{host_of_target, scripts_at}
use Rattle.script_map.specs.Mapping.{is_at_edge, is_nul, fits, mapped_of, decoded_mapped_of}

-- a script fits a path that is its own, or its own and then a "/"
abbrev pub FitsWholeSegments : Type 0
FitsWholeSegments = (path : List ℕ) (script : Script)
    → (fits path script ≡ true) ↔ ((path ≡ script.path) ⊎ ((rest : List ℕ) × (path ≡ script.path ++ 47 ∷ rest)))

-- the mapped script is one of those, its path and PATH_INFO are the path, and no longer one fits
pub record IsScriptOf (scripts : List Script) (path : List ℕ) (mapped : Mapped) : Type 0 where
  pub script : Script
  pub listed : slice_get scripts mapped.index ≡ Some script
  pub name : mapped.script_name ≡ script.path
  pub whole : mapped.script_name ++ mapped.path_info ≡ path
  pub edge : is_at_edge mapped.path_info ≡ true
  pub longest : All (λ other. fits path other ≡ true → length other.path ≤ length mapped.script_name) scripts

-- the mapped host is the target's, and the mapped script one of that host's
pub record IsMappedTo (hosts : List VHost) (name : Option (List ℕ)) (path : List ℕ) (mapped : Mapped) : Type 0 where
  pub host : host_of_target hosts name ≡ Some mapped.host
  pub script : IsScriptOf (scripts_at hosts mapped.host) path mapped

abbrev pub MapsToLongest : Type 0
MapsToLongest = (hosts : List VHost) (target : Target) (mapped : Mapped) → mapped_of hosts target ≡ Ok mapped
    → IsMappedTo hosts target.host (percent_decode target.path) mapped

-- each "%" begins an escape, and what the path decodes to is UTF-8
pub record IsReadable (path : List ℕ) : Type 0 where
  pub whole : has_whole_escapes path ≡ true
  pub utf8 : is_utf8 (percent_decode path) ≡ true

-- an escape hides a "/" or a NUL, or a segment decodes to "." or ".."
abbrev pub IsMisleading : List ℕ → Type 0
IsMisleading path =
    (has_hidden_escape path ≡ true) ⊎ Any (λ segment. is_dot_segment (percent_decode segment) ≡ true) (slice_split is_slash path)

-- a script of the host at a place fits the path
abbrev pub HasFitting : List VHost → ℕ → List ℕ → Type 0
HasFitting hosts place path = Any (λ script. fits path script ≡ true) (scripts_at hosts place)

-- where the host is known, the path is readable and doesn't mislead, and a script fits, one is mapped
abbrev pub FindsWhatFits : Type 0
FindsWhatFits = (hosts : List VHost) (target : Target) (place : ℕ) → host_of_target hosts target.host ≡ Some place
    → IsReadable target.path → (IsMisleading target.path → ⊥) → HasFitting hosts place (percent_decode target.path)
    → IsOk (mapped_of hosts target)

-- UnknownHost comes exactly where no host is the target's
abbrev pub RefusesOtherHosts : Type 0
RefusesOtherHosts = (hosts : List VHost) (target : Target)
    → (mapped_of hosts target ≡ Err UnknownHost) ↔ (host_of_target hosts target.host ≡ None)

-- BadPath comes exactly where the host is known and the path is not readable
abbrev pub RefusesUnreadable : Type 0
RefusesUnreadable = (hosts : List VHost) (target : Target)
    → (mapped_of hosts target ≡ Err BadPath)
    ↔ ((place : ℕ) × (host_of_target hosts target.host ≡ Some place) × (IsReadable target.path → ⊥))

-- NoScript comes exactly where the host is known, the path is readable, and it misleads or no script fits
abbrev pub RefusesWhatFitsNone : Type 0
RefusesWhatFitsNone = (hosts : List VHost) (target : Target)
    → (mapped_of hosts target ≡ Err NoScript)
    ↔ ((place : ℕ) × (host_of_target hosts target.host ≡ Some place) × IsReadable target.path
    × (IsMisleading target.path ⊎ (HasFitting hosts place (percent_decode target.path) → ⊥)))

-- where no escape stands for a "/", the segments of the decoded path are the decoded segments
abbrev pub DecodesSegments : Type 0
DecodesSegments = (path : List ℕ) → has_whole_escapes path ≡ true → has_hidden_escape path ≡ false
    → slice_split is_slash (percent_decode path) ≡ map percent_decode (slice_split is_slash path)

-- the same of a path that is decoded already: it is UTF-8, without a NUL and a dot segment
abbrev pub MapsDecodedToLongest : Type 0
MapsDecodedToLongest = (hosts : List VHost) (name : Option (List ℕ)) (path : List ℕ) (mapped : Mapped)
    → decoded_mapped_of hosts name path ≡ Ok mapped → IsMappedTo hosts name path mapped

-- a NUL or a segment "." or ".." stands in a decoded path
abbrev pub IsDecodedMisleading : List ℕ → Type 0
IsDecodedMisleading path =
    Any (λ byte. is_nul byte ≡ true) path ⊎ Any (λ segment. is_dot_segment segment ≡ true) (slice_split is_slash path)

abbrev pub FindsWhatFitsDecoded : Type 0
FindsWhatFitsDecoded = (hosts : List VHost) (name : Option (List ℕ)) (path : List ℕ) (place : ℕ) → host_of_target hosts name ≡ Some place
    → is_utf8 path ≡ true → (IsDecodedMisleading path → ⊥) → HasFitting hosts place path → IsOk (decoded_mapped_of hosts name path)

abbrev pub RefusesDecodedOtherHosts : Type 0
RefusesDecodedOtherHosts = (hosts : List VHost) (name : Option (List ℕ)) (path : List ℕ)
    → (decoded_mapped_of hosts name path ≡ Err UnknownHost) ↔ (host_of_target hosts name ≡ None)

abbrev pub RefusesDecodedUnreadable : Type 0
RefusesDecodedUnreadable = (hosts : List VHost) (name : Option (List ℕ)) (path : List ℕ)
    → (decoded_mapped_of hosts name path ≡ Err BadPath)
    ↔ ((place : ℕ) × (host_of_target hosts name ≡ Some place) × (is_utf8 path ≡ true → ⊥))

abbrev pub RefusesDecodedWhatFitsNone : Type 0
RefusesDecodedWhatFitsNone = (hosts : List VHost) (name : Option (List ℕ)) (path : List ℕ)
    → (decoded_mapped_of hosts name path ≡ Err NoScript)
    ↔ ((place : ℕ) × (host_of_target hosts name ≡ Some place) × (is_utf8 path ≡ true)
    × (IsDecodedMisleading path ⊎ (HasFitting hosts place path → ⊥)))
