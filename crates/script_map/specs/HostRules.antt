-- What the host of a target is, among hosts that can be told apart.
use Rattle.std.specs.Prelude.{◌≡◌, ℕ, true, false, List, All, Contains, slice_get, None, Some}
use Rattle.std.specs.Str.{str_eq_ignore_ascii_case}
use Rattle.host_base.specs.declared.site.VHost.{VHost}
use Rattle.host_base.specs.SiteRules.{HasHosts, names_of}
use Rattle.script_map.specs.Hosts.{host_of_target}

-- a target without a name has the first host
abbrev pub FirstHostServesNameless : Type 0
FirstHostServesNameless = (hosts : List VHost) → host_of_target hosts None ≡ Some 0

-- a host is found by its name and by each alias, in any case
abbrev pub NamesFindTheirHost : Type 0
NamesFindTheirHost = (hosts : List VHost) → HasHosts hosts → (place : ℕ) (host : VHost) → slice_get hosts place ≡ Some host
    → (name own : List ℕ) → Contains (names_of host) own → str_eq_ignore_ascii_case name own ≡ true
    → host_of_target hosts (Some name) ≡ Some place

-- no host has the name
abbrev pub IsUnnamed : List VHost → List ℕ → Type 0
IsUnnamed hosts name = All (λ host. All (λ own. str_eq_ignore_ascii_case name own ≡ false) (names_of host)) hosts

-- a name that no host has is taken by the host that takes any
abbrev pub AnyTakesOtherNames : Type 0
AnyTakesOtherNames = (hosts : List VHost) → HasHosts hosts → (place : ℕ) (host : VHost) → slice_get hosts place ≡ Some host
    → host.any ≡ true → (name : List ℕ) → IsUnnamed hosts name → host_of_target hosts (Some name) ≡ Some place

-- where none does, it has no host
abbrev pub OtherNamesHaveNoHost : Type 0
OtherNamesHaveNoHost = (hosts : List VHost) → All (λ host. host.any ≡ false) hosts → (name : List ℕ) → IsUnnamed hosts name
    → host_of_target hosts (Some name) ≡ None
