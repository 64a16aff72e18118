-- What holds of every environment.
use Rattle.std.specs.Prelude.{◌≡◌, ℕ, true, false, List, [], ◌∷◌, map, All, Some, codes}
use Rattle.std.specs.List.{IsDistinct, list_all, list_any}
use Rattle.std.specs.Str.{bytes_eq}
use Rattle.host_base.specs.declared.launch.Pair.{Pair}
use Rattle.host_base.specs.declared.launch.Peer.{Peer}
use Rattle.host_base.specs.declared.request.Request.{Request}
use Rattle.host_base.specs.declared.site.Mapped.{Mapped}
use Rattle.host_base.specs.declared.site.Site.{Site}
use Rattle.meta_variables.specs.Environment.{environment_of}
use Rattle.meta_variables.specs.Gateway.{is_variable_char}

abbrev pub called : Pair → List ℕ
called variable = variable.name

-- no two variables have one name
abbrev pub NamesDiffer : Type 0
NamesDiffer = (site : Site) (peer : Peer) (request : Request) (mapped : Mapped) (env : List Pair)
    → environment_of site peer request mapped ≡ Some env → IsDistinct bytes_eq (map called env)

-- a name is of letters, digits and "_"
abbrev pub IsVariableName : List ℕ → Type 0
IsVariableName name = list_all is_variable_char name ≡ true

abbrev pub NamesArePlain : Type 0
NamesArePlain = (site : Site) (peer : Peer) (request : Request) (mapped : Mapped) (env : List Pair)
    → environment_of site peer request mapped ≡ Some env → All (λ variable. IsVariableName variable.name) env

-- the names that no variable of a field may have (RFC 3875 4.1.18 and 9.2)
abbrev pub hostile_names : List (List ℕ)
hostile_names =
    codes "HTTP_AUTHORIZATION" ∷ codes "HTTP_PROXY_AUTHORIZATION" ∷ codes "HTTP_PROXY" ∷ codes "HTTP_CONTENT_LENGTH"
    ∷ codes "HTTP_CONTENT_TYPE" ∷ codes "HTTP_TRANSFER_ENCODING" ∷ codes "HTTP_CONNECTION" ∷ codes "HTTP_EXPECT" ∷ codes "HTTP_UPGRADE" ∷ []

abbrev pub NoNameIsHostile : Type 0
NoNameIsHostile = (site : Site) (peer : Peer) (request : Request) (mapped : Mapped) (env : List Pair)
    → environment_of site peer request mapped ≡ Some env → All (λ variable. list_any (bytes_eq variable.name) hostile_names ≡ false) env
