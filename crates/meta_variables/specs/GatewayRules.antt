-- What holds of every environment that is made of received variables.
use Rattle.std.specs.Prelude.{◌≡◌, ◌<◌, ℕ, Bool, true, false, ◌⊎◌, List, [], ◌∷◌, filter, length, All, codes}
use Rattle.std.specs.List.{list_all, list_any}
use Rattle.std.specs.Str.{bytes_eq}
use Rattle.host_base.specs.declared.fields.Field.{Field}
use Rattle.host_base.specs.declared.launch.Pair.{Pair}
use Rattle.host_base.specs.declared.site.Mapped.{Mapped}
use Rattle.meta_variables.specs.EnvironmentRules.{IsVariableName}
use Rattle.meta_variables.specs.EnvironmentValues.{is_program_text, is_value_byte}
use Rattle.meta_variables.specs.Gateway.{gateway_environment}
use Rattle.meta_variables.specs.Variables.{pair, value_text}

-- a name is of letters, digits and "_"
abbrev pub GatewayNamesArePlain : Type 0
GatewayNamesArePlain = (root : List ℕ) (mapped : Mapped) (pairs : List Field)
    → All (λ variable. IsVariableName variable.name) (gateway_environment root mapped pairs)

-- the received variables that no script is given (RFC 3875 4.1.18 and 9.2)
abbrev pub refused_variables : List (List ℕ)
refused_variables = codes "SCGI" ∷ codes "HTTP_PROXY" ∷ codes "HTTP_AUTHORIZATION" ∷ codes "HTTP_PROXY_AUTHORIZATION" ∷ []

abbrev pub GatewayNoNameIsHostile : Type 0
GatewayNoNameIsHostile = (root : List ℕ) (mapped : Mapped) (pairs : List Field)
    → All (λ variable. list_any (bytes_eq variable.name) refused_variables ≡ false) (gateway_environment root mapped pairs)

-- the variables that the mapping alone decides
abbrev pub mapped_names : List (List ℕ)
mapped_names = codes "GATEWAY_INTERFACE" ∷ codes "SCRIPT_NAME" ∷ codes "PATH_INFO" ∷ codes "PATH_TRANSLATED" ∷ []

abbrev pub is_of_mapping : Pair → Bool
is_of_mapping variable = list_any (bytes_eq variable.name) mapped_names

-- whatever is received, they are as if nothing were received
abbrev pub MappingDecides : Type 0
MappingDecides = (root : List ℕ) (mapped : Mapped) (pairs : List Field)
    → filter is_of_mapping (gateway_environment root mapped pairs) ≡ gateway_environment root mapped []

-- a received variable is passed on: its name is some letters, digits and "_", and none of those above; its text isn't empty, but for QUERY_STRING
pub record IsPassedOn (received : Field) : Type 0 where
  pub some : 0 < length received.name
  pub plain : IsVariableName received.name
  pub harmless : list_any (bytes_eq received.name) refused_variables ≡ false
  pub unmapped : list_any (bytes_eq received.name) mapped_names ≡ false
  pub text : (0 < length (value_text received.value)) ⊎ (received.name ≡ codes "QUERY_STRING")

-- one that is passed on stands before those that are received after it
abbrev pub PassesInOrder : Type 0
PassesInOrder = (root : List ℕ) (mapped : Mapped) (received : Field) (after : List Field) → IsPassedOn received
    → gateway_environment root mapped (received ∷ after) ≡ pair received.name (value_text received.value) ∷ gateway_environment root mapped after

-- one that isn't changes nothing
abbrev pub LeavesOthersOut : Type 0
LeavesOthersOut = (root : List ℕ) (mapped : Mapped) (received : Field) (after : List Field) → (IsPassedOn received → ⊥)
    → gateway_environment root mapped (received ∷ after) ≡ gateway_environment root mapped after

-- where nothing that is received has a NUL, each value is UTF-8 without one
abbrev pub GatewayValuesAreTexts : Type 0
GatewayValuesAreTexts = (root : List ℕ) (mapped : Mapped) (pairs : List Field) → is_program_text root ≡ true
    → is_program_text mapped.script_name ≡ true → is_program_text mapped.path_info ≡ true
    → All (λ received. list_all is_value_byte received.value ≡ true) pairs
    → All (λ variable. is_program_text variable.value ≡ true) (gateway_environment root mapped pairs)
