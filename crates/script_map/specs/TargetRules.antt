-- What the target of a head is (RFC 9112 3.2 and 3.3).
use Rattle.std.specs.Prelude.{◌≡◌, ◌≢◌, ℕ, true, false, ◌⊎◌, ◌↔◌, List, [], ◌∷◌, ◌++◌, Option, Some, None, Ok, Err, codes}
use Rattle.std.specs.List.{list_any}
use Rattle.std.specs.Str.{str_eq_ignore_ascii_case}
use Rattle.host_base.specs.declared.cause.Cause.TheVariants.{BadHost, BadTarget, NotServed}
use Rattle.host_base.specs.declared.request.Head.{Head}
use Rattle.host_base.specs.declared.request.Target.{Target}
use Rattle.host_base.specs.declared.request.Version.{Version}
use Rattle.host_base.specs.declared.request.Version.TheVariants.{V10}
use Rattle.host_base.specs.FieldLists.{values_named}
use Rattle.script_map.specs.AuthorityRules.{IsAuthority}
use Rattle.script_map.specs.DotSegments.{IsRooted, without_dot_segments}
use Rattle.script_map.specs.Mapping.{is_at_edge}
use Rattle.script_map.specs.Targets.{is_question, is_hash, is_text_or_none, path_or_root, host_or_none, target_of}

-- ---- the forms of a target

-- nothing, or "?" and the query
abbrev pub query_text : Option (List ℕ) → List ℕ
query_text None = []
query_text (Some query) = 63 ∷ query

-- a path and a query, as they end a target: no "?" stands in the path, and the query is UTF-8
pub record IsPathAndQuery (text path : List ℕ) (query : Option (List ℕ)) : Type 0 where
  pub whole : text ≡ path ++ query_text query
  pub no_question : list_any is_question path ≡ false
  pub utf8 : is_text_or_none query ≡ true

-- origin-form = absolute-path [ "?" query ] (RFC 9112 3.2.1)
pub record IsOriginForm (text path : List ℕ) (query : Option (List ℕ)) : Type 0 where
  pub rooted : IsRooted path
  pub parts : IsPathAndQuery text path query

-- absolute-form (RFC 9112 3.2.2) of an http URI: "http://" authority path-abempty [ "?" query ], with a host (RFC 9110 4.2.1)
pub record IsAbsoluteForm (text host path : List ℕ) (query : Option (List ℕ)) : Type 0 where
  pub scheme : List ℕ
  pub authority : List ℕ
  pub rest : List ℕ
  pub whole : text ≡ scheme ++ (authority ++ rest)
  pub http : str_eq_ignore_ascii_case scheme (codes "http://") ≡ true
  pub named : IsAuthority authority host
  pub some_host : host ≢ []
  pub edge : is_at_edge path ≡ true
  pub parts : IsPathAndQuery rest path query

-- ---- the target

-- a target in origin form is at the host of the field
pub record IsOriginTarget (text host : List ℕ) (target : Target) : Type 0 where
  pub path : List ℕ
  pub form : IsOriginForm text path target.query
  pub same_path : target.path ≡ without_dot_segments path
  pub same_host : target.host ≡ host_or_none host

-- a target in absolute form is at its own host; an empty path is "/" (RFC 9110 4.2.3)
pub record IsAbsoluteTarget (text : List ℕ) (target : Target) : Type 0 where
  pub path : List ℕ
  pub host : List ℕ
  pub form : IsAbsoluteForm text host path target.query
  pub same_path : target.path ≡ without_dot_segments (path_or_root path)
  pub same_host : target.host ≡ Some host

-- the method is not CONNECT and the target not "*" (RFC 9112 3.2.3 and 3.2.4)
pub record IsServedHead (head : Head) : Type 0 where
  pub method : head.method ≢ codes "CONNECT"
  pub target : head.target ≢ codes "*"

-- these values of Host name the host: there is one, an authority; or none in HTTP/1.0, which names none (RFC 9112 3.2)
abbrev pub ValuesName : List (List ℕ) → Version → List ℕ → Type 0
ValuesName values version host =
    ((value : List ℕ) × (values ≡ value ∷ []) × IsAuthority value host) ⊎ ((values ≡ []) × (version ≡ V10) × (host ≡ []))

-- the Host field names the host
abbrev pub NamesHost : Head → List ℕ → Type 0
NamesHost head host = ValuesName (values_named (codes "Host") head.fields) head.version host

-- the head asks for the target: it is served, its Host is good, and its target has no "#" and one of the two forms
pub record IsTargetOf (head : Head) (target : Target) : Type 0 where
  pub served : IsServedHead head
  pub host : List ℕ
  pub named : NamesHost head host
  pub no_hash : list_any is_hash head.target ≡ false
  pub form : IsOriginTarget head.target host target ⊎ IsAbsoluteTarget head.target target

-- a target is given exactly where the head asks for it
abbrev pub ReadsTargets : Type 0
ReadsTargets = (head : Head) (target : Target) → (target_of head ≡ Ok target) ↔ IsTargetOf head target

-- ---- the causes, in their order

abbrev pub RefusesUnserved : Type 0
RefusesUnserved = (head : Head)
    → (target_of head ≡ Err NotServed) ↔ ((head.method ≡ codes "CONNECT") ⊎ (head.target ≡ codes "*"))

abbrev pub RefusesHosts : Type 0
RefusesHosts = (head : Head)
    → (target_of head ≡ Err BadHost) ↔ (IsServedHead head × ((host : List ℕ) → NamesHost head host → ⊥))

abbrev pub RefusesTargets : Type 0
RefusesTargets = (head : Head)
    → (target_of head ≡ Err BadTarget)
    ↔ (IsServedHead head × ((host : List ℕ) × NamesHost head host) × ((target : Target) → IsTargetOf head target → ⊥))
