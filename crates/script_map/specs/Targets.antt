-- What a request target and the Host field name (RFC 9112 3.2 and 3.3).
use Rattle.std.specs.Prelude.{ℕ, ◌+◌, Bool, true, ◌||◌, List, [], ◌∷◌, take, drop, Option, Some, None, option_map, option_and_then, Result, Ok, Err, if◌then◌else◌, ◌==◌, codes}
use Rattle.std.specs.List.{list_any, position, position_or_len, before_first}
use Rattle.std.specs.Option.{ok_or}
use Rattle.std.specs.Str.{bytes_eq, is_utf8, str_eq_ignore_ascii_case}
use Rattle.host_base.specs.declared.cause.Cause.{Cause}
use Rattle.host_base.specs.declared.cause.Cause.TheVariants.{BadHost, BadTarget, NotServed}
use Rattle.host_base.specs.declared.request.Head.{Head}
use Rattle.host_base.specs.declared.request.Target.{Target}
use Rattle.host_base.specs.declared.request.Version.{Version}
use Rattle.host_base.specs.declared.request.Version.TheVariants.{V10, V11}
use Rattle.host_base.specs.FieldLists.{values_named}
use Rattle.script_map.specs.Authority.{host_of_authority}
use Rattle.script_map.specs.Bytes.{begins_with}
use Rattle.script_map.specs.DotSegments.{is_slash, without_dot_segments}

-- the method CONNECT and the target "*" are not served (RFC 9112 3.2.3 and 3.2.4)
abbrev pub is_unserved : Head → Bool
is_unserved head = bytes_eq head.method (codes "CONNECT") || bytes_eq head.target (codes "*")

-- The host that the Host field lines name, by their values, or None where they are not one authority
-- (RFC 9112 3.2). The host is empty where there is no such line, as HTTP/1.0 allows.
unfoldable pub host_named : List (List ℕ) → Version → Option (List ℕ)
host_named [] V10 = Some []
host_named [] V11 = None
host_named (value ∷ []) version = host_of_authority value
host_named (value ∷ second ∷ more) version = None

abbrev pub is_question : ℕ → Bool
is_question byte = byte == 63

abbrev pub is_hash : ℕ → Bool
is_hash byte = byte == 35

-- where an authority ends (RFC 3986 3.2); a "#" stands in no target
abbrev pub is_authority_end : ℕ → Bool
is_authority_end byte = is_slash byte || is_question byte

-- where a target points: the host, empty where none is known, and the path with its query
pub record Place : Type 0 where
  pub host : List ℕ
  pub rest : List ℕ

-- an http target names a host (RFC 9110 4.2.1)
abbrev pub place_at_host : List ℕ → List ℕ → Option Place
place_at_host rest [] = None
place_at_host rest (byte ∷ more) = Some (record { host = byte ∷ more; rest = rest })

-- what follows the scheme: an authority, a path and a query
abbrev pub place_after_scheme : List ℕ → Option Place
place_after_scheme text =
    let len = position_or_len is_authority_end text in
    option_and_then (place_at_host (drop len text)) (host_of_authority (take len text))

abbrev pub has_http_scheme : List ℕ → Bool
has_http_scheme target = str_eq_ignore_ascii_case (take 7 target) (codes "http://")

-- origin-form keeps the host of the Host field, absolute-form replaces it (RFC 9112 3.2.1 and 3.2.2)
unfoldable pub place_of : List ℕ → List ℕ → Option Place
place_of host target =
    if begins_with 47 target then Some (record { host = host; rest = target })
    else (if has_http_scheme target then place_after_scheme (drop 7 target) else None)

-- an empty path is "/" (RFC 9110 4.2.3)
abbrev pub path_or_root : List ℕ → List ℕ
path_or_root [] = 47 ∷ []
path_or_root (byte ∷ more) = byte ∷ more

-- the path before the first "?"
abbrev pub raw_path_of : List ℕ → List ℕ
raw_path_of rest = path_or_root (before_first is_question rest)

-- what follows the first "?"
abbrev pub query_of : List ℕ → Option (List ℕ)
query_of rest = option_map (λ at. drop (at + 1) rest) (position is_question rest)

abbrev pub is_text_or_none : Option (List ℕ) → Bool
is_text_or_none None = true
is_text_or_none (Some query) = is_utf8 query

-- the place, where its query is a text
abbrev pub text_place : Place → Option Place
text_place place = if is_text_or_none (query_of place.rest) then Some place else None

-- the place that a target asks for: no "#" stands in the target, and the query is a text
unfoldable pub asked_place : List ℕ → List ℕ → Option Place
asked_place host target = if list_any is_hash target then None else option_and_then text_place (place_of host target)

abbrev pub place_with : Option (List ℕ) → List ℕ → Result Place Cause
place_with None target = Err BadHost
place_with (Some host) target = ok_or (asked_place host target) BadTarget

-- The place that a head asks for, or the first cause to refuse it.
unfoldable pub place_in : Head → Result Place Cause
place_in head =
    if is_unserved head then Err NotServed
    else place_with (host_named (values_named (codes "Host") head.fields) head.version) head.target

abbrev pub host_or_none : List ℕ → Option (List ℕ)
host_or_none [] = None
host_or_none (byte ∷ more) = Some (byte ∷ more)

abbrev pub target_at : Place → Target
target_at place = record {
  path = without_dot_segments (raw_path_of place.rest);
  query = query_of place.rest;
  host = host_or_none place.host;
}

abbrev pub target_or_cause : Result Place Cause → Result Target Cause
target_or_cause (Ok place) = Ok (target_at place)
target_or_cause (Err cause) = Err cause

-- The target of a head, or the first cause to refuse it.
abbrev pub target_of : Head → Result Target Cause
target_of head = target_or_cause (place_in head)
