-- What a script is started with for a gateway, which gives the variables of its request (RFC 3875 4.1).
use Rattle.std.specs.Prelude.{ℕ, Bool, ◌&&◌, ◌||◌, ◌==◌, not, List, [], ◌∷◌, ◌++◌, map, filter, find, Option, Some, None, option_map, option_and_then, unwrap_or, slice_get, Result, Ok, Err, if◌then◌else◌, codes}
use Rattle.std.specs.Char.{is_ascii_alphanumeric}
use Rattle.std.specs.List.{before_first, list_any, list_all}
use Rattle.std.specs.Str.{bytes_eq}
use Rattle.host_base.specs.declared.cause.Cause.{Cause}
use Rattle.host_base.specs.declared.cause.Cause.TheVariants.{BadParams, NoScript}
use Rattle.host_base.specs.declared.fields.Field.{Field}
use Rattle.host_base.specs.declared.launch.Launch.{Launch}
use Rattle.host_base.specs.declared.launch.Pair.{Pair}
use Rattle.host_base.specs.declared.site.Mapped.{Mapped}
use Rattle.host_base.specs.declared.site.Script.{Script}
use Rattle.host_base.specs.declared.site.ScriptKind.{ScriptKind}
use Rattle.host_base.specs.declared.site.ScriptKind.TheVariants.{Cgi, Nph, WebSocket}
use Rattle.host_base.specs.declared.site.VHost.{VHost}
use Rattle.script_map.specs.Bytes.{begins_with}
use Rattle.script_map.specs.Mapping.{mapped_of, decoded_mapped_of}
use Rattle.script_map.specs.Redirects.{named_host_of, target_of_path}
use Rattle.script_map.specs.Targets.{is_question}
use Rattle.search_words.specs.SearchWords.{words_in}
use Rattle.meta_variables.specs.Environment.{translated}
use Rattle.meta_variables.specs.Launch.{args_of, launch_with}
use Rattle.meta_variables.specs.Variables.{pair, is_filled, is_kept, value_text}

-- ---- what is received

abbrev pub is_called : List ℕ → Field → Bool
is_called name received = bytes_eq received.name name

abbrev pub value_in : Field → List ℕ
value_in received = received.value

-- the value of a variable, by its whole name
abbrev pub received_value : List Field → List ℕ → Option (List ℕ)
received_value pairs name = option_map value_in (find (is_called name) pairs)

-- ---- the script

-- the host that HTTP_HOST names; none where it is no authority or its host is empty
abbrev pub gateway_host : List Field → Option (List ℕ)
gateway_host pairs = option_and_then named_host_of (received_value pairs (codes "HTTP_HOST"))

-- by SCRIPT_NAME and PATH_INFO, which together are the decoded path
abbrev pub mapped_by_name : List VHost → Option (List ℕ) → List ℕ → Result Mapped Cause
mapped_by_name hosts host path = if begins_with 47 path then decoded_mapped_of hosts host path else Err BadParams

-- by the path of REQUEST_URI, as it was sent
abbrev pub mapped_by_uri : List VHost → Option (List ℕ) → Option (List ℕ) → Result Mapped Cause
mapped_by_uri hosts host None = Err BadParams
mapped_by_uri hosts host (Some uri) =
    let path = before_first is_question uri in
    if begins_with 47 path then mapped_of hosts (target_of_path path host) else Err BadParams

abbrev pub mapped_received : List VHost → List Field → Option (List ℕ) → Result Mapped Cause
mapped_received hosts pairs None = mapped_by_uri hosts (gateway_host pairs) (received_value pairs (codes "REQUEST_URI"))
mapped_received hosts pairs (Some name) =
    mapped_by_name hosts (gateway_host pairs) (name ++ unwrap_or (received_value pairs (codes "PATH_INFO")) [])

-- the script of the received variables: SCRIPT_NAME decides, and where it is missing REQUEST_URI
abbrev pub gateway_mapped : List VHost → List Field → Result Mapped Cause
gateway_mapped hosts pairs = mapped_received hosts pairs (received_value pairs (codes "SCRIPT_NAME"))

-- ---- the environment

-- the variables that the host sets itself or withholds from a script
abbrev pub withheld_variables : List (List ℕ)
withheld_variables =
    codes "SCGI" ∷ codes "GATEWAY_INTERFACE" ∷ codes "SCRIPT_NAME" ∷ codes "PATH_INFO" ∷ codes "PATH_TRANSLATED" ∷ codes "HTTP_PROXY"
    ∷ codes "HTTP_AUTHORIZATION" ∷ codes "HTTP_PROXY_AUTHORIZATION" ∷ []

-- a letter, a digit or "_"
abbrev pub is_variable_char : ℕ → Bool
is_variable_char byte = is_ascii_alphanumeric byte || byte == 95

-- a variable's name is passed on where it is not withheld and is one or more letters, digits and "_"
abbrev pub is_passed_variable : List ℕ → Bool
is_passed_variable name = not (list_any (bytes_eq name) withheld_variables) && is_filled name && list_all is_variable_char name

abbrev pub is_passed_pair : Field → Bool
is_passed_pair received = is_passed_variable received.name

abbrev pub received_variable : Field → Pair
received_variable received = pair received.name (value_text received.value)

-- the variables of the mapping
abbrev pub mapping_variables : List ℕ → Mapped → List Pair
mapping_variables root mapped =
    pair (codes "GATEWAY_INTERFACE") (codes "CGI/1.1")
    ∷ pair (codes "SCRIPT_NAME") mapped.script_name
    ∷ pair (codes "PATH_INFO") mapped.path_info
    ∷ pair (codes "PATH_TRANSLATED") (translated root mapped.path_info)
    ∷ []

-- The environment: what is received, in its order, and then what the mapping gives; a variable whose value is empty is
-- left out, but not QUERY_STRING.
abbrev pub gateway_environment : List ℕ → Mapped → List Field → List Pair
gateway_environment root mapped pairs =
    filter is_kept (map received_variable (filter is_passed_pair pairs)) ++ filter is_kept (mapping_variables root mapped)

-- ---- the launch

abbrev pub gateway_args : List Field → List (List ℕ)
gateway_args pairs =
    args_of (words_in (unwrap_or (received_value pairs (codes "REQUEST_METHOD")) []) (received_value pairs (codes "QUERY_STRING")))

-- a script that speaks WebSocket can't be started by a gateway
abbrev pub launch_of_kind : ScriptKind → Launch → Result Launch Cause
launch_of_kind Cgi launch = Ok launch
launch_of_kind Nph launch = Ok launch
launch_of_kind WebSocket launch = Err NoScript

abbrev pub launch_script : List Field → Mapped → VHost → Option Script → Result Launch Cause
launch_script pairs mapped host None = Err NoScript
launch_script pairs mapped host (Some script) =
    launch_of_kind script.kind (launch_with script (gateway_args pairs) (gateway_environment host.root mapped pairs))

abbrev pub launch_host : List Field → Mapped → Option VHost → Result Launch Cause
launch_host pairs mapped None = Err NoScript
launch_host pairs mapped (Some host) = launch_script pairs mapped host (slice_get host.scripts mapped.index)

abbrev pub launch_mapped : List VHost → List Field → Result Mapped Cause → Result Launch Cause
launch_mapped hosts pairs (Ok mapped) = launch_host pairs mapped (slice_get hosts mapped.host)
launch_mapped hosts pairs (Err cause) = Err cause

-- The launch for a gateway's variables, or the first cause to refuse them.
abbrev pub gateway_launch_of : List VHost → List Field → Result Launch Cause
gateway_launch_of hosts pairs = launch_mapped hosts pairs (gateway_mapped hosts pairs)
