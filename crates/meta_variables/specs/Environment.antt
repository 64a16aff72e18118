-- The environment of a script (RFC 3875 4.1): a row for each meta-variable, in this order.
use Rattle.std.specs.Prelude.{ℕ, List, [], ◌∷◌, ◌++◌, length, filter, Option, option_map, slice_get, unwrap_or, codes, decimal, if◌then◌else◌}
use Rattle.host_base.specs.declared.launch.Pair.{Pair}
use Rattle.host_base.specs.declared.launch.Peer.{Peer}
use Rattle.host_base.specs.declared.request.Framing.{Framing}
use Rattle.host_base.specs.declared.request.Framing.TheVariants.{Empty, Length, Chunked}
use Rattle.host_base.specs.declared.request.Request.{Request}
use Rattle.host_base.specs.declared.request.Version.{Version}
use Rattle.host_base.specs.declared.request.Version.TheVariants.{V10, V11}
use Rattle.host_base.specs.declared.site.Mapped.{Mapped}
use Rattle.host_base.specs.declared.site.Site.{Site}
use Rattle.host_base.specs.declared.site.VHost.{VHost}
use Rattle.host_base.specs.FieldLists.{values_named}
use Rattle.meta_variables.specs.Variables.{pair, is_filled, is_kept, joined_values}
use Rattle.meta_variables.specs.HeaderVariables.{header_variables}

-- CONTENT_LENGTH (RFC 3875 4.1.2): the announced length, or that of the decoded chunks; nothing where there is no body
abbrev pub content_length : Framing → List ℕ → List ℕ
content_length Empty body = []
content_length (Length n) body = decimal n
content_length Chunked body = decimal (length body)

-- SERVER_PROTOCOL (RFC 3875 4.1.16)
abbrev pub protocol_of : Version → List ℕ
protocol_of V10 = codes "HTTP/1.0"
protocol_of V11 = codes "HTTP/1.1"

-- PATH_TRANSLATED (RFC 3875 4.1.6): the host's root and then PATH_INFO, where there is one
abbrev pub translated : List ℕ → List ℕ → List ℕ
translated root path_info = if is_filled path_info then root ++ path_info else []

-- all meta-variables but those of the fields, also the empty ones, at the host that is served
abbrev pub request_variables : Site → VHost → Peer → Request → Mapped → List Pair
request_variables site host peer request mapped =
    pair (codes "CONTENT_LENGTH") (content_length request.framing request.body)
    ∷ pair (codes "CONTENT_TYPE") (joined_values (codes ", ") (values_named (codes "Content-Type") request.fields))
    ∷ pair (codes "GATEWAY_INTERFACE") (codes "CGI/1.1")
    ∷ pair (codes "PATH_INFO") mapped.path_info
    ∷ pair (codes "PATH_TRANSLATED") (translated host.root mapped.path_info)
    ∷ pair (codes "QUERY_STRING") (unwrap_or request.target.query [])
    ∷ pair (codes "REMOTE_ADDR") peer.0
    ∷ pair (codes "REMOTE_HOST") peer.0
    ∷ pair (codes "REQUEST_METHOD") request.method
    ∷ pair (codes "SCRIPT_NAME") mapped.script_name
    ∷ pair (codes "SERVER_NAME") (unwrap_or request.target.host host.name)
    ∷ pair (codes "SERVER_PORT") (decimal site.port)
    ∷ pair (codes "SERVER_PROTOCOL") (protocol_of request.version)
    ∷ pair (codes "SERVER_SOFTWARE") (codes "cgihost/1")
    ∷ []

-- The environment of a script of this host; a variable whose value is empty is left out, but not QUERY_STRING.
abbrev pub environment_at : Site → VHost → Peer → Request → Mapped → List Pair
environment_at site host peer request mapped = filter is_kept (request_variables site host peer request mapped) ++ header_variables request.fields

-- The environment of a mapped script, at the host that the mapping names.
abbrev pub environment_of : Site → Peer → Request → Mapped → Option (List Pair)
environment_of site peer request mapped =
    option_map (λ host. environment_at site host peer request mapped) (slice_get site.hosts mapped.host)
