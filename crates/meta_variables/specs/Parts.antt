-- The table of meta-variables in the parts that the code makes.
use Rattle.std.specs.Prelude.{ℕ, List, [], ◌∷◌, ◌++◌, unwrap_or, codes, decimal, if◌then◌else◌, nat_lt, length}
use Rattle.host_base.specs.declared.launch.Pair.{Pair}
use Rattle.host_base.specs.declared.launch.Peer.{Peer}
use Rattle.host_base.specs.declared.request.Request.{Request}
use Rattle.host_base.specs.declared.site.Mapped.{Mapped}
use Rattle.host_base.specs.declared.site.Site.{Site}
use Rattle.host_base.specs.declared.site.VHost.{VHost}
use Rattle.host_base.specs.FieldLists.{values_named}
use Rattle.meta_variables.specs.Environment.{content_length, protocol_of, translated}
use Rattle.meta_variables.specs.Variables.{pair, is_filled, as_text, joined_values}

abbrev pub content_variables : Request → List Pair
content_variables request =
    pair (codes "CONTENT_LENGTH") (content_length request.framing request.body)
    ∷ pair (codes "CONTENT_TYPE") (joined_values (codes ", ") (values_named (codes "Content-Type") request.fields))
    ∷ []

abbrev pub path_variables : VHost → Mapped → List Pair
path_variables host mapped =
    pair (codes "GATEWAY_INTERFACE") (codes "CGI/1.1")
    ∷ pair (codes "PATH_INFO") mapped.path_info
    ∷ pair (codes "PATH_TRANSLATED") (translated host.root mapped.path_info)
    ∷ []

abbrev pub client_variables : Peer → Request → Mapped → List Pair
client_variables peer request mapped =
    pair (codes "QUERY_STRING") (unwrap_or request.target.query [])
    ∷ pair (codes "REMOTE_ADDR") peer.0
    ∷ pair (codes "REMOTE_HOST") peer.0
    ∷ pair (codes "REQUEST_METHOD") request.method
    ∷ pair (codes "SCRIPT_NAME") mapped.script_name
    ∷ []

abbrev pub server_variables : Site → VHost → Request → List Pair
server_variables site host request =
    pair (codes "SERVER_NAME") (unwrap_or request.target.host host.name)
    ∷ pair (codes "SERVER_PORT") (decimal site.port)
    ∷ pair (codes "SERVER_PROTOCOL") (protocol_of request.version)
    ∷ pair (codes "SERVER_SOFTWARE") (codes "cgihost/1")
    ∷ []

-- the text where one more value follows; one that is empty adds nothing
abbrev pub joined_more : List ℕ → List ℕ → List ℕ → List ℕ
joined_more separator text value =
    if is_filled value then (if nat_lt 0 (length text) then text ++ separator ++ as_text value else text ++ as_text value) else text
