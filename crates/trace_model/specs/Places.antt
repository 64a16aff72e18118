-- Where a request goes: its script, with the kind and the origins that the site gives it.
use Rattle.std.specs.Prelude.{ℕ, List, Option, Some, None, slice_get, Result}
use Rattle.host_base.specs.declared.cause.Cause.{Cause}
use Rattle.host_base.specs.declared.request.Request.{Request}
use Rattle.host_base.specs.declared.site.Mapped.{Mapped}
use Rattle.host_base.specs.declared.site.Script.{Script}
use Rattle.host_base.specs.declared.site.ScriptKind.{ScriptKind}
use Rattle.host_base.specs.declared.site.ScriptKind.TheVariants.{Cgi}
use Rattle.host_base.specs.declared.site.Site.{Site}
use Rattle.script_map.specs.Hosts.{scripts_at}
use Rattle.script_map.specs.Mapping.{mapped_of}

-- the script of a request with SCRIPT_NAME and PATH_INFO, or the cause
abbrev pub place_of : Site → Request → Result Mapped Cause
place_of site request = mapped_of site.hosts request.target

abbrev pub script_of : Site → Mapped → Option Script
script_of site mapped = slice_get (scripts_at site.hosts mapped.host) mapped.index

abbrev pub kind_by : Option Script → ScriptKind
kind_by None = Cgi
kind_by (Some script) = script.kind

abbrev pub kind_of : Site → Mapped → ScriptKind
kind_of site mapped = kind_by (script_of site mapped)

abbrev pub origins_by : Option Script → Option (List (List ℕ))
origins_by None = None
origins_by (Some script) = script.origins

-- for a WebSocket, the origins that are taken, where there is a list
abbrev pub origins_of : Site → Mapped → Option (List (List ℕ))
origins_of site mapped = origins_by (script_of site mapped)
