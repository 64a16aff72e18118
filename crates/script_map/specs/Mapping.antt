-- The script of a target (RFC 3875 3.3, 4.1.5 and 4.1.13).
use Rattle.std.specs.Prelude.{ℕ, Bool, true, false, not, ◌&&◌, ◌||◌, ◌==◌, List, [], ◌∷◌, length, drop, Option, Some, None, option_map, option_and_then, slice_get, Result, Err, is_ok, if◌then◌else◌, nat_eq, nat_le}
use Rattle.std.specs.List.{list_any, list_all, position, slice_split, starts_with}
use Rattle.std.specs.Option.{ok_or, option_map_or}
use Rattle.std.specs.Str.{is_utf8}
use Rattle.percent_encoding.specs.Percent.{percent_decode}
use Rattle.host_base.specs.declared.cause.Cause.{Cause}
use Rattle.host_base.specs.declared.cause.Cause.TheVariants.{BadPath, NoScript, UnknownHost}
use Rattle.host_base.specs.declared.request.Target.{Target}
use Rattle.host_base.specs.declared.site.Mapped.{Mapped}
use Rattle.host_base.specs.declared.site.Script.{Script}
use Rattle.host_base.specs.declared.site.VHost.{VHost}
use Rattle.script_map.specs.DotSegments.{is_slash, is_dot_segment}
use Rattle.script_map.specs.Escapes.{is_percent, has_whole_escapes, has_hidden_escape}
use Rattle.script_map.specs.Hosts.{host_of_target, scripts_at}

-- nothing, or bytes that begin with "/"
abbrev pub is_at_edge : List ℕ → Bool
is_at_edge [] = true
is_at_edge (byte ∷ rest) = is_slash byte

-- the path is the script's, or goes on after it with a "/"
abbrev pub fits : List ℕ → Script → Bool
fits path script = starts_with nat_eq path script.path && is_at_edge (drop (length script.path) path)

-- the script doesn't fit, or its path is no longer than this
abbrev pub is_no_longer : List ℕ → ℕ → Script → Bool
is_no_longer path len script = not (fits path script) || nat_le (length script.path) len

-- the script fits, and no longer one does
abbrev pub is_longest : List ℕ → List Script → Script → Bool
is_longest path scripts script = fits path script && list_all (is_no_longer path (length script.path)) scripts

abbrev pub mapped_by : ℕ → List ℕ → ℕ → Script → Mapped
mapped_by host path index script = record {
  host = host;
  index = index;
  script_name = script.path;
  path_info = drop (length script.path) path;
}

-- the script at a place of a host, as SCRIPT_NAME and PATH_INFO
abbrev pub mapped_at : ℕ → List Script → List ℕ → ℕ → Option Mapped
mapped_at host scripts path index = option_map (mapped_by host path index) (slice_get scripts index)

-- the longest script of a host that fits a decoded path
unfoldable pub script_at : ℕ → List Script → List ℕ → Option Mapped
script_at host scripts path = option_and_then (mapped_at host scripts path) (position (is_longest path scripts) scripts)

abbrev pub has_dot_segment : List ℕ → Bool
has_dot_segment path = list_any is_dot_segment (slice_split is_slash path)

-- the bytes, where they are UTF-8
abbrev pub text_or_none : List ℕ → Option (List ℕ)
text_or_none bytes = if is_utf8 bytes then Some bytes else None

-- The bytes decoded, where each "%" begins an escape and what they decode to is UTF-8.
unfoldable pub decoded_text : List ℕ → Option (List ℕ)
decoded_text bytes = if has_whole_escapes bytes then text_or_none (percent_decode bytes) else None

-- The script of a path and of what it decodes to. No escape may stand for a "/" or a NUL, so the segments
-- of the decoded path are the decoded segments.
abbrev pub mapped_text : ℕ → List Script → List ℕ → Option (List ℕ) → Result Mapped Cause
mapped_text host scripts path None = Err BadPath
mapped_text host scripts path (Some decoded) =
    if has_hidden_escape path || has_dot_segment decoded then Err NoScript else ok_or (script_at host scripts decoded) NoScript

-- The script of a path in the host at a place.
abbrev pub mapped_at_host : List VHost → List ℕ → Option ℕ → Result Mapped Cause
mapped_at_host hosts path None = Err UnknownHost
mapped_at_host hosts path (Some host) = mapped_text host (scripts_at hosts host) path (decoded_text path)

-- The script of a target, or the first cause to refuse it: its host comes first.
abbrev pub mapped_of : List VHost → Target → Result Mapped Cause
mapped_of hosts target = mapped_at_host hosts target.path (host_of_target hosts target.host)

-- whether something of a path is decoded, or its script is found
abbrev pub path_takes_memory : ℕ → List Script → List ℕ → Bool
path_takes_memory host scripts path =
    has_whole_escapes path && (list_any is_percent path || is_ok (mapped_text host scripts path (decoded_text path)))

-- whether something is decoded, or a script is found
abbrev pub takes_memory : List VHost → Target → Bool
takes_memory hosts target =
    option_map_or (λ host. path_takes_memory host (scripts_at hosts host) target.path) (host_of_target hosts target.host) false

abbrev pub is_nul : ℕ → Bool
is_nul byte = byte == 0

-- The script of a path that is decoded already, where that is a text: it has neither a NUL nor a dot segment.
abbrev pub decoded_mapped_text : ℕ → List Script → Option (List ℕ) → Result Mapped Cause
decoded_mapped_text host scripts None = Err BadPath
decoded_mapped_text host scripts (Some path) =
    if list_any is_nul path || has_dot_segment path then Err NoScript else ok_or (script_at host scripts path) NoScript

-- The script of a decoded path in the host at a place.
abbrev pub decoded_mapped_at_host : List VHost → List ℕ → Option ℕ → Result Mapped Cause
decoded_mapped_at_host hosts path None = Err UnknownHost
decoded_mapped_at_host hosts path (Some host) = decoded_mapped_text host (scripts_at hosts host) (text_or_none path)

-- The script of a host's name and a decoded path, or the first cause to refuse them.
abbrev pub decoded_mapped_of : List VHost → Option (List ℕ) → List ℕ → Result Mapped Cause
decoded_mapped_of hosts host path = decoded_mapped_at_host hosts path (host_of_target hosts host)
