-- What the whole output of a script derives (RFC 3875 5 and 6), and what a front of it tells of that.
use Rattle.std.specs.Prelude.{ℕ, Bool, true, false, List, [], ◌∷◌, drop, Option, Some, None, Result, Ok, Err}
use Rattle.host_base.specs.declared.cause.Cause.{Cause}
use Rattle.host_base.specs.declared.cause.Cause.TheVariants.{NoOutput}
use Rattle.host_base.specs.declared.site.ScriptKind.{ScriptKind}
use Rattle.host_base.specs.declared.site.ScriptKind.TheVariants.{Cgi, Nph, WebSocket}
use Rattle.cgi_header.specs.declared.header.CgiHead.{CgiHead}
use Rattle.cgi_header.specs.declared.header.HdrStep.{HdrStep}
use Rattle.cgi_header.specs.declared.header.HdrStep.TheVariants.{Whole, More, Bad}
use Rattle.cgi_header.specs.ScriptHeader.{read_header, missing_cause}
use Rattle.reply_kinds.specs.declared.kind.ReplyKind.{ReplyKind}
use Rattle.reply_kinds.specs.declared.kind.ReplyKind.TheVariants.{Document, LocalRedirect, Redirect, RedirectDocument}
use Rattle.reply_kinds.specs.declared.derived.Derived.{Derived}
use Rattle.reply_kinds.specs.declared.derived.Derived.TheVariants as derived
use Rattle.reply_kinds.specs.Kind.{kind_of, reply_of, has_body}

abbrev pub location_or_none : Option (List ℕ) → List ℕ
location_or_none None = []
location_or_none (Some location) = location

-- by the kind that a header asks for, and what follows the header
abbrev pub derived_by_kind : CgiHead → List ℕ → Result ReplyKind Cause → Derived
derived_by_kind head body (Err cause) = derived.Bad cause
derived_by_kind head body (Ok LocalRedirect) = derived.Hop (location_or_none head.location)
derived_by_kind head body (Ok Document) = derived.Reply (reply_of head Document body)
derived_by_kind head body (Ok Redirect) = derived.Reply (reply_of head Redirect body)
derived_by_kind head body (Ok RedirectDocument) = derived.Reply (reply_of head RedirectDocument body)

-- by what an output begins with that has ended
abbrev pub derived_by_step : List ℕ → HdrStep → Derived
derived_by_step output (Whole head used) = derived_by_kind head (drop used output) (kind_of head)
derived_by_step output More = derived.Bad (missing_cause output)
derived_by_step output (Bad cause) = derived.Bad cause

-- the output of an nph script is the reply as it is (RFC 3875 5)
abbrev pub raw_of : List ℕ → Derived
raw_of [] = derived.Bad NoOutput
raw_of (byte ∷ output) = derived.Raw (byte ∷ output)

-- What an output derives that has ended. The program of a WebSocket gives messages and no reply; its output counts
-- as none.
unfoldable pub derived_of : ScriptKind → List ℕ → Derived
derived_of Cgi output = derived_by_step output (read_header output)
derived_of Nph output = raw_of output
derived_of WebSocket output = derived.Bad NoOutput

-- ---- what is known before the output has ended

abbrev pub is_whole : HdrStep → Bool
is_whole (Whole head used) = true
is_whole More = false
is_whole (Bad cause) = false

abbrev pub is_filled : List ℕ → Bool
is_filled [] = false
is_filled (byte ∷ output) = true

-- the header of the output is whole; that of an nph script is none, and counts as whole at the first byte
unfoldable pub is_header_whole : ScriptKind → List ℕ → Bool
is_header_whole Cgi output = is_whole (read_header output)
is_header_whole Nph output = is_filled output
is_header_whole WebSocket output = false

-- the kind is a document, or a redirect with one
abbrev pub has_document : Result ReplyKind Cause → Bool
has_document (Ok kind) = has_body kind
has_document (Err cause) = false

abbrev pub is_streamable_step : HdrStep → Bool
is_streamable_step (Whole head used) = has_document (kind_of head)
is_streamable_step More = false
is_streamable_step (Bad cause) = false

-- the header is whole and its kind is a document or a redirect with one, so the reply can begin
unfoldable pub is_streamable : ScriptKind → List ℕ → Bool
is_streamable Cgi output = is_streamable_step (read_header output)
is_streamable Nph output = is_filled output
is_streamable WebSocket output = false
