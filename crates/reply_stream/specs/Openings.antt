-- What an output so far tells of its reply.
use Rattle.std.specs.Prelude.{ℕ, ◌≡◌, ◌≤◌, Bool, true, false, List, [], length, Option, Result, Ok, Err}
use Rattle.host_base.specs.declared.cause.Cause.{Cause}
use Rattle.host_base.specs.declared.site.ScriptKind.{ScriptKind}
use Rattle.cgi_header.specs.declared.header.CgiHead.{CgiHead}
use Rattle.reply_kinds.specs.declared.kind.ReplyKind.{ReplyKind}
use Rattle.reply_kinds.specs.declared.kind.ReplyKind.TheVariants.{Document, LocalRedirect, Redirect, RedirectDocument}
use Rattle.reply_kinds.specs.Derived.{derived_of, is_header_whole, is_streamable}
use Rattle.reply_kinds.specs.Kind.{kind_of, reply_of}
use Rattle.reply_stream.specs.declared.asked.Asked.{Asked}
use Rattle.reply_stream.specs.declared.stage.Flow.{Flow}
use Rattle.reply_stream.specs.declared.stage.Opening.{Opening}
use Rattle.reply_stream.specs.declared.stage.Opening.TheVariants.{Wait, Settle, Begin}
use Rattle.head_lines.specs.declared.search.Search.{Search}
use Rattle.reply_stream.specs.declared.stage.Stage.{Stage}
use Rattle.reply_stream.specs.declared.stage.Stage.TheVariants as At
use Rattle.reply_stream.specs.declared.stage.Header.{Header}
use Rattle.reply_stream.specs.declared.stage.Header.TheVariants as Seen
use Rattle.reply_stream.specs.Hearing.{most_kept}
use Rattle.reply_stream.specs.Stages.{IsSettled, flow_by, opening_of}
use Rattle.reply_stream.specs.Writing.{IsPartOf, begun_way}

-- more of the header is waited for
pub record IsUnread (kind : ScriptKind) (output : List ℕ) : Type 0 where
  pub open_yet : is_header_whole kind output ≡ false
  pub short : length output ≤ most_kept

-- the reply can begin, and begins with this text
pub record Begins (asked : Asked) (close : Bool) (stamp : Option ℕ) (output : List ℕ) (flow : Flow) (text : List ℕ) : Type 0 where
  pub can : is_streamable asked.kind output ≡ true
  pub part : IsPartOf (begun_way asked close stamp) (derived_of asked.kind output) text
  pub flow_is : flow ≡ flow_by (begun_way asked close stamp) (derived_of asked.kind output)

abbrev pub Opens : Asked → Bool → Option ℕ → List ℕ → Opening → Type 0
Opens asked close stamp output Wait = IsUnread asked.kind output
Opens asked close stamp output Settle = IsSettled asked.kind output
Opens asked close stamp output (Begin flow text) = Begins asked close stamp output flow text

-- by the kind that a whole header asks for: a document begins, and nothing else does
abbrev pub OpensByKind : Asked → Bool → Option ℕ → CgiHead → List ℕ → Result ReplyKind Cause → Opening → Type 0
OpensByKind asked close stamp head body (Ok Document) opening = opening ≡ opening_of asked close stamp (reply_of head Document []) body
OpensByKind asked close stamp head body (Ok RedirectDocument) opening =
    opening ≡ opening_of asked close stamp (reply_of head RedirectDocument []) body
OpensByKind asked close stamp head body (Ok LocalRedirect) opening = opening ≡ Settle
OpensByKind asked close stamp head body (Ok Redirect) opening = opening ≡ Settle
OpensByKind asked close stamp head body (Err cause) opening = opening ≡ Settle

abbrev pub OpensAfter : Asked → Bool → Option ℕ → CgiHead → List ℕ → Opening → Type 0
OpensAfter asked close stamp head body opening = OpensByKind asked close stamp head body (kind_of head) opening

-- ---- before it may begin

-- by the kind that a whole header asks for
abbrev pub header_by : Result ReplyKind Cause → Header
header_by (Ok Document) = Seen.Ready
header_by (Ok RedirectDocument) = Seen.Ready
header_by (Ok LocalRedirect) = Seen.Settled
header_by (Ok Redirect) = Seen.Settled
header_by (Err cause) = Seen.Settled

abbrev pub Tells : ScriptKind → List ℕ → Header → Type 0
Tells kind output Seen.Open = is_header_whole kind output ≡ false
Tells kind output Seen.Settled = IsSettled kind output
Tells kind output Seen.Ready = is_streamable kind output ≡ true

-- how the stream goes on
abbrev pub stage_by : Search → Header → Stage
stage_by search Seen.Open = At.Waiting search
stage_by search Seen.Settled = At.Settled
stage_by search Seen.Ready = At.Ready
