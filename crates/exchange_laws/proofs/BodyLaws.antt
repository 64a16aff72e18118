-- The body of a reply is no longer than the output that it is derived from.
use Rattle.std.proofs.Common.{◌≡◌, ◌≤◌, ◌<◌, ◌^◌, ℕ, Bool, true, false, List, [], ◌∷◌, drop, length, length-drop, Result, Ok, Err, subst, arith}
use Rattle.std.specs.Prelude.{◌&&◌, ◌==◌, not, if◌then◌else◌}
use Rattle.cgi_header.specs.declared.header.CgiHead.{CgiHead}
use Rattle.cgi_header.specs.declared.header.HdrStep.{HdrStep}
use Rattle.cgi_header.specs.declared.header.HdrStep.TheVariants.{Whole, More, Bad}
use Rattle.cgi_header.specs.ScriptHeader.{read_header}
use Rattle.host_base.specs.declared.cause.Cause.{Cause}
use Rattle.host_base.specs.declared.reply.Reply.{Reply}
use Rattle.host_base.specs.declared.site.ScriptKind.{ScriptKind}
use Rattle.host_base.specs.declared.site.ScriptKind.TheVariants.{Cgi, Nph, WebSocket}
use Rattle.reply_kinds.specs.declared.derived.Derived.{Derived}
use Rattle.reply_kinds.specs.declared.derived.Derived.TheVariants as Output
use Rattle.reply_kinds.specs.declared.kind.ReplyKind.{ReplyKind}
use Rattle.reply_kinds.specs.declared.kind.ReplyKind.TheVariants.{Document, LocalRedirect, Redirect, RedirectDocument}
use Rattle.reply_kinds.specs.Derived.{derived_by_kind, derived_by_step, derived_of}
use Rattle.reply_kinds.specs.Kind.{has_body, kind_of, status_code}

abbrev body_in : Derived → List ℕ
body_in (Output.Reply reply) = reply.body
body_in _ = []

short_if : (b : Bool) (body : List ℕ) → length (if b then body else []) ≤ length body
short_if true body = omega arith
short_if false body = omega arith

short_kind : (head : CgiHead) (body : List ℕ) (kind : Result ReplyKind Cause) → length (body_in (derived_by_kind head body kind)) ≤ length body
short_kind head body (Err cause) = omega arith
short_kind head body (Ok LocalRedirect) = omega arith
short_kind head body (Ok Document) = short_if (has_body Document && not (status_code head.status Document == 205)) body
short_kind head body (Ok Redirect) = short_if (has_body Redirect && not (status_code head.status Redirect == 205)) body
short_kind head body (Ok RedirectDocument) = short_if (has_body RedirectDocument && not (status_code head.status RedirectDocument == 205)) body

short_step : (output : List ℕ) (step : HdrStep) → length (body_in (derived_by_step output step)) ≤ length output
short_step output (Whole head used) =
    let few : length (body_in (derived_by_kind head (drop used output) (kind_of head))) ≤ length (drop used output) = short_kind head (drop used output) (kind_of head) in
    omega (arith, few, length-drop used output)
short_step output More = omega arith
short_step output (Bad cause) = omega arith

short_body : (kind : ScriptKind) (output : List ℕ) → length (body_in (derived_of kind output)) ≤ length output
unfolding derived_of
short_body Cgi output = short_step output (read_header output)
short_body Nph [] = omega arith
short_body Nph (byte ∷ output) = omega arith
short_body WebSocket output = omega arith

pub small_reply : (kind : ScriptKind) (output : List ℕ) (reply : Reply) → derived_of kind output ≡ Output.Reply reply → length output < 2 ^ 64 → length reply.body < 2 ^ 64
small_reply kind output reply is short =
    let few : length reply.body ≤ length output = subst (λ d. length (body_in d) ≤ length output) is (short_body kind output) in
    omega (arith, few, short)
