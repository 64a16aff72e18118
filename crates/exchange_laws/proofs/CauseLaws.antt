-- No cause that a target, a handshake or an output is refused for closes the connection by itself.
use Rattle.std.proofs.Common.{◌≡◌, ℕ, Bool, true, false, List, [], ◌∷◌, ◌++◌, Option, Some, None, Result, Ok, Err, refl, subst, drop, take, length}
use Rattle.std.specs.Prelude.{◌||◌, ◌&&◌, not, if◌then◌else◌, nat_le, is_none, is_some, ok_or}
use Rattle.std.specs.Option.{option_or}
use Rattle.host_base.specs.declared.cause.Cause.{Cause}
use Rattle.host_base.specs.declared.cause.Cause.TheVariants.{BadHandshake, BadLocation, HeaderTooLarge, NoScript, OriginRefused, UpgradeNeeded}
use Rattle.host_base.specs.declared.fields.Field.{Field}
use Rattle.host_base.specs.declared.request.Request.{Request}
use Rattle.host_base.specs.declared.site.Mapped.{Mapped}
use Rattle.host_base.specs.declared.site.ScriptKind.{ScriptKind}
use Rattle.host_base.specs.declared.site.ScriptKind.TheVariants.{Cgi, Nph, WebSocket}
use Rattle.host_base.specs.declared.site.Site.{Site}
use Rattle.host_base.specs.declared.site.VHost.{VHost}
use Rattle.head_lines.specs.Lines.{Front, front_of}
use Rattle.head_reader.specs.RequestHead.{field_of}
use Rattle.cgi_header.specs.declared.header.CgiHead.{CgiHead}
use Rattle.cgi_header.specs.declared.header.HdrStep.{HdrStep}
use Rattle.cgi_header.specs.declared.header.HdrStep.TheVariants as Step
use Rattle.cgi_header.specs.ScriptHeader.{fault_of, fault_of_field, fault_of_line, fields_of_lines, first_fault, has_value, is_repeated, is_status, missing_cause, most_header, read_header, status_of, step_by_fault, step_by_front}
use Rattle.reply_kinds.specs.declared.derived.Derived.{Derived}
use Rattle.reply_kinds.specs.declared.derived.Derived.TheVariants as Output
use Rattle.reply_kinds.specs.declared.kind.ReplyKind.{ReplyKind}
use Rattle.reply_kinds.specs.declared.kind.ReplyKind.TheVariants.{Document, LocalRedirect, Redirect, RedirectDocument}
use Rattle.reply_kinds.specs.Derived.{derived_by_kind, derived_by_step, derived_of, raw_of}
use Rattle.reply_kinds.specs.Kind.{is_local, is_path, kind_by, kind_of, kind_of_path, kind_of_uri}
use Rattle.script_map.specs.Escapes.{has_hidden_escape}
use Rattle.script_map.specs.Hosts.{host_of_target, scripts_at}
use Rattle.script_map.specs.Mapping.{decoded_text, has_dot_segment, mapped_at_host, mapped_text, script_at}
use Rattle.ws_handshake.specs.Handshake.{asks_version_13, asks_websocket, brings_key, handshake, is_origin_taken}
use Rattle.trace_model.specs.Closes.{is_closing_cause}
use Rattle.trace_model.specs.Places.{place_of}

-- ---- answers that are no such cause

abbrev Mild : Option Cause → Type 0
Mild None = Unit {0}
Mild (Some cause) = is_closing_cause cause ≡ false

abbrev MildStep : HdrStep → Type 0
MildStep (Step.Whole head used) = Unit {0}
MildStep Step.More = Unit {0}
MildStep (Step.Bad cause) = is_closing_cause cause ≡ false

abbrev MildResult : {X : Type 0} → Result X Cause → Type 0
MildResult (Ok x) = Unit {0}
MildResult (Err cause) = is_closing_cause cause ≡ false

abbrev MildOutput : Derived → Type 0
MildOutput (Output.Bad cause) = is_closing_cause cause ≡ false
MildOutput _ = Unit {0}

mild_if : (b : Bool) (x y : Option Cause) → Mild x → Mild y → Mild (if b then x else y)
mild_if true x y first second = first
mild_if false x y first second = second

-- ---- a header

of_field : (before : List Field) (f : Field) → Mild (fault_of_field before f)
of_field before f = mild_if (is_repeated before f) _ _ refl (mild_if (is_status f && is_none (status_of f.value)) _ _ refl tt)

of_line : (before : List Field) (f : Option Field) → Mild (fault_of before f)
of_line before None = refl
of_line before (Some f) = mild_if (has_value f) (fault_of_field before f) None (of_field before f) tt

mild_or : (x y : Option Cause) → Mild x → Mild y → Mild (option_or x y)
mild_or None y first second = second
mild_or (Some cause) y first second = first

of_lines : (before lines : List (List ℕ)) → Mild (first_fault before lines)
of_lines before [] = tt
of_lines before (line ∷ lines) =
    mild_or (fault_of_line before line) (first_fault (before ++ line ∷ []) lines) (of_line (fields_of_lines before) (field_of line))
    (of_lines (before ++ line ∷ []) lines)

of_step : (used : ℕ) (lines : List (List ℕ)) (o : Option Cause) → Mild o → MildStep (step_by_fault used lines o)
of_step used lines None mild = tt
of_step used lines (Some cause) mild = mild

of_front : (seen : ℕ) (front : Option Front) → MildStep (step_by_front seen front)
of_front seen None = go (nat_le most_header seen)
  where
    go : (b : Bool) → MildStep (if b then Step.Bad HeaderTooLarge else Step.More)
    go true = refl
    go false = tt
of_front seen (Some front) = of_step front.len front.lines (first_fault [] front.lines) (of_lines [] front.lines)

of_header : (output : List ℕ) → MildStep (read_header output)
unfolding read_header
of_header output = of_front (length output) (front_of (take most_header output))

-- ---- an output

of_path : (location : List ℕ) (has_status : Bool) → MildResult (kind_of_path location has_status)
of_path location true = tt
of_path location false = go (is_local location)
  where
    go : (b : Bool) → MildResult (if b then Ok LocalRedirect else Err BadLocation)
    go true = tt
    go false = refl

of_kind : (location : Option (List ℕ)) (has_status has_type : Bool) → MildResult (kind_by location has_status has_type)
of_kind None has_status true = tt
of_kind None true false = tt
of_kind None false false = refl
of_kind (Some location) has_status has_type = go (is_path location)
  where
    go : (b : Bool) → MildResult (if b then kind_of_path location has_status else Ok (kind_of_uri has_status has_type))
    go true = of_path location has_status
    go false = tt

by_kind : (head : CgiHead) (body : List ℕ) (k : Result ReplyKind Cause) → MildResult k → MildOutput (derived_by_kind head body k)
by_kind head body (Err cause) mild = mild
by_kind head body (Ok LocalRedirect) mild = tt
by_kind head body (Ok _) mild = tt

of_missing : (output : List ℕ) → is_closing_cause (missing_cause output) ≡ false
of_missing [] = refl
of_missing (byte ∷ output) = refl

by_step : (output : List ℕ) (s : HdrStep) → MildStep s → MildOutput (derived_by_step output s)
by_step output (Step.Whole head used) mild = by_kind head (drop used output) (kind_of head) (of_kind head.location (is_some head.status) head.has_type)
by_step output Step.More mild = of_missing output
by_step output (Step.Bad cause) mild = mild

of_raw : (output : List ℕ) → MildOutput (raw_of output)
of_raw [] = refl
of_raw (byte ∷ output) = tt

of_output : (kind : ScriptKind) (output : List ℕ) → MildOutput (derived_of kind output)
unfolding derived_of
of_output Cgi output = by_step output (read_header output) (of_header output)
of_output Nph output = of_raw output
of_output WebSocket output = refl

pub mild_output : (kind : ScriptKind) (output : List ℕ) (cause : Cause) → derived_of kind output ≡ Output.Bad cause → is_closing_cause cause ≡ false
mild_output kind output cause is = subst (λ d. MildOutput d) is (of_output kind output)

-- ---- a target

of_script : (o : Option Mapped) → MildResult (ok_or o NoScript)
of_script None = refl
of_script (Some mapped) = tt

of_text : (host : ℕ) (hosts : List VHost) (path : List ℕ) (o : Option (List ℕ)) → MildResult (mapped_text host (scripts_at hosts host) path o)
of_text host hosts path None = refl
of_text host hosts path (Some decoded) = go (has_hidden_escape path || has_dot_segment decoded)
  where
    go : (b : Bool) → MildResult (if b then Err NoScript else ok_or (script_at host (scripts_at hosts host) decoded) NoScript)
    go true = refl
    go false = of_script (script_at host (scripts_at hosts host) decoded)

of_host : (hosts : List VHost) (path : List ℕ) (o : Option ℕ) → MildResult (mapped_at_host hosts path o)
of_host hosts path None = refl
of_host hosts path (Some host) = of_text host hosts path (decoded_text path)

pub mild_place : (site : Site) (request : Request) (cause : Cause) → place_of site request ≡ Err cause → is_closing_cause cause ≡ false
mild_place site request cause is =
    subst (λ (r : Result Mapped Cause). MildResult r) is (of_host site.hosts request.target.path (host_of_target site.hosts request.target.host))

-- ---- a handshake

of_checks : (a b d o : Bool) (value : List ℕ)
    → MildResult (if not a then Err UpgradeNeeded
    else (if not b then Err UpgradeNeeded
    else (if not d then Err BadHandshake
    else (if not o then Err OriginRefused else Ok value))))
of_checks false b d o value = refl
of_checks true false d o value = refl
of_checks true true false o value = refl
of_checks true true true false value = refl
of_checks true true true true value = tt

pub mild_handshake : (request : Request) (origins : Option (List (List ℕ))) (cause : Cause) → handshake request origins ≡ Err cause → is_closing_cause cause ≡ false
unfolding handshake
mild_handshake request origins cause is =
    subst (λ (r : Result (List ℕ) Cause). MildResult r) is
    (of_checks (asks_websocket request) (asks_version_13 request) (brings_key request) (is_origin_taken origins request) _)
