-- What an output so far tells of its reply is right.
use Rattle.std.proofs.Common.{◌≡◌, ◌≢◌, ◌<◌, ℕ, Bool, true, false, List, [], ◌∷◌, ◌++◌, length, drop, refl, sym, ap, ◌∙◌, arith, Option, Result, Ok, Err, subst, cond}
use Rattle.std.specs.Prelude.{◌==◌, if◌then◌else◌, not, ◌&&◌, IfOk}
use Rattle.std.proofs.lemmas.Bool.{eqb-true, eq-eqb}
use Rattle.std.proofs.lemmas.List.{append-nil}
use Rattle.host_base.specs.declared.cause.Cause.{Cause}
use Rattle.host_base.specs.declared.reply.Reply.{Reply}
use Rattle.host_base.specs.declared.request.Version.{Version}
use Rattle.host_base.specs.declared.request.Version.TheVariants.{V10, V11}
use Rattle.host_base.specs.declared.site.ScriptKind.TheVariants.{Cgi, Nph, WebSocket}
use Rattle.cgi_header.specs.declared.header.CgiHead.{CgiHead}
use Rattle.cgi_header.specs.declared.header.HdrStep.TheVariants.{Whole, More, Bad}
use Rattle.cgi_header.specs.ScriptHeader.{most_header, read_header}
use Rattle.cgi_header.proofs.StayLaws.{headers_stay, more_is_open}
use Rattle.reply_kinds.specs.declared.derived.Derived.{Derived}
use Rattle.reply_kinds.specs.declared.derived.Derived.TheVariants as Output
use Rattle.reply_kinds.specs.declared.kind.ReplyKind.{ReplyKind}
use Rattle.reply_kinds.specs.declared.kind.ReplyKind.TheVariants.{Document, LocalRedirect, Redirect, RedirectDocument}
use Rattle.reply_kinds.specs.Kind.{has_body, kind_of, reply_of, status_code}
use Rattle.reply_kinds.specs.Derived.{derived_by_kind, derived_by_step, derived_of, has_document, is_header_whole, is_streamable, is_streamable_step, is_whole}
use Rattle.reply_kinds.specs.DerivedRules.{longer_reply}
use Rattle.reply_kinds.proofs.DerivedLaws.{others_stay}
use Rattle.reply_writer.specs.declared.shape.Shape.TheVariants.{Bare}
use Rattle.reply_writer.specs.CutReply.{Cuts, IsBodyPart}
use Rattle.reply_writer.specs.Spelling.{is_head_alone, whole_content}
use Rattle.reply_writer.specs.WholeReply.{head_of, open_shape}
use Rattle.reply_stream.specs.declared.asked.Asked.{Asked}
use Rattle.reply_stream.specs.declared.stage.Flow.TheVariants.{Plain}
use Rattle.reply_stream.specs.declared.stage.Opening.{Opening}
use Rattle.reply_stream.specs.declared.stage.Opening.TheVariants.{Wait, Settle, Begin}
use Rattle.reply_stream.specs.declared.stage.Header.{Header}
use Rattle.reply_stream.specs.declared.stage.Header.TheVariants as Seen
use Rattle.reply_stream.specs.Openings.{IsUnread, Opens, OpensAfter, OpensByKind, Tells, header_by}
use Rattle.reply_stream.specs.Stages.{IsSettled, flow_by, flow_by_reply, opening_of, piece_text_of}
use Rattle.reply_stream.specs.Writing.{IsPartOf, begun_way}
use Rattle.reply_stream.proofs.PartLaws.{reply_goes_on}

-- ---- nothing begins

unread_cgi : (output : List ℕ) → read_header output ≡ More → IsUnread Cgi output
unfolding is_header_whole
unread_cgi output more =
    let open_yet : length output < most_header = ((more_is_open output).0 more).1 in
    record { open_yet = ap is_whole more; short = omega (arith, open_yet) }

settled_cgi : (output : List ℕ) → read_header output ≢ More → is_streamable_step (read_header output) ≡ false → IsSettled Cgi output
unfolding is_streamable
settled_cgi output other none = record {
  never = λ more. ap is_streamable_step (headers_stay output more other) ∙ none;
  same = λ more. others_stay output more other none;
}

settled_web : (output : List ℕ) → IsSettled WebSocket output
unfolding is_streamable derived_of
settled_web output = record { never = λ more. refl; same = λ more. refl }

-- ---- a document begins

longer_document : (b : Bool) (body : List ℕ) → cond (not b) body [] ≡ cond b [] (cond (not b) [] [] ++ body)
longer_document true body = refl
longer_document false body = refl

reply-longer : (head : CgiHead) (kind : ReplyKind) (body : List ℕ) → has_body kind ≡ true
    → reply_of head kind body ≡ longer_reply (reply_of head kind []) body
reply-longer head Document body has = λ i. record (reply_of head Document body) { body = longer_document (status_code head.status Document == 205) body i }
reply-longer head RedirectDocument body has =
    λ i. record (reply_of head RedirectDocument body) { body = longer_document (status_code head.status RedirectDocument == 205) body i }
reply-longer head LocalRedirect body has = absurd (cc)
reply-longer head Redirect body has = absurd (cc)

no_body : (b : Bool) → cond {A = List ℕ} b [] [] ≡ []
no_body true = refl
no_body false = refl

nothing_yet : (alone : Bool) (version : Version) (body : List ℕ) → body ≡ []
    → IsBodyPart (if alone then Bare else open_shape version) (if alone then [] else body) []
nothing_yet true version body none = (refl, refl)
nothing_yet false V11 body none = record { chunks = []; each = tt; content = none; text = refl }
nothing_yet false V10 body none = sym none

head_stands : (asked : Asked) (close : Bool) (stamp : Option ℕ) (reply : Reply) → reply.body ≡ []
    → Cuts (head_of (begun_way asked close stamp) reply) (begun_way asked close stamp) reply (whole_content reply asked.head_only)
head_stands asked close stamp reply none = record {
  rest = [];
  text = sym (append-nil _);
  follows = nothing_yet (is_head_alone reply asked.head_only) asked.version reply.body none;
}

begins_document : (asked : Asked) (close : Bool) (stamp : Option ℕ) (head : CgiHead) (kind : ReplyKind) (body : List ℕ) → has_body kind ≡ true
    → IsPartOf (begun_way asked close stamp) (Output.Reply (reply_of head kind body))
    (head_of (begun_way asked close stamp) (reply_of head kind []) ++ piece_text_of (flow_by_reply (begun_way asked close stamp) (reply_of head kind [])) body)
begins_document asked close stamp head kind body has =
    let none : (reply_of head kind []).body ≡ [] = no_body (has_body kind && not (status_code head.status kind == 205)) in
    subst (λ (r : Reply). IsPartOf (begun_way asked close stamp) (Output.Reply r)
    (head_of (begun_way asked close stamp) (reply_of head kind []) ++ piece_text_of (flow_by_reply (begun_way asked close stamp) (reply_of head kind [])) body))
    (sym (reply-longer head kind body has))
    (reply_goes_on asked close stamp (reply_of head kind []) body (head_of (begun_way asked close stamp) (reply_of head kind [])) (λ resets. none)
    (head_stands asked close stamp (reply_of head kind []) none))

-- ---- by the header

begins : (asked : Asked) (close : Bool) (stamp : Option ℕ) (output : List ℕ) (head : CgiHead) (used : ℕ) (kind : ReplyKind) (opening : Opening)
    → asked.kind ≡ Cgi → has_body kind ≡ true → derived_of Cgi output ≡ Output.Reply (reply_of head kind (drop used output))
    → is_streamable Cgi output ≡ true → opening ≡ opening_of asked close stamp (reply_of head kind []) (drop used output)
    → Opens asked close stamp output opening
begins asked close stamp output head used kind opening cgi has derives can is =
    let way = begun_way asked close stamp in
    let derived_is : derived_of asked.kind output ≡ Output.Reply (reply_of head kind (drop used output)) = ap (λ k. derived_of k output) cgi ∙ derives in
    let all : Opens asked close stamp output (opening_of asked close stamp (reply_of head kind []) (drop used output)) = record {
      can = ap (λ k. is_streamable k output) cgi ∙ can;
      part =
          subst (λ (d : Derived). IsPartOf (begun_way asked close stamp) d
          (head_of (begun_way asked close stamp) (reply_of head kind []) ++ piece_text_of (flow_by_reply (begun_way asked close stamp) (reply_of head kind [])) (drop used output)))
          (sym derived_is) (begins_document asked close stamp head kind (drop used output) has);
      flow_is = sym (ap (flow_by (begun_way asked close stamp)) derived_is);
    } in
    subst (Opens asked close stamp output) (sym is) all

settles : (asked : Asked) (close : Bool) (stamp : Option ℕ) (output : List ℕ) (opening : Opening) → asked.kind ≡ Cgi
    → IsSettled Cgi output → opening ≡ Settle → Opens asked close stamp output opening
settles asked close stamp output opening cgi settled is =
    let all : Opens asked close stamp output Settle = subst (λ k. IsSettled k output) (sym cgi) settled in
    subst (Opens asked close stamp output) (sym is) all

whole_opens : (asked : Asked) (close : Bool) (stamp : Option ℕ) (output : List ℕ) (head : CgiHead) (used : ℕ) (opening : Opening)
    (kind : Result ReplyKind Cause) → asked.kind ≡ Cgi → read_header output ≡ Whole head used → kind_of head ≡ kind
    → OpensByKind asked close stamp head (drop used output) kind opening → Opens asked close stamp output opening
unfolding derived_of is_streamable
whole_opens asked close stamp output head used opening (Ok Document) cgi is kind opens =
    begins asked close stamp output head used Document opening cgi refl
    (ap (derived_by_step output) is ∙ ap (derived_by_kind head (drop used output)) kind) (ap is_streamable_step is ∙ ap has_document kind) opens
whole_opens asked close stamp output head used opening (Ok RedirectDocument) cgi is kind opens =
    begins asked close stamp output head used RedirectDocument opening cgi refl
    (ap (derived_by_step output) is ∙ ap (derived_by_kind head (drop used output)) kind) (ap is_streamable_step is ∙ ap has_document kind) opens
whole_opens asked close stamp output head used opening (Ok LocalRedirect) cgi is kind opens =
    settles asked close stamp output opening cgi (settled_cgi output (λ e. cc (sym is ∙ e)) (ap is_streamable_step is ∙ ap has_document kind)) opens
whole_opens asked close stamp output head used opening (Ok Redirect) cgi is kind opens =
    settles asked close stamp output opening cgi (settled_cgi output (λ e. cc (sym is ∙ e)) (ap is_streamable_step is ∙ ap has_document kind)) opens
whole_opens asked close stamp output head used opening (Err cause) cgi is kind opens =
    settles asked close stamp output opening cgi (settled_cgi output (λ e. cc (sym is ∙ e)) (ap is_streamable_step is ∙ ap has_document kind)) opens

pub opens_whole : (asked : Asked) (close : Bool) (stamp : Option ℕ) (output : List ℕ) (head : CgiHead) (used : ℕ) (opening : Opening)
    → asked.kind ≡ Cgi → read_header output ≡ Whole head used → OpensAfter asked close stamp head (drop used output) opening
    → Opens asked close stamp output opening
opens_whole asked close stamp output head used opening cgi is opens =
    whole_opens asked close stamp output head used opening (kind_of head) cgi is refl opens

pub opens_more : (asked : Asked) (close : Bool) (stamp : Option ℕ) (output : List ℕ) → asked.kind ≡ Cgi → read_header output ≡ More
    → Opens asked close stamp output Wait
opens_more asked close stamp output cgi is = subst (λ k. IsUnread k output) (sym cgi) (unread_cgi output is)

pub opens_bad : (asked : Asked) (close : Bool) (stamp : Option ℕ) (output : List ℕ) (cause : Cause) → asked.kind ≡ Cgi
    → read_header output ≡ Bad cause → Opens asked close stamp output Settle
opens_bad asked close stamp output cause cgi is =
    settles asked close stamp output Settle cgi (settled_cgi output (λ e. cc (sym is ∙ e)) (ap is_streamable_step is)) refl

-- ---- an output that is its own reply, and one that is none

unread_nph : IsUnread Nph []
unfolding is_header_whole
unread_nph = record { open_yet = refl; short = omega arith }

can_raw : (byte : ℕ) (output : List ℕ) → is_streamable Nph (byte ∷ output) ≡ true
unfolding is_streamable
can_raw byte output = refl

derives_raw : (byte : ℕ) (output : List ℕ) → derived_of Nph (byte ∷ output) ≡ Output.Raw (byte ∷ output)
unfolding derived_of
derives_raw byte output = refl

pub opens_empty : (asked : Asked) (close : Bool) (stamp : Option ℕ) (output : List ℕ) → asked.kind ≡ Nph → length output ≡ 0
    → Opens asked close stamp output Wait
opens_empty asked close stamp [] nph none = subst (λ k. IsUnread k []) (sym nph) unread_nph
opens_empty asked close stamp (byte ∷ output) nph none = absurd (omega arith)

pub opens_raw : (asked : Asked) (close : Bool) (stamp : Option ℕ) (output : List ℕ) → asked.kind ≡ Nph → length output ≢ 0
    → Opens asked close stamp output (Begin Plain output)
opens_raw asked close stamp [] nph some = absurd (some refl)
opens_raw asked close stamp (byte ∷ output) nph some =
    let derived_is : derived_of asked.kind (byte ∷ output) ≡ Output.Raw (byte ∷ output) =
    ap (λ k. derived_of k (byte ∷ output)) nph ∙ derives_raw byte output in
    record {
      can = ap (λ k. is_streamable k (byte ∷ output)) nph ∙ can_raw byte output;
      part = subst (λ (d : Derived). IsPartOf (begun_way asked close stamp) d (byte ∷ output)) (sym derived_is) refl;
      flow_is = sym (ap (flow_by (begun_way asked close stamp)) derived_is);
    }

-- as the length was tested
pub opens_tested_empty : (asked : Asked) (close : Bool) (stamp : Option ℕ) (output : List ℕ) → asked.kind ≡ Nph → (length output == 0) ≡ true
    → Opens asked close stamp output Wait
opens_tested_empty asked close stamp output nph none = opens_empty asked close stamp output nph (eqb-true (length output) 0 none)

pub opens_tested_raw : (asked : Asked) (close : Bool) (stamp : Option ℕ) (output text : List ℕ) → asked.kind ≡ Nph → (length output == 0) ≡ false
    → text ≡ output → Opens asked close stamp output (Begin Plain text)
opens_tested_raw asked close stamp output text nph some same =
    subst (λ (l : List ℕ). Opens asked close stamp output (Begin Plain l)) (sym same)
    (opens_raw asked close stamp output nph (λ none. absurd (cc (sym some ∙ eq-eqb (length output) 0 none))))

pub opens_web : (asked : Asked) (close : Bool) (stamp : Option ℕ) (output : List ℕ) → asked.kind ≡ WebSocket
    → Opens asked close stamp output Settle
opens_web asked close stamp output web = subst (λ k. IsSettled k output) (sym web) (settled_web output)

pub opens_whole_result : {E : Type 0} (result : Result Opening E) (asked : Asked) (close : Bool) (stamp : Option ℕ) (output : List ℕ) (head : CgiHead) (used : ℕ)
    → asked.kind ≡ Cgi → read_header output ≡ Whole head used → IfOk result (OpensAfter asked close stamp head (drop used output))
    → IfOk result (Opens asked close stamp output)
opens_whole_result (Ok opening) asked close stamp output head used cgi is opens = opens_whole asked close stamp output head used opening cgi is opens
opens_whole_result (Err e) asked close stamp output head used cgi is opens = tt

-- ---- what a header tells

pub tells_more : (output : List ℕ) → read_header output ≡ More → Tells Cgi output Seen.Open
tells_more output is = (unread_cgi output is).open_yet

pub tells_bad : (output : List ℕ) (cause : Cause) → read_header output ≡ Bad cause → Tells Cgi output Seen.Settled
tells_bad output cause is = settled_cgi output (λ e. cc (sym is ∙ e)) (ap is_streamable_step is)

tells_kind : (output : List ℕ) (head : CgiHead) (used : ℕ) (kind : Result ReplyKind Cause) → read_header output ≡ Whole head used → kind_of head ≡ kind
    → Tells Cgi output (header_by kind)
unfolding is_streamable
tells_kind output head used (Ok Document) is kind = ap is_streamable_step is ∙ ap has_document kind
tells_kind output head used (Ok RedirectDocument) is kind = ap is_streamable_step is ∙ ap has_document kind
tells_kind output head used (Ok LocalRedirect) is kind = settled_cgi output (λ e. cc (sym is ∙ e)) (ap is_streamable_step is ∙ ap has_document kind)
tells_kind output head used (Ok Redirect) is kind = settled_cgi output (λ e. cc (sym is ∙ e)) (ap is_streamable_step is ∙ ap has_document kind)
tells_kind output head used (Err cause) is kind = settled_cgi output (λ e. cc (sym is ∙ e)) (ap is_streamable_step is ∙ ap has_document kind)

pub tells_whole : (output : List ℕ) (head : CgiHead) (used : ℕ) (header : Header) → read_header output ≡ Whole head used → header ≡ header_by (kind_of head)
    → Tells Cgi output header
tells_whole output head used header is same = subst (Tells Cgi output) (sym same) (tells_kind output head used (kind_of head) is refl)

pub tells_empty : (output : List ℕ) → (length output == 0) ≡ true → Tells Nph output Seen.Open
tells_empty [] none = unread_nph.open_yet
tells_empty (byte ∷ output) none = absurd (let zero : length (byte ∷ output) ≡ 0 = eqb-true _ 0 none in omega (arith, zero))

pub tells_raw : (output : List ℕ) → (length output == 0) ≡ false → Tells Nph output Seen.Ready
tells_raw [] some = absurd (cc)
tells_raw (byte ∷ output) some = can_raw byte output

pub tells_web : (output : List ℕ) → Tells WebSocket output Seen.Settled
tells_web output = settled_web output
