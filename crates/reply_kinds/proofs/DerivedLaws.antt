-- What a front of an output tells of the whole one.
use Rattle.std.proofs.Common.{◌≡◌, ◌≢◌, ℕ, Bool, true, false, List, [], ◌∷◌, ◌++◌, drop, refl, ap, ◌∙◌, cond, Result, Ok, Err}
use Rattle.std.specs.Prelude.{◌==◌, not}
use Rattle.std.proofs.lemmas.List.{drop-append-le}
use Rattle.host_base.specs.declared.cause.Cause.{Cause}
use Rattle.host_base.specs.declared.reply.Reply.{Reply}
use Rattle.host_base.specs.declared.site.ScriptKind.TheVariants.{Cgi, Nph, WebSocket}
use Rattle.cgi_header.specs.declared.header.CgiHead.{CgiHead}
use Rattle.cgi_header.specs.declared.header.HdrStep.{HdrStep}
use Rattle.cgi_header.specs.declared.header.HdrStep.TheVariants.{Whole, More, Bad}
use Rattle.cgi_header.specs.ScriptHeader.{read_header}
use Rattle.cgi_header.proofs.StayLaws.{headers_stay}
use Rattle.cgi_header.proofs.GrammarLaws.{whole_fits}
use Rattle.reply_kinds.specs.declared.kind.ReplyKind.{ReplyKind}
use Rattle.reply_kinds.specs.declared.kind.ReplyKind.TheVariants.{Document, LocalRedirect, Redirect, RedirectDocument}
use Rattle.reply_kinds.specs.declared.derived.Derived.TheVariants as derived
use Rattle.reply_kinds.specs.Kind.{kind_of, reply_of, status_code, has_body}
use Rattle.reply_kinds.specs.Derived.{derived_by_kind, derived_by_step, derived_of, is_header_whole, is_streamable, is_streamable_step, is_whole, has_document}
use Rattle.reply_kinds.specs.DerivedRules.{longer, longer_reply, IsBegun, BegunGoesOn, HeadersComeFirst, OthersStay}

body-longer : (b : Bool) (body more : List ℕ) → cond (not b) (body ++ more) [] ≡ cond b [] (cond (not b) body [] ++ more)
body-longer true body more = refl
body-longer false body more = refl

reply-longer : (head : CgiHead) (kind : ReplyKind) (body more : List ℕ) → has_body kind ≡ true
    → reply_of head kind (body ++ more) ≡ longer_reply (reply_of head kind body) more
reply-longer head Document body more has = λ i. record (reply_of head Document body) { body = body-longer (status_code head.status Document == 205) body more i }
reply-longer head RedirectDocument body more has =
    λ i. record (reply_of head RedirectDocument body) { body = body-longer (status_code head.status RedirectDocument == 205) body more i }
reply-longer head LocalRedirect body more has = absurd (cc)
reply-longer head Redirect body more has = absurd (cc)

-- by a kind that has a document the reply begins
by_kind : (head : CgiHead) (body more : List ℕ) (kind : Result ReplyKind Cause) → has_document kind ≡ true
    → IsBegun (derived_by_kind head body kind) × (derived_by_kind head (body ++ more) kind ≡ longer (derived_by_kind head body kind) more)
by_kind head body more (Err cause) has = absurd (cc)
by_kind head body more (Ok Document) has = (tt, ap (λ (r : Reply). derived.Reply r) (reply-longer head Document body more has))
by_kind head body more (Ok RedirectDocument) has = (tt, ap (λ (r : Reply). derived.Reply r) (reply-longer head RedirectDocument body more has))
by_kind head body more (Ok LocalRedirect) has = absurd (cc)
by_kind head body more (Ok Redirect) has = absurd (cc)

by_step : (output more : List ℕ) (step : HdrStep) → read_header output ≡ step → is_streamable_step step ≡ true
    → IsBegun (derived_by_step output step) × (derived_by_step (output ++ more) step ≡ longer (derived_by_step output step) more) × (step ≢ More)
by_step output more (Whole head used) is has =
    let both = by_kind head (drop used output) more (kind_of head) has in
    let rest : drop used (output ++ more) ≡ drop used output ++ more = drop-append-le used output more (whole_fits output head used is) in
    (both.0, ap (λ (b : List ℕ). derived_by_kind head b (kind_of head)) rest ∙ both.1, λ e. cc e)
by_step output more More is has = absurd (cc)
by_step output more (Bad cause) is has = absurd (cc)

pub begun_goes_on : BegunGoesOn
unfolding derived_of is_streamable
begun_goes_on Cgi output more has =
    let by = by_step output more (read_header output) refl has in
    let stays : read_header (output ++ more) ≡ read_header output = headers_stay output more by.2 in
    (by.0, ap (derived_by_step (output ++ more)) stays ∙ by.1, ap is_streamable_step stays ∙ has)
begun_goes_on Nph [] more has = absurd (cc)
begun_goes_on Nph (byte ∷ output) more has = (tt, refl, refl)
begun_goes_on WebSocket output more has = absurd (cc)

-- ---- what else is known of a front

same_by_kind : (head : CgiHead) (body more : List ℕ) (kind : Result ReplyKind Cause) → has_document kind ≡ false
    → derived_by_kind head (body ++ more) kind ≡ derived_by_kind head body kind
same_by_kind head body more (Err cause) none = refl
same_by_kind head body more (Ok LocalRedirect) none = refl
same_by_kind head body more (Ok Redirect) none = refl
same_by_kind head body more (Ok Document) none = absurd (cc none)
same_by_kind head body more (Ok RedirectDocument) none = absurd (cc none)

same_by_step : (output more : List ℕ) (step : HdrStep) → read_header output ≡ step → step ≢ More → is_streamable_step step ≡ false
    → derived_by_step (output ++ more) step ≡ derived_by_step output step
same_by_step output more (Whole head used) is other none =
    let rest : drop used (output ++ more) ≡ drop used output ++ more = drop-append-le used output more (whole_fits output head used is) in
    ap (λ (b : List ℕ). derived_by_kind head b (kind_of head)) rest ∙ same_by_kind head (drop used output) more (kind_of head) none
same_by_step output more More is other none = absurd (other refl)
same_by_step output more (Bad cause) is other none = refl

pub others_stay : OthersStay
unfolding derived_of is_streamable
others_stay output more other none =
    ap (derived_by_step (output ++ more)) (headers_stay output more other)
    ∙ same_by_step output more (read_header output) refl other none

whole_is_no_more : (step : HdrStep) → is_whole step ≡ true → step ≢ More
whole_is_no_more (Whole head used) whole = λ e. cc e
whole_is_no_more More whole = absurd (cc whole)
whole_is_no_more (Bad cause) whole = absurd (cc whole)

begun_is_whole : (step : HdrStep) → is_streamable_step step ≡ true → is_whole step ≡ true
begun_is_whole (Whole head used) begun = refl
begun_is_whole More begun = absurd (cc begun)
begun_is_whole (Bad cause) begun = absurd (cc begun)

pub headers_come_first : HeadersComeFirst
unfolding is_header_whole is_streamable
headers_come_first Cgi output more = (
  begun_is_whole (read_header output),
  λ whole. ap is_whole (headers_stay output more (whole_is_no_more (read_header output) whole)) ∙ whole,
)
headers_come_first Nph [] more = (λ begun. begun, λ whole. absurd (cc whole))
headers_come_first Nph (byte ∷ output) more = (λ begun. begun, λ whole. refl)
headers_come_first WebSocket output more = (λ begun. begun, λ whole. whole)
