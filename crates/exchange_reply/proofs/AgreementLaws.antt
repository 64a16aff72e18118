-- What a stream writes is what the model lets stand.
use Rattle.std.proofs.Common.{◌≡◌, ◌≤◌, ◌<◌, ◌^◌, ℕ, Bool, true, false, List, [], ◌∷◌, ◌++◌, length, drop, Option, Some, None, Result, Ok, Err, refl, sym, ap, ◌∙◌, subst, arith, append_assoc, append-nil, length-drop}
use Rattle.std.specs.Prelude.{◌&&◌, ◌||◌, ◌==◌, not, nat_eq, nat_lt, if◌then◌else◌, bytes_eq}
use Rattle.std.specs.List.{starts_with}
use Rattle.std.proofs.lemmas.Bool.{and_parts, false≢true}
use Rattle.std.proofs.lemmas.Slice.Eq.{bytes_eq-Decides}
use Rattle.std.proofs.Math.Seq.{drop-append_seam}
use Rattle.std.proofs.lemmas.List.{append_cancel_left}
use Rattle.host_base.specs.declared.cause.Cause.{Cause}
use Rattle.host_base.specs.declared.reply.Reply.{Reply}
use Rattle.host_base.specs.declared.site.ScriptKind.{ScriptKind}
use Rattle.host_base.specs.declared.site.ScriptKind.TheVariants.{Cgi, Nph, WebSocket}
use Rattle.cgi_header.specs.declared.header.CgiHead.{CgiHead}
use Rattle.cgi_header.specs.declared.header.HdrStep.{HdrStep}
use Rattle.cgi_header.specs.declared.header.HdrStep.TheVariants.{Whole, More, Bad}
use Rattle.cgi_header.specs.ScriptHeader.{read_header}
use Rattle.reply_kinds.specs.declared.derived.Derived.{Derived}
use Rattle.reply_kinds.specs.declared.derived.Derived.TheVariants as Output
use Rattle.reply_kinds.specs.declared.kind.ReplyKind.{ReplyKind}
use Rattle.reply_kinds.specs.declared.kind.ReplyKind.TheVariants.{Document, LocalRedirect, Redirect, RedirectDocument}
use Rattle.reply_kinds.specs.Derived.{derived_by_kind, derived_by_step, derived_of, is_streamable}
use Rattle.reply_kinds.specs.DerivedRules.{longer, longer_reply}
use Rattle.reply_kinds.specs.Kind.{has_body, kind_of, status_code}
use Rattle.reply_kinds.proofs.DerivedLaws.{begun_goes_on}
use Rattle.reply_writer.specs.declared.shape.Shape.{Shape}
use Rattle.reply_writer.specs.declared.shape.Shape.TheVariants.{Bare, Length, Chunked, ToClose}
use Rattle.reply_writer.specs.CutReply.{IsBodyPart, cut_part}
use Rattle.reply_writer.specs.FaultReply.{fault_reply_of}
use Rattle.reply_writer.specs.Spelling.{is_head_alone, whole_content}
use Rattle.reply_writer.specs.WholeReply.{IsWholeBody, Spells, Way, head_of, is_nothing, is_spelling, is_whole_body, shape_of}
use Rattle.reply_writer.proofs.FrontLaws.{front_stands}
use Rattle.reply_writer.proofs.WholeEndLaws.{cuts_are_not_whole}
use Rattle.reply_writer.proofs.WholeLaws.{cut_taken, spelling_is, spelling_taken}
use Rattle.reply_stream.specs.declared.asked.Asked.{Asked}
use Rattle.reply_stream.specs.declared.stream.Last.{Last}
use Rattle.reply_stream.specs.declared.stream.Last.TheVariants as Ended
use Rattle.reply_stream.specs.Hearing.{most_kept}
use Rattle.reply_stream.specs.Writing.{nothing, begun, begun_way, whole_way, IsLastOf, IsPartOf, IsRestOf}
use Rattle.trace_child.specs.Words.{is_filled}
use Rattle.trace_model.specs.Standing.{is_front_of}
use Rattle.trace_model.specs.Streams.{is_same_part}
use Rattle.exchange_reply.specs.Agreement.{Concludes, CutsStay, EndsConclude, FaultsAreSpelled, IsFullCut, StandingsAreCuts}
use Rattle.exchange_reply.specs.Standings.{is_cut_by, is_due, so_far}

-- ---- what is derived

pub content_in : Derived → List ℕ
content_in (Output.Reply reply) = reply.body
content_in (Output.Raw output) = output
content_in (Output.Hop location) = []
content_in (Output.Bad cause) = []

short_if : (b : Bool) (body : List ℕ) → length (if b then body else []) ≤ length body
short_if true body = omega arith
short_if false body = omega arith

short_kind : (head : CgiHead) (body : List ℕ) (kind : Result ReplyKind Cause) → length (content_in (derived_by_kind head body kind)) ≤ length body
unfolding content_in
short_kind head body (Err cause) = omega arith
short_kind head body (Ok LocalRedirect) = omega arith
short_kind head body (Ok Document) = short_if (has_body Document && not (status_code head.status Document == 205)) body
short_kind head body (Ok Redirect) = short_if (has_body Redirect && not (status_code head.status Redirect == 205)) body
short_kind head body (Ok RedirectDocument) = short_if (has_body RedirectDocument && not (status_code head.status RedirectDocument == 205)) body

short_step : (output : List ℕ) (step : HdrStep) → length (content_in (derived_by_step output step)) ≤ length output
unfolding content_in
short_step output (Whole head used) =
    let few : length (content_in (derived_by_kind head (drop used output) (kind_of head))) ≤ length (drop used output) = short_kind head (drop used output) (kind_of head) in
    omega (arith, few, length-drop used output)
short_step output More = omega arith
short_step output (Bad cause) = omega arith

-- the body of what is derived is within the output
pub content_is_short : (kind : ScriptKind) (output : List ℕ) → length (content_in (derived_of kind output)) ≤ length output
unfolding derived_of content_in
content_is_short Cgi output = short_step output (read_header output)
content_is_short Nph [] = omega arith
content_is_short Nph (byte ∷ output) = omega arith
content_is_short WebSocket output = omega arith

abbrev RawIsFilled : Derived → Type 0
RawIsFilled (Output.Raw output) = is_filled output ≡ true
RawIsFilled _ = Unit {0}

raw_kind : (head : CgiHead) (body : List ℕ) (kind : Result ReplyKind Cause) → RawIsFilled (derived_by_kind head body kind)
raw_kind head body (Err cause) = tt
raw_kind head body (Ok LocalRedirect) = tt
raw_kind head body (Ok _) = tt

raw_step : (output : List ℕ) (step : HdrStep) → RawIsFilled (derived_by_step output step)
raw_step output (Whole head used) = raw_kind head (drop used output) (kind_of head)
raw_step output More = tt
raw_step output (Bad cause) = tt

raw_is_filled : (kind : ScriptKind) (output : List ℕ) → RawIsFilled (derived_of kind output)
unfolding derived_of
raw_is_filled Cgi output = raw_step output (read_header output)
raw_is_filled Nph [] = tt
raw_is_filled Nph (byte ∷ output) = refl
raw_is_filled WebSocket output = tt

-- a reply with 205 has no body
abbrev HasNone : Derived → Type 0
HasNone (Output.Reply reply) = (reply.status == 205) ≡ true → reply.body ≡ []
HasNone _ = Unit {0}

none_at : (d : Derived) → d ≡ longer d [] → HasNone d
unfolding content_in
none_at (Output.Reply reply) same = λ resets.
    let body : reply.body ≡ (if reply.status == 205 then [] else reply.body ++ []) = ap content_in same in
    body ∙ ap (λ (b : Bool). if b then [] else reply.body ++ []) resets
none_at _ same = tt

derived_none : (kind : ScriptKind) (output : List ℕ) → is_streamable kind output ≡ true → HasNone (derived_of kind output)
derived_none kind output can =
    none_at (derived_of kind output) (ap (derived_of kind) (sym (append-nil output)) ∙ (begun_goes_on kind output [] can).1)

-- ---- fronts

pub bytes_same : (bytes : List ℕ) → bytes_eq bytes bytes ≡ true
bytes_same bytes = (bytes_eq-Decides bytes bytes).1 refl

front_all : (body : List ℕ) → starts_with nat_eq body body ≡ true
front_all body = ap (λ (l : List ℕ). starts_with nat_eq l body) (sym (append-nil body)) ∙ front_stands body []

front_content : (alone : Bool) (body : List ℕ) → starts_with nat_eq body (if alone then [] else body) ≡ true
front_content true body = front_stands [] body
front_content false body = front_all body

front_longer : (alone resets : Bool) (body more : List ℕ) → (resets ≡ true → body ≡ [])
    → starts_with nat_eq (if resets then [] else body ++ more) (if alone then [] else body) ≡ true
front_longer true resets body more none = front_stands [] (if resets then [] else body ++ more)
front_longer false true body more none = ap (λ (l : List ℕ). starts_with nat_eq [] l) (none refl) ∙ front_stands [] []
front_longer false false body more none = front_stands body more

small_content : (alone : Bool) (body : List ℕ) → length body < 2 ^ 64 → length (if alone then [] else body) < 2 ^ 64
small_content true body small = omega (arith, small)
small_content false body small = small

-- ---- a reply that goes on

module _ (asked : Asked) (close : Bool) (stamp : Option ℕ) where
  part_filled : (d : Derived) (bytes : List ℕ) → RawIsFilled d → IsPartOf (begun_way asked close stamp) d bytes → is_filled bytes ≡ true
  part_filled (Output.Reply reply) bytes raw part = subst (λ (l : List ℕ). is_filled l ≡ true) (sym part.text) refl
  part_filled (Output.Raw output) bytes raw part = ap is_filled part ∙ raw
  part_filled (Output.Hop location) bytes raw part = absurd part
  part_filled (Output.Bad cause) bytes raw part = absurd part

  part_taken : (reply : Reply) (bytes : List ℕ) → length reply.body < 2 ^ 64 → IsPartOf (begun_way asked close stamp) (Output.Reply reply) bytes
      → cut_part bytes (begun_way asked close stamp) reply ≡ Some (whole_content reply asked.head_only)
  part_taken reply bytes small part =
      cut_taken bytes (begun_way asked close stamp) reply (whole_content reply asked.head_only) (small_content (is_head_alone reply asked.head_only) reply.body small) part

  full_cut : (d : Derived) (bytes : List ℕ) → length (content_in d) < 2 ^ 64 → RawIsFilled d → IsPartOf (begun_way asked close stamp) d bytes
      → IsFullCut (begun_way asked close stamp) bytes (Some d)
  unfolding content_in
  full_cut (Output.Reply reply) bytes small raw part =
      let taken = part_taken reply bytes small part in
      record {
        cut = ap (is_front_of reply.body) taken ∙ front_content (is_head_alone reply asked.head_only) reply.body;
        all = ap (λ (o : Option (List ℕ)). is_same_part o (Some (whole_content reply asked.head_only))) taken ∙ bytes_same (whole_content reply asked.head_only);
        some = part_filled (Output.Reply reply) bytes raw part;
      }
  full_cut (Output.Raw output) bytes small raw part = record {
    cut = ap (λ (l : List ℕ). starts_with nat_eq output l) part ∙ front_all output;
    all = ap (λ (l : List ℕ). bytes_eq l output) part ∙ bytes_same output;
    some = part_filled (Output.Raw output) bytes raw part;
  }
  full_cut (Output.Hop location) bytes small raw part = absurd part
  full_cut (Output.Bad cause) bytes small raw part = absurd part

  cut_stays : (d : Derived) (more bytes : List ℕ) → length (content_in d) < 2 ^ 64 → HasNone d → IsPartOf (begun_way asked close stamp) d bytes
      → is_cut_by (begun_way asked close stamp) bytes (Some (longer d more)) ≡ true
  unfolding content_in
  cut_stays (Output.Reply reply) more bytes small none part =
      let taken : cut_part bytes (begun_way asked close stamp) (longer_reply reply more) ≡ Some (whole_content reply asked.head_only) = part_taken reply bytes small part in
      ap (is_front_of (longer_reply reply more).body) taken
      ∙ front_longer (is_head_alone reply asked.head_only) (reply.status == 205) reply.body more none
  cut_stays (Output.Raw output) more bytes small none part = ap (λ (l : List ℕ). starts_with nat_eq (output ++ more) l) part ∙ front_stands output more
  cut_stays (Output.Hop location) more bytes small none part = absurd part
  cut_stays (Output.Bad cause) more bytes small none part = absurd part

begun_some : (kind : ScriptKind) (output : List ℕ) → is_streamable kind output ≡ true → so_far kind output ≡ Some (derived_of kind output)
begun_some kind output can = ap (λ (b : Bool). if b then Some (derived_of kind output) else None) can

can_of : (kind : ScriptKind) (output : List ℕ) (ticked : Bool) → is_due kind output ticked ≡ true → is_streamable kind output ≡ true
can_of kind output ticked due = (and_parts (is_streamable kind output) (nat_lt most_kept (length output) || ticked) due).0

small_derived : (kind : ScriptKind) (output : List ℕ) → length output < 2 ^ 64 → length (content_in (derived_of kind output)) < 2 ^ 64
small_derived kind output small = omega (arith, small, content_is_short kind output)

pub standings_are_cuts : StandingsAreCuts
standings_are_cuts asked output ticked close stamp bytes small stands =
    let can = can_of asked.kind output ticked stands.0 in
    subst (λ (o : Option Derived). IsFullCut (begun_way asked close stamp) bytes o) (sym (begun_some asked.kind output can))
    (full_cut asked close stamp (derived_of asked.kind output) bytes (small_derived asked.kind output small) (raw_is_filled asked.kind output) stands.1)

pub cuts_stay : CutsStay
cuts_stay asked output more ticked close stamp bytes small stands =
    let can = can_of asked.kind output ticked stands.0 in
    let grown = begun_goes_on asked.kind output more can in
    let is : so_far asked.kind (output ++ more) ≡ Some (longer (derived_of asked.kind output) more) =
    begun_some asked.kind (output ++ more) grown.2 ∙ ap Some grown.1 in
    ap (is_cut_by (begun_way asked close stamp) bytes) is
    ∙ cut_stays asked close stamp (derived_of asked.kind output) more bytes (small_derived asked.kind output small) (derived_none asked.kind output can) stands.1

-- ---- one that has ended

not_true : (b : Bool) → (b ≡ true → ⊥) → b ≡ false
not_true true never = absurd (never refl)
not_true false never = refl

no_text : (text : List ℕ) → text ≡ [] → is_filled text ≡ true → ⊥
no_text text none some = false≢true (sym (ap is_filled none) ∙ some)

nothing_more : (before text : List ℕ) → before ++ text ≡ before → text ≡ []
nothing_more before text same = append_cancel_left before text [] (same ∙ sym (append-nil before))

joined_nothing : (before text : List ℕ) → before ++ text ≡ [] → text ≡ []
joined_nothing [] text same = same
joined_nothing (byte ∷ before) text same = absurd (cc)

-- what stood of a body is not all of it where bytes are still to come
not_yet : (shape : Shape) (part body rest text : List ℕ) → IsBodyPart shape part rest → IsWholeBody shape body rest → IsWholeBody shape body (rest ++ text)
    → is_filled text ≡ true → (shape ≡ Chunked → ⊥) → ⊥
not_yet Bare part body rest text cut now later some other = no_text text (joined_nothing rest text later) some
not_yet (Length n) part body rest text cut now later some other = absurd cut
not_yet Chunked part body rest text cut now later some other = other refl
not_yet ToClose part body rest text cut now later some other = no_text text (nothing_more rest text (later ∙ sym now)) some

module _ (asked : Asked) (close : Bool) (stamp : Option ℕ) (reply : Reply) (small : length reply.body < 2 ^ 64) where
  too_soon : (before text : List ℕ) → IsPartOf (begun_way asked close stamp) (Output.Reply reply) before
      → Spells (before ++ text) (begun_way asked close stamp) reply → is_filled text ≡ true → Spells before (begun_way asked close stamp) reply → ⊥
  too_soon before text cut whole some now =
      let way = begun_way asked close stamp in
      let same : cut.rest ≡ now.rest = append_cancel_left (head_of (begun_way asked close stamp) reply) cut.rest now.rest (sym cut.text ∙ now.text) in
      let later : now.rest ++ text ≡ whole.rest =
      append_cancel_left (head_of (begun_way asked close stamp) reply) (now.rest ++ text) whole.rest
      (sym (append_assoc (head_of (begun_way asked close stamp) reply) now.rest text) ∙ ap (λ (l : List ℕ). l ++ text) (sym now.text) ∙ whole.text) in
      not_yet (shape_of (begun_way asked close stamp) reply) (whole_content reply asked.head_only) reply.body now.rest text
      (subst (λ (l : List ℕ). IsBodyPart (shape_of (begun_way asked close stamp) reply) (whole_content reply asked.head_only) l) same cut.follows)
      now.follows
      (subst (λ (l : List ℕ). IsWholeBody (shape_of (begun_way asked close stamp) reply) reply.body l) (sym later) whole.follows)
      some
      (λ chunked. cuts_are_not_whole before (whole_content reply asked.head_only) (begun_way asked close stamp) reply chunked small
      (small_content (is_head_alone reply asked.head_only) reply.body small) cut now)

spelled_filled : (bytes : List ℕ) (way : Way) (reply : Reply) → Spells bytes way reply → is_filled bytes ≡ true
spelled_filled bytes way reply spells = subst (λ (l : List ℕ). is_filled l ≡ true) (sym spells.text) refl

never_filled : {A : Type 0} → is_filled {X = ℕ} [] ≡ true → A
never_filled filled = absurd (false≢true filled)

unbegun_concludes : (way : Way) (d : Derived) (last : Last) → length (content_in d) < 2 ^ 64 → RawIsFilled d → IsLastOf way d last → Concludes way d [] last
unfolding content_in
unbegun_concludes way (Output.Reply reply) (Ended.Written bytes) small raw is = record {
  whole = spelling_taken bytes way reply small is;
  some = spelled_filled bytes way reply is;
  no_sooner = λ filled. never_filled filled;
}
unbegun_concludes way (Output.Raw output) (Ended.Written bytes) small raw is = record {
  whole = ap (λ (l : List ℕ). bytes_eq l output) is ∙ bytes_same output;
  some = ap is_filled is ∙ raw;
  no_sooner = λ filled. never_filled filled;
}
unbegun_concludes way (Output.Hop location) (Ended.Written bytes) small raw is = absurd is
unbegun_concludes way (Output.Bad cause) (Ended.Written bytes) small raw is = absurd is
unbegun_concludes way (Output.Hop location) (Ended.Hop found) small raw is = (ap Output.Hop (sym is), refl)
unbegun_concludes way (Output.Reply reply) (Ended.Hop found) small raw is = absurd is
unbegun_concludes way (Output.Raw output) (Ended.Hop found) small raw is = absurd is
unbegun_concludes way (Output.Bad cause) (Ended.Hop found) small raw is = absurd is
unbegun_concludes way (Output.Bad cause) (Ended.Bad found) small raw is = (ap Output.Bad (sym is), refl)
unbegun_concludes way (Output.Reply reply) (Ended.Bad found) small raw is = absurd is
unbegun_concludes way (Output.Raw output) (Ended.Bad found) small raw is = absurd is
unbegun_concludes way (Output.Hop location) (Ended.Bad found) small raw is = absurd is

begun_concludes : (asked : Asked) (close : Bool) (stamp : Option ℕ) (d : Derived) (before : List ℕ) (last : Last) → length (content_in d) < 2 ^ 64 → RawIsFilled d
    → IsPartOf (begun_way asked close stamp) d before → IsRestOf (begun_way asked close stamp) d before last
    → Concludes (begun_way asked close stamp) d before last
unfolding content_in
begun_concludes asked close stamp (Output.Reply reply) before (Ended.Written text) small raw part is = record {
  whole = spelling_taken (before ++ text) (begun_way asked close stamp) reply small is;
  some = spelled_filled (before ++ text) (begun_way asked close stamp) reply is;
  no_sooner = λ filled some. not_true (is_spelling before (begun_way asked close stamp) reply)
      (λ now. too_soon asked close stamp reply small before text part is some (spelling_is before (begun_way asked close stamp) reply now));
}
begun_concludes asked close stamp (Output.Raw output) before (Ended.Written text) small raw part is = record {
  whole = ap (λ (l : List ℕ). bytes_eq l output) is ∙ bytes_same output;
  some = ap is_filled is ∙ raw;
  no_sooner = λ filled some. absurd (no_text text (nothing_more before text (is ∙ sym part)) some);
}
begun_concludes asked close stamp (Output.Hop location) before last small raw part is = absurd part
begun_concludes asked close stamp (Output.Bad cause) before last small raw part is = absurd part
begun_concludes asked close stamp d before (Ended.Hop location) small raw part is = absurd is
begun_concludes asked close stamp d before (Ended.Bad cause) small raw part is = absurd is

pub ends_conclude : EndsConclude
ends_conclude asked output ticked close stamp nothing last small stands ends =
    unbegun_concludes (whole_way asked close stamp) (derived_of asked.kind output) last (small_derived asked.kind output small) (raw_is_filled asked.kind output) ends
ends_conclude asked output ticked close stamp (begun close_then stamp_then before) last small stands ends =
    begun_concludes asked close_then stamp_then (derived_of asked.kind output) before last (small_derived asked.kind output small) (raw_is_filled asked.kind output) stands.1 ends

-- ---- the host's own reply

known_body : (alone : Bool) (n : ℕ) (body bytes : List ℕ) → IsWholeBody (if alone then Bare else Length n) body bytes
    → is_whole_body (if alone then Bare else Length n) body bytes ≡ true
known_body true n body bytes is = ap (λ (l : List ℕ). is_nothing l) is
known_body false n body bytes is = (bytes_eq-Decides bytes body).1 is

known_taken : (bytes : List ℕ) (way : Way) (r : Reply) → Spells bytes (record way { known = true }) r → is_spelling bytes (record way { known = true }) r ≡ true
known_taken bytes way r s =
    let front : starts_with nat_eq bytes (head_of (record way { known = true }) r) ≡ true = rw s.text (front_stands (head_of (record way { known = true }) r) s.rest) in
    let rest : drop (length (head_of (record way { known = true }) r)) bytes ≡ s.rest = rw s.text (drop-append_seam (head_of (record way { known = true }) r) s.rest) in
    let ends : is_whole_body (shape_of (record way { known = true }) r) r.body (drop (length (head_of (record way { known = true }) r)) bytes) ≡ true =
    rw rest (known_body (is_head_alone r way.head_only) (length r.body) r.body s.rest s.follows) in
    rw (front, ends) refl

pub faults_are_spelled : FaultsAreSpelled
faults_are_spelled text way cause spells = known_taken text way (fault_reply_of cause) spells
