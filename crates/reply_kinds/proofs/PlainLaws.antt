-- A reply that an output derives is plain, and leaves its end to the writer.
use Rattle.std.proofs.Common.{◌≡◌, ℕ, ◌≤◌, Bool, true, false, List, [], ◌∷◌, ◌++◌, length, take, drop, filter, map, slice_get, reverse, refl, sym, ap, ◌∙◌, subst, arith, Option, Some, None, Result, Ok, Err, inl, inr}
use Rattle.std.specs.Prelude.{IsTrue, All, not, ◌&&◌, codes}
use Rattle.std.specs.Option.{option_and_then}
use Rattle.std.specs.List.{list_any, flat_map}
use Rattle.std.specs.Str.{str_eq_ignore_ascii_case}
use Rattle.std.specs.Str.Parse.{digits_value}
use Rattle.std.proofs.lemmas.Option.{same_Some}
use Rattle.std.proofs.lemmas.Bool.{cond-true, cond-false, cases_Bool, or_parts, and_parts, leb-true}
use Rattle.std.proofs.lemmas.List.{reverse-append, reverse-reverse}
use Rattle.std.proofs.lemmas.List.Elements.{All-head, All-tail, All-filter, All-map, All-weaker, All-drop}
use Rattle.httparse.specs.Grammar.{AllPass, IsField, is_ows, is_value_byte, skip_ows, trim_ows, Field as Line}
use Rattle.httparse.proofs.TrimLemmas.{AllPass-trim_ows}
use Rattle.host_base.specs.declared.cause.Cause.{Cause}
use Rattle.host_base.specs.declared.fields.Field.{Field}
use Rattle.host_base.specs.declared.reply.Reply.{Reply}
use Rattle.host_base.specs.FieldLists.{is_named, values_named, value_of}
use Rattle.host_base.specs.Ascii.{comma_words}
use Rattle.host_base.proofs.SplitLaws.{chosen}
use Rattle.head_reader.specs.HeadLaws.{parsed_field}
use Rattle.cgi_header.specs.declared.header.CgiHead.{CgiHead}
use Rattle.cgi_header.specs.declared.header.Given.{Given}
use Rattle.cgi_header.specs.declared.header.HdrStep.{HdrStep}
use Rattle.cgi_header.specs.declared.header.HdrStep.TheVariants.{Whole, More, Bad}
use Rattle.cgi_header.specs.ScriptHeader.{read_header, has_value, head_of, value_named, status_of, is_final, is_set_off, are_three_digits}
use Rattle.cgi_header.proofs.GrammarLaws.{wholes_are_headers}
use Rattle.reply_writer.specs.Phrases.{phrase_of}
use Rattle.reply_writer.specs.ReadBack.{IsPlainField, IsPlainReply}
use Rattle.reply_writer.specs.ReadEnd.{LeavesEnd}
use Rattle.reply_writer.proofs.FaultLaws.{phrases_are_plain}
use Rattle.reply_kinds.specs.declared.kind.ReplyKind.{ReplyKind}
use Rattle.reply_kinds.specs.declared.kind.ReplyKind.TheVariants.{Document, LocalRedirect, Redirect, RedirectDocument}
use Rattle.reply_kinds.specs.declared.derived.Derived.TheVariants as derived
use Rattle.reply_kinds.specs.Kind.{kind_of, reply_of, is_handed_on, is_withheld, default_status, status_code, status_phrase, given_phrase}
use Rattle.reply_kinds.specs.Derived.{derived_by_kind, derived_by_step, derived_of}
use Rattle.reply_kinds.specs.DerivedRules.{RepliesAreFit}

-- ---- what is trimmed stays so

skip-length : (bytes : List ℕ) → length (skip_ows bytes) ≤ length bytes
skip-length [] = omega arith
skip-length (b ∷ bytes) =
    elim (cases_Bool (is_ows b)) [
      | inl blank ↦ rw blank (omega (arith, skip-length bytes))
      | inr other ↦ rw other (omega arith)
    ]

skip-skip : (bytes : List ℕ) → skip_ows (skip_ows bytes) ≡ skip_ows bytes
skip-skip [] = refl
skip-skip (b ∷ bytes) = go (is_ows b) refl (skip-skip bytes)
  where
    go : (t : Bool) → is_ows b ≡ t → skip_ows (skip_ows bytes) ≡ skip_ows bytes → skip_ows (skip_ows (b ∷ bytes)) ≡ skip_ows (b ∷ bytes)
    go true blank later =
        let here = cond-true (is_ows b) (skip_ows bytes) (b ∷ bytes) blank in ap skip_ows here ∙ later ∙ sym here
    go false other later =
        let here = cond-false (is_ows b) (skip_ows bytes) (b ∷ bytes) other in ap skip_ows here

-- a front of what begins with no blank begins with none
skip_front : (front rest : List ℕ) → skip_ows (front ++ rest) ≡ front ++ rest → skip_ows front ≡ front
skip_front [] rest same = refl
skip_front (b ∷ front) rest same =
    elim (cases_Bool (is_ows b)) [
      | inl blank ↦
          let shorter : skip_ows (front ++ rest) ≡ b ∷ front ++ rest = sym (cond-true _ _ _ blank) ∙ same in
          absurd (omega (arith, skip-length (front ++ rest), ap (λ (l : List ℕ). length l) shorter))
      | inr other ↦ cond-false _ _ _ other
    ]

-- what is passed over stands before the rest
skip_parts : (bytes : List ℕ) → (passed : List ℕ) × (bytes ≡ passed ++ skip_ows bytes)
skip_parts [] = ([], refl)
skip_parts (b ∷ bytes) =
    let later = skip_parts bytes in
    elim (cases_Bool (is_ows b)) [
      | inl blank ↦ (b ∷ later.0, rw blank (ap (λ (l : List ℕ). b ∷ l) later.1))
      | inr other ↦ ([], rw other refl)
    ]

trim-trim : (bytes : List ℕ) → trim_ows (trim_ows bytes) ≡ trim_ows bytes
unfolding trim_ows
trim-trim bytes =
    let begun = skip_ows bytes in
    let ended = skip_ows (reverse begun) in
    let parts = skip_parts (reverse begun) in
    let whole : begun ≡ reverse ended ++ reverse parts.0 =
    sym (reverse-reverse begun) ∙ ap (λ (l : List ℕ). reverse l) parts.1 ∙ reverse-append parts.0 ended in
    let front : skip_ows (reverse ended) ≡ reverse ended =
    skip_front (reverse ended) (reverse parts.0) (ap skip_ows (sym whole) ∙ skip-skip bytes ∙ whole) in
    let back : skip_ows (reverse (reverse ended)) ≡ ended = ap skip_ows (reverse-reverse ended) ∙ skip-skip (reverse begun) in
    ap (λ (l : List ℕ). reverse (skip_ows (reverse l))) front ∙ ap (λ (l : List ℕ). reverse l) back

-- ---- the fields are plain

plain_field : (line : Line) → IsField line → IsPlainField (parsed_field line)
plain_field line is = record {
  name = is.name;
  value = AllPass-trim_ows is_value_byte line.raw is.raw;
  trimmed = trim-trim line.raw;
}

plain_fields : (lines : List Line) → All IsField lines → All IsPlainField (map parsed_field lines)
plain_fields lines are =
    All-map IsPlainField parsed_field lines (All-weaker IsField (λ line. IsPlainField (parsed_field line)) plain_field lines are)

plain_value : (name : List ℕ) (fields : List Field) (value : List ℕ) → All IsPlainField fields → value_named name fields ≡ Some value
    → AllPass is_value_byte value
plain_value name [] value plain is = absurd (cc is)
plain_value name (f ∷ fields) value plain is =
    go (is_named name f) refl (plain_value name fields value (All-tail IsPlainField f fields plain))
  where
    go : (t : Bool) → is_named name f ≡ t → (value_named name fields ≡ Some value → AllPass is_value_byte value) → AllPass is_value_byte value
    go true named later =
        let here : Some f.value ≡ Some value = sym (ap (λ (fs : List Field). slice_get (map value_of fs) 0) (cond-true _ _ _ named)) ∙ is in
        subst (AllPass is_value_byte) (cc here) (All-head IsPlainField f fields plain).value
    go false other later = later (sym (ap (λ (fs : List Field). slice_get (map value_of fs) 0) (cond-false _ _ _ other)) ∙ is)

-- ---- the status

-- a final status and a phrase that may stand in a status line
record IsPlainStatus (code : ℕ) (phrase : List ℕ) : Type 0 where
  least : 200 ≤ code
  greatest : code ≤ 599
  bytes : AllPass is_value_byte phrase

plain_given : (value : List ℕ) (given : Given) → AllPass is_value_byte value → status_of value ≡ Some given → IsPlainStatus given.code given.phrase
unfolding status_of
plain_given value given plain is =
    let code = digits_value 10 (take 3 value) in
    elim (chosen (are_three_digits (take 3 value) && is_final code && is_set_off (drop 3 value)) _ _ _ is) [
      | inl found ↦
          let tests = and_parts _ _ (and_parts _ _ found.0).0 in
          let final = and_parts _ _ tests.1 in
          let same : record { code = code; phrase = trim_ows (drop 3 value) } ≡ given = same_Some _ _ found.1 in
          subst (λ (g : Given). IsPlainStatus g.code g.phrase) same (record {
            least = leb-true _ _ final.0;
            greatest = leb-true _ _ final.1;
            bytes = AllPass-trim_ows is_value_byte (drop 3 value) (All-drop (λ b. IsTrue (is_value_byte b)) 3 value plain);
          })
      | inr none ↦ absurd (cc none.1)
    ]

plain_default : (kind : ReplyKind) → IsPlainStatus (default_status kind) (phrase_of (default_status kind))
plain_default Document = record { least = omega arith; greatest = omega arith; bytes = phrases_are_plain 200 }
plain_default LocalRedirect = record { least = omega arith; greatest = omega arith; bytes = phrases_are_plain 302 }
plain_default Redirect = record { least = omega arith; greatest = omega arith; bytes = phrases_are_plain 302 }
plain_default RedirectDocument = record { least = omega arith; greatest = omega arith; bytes = phrases_are_plain 302 }

plain_phrase : (code : ℕ) (phrase : List ℕ) → AllPass is_value_byte phrase → AllPass is_value_byte (given_phrase code phrase)
plain_phrase code [] plain = phrases_are_plain code
plain_phrase code (byte ∷ phrase) plain = plain

plain_status : (given : Option Given) (kind : ReplyKind) → ((g : Given) → given ≡ Some g → IsPlainStatus g.code g.phrase)
    → IsPlainStatus (status_code given kind) (status_phrase given kind)
plain_status None kind plain = plain_default kind
plain_status (Some g) kind plain =
    let own = plain g refl in
    record { least = own.least; greatest = own.greatest; bytes = plain_phrase g.code g.phrase own.bytes }

-- ---- no field of a reply frames it

unnamed : (name : List ℕ) → ((f : Field) → is_handed_on f ≡ true → is_named name f ≡ false) → (fields : List Field)
    → values_named name (filter is_handed_on fields) ≡ []
unnamed name other [] = refl
unnamed name other (f ∷ fields) = go (is_handed_on f) refl (unnamed name other fields)
  where
    go : (t : Bool) → is_handed_on f ≡ t → values_named name (filter is_handed_on fields) ≡ []
        → values_named name (filter is_handed_on (f ∷ fields)) ≡ []
    go true on later =
        ap (values_named name) (cond-true _ _ _ on) ∙ ap (λ (fs : List Field). map value_of fs) (cond-false _ _ _ (other f on)) ∙ later
    go false off later = ap (values_named name) (cond-false _ _ _ off) ∙ later

not_true : (t : Bool) → not t ≡ true → t ≡ false
not_true true is = absurd (cc is)
not_true false is = refl

-- the names of a field that is handed on
record IsHandedOn (f : Field) : Type 0 where
  length : is_named (codes "Content-Length") f ≡ false
  coding : is_named (codes "Transfer-Encoding") f ≡ false
  connection : is_named (codes "Connection") f ≡ false

handed_on : (f : Field) → is_handed_on f ≡ true → IsHandedOn f
handed_on f on =
    let names = (or_parts _ _ (not_true (is_withheld f) on)).0 in
    let after_status = (or_parts _ _ names).1 in
    let after_length = or_parts _ _ after_status in
    let after_coding = or_parts _ _ after_length.1 in
    record { length = after_length.0; coding = after_coding.0; connection = (or_parts _ _ after_coding.1).0 }

-- ---- the reply

-- the reply of each kind is fit where the header is plain
fit_reply : (head : CgiHead) (kind : ReplyKind) (body : List ℕ) → All IsPlainField head.fields
    → ((g : Given) → head.status ≡ Some g → IsPlainStatus g.code g.phrase)
    → IsPlainReply (reply_of head kind body) × LeavesEnd (reply_of head kind body)
fit_reply head kind body plain status =
    let own = plain_status head.status kind status in (
      record {
        least = omega (arith, own.least);
        greatest = omega (arith, own.greatest);
        phrase = own.bytes;
        fields = All-filter is_handed_on IsPlainField head.fields plain;
      },
      record {
        final = own.least;
        lengths = unnamed (codes "Content-Length") (λ f on. (handed_on f on).length) head.fields;
        codings = unnamed (codes "Transfer-Encoding") (λ f on. (handed_on f on).coding) head.fields;
        closes =
            ap (λ (vs : List (List ℕ)). list_any (str_eq_ignore_ascii_case (codes "close")) (flat_map comma_words vs))
            (unnamed (codes "Connection") (λ f on. (handed_on f on).connection) head.fields);
      },
    )

fit_kind : (head : CgiHead) (body : List ℕ) (kind : Result ReplyKind Cause) (reply : Reply) → All IsPlainField head.fields
    → ((g : Given) → head.status ≡ Some g → IsPlainStatus g.code g.phrase)
    → derived_by_kind head body kind ≡ derived.Reply reply → IsPlainReply reply × LeavesEnd reply
fit_kind head body (Err cause) reply plain status is = absurd (cc is)
fit_kind head body (Ok LocalRedirect) reply plain status is = absurd (cc is)
fit_kind head body (Ok Document) reply plain status is =
    let same : reply_of head Document body ≡ reply = cc is in
    subst (λ (r : Reply). IsPlainReply r × LeavesEnd r) same (fit_reply head Document body plain status)
fit_kind head body (Ok Redirect) reply plain status is =
    let same : reply_of head Redirect body ≡ reply = cc is in
    subst (λ (r : Reply). IsPlainReply r × LeavesEnd r) same (fit_reply head Redirect body plain status)
fit_kind head body (Ok RedirectDocument) reply plain status is =
    let same : reply_of head RedirectDocument body ≡ reply = cc is in
    subst (λ (r : Reply). IsPlainReply r × LeavesEnd r) same (fit_reply head RedirectDocument body plain status)

-- the status of a header is that of one of its fields
head_status : (fields : List Field) (given : Given) → All IsPlainField fields → (head_of fields).status ≡ Some given
    → IsPlainStatus given.code given.phrase
head_status fields given plain is = go (value_named (codes "Status") fields) refl is
  where
    go : (o : Option (List ℕ)) → value_named (codes "Status") fields ≡ o → option_and_then status_of o ≡ Some given
        → IsPlainStatus given.code given.phrase
    go None at is = absurd (cc is)
    go (Some value) at is = plain_given value given (plain_value (codes "Status") fields value plain at) is

-- a header that was read is plain
record IsPlainHead (head : CgiHead) : Type 0 where
  fields : All IsPlainField head.fields
  status : (g : Given) → head.status ≡ Some g → IsPlainStatus g.code g.phrase

plain_head : (output : List ℕ) (head : CgiHead) (used : ℕ) → read_header output ≡ Whole head used → IsPlainHead head
plain_head output head used is =
    let header = wholes_are_headers output head used is in
    let plain = All-filter has_value IsPlainField (map parsed_field header.lines) (plain_fields header.lines header.reads.0) in
    subst IsPlainHead (sym header.head_is) (record {
      fields = plain;
      status = λ g at. head_status (filter has_value (map parsed_field header.lines)) g plain at;
    })

pub replies_are_fit : RepliesAreFit
unfolding derived_of
replies_are_fit output reply is = go (read_header output) refl is
  where
    go : (step : HdrStep) → read_header output ≡ step → derived_by_step output step ≡ derived.Reply reply → IsPlainReply reply × LeavesEnd reply
    go (Whole head used) at told =
        let plain = plain_head output head used at in
        fit_kind head (drop used output) (kind_of head) reply plain.fields plain.status told
    go More at told = absurd (cc told)
    go (Bad cause) at told = absurd (cc told)
