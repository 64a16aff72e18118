-- What the code needs of a whole front.
use Rattle.std.proofs.Common.{Result, Ok, Err, OnErr, IsSome, ◌≡◌, ℕ, ◌+◌, ◌-◌, ◌<◌, ◌≤◌, true, false, List, [], ◌∷◌, ◌++◌, length, take, drop, map, refl, sym, ap, ◌∙◌, arith, append_assoc, length-append, length-drop, append-nil, take-append-drop, cond, eqb, ltb, leb, ◌&&◌, ◌≢◌, inl, inr, subst, Option, Some, None, option_map}
use Rattle.std.specs.Prelude.{bytes_eq}
use Rattle.std.specs.Option.{option_and_then}
use Rattle.std.specs.List.{slice_split, flat_map}
use Rattle.std.proofs.lemmas.List.{length-map, length-take, length-take-le, take-take, take_rest, take-append-le, drop-append-le, nil_from_length, take_all, take_at}
use Rattle.std.proofs.lemmas.Bool.{cond-true, cond-false, cond_both, cases_Bool, cases_lt, and_parts, and_from, or_parts, eqb-true, eq-eqb, leb-true, lt-ltb, le-ltb, ltb-false, le-leb, lt-leb, leb-false}
use Rattle.std.proofs.lemmas.List.Elements.{All-nil, All-head}
use Rattle.httparse.specs.Grammar.{IsToken, is_token_byte, LineEnd, print_end, print_blank, print_version, print_section, Field as Line, RequestHead, IsRequestHead, print_request, ReadsRequest}
use Rattle.httparse.specs.Pieces.{is_newline}
use Rattle.httparse.proofs.GrammarLemmas.{print_request-append}
use Rattle.httparse.proofs.PieceLemmas.{token_is_no_newline}
use Rattle.host_base.specs.declared.request.Head.{Head}
use Rattle.httparse.specs.Spans.{header_bytes, name_and_value, AreFieldsAt}
use Rattle.httparse.specs.declared.spans.HeaderSpan.{HeaderSpan}
use Rattle.host_base.specs.declared.fields.Field.{Field}
use Rattle.host_base.specs.declared.limits.Limits.{Limits}
use Rattle.host_base.specs.declared.cause.Cause.TheVariants.{HeadTooLong, TargetTooLong, TooManyFields}
use Rattle.head_reader.specs.declared.step.HeadStep.TheVariants.{Whole, More, Bad}
use Rattle.std.proofs.Math.Seq.{take-append-add}
use Rattle.head_lines.specs.LineLaws.{HasFront}
use Rattle.head_lines.specs.Lines.{first_line, IsSearched, Front, is_lf, front_of, front_of_parts, front_len, IsFilled, without_cr, with_lf}
use Rattle.head_reader.specs.RequestHead.{head_of, is_space, target_part, step_at_end, whole_or_bad, leading_crlf, step_by_front, read_head, is_whole, second_word}
use Rattle.head_reader.specs.HeadLaws.{parsed_head, parsed_field, whole_head, IsHead, SaysTheGrammar, FrontsSayTheGrammar, HeadsAreUnique, WholesAreHeads, HeadsAreRead, MoreIsOpen, AnswersStay}
use Rattle.head_reader.specs.HeadSpans.{field_at}
use Rattle.head_lines.proofs.FrontLaws.{map_some, front_alone, front-append, front_shape, front-take, front_from_HasFront, first_of_front}
use Rattle.head_reader.proofs.HeadLaws.{part_of, part_printed, part_no_lf, without_cr_part, line_of, head_lines, head_front, head_again, head_back, then_some}
use Rattle.host_base.proofs.SplitLaws.{chosen}
use Rattle.head_reader.proofs.WordLaws.{request_line_words}

-- A text that begins with an empty line has that line as its front.
front_of_blank : (bytes : List ℕ) (e : LineEnd) (rest : List ℕ) → bytes ≡ print_end e ++ rest
    → front_of bytes ≡ Some (record { lines = []; len = length (print_end e) })
front_of_blank bytes e rest is =
    front_from_HasFront bytes _ (record {
      parts = [];
      last = part_of [] e;
      rest = rest;
      text_is = is ∙ ap (λ (l : List ℕ). l ++ rest) (sym (part_printed [] e));
      lines_are = refl;
      len_is = omega (arith, ap length (part_printed [] e), length-append (part_of [] e) (10 ∷ []));
      each = All-nil IsFilled;
      ends = record { no_lf = part_no_lf [] e (All-nil (λ b. is_newline b ≡ false)); none = without_cr_part [] e (All-nil (λ b. is_newline b ≡ false)) };
    })

-- Where the bytes end with their first empty line, a head of the grammar has no empty line before it.
pub no_blank : (bytes : List ℕ) (f : Front) (r : RequestHead) (rest : List ℕ) → front_of bytes ≡ Some f → f.len ≡ length bytes
    → ReadsRequest bytes r rest → r.blank ≡ []
no_blank bytes f r rest front whole x = go r.blank refl
  where
    go : (blank : List LineEnd) → r.blank ≡ blank → blank ≡ []
    go [] is = refl
    go (e ∷ es) is =
        let more = print_blank es ++ (r.method ++ 32 ∷ (r.target ++ 32 ∷ (print_version r.minor
        ++ (print_end r.line_end ++ (print_section r.fields r.last ++ rest))))) in
        let text : bytes ≡ print_end e ++ more =
        x.1 ∙ print_request-append r rest
        ∙ ap (λ (b : List LineEnd). print_blank b ++ (r.method ++ 32 ∷ (r.target ++ 32 ∷ (print_version r.minor
        ++ (print_end r.line_end ++ (print_section r.fields r.last ++ rest)))))) is
        ∙ append_assoc (print_end e) (print_blank es) _ in
        let own = front_of_blank bytes e more text in
        let same : ◌≡◌ {A = Option Front} (Some f) (Some (record { lines = []; len = length (print_end e) })) = sym front ∙ own in
        let len : f.len ≡ length (print_end e) = cc in
        absurd (omega (
          arith,
          ap length text,
          length-append (print_end e) more,
          length-append (print_blank es) (r.method ++ 32 ∷ (r.target ++ 32 ∷ (print_version r.minor
              ++ (print_end r.line_end ++ (print_section r.fields r.last ++ rest))))),
          length-append r.method (32 ∷ (r.target ++ 32 ∷ (print_version r.minor
              ++ (print_end r.line_end ++ (print_section r.fields r.last ++ rest))))),
        ))

-- What the grammar reads from them is what the function on their lines gives.
pub is_head : (bytes : List ℕ) (f : Front) (r : RequestHead) (rest : List ℕ) → front_of bytes ≡ Some f → f.len ≡ length bytes
    → ReadsRequest bytes r rest → head_of f.lines ≡ Some (parsed_head r)
is_head bytes f r rest front whole x =
    let own = head_front bytes r rest (no_blank bytes f r rest front whole x) x in
    let same : ◌≡◌ {A = Option Front} (Some f) (Some (record { lines = head_lines r; len = length (print_request r) })) = sym front ∙ own in
    let lines : f.lines ≡ head_lines r = cc in
    ap head_of lines ∙ head_again r x.0

-- Where the grammar reads no head of so few fields, the function on lines gives none.
pub no_head : (bytes : List ℕ) (f : Front) (room : ℕ) → front_of bytes ≡ Some f → length f.lines ≤ room + 1
    → ((r : RequestHead) (rest : List ℕ) → ReadsRequest bytes r rest → length r.fields ≤ room → ⊥) → head_of f.lines ≡ None
no_head bytes f room front few none = go (head_of f.lines) refl
  where
    go : (o : Option Head) → head_of f.lines ≡ o → o ≡ None
    go None is = refl
    go (Some h) is =
        let read = head_back bytes f h front is in
        absurd (none read.head read.rest read.reads
        (omega (arith, ap length read.lines, length-map read.head.fields line_of)))

-- ---- the answers

-- the target's place in the text
pub target_at_front : (text : List ℕ) (f : Front) → front_of text ≡ Some f
    → length (second_word (slice_split is_space (first_line text))) ≡ length (target_part f.lines)
target_at_front text f e = ap (λ (line : List ℕ). length (second_word (slice_split is_space line))) (sym (first_of_front text f e))

pub long_target : (limits : Limits) (used : ℕ) (f : Front) → limits.target < length (target_part f.lines)
    → Bad TargetTooLong ≡ step_at_end limits used f
long_target limits used f long = sym (cond-true _ _ _ (lt-ltb _ _ long))

pub many_fields : (limits : Limits) (used : ℕ) (f : Front) → length (target_part f.lines) ≤ limits.target → 101 < length f.lines
    → Bad TooManyFields ≡ step_at_end limits used f
many_fields limits used f short many =
    sym (cond-false _ _ _ (le-ltb _ _ short) ∙ cond-true _ _ _ (lt-ltb _ _ many))

pub at_end : (limits : Limits) (used : ℕ) (f : Front) (o : Option Head) → length (target_part f.lines) ≤ limits.target
    → length f.lines ≤ 101 → o ≡ head_of f.lines → whole_or_bad used o ≡ step_at_end limits used f
at_end limits used f o short few is =
    ap (whole_or_bad used) is ∙ sym (cond-false _ _ _ (le-ltb _ _ short) ∙ cond-false _ _ _ (le-ltb _ _ few))

-- a front within the limit, and the step_by_front there
pub record IsFound (limits : Limits) (bytes text : List ℕ) (len : ℕ) : Type 0 where
  pub front : Front
  pub own : front_of (take len text) ≡ Some front
  pub whole : front.len ≡ length (take len text)
  pub fits : len ≤ length text
  pub answers : read_head limits bytes ≡ step_at_end limits (leading_crlf bytes + len) front

pub read_found : (limits : Limits) (bytes text : List ℕ) (len : ℕ) → text ≡ drop (leading_crlf bytes) bytes
    → front_len (take limits.head (drop (leading_crlf bytes) bytes)) ≡ Some len → IsFound limits bytes text len
unfolding read_head
read_found limits bytes text len is e' =
    let e : front_len (take limits.head text) ≡ Some len = ap (λ (t : List ℕ). front_len (take limits.head t)) is ∙ e' in
    let found = map_some (λ (f : Front). f.len) (front_of (take limits.head text)) len e in
    let f = found.0 in
    let cut = front-take (take limits.head text) f found.1 in
    let within : len ≤ limits.head = omega (arith, cut.0, found.2, length-take limits.head text) in
    let fits : len ≤ length text = omega (arith, cut.0, found.2, length-take limits.head text) in
    let same : take f.len (take limits.head text) ≡ take len text =
    ap (λ (n : ℕ). take n (take limits.head text)) found.2 ∙ take-take len limits.head text within in
    let at : front_of (take limits.head (drop (leading_crlf bytes) bytes)) ≡ Some f =
    ap (λ (t : List ℕ). front_of (take limits.head t)) (sym is) ∙ found.1 in
    record {
      front = f;
      own = ap front_of (sym same) ∙ cut.1;
      whole = found.2 ∙ sym (length-take-le len text fits);
      fits = fits;
      answers =
          ap (step_by_front limits (leading_crlf bytes) (length (drop (leading_crlf bytes) bytes))) at
          ∙ ap (λ (n : ℕ). step_at_end limits (leading_crlf bytes + n) f) found.2;
    }

none_of_len : (text : List ℕ) → front_len text ≡ None → front_of text ≡ None
none_of_len text e = go (front_of text) e
  where
    go : (o : Option Front) → option_map (λ (f : Front). f.len) o ≡ None → o ≡ None
    go None is = refl
    go (Some f) is = absurd (cc)

pub read_long : (limits : Limits) (bytes text : List ℕ) → text ≡ drop (leading_crlf bytes) bytes
    → front_len (take limits.head (drop (leading_crlf bytes) bytes)) ≡ None → limits.head ≤ length text → Bad HeadTooLong ≡ read_head limits bytes
unfolding read_head
read_long limits bytes text is e long =
    let at : front_of (take limits.head (drop (leading_crlf bytes) bytes)) ≡ None =
    none_of_len (take limits.head (drop (leading_crlf bytes) bytes)) e in
    let len : limits.head ≤ length (drop (leading_crlf bytes) bytes) = omega (arith, ap length is) in
    sym (ap (step_by_front limits (leading_crlf bytes) (length (drop (leading_crlf bytes) bytes))) at ∙ cond-true _ _ _ (le-leb _ _ len))

pub read_more : (limits : Limits) (bytes text : List ℕ) → text ≡ drop (leading_crlf bytes) bytes
    → front_len (take limits.head (drop (leading_crlf bytes) bytes)) ≡ None → length text < limits.head → More ≡ read_head limits bytes
unfolding read_head
read_more limits bytes text is e short =
    let at : front_of (take limits.head (drop (leading_crlf bytes) bytes)) ≡ None =
    none_of_len (take limits.head (drop (leading_crlf bytes) bytes)) e in
    let len : length (drop (leading_crlf bytes) bytes) < limits.head = omega (arith, ap length is) in
    sym (ap (step_by_front limits (leading_crlf bytes) (length (drop (leading_crlf bytes) bytes))) at ∙ cond-false _ _ _ (lt-leb _ _ len))

-- ---- the fields that the spans cover

abbrev paired : List ℕ × List ℕ → Field
paired p = record { name = p.0; value = p.1 }

spans_paired : (bytes : List ℕ) (spans : List HeaderSpan) → map (field_at bytes) spans ≡ map paired (map (header_bytes bytes) spans)
spans_paired bytes [] = refl
spans_paired bytes (s ∷ spans) = ap (λ (fs : List Field). field_at bytes s ∷ fs) (spans_paired bytes spans)

fields_paired : (fields : List Line) → map parsed_field fields ≡ map paired (map name_and_value fields)
fields_paired [] = refl
fields_paired (g ∷ fields) = ap (λ (fs : List Field). parsed_field g ∷ fs) (fields_paired fields)

pub fields_parsed : (bytes : List ℕ) (spans : List HeaderSpan) (count : ℕ) (fields : List Line)
    → AreFieldsAt bytes spans count fields → map (field_at bytes) (take count spans) ≡ map parsed_field fields
fields_parsed bytes spans count fields at =
    spans_paired bytes (take count spans) ∙ ap (map paired) at ∙ sym (fields_paired fields)

-- the text after the leading_crlf CRLF, as `&buf[before..]` has it
pub text_is : (buf : List ℕ) (before : ℕ) → before ≡ leading_crlf buf → take (length buf - before) (drop before buf) ≡ drop (leading_crlf buf) buf
text_is buf before is = take_rest buf before ∙ ap (λ (n : ℕ). drop n buf) is

-- ---- the two ways to say which bytes are a head

ends_of : (bytes : List ℕ) (r : RequestHead) → ReadsRequest bytes r [] → length bytes ≡ length (print_request r)
ends_of bytes r x = omega (arith, ap length x.1, length-append (print_request r) [])

pub says_the_grammar : SaysTheGrammar
unfolding whole_head
says_the_grammar room bytes head = (there, back)
  where
    there : whole_head room bytes ≡ Some head → IsHead room bytes head
    there e =
        let one = then_some (λ (f : Front). cond (eqb f.len (length bytes) && leb (length f.lines) (room + 1)) (head_of f.lines) None) (front_of bytes) head e in
        elim (chosen (eqb one.0.len (length bytes) && leb (length one.0.lines) (room + 1)) (head_of one.0.lines) None (Some head) one.2) [
          | inl good ↦
              let f = one.0 in
              let tests = and_parts _ _ good.0 in
              let read = head_back bytes f head one.1 good.1 in
              let whole : f.len ≡ length bytes = eqb-true _ _ tests.0 in
              let few : length f.lines ≤ room + 1 = leb-true _ _ tests.1 in
              let none : read.rest ≡ [] = nil_from_length read.rest
              (omega (arith, ap length read.reads.1, length-append (print_request read.head) read.rest, read.len)) in (
                read.head,
                subst (ReadsRequest bytes read.head) none read.reads,
                read.blank,
                omega (arith, ap length read.lines, length-map read.head.fields line_of),
                read.says,
              )
          | inr bad ↦ absurd (cc)
        ]

    back : IsHead room bytes head → whole_head room bytes ≡ Some head
    back h =
        let r = h.0 in
        let front = head_front bytes r [] h.2 h.1 in
        let whole : eqb (length (print_request r)) (length bytes) ≡ true = eq-eqb _ _ (sym (ends_of bytes r h.1)) in
        let few : leb (length (head_lines r)) (room + 1) ≡ true =
        le-leb _ _ (omega (arith, h.3, length-map r.fields line_of)) in
        ap (option_and_then (λ (f : Front). cond (eqb f.len (length bytes) && leb (length f.lines) (room + 1)) (head_of f.lines) None)) front
        ∙ cond-true _ _ _ (and_from _ _ whole few) ∙ head_again r h.1.0 ∙ ap Some h.4

-- ---- an step_by_front stays

front_within : (text : List ℕ) (f : Front) (n : ℕ) → front_of text ≡ Some f → f.len ≤ n → front_of (take n text) ≡ Some f
front_within text f n e fits =
    let own : front_of (take f.len (take n text)) ≡ Some f =
    ap front_of (take-take f.len n text fits) ∙ (front-take text f e).1 in
    ap front_of (sym (take-append-drop f.len (take n text))) ∙ front-append (take f.len (take n text)) (drop f.len (take n text)) f own

-- with the leading_crlf bytes settled
answer_stays : (limits : Limits) (before : ℕ) (text more : List ℕ)
    → step_by_front limits before (length text) (front_of (take limits.head text)) ≢ More
    → step_by_front limits before (length (text ++ more)) (front_of (take limits.head (text ++ more)))
    ≡ step_by_front limits before (length text) (front_of (take limits.head text))
answer_stays limits before text more other = go (front_of (take limits.head text)) refl
  where
    go : (o : Option Front) → front_of (take limits.head text) ≡ o
        → step_by_front limits before (length (text ++ more)) (front_of (take limits.head (text ++ more)))
        ≡ step_by_front limits before (length text) (front_of (take limits.head text))
    go None is =
        elim (cases_lt (length text) limits.head) [
          | inl short ↦ absurd (other (ap (step_by_front limits before (length text)) is ∙ cond-false _ _ _ (lt-leb _ _ short)))
          | inr long ↦
              let same : front_of (take limits.head (text ++ more)) ≡ None =
              ap front_of (take-append-le limits.head text more long) ∙ is in
              let still : limits.head ≤ length (text ++ more) = omega (arith, length-append text more) in
              ap (step_by_front limits before (length (text ++ more))) same ∙ cond-true _ _ _ (le-leb _ _ still)
              ∙ sym (ap (step_by_front limits before (length text)) is ∙ cond-true _ _ _ (le-leb _ _ long))
        ]
    go (Some f) is =
        let cut = front-take (take limits.head text) f is in
        let whole : front_of text ≡ Some f =
        ap front_of (sym (take-append-drop limits.head text)) ∙ front-append (take limits.head text) (drop limits.head text) f is in
        let more_too = front_within (text ++ more) f limits.head (front-append text more f whole)
        (omega (arith, cut.0, length-take limits.head text)) in
        ap (step_by_front limits before (length (text ++ more))) more_too ∙ sym (ap (step_by_front limits before (length text)) is)

pub read_at : (limits : Limits) (bytes : List ℕ) (before : ℕ) → leading_crlf bytes ≡ before
    → read_head limits bytes ≡ step_by_front limits before (length (drop before bytes)) (front_of (take limits.head (drop before bytes)))
unfolding read_head
read_at limits bytes before e =
    ap (λ (n : ℕ). step_by_front limits n (length (drop n bytes)) (front_of (take limits.head (drop n bytes)))) e

stays_at : (limits : Limits) (bytes more : List ℕ) (before : ℕ) → leading_crlf bytes ≡ before → leading_crlf (bytes ++ more) ≡ before
    → before ≤ length bytes → read_head limits bytes ≢ More
    → read_head limits (bytes ++ more) ≡ read_head limits bytes
stays_at limits bytes more before e e' fits other =
    let now = read_at limits bytes before e in
    read_at limits (bytes ++ more) before e'
    ∙ ap (λ (t : List ℕ). step_by_front limits before (length t) (front_of (take limits.head t))) (drop-append-le before bytes more fits)
    ∙ answer_stays limits before (drop before bytes) more (λ is. other (now ∙ is)) ∙ sym now

leading_other : (a : ℕ) (bytes : List ℕ) → eqb a 13 ≡ false → leading_crlf (a ∷ bytes) ≡ 0
leading_other a bytes other = rw other refl

leading-le : (bytes : List ℕ) → leading_crlf bytes ≤ 2
leading-le bytes = cond_both (bytes_eq (take 2 bytes) (13 ∷ 10 ∷ [])) 2 0 (λ n. n ≤ 2) (λ _. omega arith) (λ _. omega arith)

-- no line ends in so short a text, and the limit is longer
short_is_more : (limits : Limits) (bytes : List ℕ) → leading_crlf bytes ≡ 0 → slice_split is_lf bytes ≡ bytes ∷ [] → length bytes < limits.head
    → read_head limits bytes ≡ More
short_is_more limits bytes none alone short =
    let front : front_of (take limits.head bytes) ≡ None =
    ap front_of (take_all limits.head bytes (omega arith)) ∙ ap front_of_parts alone ∙ front_alone bytes in
    read_at limits bytes 0 none ∙ ap (step_by_front limits 0 (length bytes)) front ∙ cond-false _ _ _ (lt-leb _ _ short)

pub answers_stay : AnswersStay
answers_stay limits [] more room other =
    absurd (other (short_is_more limits [] refl refl (omega arith)))
answers_stay limits (a ∷ []) more room other =
    elim (cases_Bool (eqb a 13)) [
      | inl here ↦
          let is : a ≡ 13 = eqb-true a 13 here in
          absurd (other (ap (λ (b : ℕ). read_head limits (b ∷ [])) is ∙ short_is_more limits (13 ∷ []) refl refl (omega arith)))
      | inr no_cr ↦
          stays_at limits (a ∷ []) more 0 (leading_other a [] no_cr) (leading_other a more no_cr) (omega arith) other
    ]
answers_stay limits (a ∷ b ∷ bytes) more room other =
    stays_at limits (a ∷ b ∷ bytes) more (leading_crlf (a ∷ b ∷ bytes)) refl refl (omega (arith, leading-le (a ∷ b ∷ bytes))) other

-- ---- the bytes up to the first empty line

pub fronts_say_the_grammar : FrontsSayTheGrammar
fronts_say_the_grammar bytes f head front whole = (there, back)
  where
    there : head_of f.lines ≡ Some head → (r : RequestHead) × ReadsRequest bytes r [] × (parsed_head r ≡ head)
    there e =
        let read = head_back bytes f head front e in
        let none : read.rest ≡ [] = nil_from_length read.rest
        (omega (arith, ap length read.reads.1, length-append (print_request read.head) read.rest, read.len)) in
        (read.head, subst (ReadsRequest bytes read.head) none read.reads, read.says)

    back : (r : RequestHead) × ReadsRequest bytes r [] × (parsed_head r ≡ head) → head_of f.lines ≡ Some head
    back h = is_head bytes f h.0 [] front whole h.1 ∙ ap Some h.2

-- ---- the search goes on

-- the first n of a list that grew
take-append : (n : ℕ) (text more : List ℕ) → take n (text ++ more) ≡ take n text ++ take (n - length text) more
take-append n text more =
    elim (cases_lt (length text) n) [
      | inl short ↦
          let sum : length text + (n - length text) ≡ n = omega arith in
          ap (λ (m : ℕ). take m (text ++ more)) (sym sum) ∙ take-append-add text more (n - length text)
          ∙ ap (λ (t : List ℕ). t ++ take (n - length text) more) (sym (take_all n text (omega arith)))
      | inr long ↦
          let none : n - length text ≡ 0 = omega arith in
          take-append-le n text more long ∙ sym (append-nil (take n text))
          ∙ ap (λ (m : ℕ). take n text ++ take m more) (sym none)
    ]

leading_stays : (bytes more : List ℕ) → 2 ≤ length bytes → leading_crlf (bytes ++ more) ≡ leading_crlf bytes
leading_stays [] more two = absurd (omega arith)
leading_stays (a ∷ []) more two = absurd (omega arith)
leading_stays (a ∷ b ∷ bytes) more two = refl

pub search_goes_on : (limits : Limits) (bytes more : List ℕ) (start seen : ℕ) → 2 ≤ length bytes
    → ((after : List ℕ) → IsSearched (take limits.head (drop (leading_crlf bytes) bytes) ++ after) start seen)
    → IsSearched (take limits.head (drop (leading_crlf (bytes ++ more)) (bytes ++ more))) start seen
search_goes_on limits bytes more start seen two kept =
    let text = drop (leading_crlf bytes) bytes in
    let same : drop (leading_crlf (bytes ++ more)) (bytes ++ more) ≡ text ++ more =
    ap (λ (n : ℕ). drop n (bytes ++ more)) (leading_stays bytes more two)
    ∙ drop-append-le (leading_crlf bytes) bytes more (omega (arith, leading-le bytes)) in
    subst (λ (t : List ℕ). IsSearched t start seen) (sym (ap (take limits.head) same ∙ take-append limits.head text more))
    (kept (take (limits.head - length text) more))

-- ---- what is read, and that each head is

pub whole_from_front : (room : ℕ) (bytes : List ℕ) (f : Front) (h : Head) → front_of bytes ≡ Some f → f.len ≡ length bytes
    → length f.lines ≤ room + 1 → head_of f.lines ≡ Some h → whole_head room bytes ≡ Some h
unfolding whole_head
whole_from_front room bytes f h front whole few e =
    ap (option_and_then (λ (k : Front). cond (eqb k.len (length bytes) && leb (length k.lines) (room + 1)) (head_of k.lines) None)) front
    ∙ cond-true _ _ _ (and_from _ _ (eq-eqb _ _ whole) (le-leb _ _ few)) ∙ e

at_end_whole : (limits : Limits) (used n : ℕ) (f : Front) (h : Head) → step_at_end limits used f ≡ Whole h n
    → (n ≡ used) × (length f.lines ≤ 101) × (head_of f.lines ≡ Some h)
at_end_whole limits used n f h e =
    elim (chosen (ltb limits.target (length (target_part f.lines))) _ _ _ e) [
      | inl long ↦ absurd (cc)
      | inr short ↦
          elim (chosen (ltb 101 (length f.lines)) _ _ _ short.1) [
            | inl many ↦ absurd (cc)
            | inr few ↦ let at = go (head_of f.lines) few.1 in (at.0, ltb-false _ _ few.0, at.1)
          ]
    ]
  where
    go : (o : Option Head) → whole_or_bad used o ≡ Whole h n → (n ≡ used) × (o ≡ Some h)
    go None is = absurd (cc)
    go (Some k) is = (cc, cc)

-- a head that was answered, from the front that it has
head_answered : (limits : Limits) (bytes : List ℕ) (head : Head) (used : ℕ) (f : Front) → read_head limits bytes ≡ Whole head used
    → front_of (take limits.head (drop (leading_crlf bytes) bytes)) ≡ Some f
    → (leading_crlf bytes < used) × (used ≤ length bytes) × IsHead 100 (take (used - leading_crlf bytes) (drop (leading_crlf bytes) bytes)) head
head_answered limits bytes head used f e is =
    let before = leading_crlf bytes in
    let text = drop before bytes in
    let told = at_end_whole limits (before + f.len) used f head
    (sym (read_at limits bytes before refl ∙ ap (step_by_front limits before (length text)) is) ∙ e) in
    let cut = front-take (take limits.head text) f is in
    let some : 1 ≤ f.len = omega (arith, (front_shape (take limits.head text) f is).len_is) in
    let within : f.len ≤ limits.head = omega (arith, cut.0, length-take limits.head text) in
    let fits : f.len ≤ length text = omega (arith, cut.0, length-take limits.head text) in
    let own : front_of (take f.len text) ≡ Some f = ap front_of (sym (take-take f.len limits.head text within)) ∙ cut.1 in
    let whole : f.len ≡ length (take f.len text) = sym (length-take-le f.len text fits) in
    let here : IsHead 100 (take f.len text) head =
    (says_the_grammar 100 (take f.len text) head).0 (whole_from_front 100 (take f.len text) f head own whole told.1 told.2) in
    let same : f.len ≡ used - before = omega (arith, told.0) in
    (omega (arith, told.0, some), omega (arith, told.0, fits, some, length-drop before bytes), subst (λ (n : ℕ). IsHead 100 (take n text) head) same here)

pub wholes_are_heads : WholesAreHeads
wholes_are_heads limits bytes head used e = go (front_of (take limits.head (drop (leading_crlf bytes) bytes))) refl
  where
    go : (o : Option Front) → front_of (take limits.head (drop (leading_crlf bytes) bytes)) ≡ o
        → (leading_crlf bytes < used) × (used ≤ length bytes) × IsHead 100 (take (used - leading_crlf bytes) (drop (leading_crlf bytes) bytes)) head
    go None is =
        let told : step_by_front limits (leading_crlf bytes) (length (drop (leading_crlf bytes) bytes)) None ≡ Whole head used =
        sym (read_at limits bytes (leading_crlf bytes) refl ∙ ap (step_by_front limits (leading_crlf bytes) (length (drop (leading_crlf bytes) bytes))) is) ∙ e in
        elim (chosen (leb limits.head (length (drop (leading_crlf bytes) bytes))) _ _ _ told) [ inl long ↦ absurd (cc) | inr short ↦ absurd (cc) ]
    go (Some f) is = head_answered limits bytes head used f e is

token_first : (word rest : List ℕ) → IsToken word → leading_crlf (word ++ rest) ≡ 0
token_first [] rest token = absurd (omega (arith, token.0))
token_first (a ∷ word) rest token =
    leading_other a (word ++ rest)
    (or_parts (eqb a 13) (eqb a 10) (token_is_no_newline a (All-head (λ b. is_token_byte b ≡ true) a word token.1))).0

head_first : (r : RequestHead) (rest : List ℕ) → IsRequestHead r → r.blank ≡ [] → leading_crlf (print_request r ++ rest) ≡ 0
head_first r rest is blank =
    let more = 32 ∷ (r.target ++ 32 ∷ (print_version r.minor ++ (print_end r.line_end ++ (print_section r.fields r.last ++ rest)))) in
    let text : print_request r ++ rest ≡ r.method ++ more =
    print_request-append r rest ∙ ap (λ (b : List LineEnd). print_blank b ++ (r.method ++ more)) blank in
    ap leading_crlf text ∙ token_first r.method more is.method

target_is : (r : RequestHead) → IsRequestHead r → target_part (head_lines r) ≡ r.target
target_is r is = ap second_word (request_line_words r.method r.target r.minor is.method.1 is.target.1 is.minor)

-- a head at the front of the text
answer_of_head : (limits : Limits) (before : ℕ) (bytes more : List ℕ) (head : Head) → IsHead 100 bytes head
    → length bytes ≤ limits.head → length head.target ≤ limits.target
    → step_by_front limits before (length (bytes ++ more)) (front_of (take limits.head (bytes ++ more))) ≡ Whole head (before + length bytes)
answer_of_head limits before bytes more head is fits short =
    let r = is.0 in
    let f : Front = record { lines = head_lines r; len = length (print_request r) } in
    let front : front_of bytes ≡ Some f = head_front bytes r [] is.2 is.1 in
    let len = ends_of bytes r is.1 in
    let window : front_of (take limits.head (bytes ++ more)) ≡ Some f =
    front_within (bytes ++ more) f limits.head (front-append bytes more f front) (omega (arith, len)) in
    let target : length (target_part f.lines) ≤ limits.target =
    omega (arith, ap length (target_is r is.1.0), ap (λ (h : Head). length h.target) is.4) in
    let few : length f.lines ≤ 101 = omega (arith, is.3, length-map r.fields line_of) in
    ap (step_by_front limits before (length (bytes ++ more))) window
    ∙ sym (at_end limits (before + f.len) f (Some head) target few (sym (head_again r is.1.0 ∙ ap Some is.4)))
    ∙ ap (λ (n : ℕ). Whole head (before + n)) (sym len)

pub heads_are_read : HeadsAreRead
heads_are_read limits bytes more head is fits short =
    let r = is.0 in
    let text : bytes ++ more ≡ print_request r ++ more =
    ap (λ (b : List ℕ). b ++ more) (is.1.1 ∙ append-nil (print_request r)) in
    let first : leading_crlf (bytes ++ more) ≡ 0 = ap leading_crlf text ∙ head_first r more is.1.0 is.2 in (
      read_at limits (bytes ++ more) 0 first ∙ answer_of_head limits 0 bytes more head is fits short
          ∙ ap (λ (n : ℕ). Whole head n) (omega arith),
      read_at limits (13 ∷ 10 ∷ (bytes ++ more)) 2 refl ∙ answer_of_head limits 2 bytes more head is fits short,
    )

-- ---- want of memory

pub on_err_always : {X E : Type 0} (r : Result X E) {P : Type 0} → P → OnErr r P
on_err_always (Ok x) p = tt
on_err_always (Err e) p = p

pub memory_at_end : (limits : Limits) (used : ℕ) (f : Front) → length (target_part f.lines) ≤ limits.target
    → length f.lines ≤ 101 → IsSome (head_of f.lines) → is_whole (step_at_end limits used f) ≡ true
memory_at_end limits used f short few some =
    ap is_whole (sym (at_end limits used f (head_of f.lines) short few refl)) ∙ go (head_of f.lines) some
  where
    go : (o : Option Head) → IsSome o → is_whole (whole_or_bad used o) ≡ true
    go None is = is
    go (Some h) is = refl

-- ---- one head at most

same_len : (f f' : Front) → ◌≡◌ {A = Option Front} (Some f) (Some f') → f.len ≡ f'.len
same_len f f' e = let same : f ≡ f' = cc in ap (λ (k : Front). k.len) same

pub heads_are_unique : HeadsAreUnique
heads_are_unique room bytes more bytes' more' head head' h h' e =
    let f : Front = record { lines = head_lines h.0; len = length (print_request h.0) } in
    let f' : Front = record { lines = head_lines h'.0; len = length (print_request h'.0) } in
    let front = front-append bytes more f (head_front bytes h.0 [] h.2 h.1) in
    let front' = front-append bytes' more' f' (head_front bytes' h'.0 [] h'.2 h'.1) in
    let same : ◌≡◌ {A = Option Front} (Some f) (Some f') = sym front ∙ ap front_of e ∙ front' in
    let len : length (print_request h.0) ≡ length (print_request h'.0) = same_len f f' same in
    let own : bytes ≡ bytes' =
    sym (take_at bytes more (length bytes) refl) ∙ ap (take (length bytes)) e
    ∙ take_at bytes' more' (length bytes) (omega (arith, len, ends_of bytes h.0 h.1, ends_of bytes' h'.0 h'.1)) in
    let heads : ◌≡◌ {A = Option Head} (Some head) (Some head') =
    sym ((says_the_grammar room bytes head).1 h) ∙ ap (whole_head room) own ∙ (says_the_grammar room bytes' head').1 h' in
    (own, cc)

-- ---- where more is waited for

pub at_end_is_answered : (limits : Limits) (used : ℕ) (f : Front) → step_at_end limits used f ≡ More → ⊥
at_end_is_answered limits used f e =
    elim (chosen (ltb limits.target (length (target_part f.lines))) _ _ _ e) [
      | inl long ↦ absurd (cc)
      | inr short ↦
          elim (chosen (ltb 101 (length f.lines)) _ _ _ short.1) [
            | inl many ↦ absurd (cc)
            | inr few ↦ go (head_of f.lines) few.1
          ]
    ]
  where
    go : (o : Option Head) → whole_or_bad used o ≡ More → ⊥
    go None is = absurd (cc)
    go (Some h) is = absurd (cc)

open_text : (limits : Limits) (before : ℕ) (text : List ℕ) (o : Option Front) → front_of (take limits.head text) ≡ o
    → step_by_front limits before (length text) o ≡ More → (front_of text ≡ None) × (length text < limits.head)
open_text limits before text None is told =
    elim (chosen (leb limits.head (length text)) _ _ _ told) [
      | inl long ↦ absurd (cc)
      | inr low ↦
          let short : length text < limits.head = leb-false _ _ low.0 in
          (ap front_of (sym (take_all limits.head text (omega arith))) ∙ is, short)
    ]
open_text limits before text (Some f) is told = absurd (at_end_is_answered limits (before + f.len) f told)

pub more_is_open : MoreIsOpen
more_is_open limits bytes = (there, back)
  where
    there : read_head limits bytes ≡ More → (front_of (drop (leading_crlf bytes) bytes) ≡ None) × (length (drop (leading_crlf bytes) bytes) < limits.head)
    there e =
        let text = drop (leading_crlf bytes) bytes in
        open_text limits (leading_crlf bytes) text (front_of (take limits.head text)) refl (sym (read_at limits bytes (leading_crlf bytes) refl) ∙ e)

    back : (front_of (drop (leading_crlf bytes) bytes) ≡ None) × (length (drop (leading_crlf bytes) bytes) < limits.head) → read_head limits bytes ≡ More
    back open_yet =
        let text = drop (leading_crlf bytes) bytes in
        let short : length text < limits.head = open_yet.1 in
        read_at limits bytes (leading_crlf bytes) refl
        ∙ ap (step_by_front limits (leading_crlf bytes) (length text)) (ap front_of (take_all limits.head text (omega arith)) ∙ open_yet.0)
        ∙ cond-false _ _ _ (lt-leb _ _ short)

-- a whole head has two bytes at least, so the limit has
pub two_for_whole : (limits : Limits) (bytes : List ℕ) (head : Head) (used : ℕ) → read_head limits bytes ≡ Whole head used → 2 ≤ limits.head
two_for_whole limits bytes head used e = go (front_of (take limits.head (drop (leading_crlf bytes) bytes))) refl
  where
    by_parts : (f : Front) (shape : HasFront (take limits.head (drop (leading_crlf bytes) bytes)) f) (parts : List (List ℕ))
        → f.lines ≡ map without_cr parts → f.len ≡ length (flat_map with_lf parts) + (length shape.last + 1) → head_of f.lines ≡ Some head
        → f.len ≤ length (take limits.head (drop (leading_crlf bytes) bytes)) → 2 ≤ limits.head
    by_parts f shape [] lines len is within =
        let none : head_of [] ≡ Some head = ap head_of (sym lines) ∙ is in absurd (cc)
    by_parts f shape (part ∷ parts) lines len is within =
        omega (arith, length-append (with_lf part) (flat_map with_lf parts), length-append part (10 ∷ []), length-take limits.head (drop (leading_crlf bytes) bytes))

    go : (o : Option Front) → front_of (take limits.head (drop (leading_crlf bytes) bytes)) ≡ o → 2 ≤ limits.head
    go None is =
        let told : step_by_front limits (leading_crlf bytes) (length (drop (leading_crlf bytes) bytes)) None ≡ Whole head used =
        sym (read_at limits bytes (leading_crlf bytes) refl ∙ ap (step_by_front limits (leading_crlf bytes) (length (drop (leading_crlf bytes) bytes))) is) ∙ e in
        elim (chosen (leb limits.head (length (drop (leading_crlf bytes) bytes))) _ _ _ told) [
          | inl long ↦ absurd (cc)
          | inr short ↦ absurd (cc)
        ]
    go (Some f) is =
        let told = at_end_whole limits (leading_crlf bytes + f.len) used f head
        (sym (read_at limits bytes (leading_crlf bytes) refl ∙ ap (step_by_front limits (leading_crlf bytes) (length (drop (leading_crlf bytes) bytes))) is) ∙ e) in
        let shape = front_shape (take limits.head (drop (leading_crlf bytes) bytes)) f is in
        let cut = front-take (take limits.head (drop (leading_crlf bytes) bytes)) f is in
        by_parts f shape shape.parts shape.lines_are shape.len_is told.2 cut.0
