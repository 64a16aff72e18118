-- Which cause is given, and where.
use Rattle.std.proofs.Common.{◌≡◌, ◌≢◌, ℕ, ◌+◌, ◌<◌, ◌≤◌, true, false, List, [], ◌∷◌, ◌++◌, length, take, refl, sym, ap, ◌∙◌, subst, arith, cond, eqb, ltb, leb, ◌&&◌, length-drop, length-take, inl, inr, Option, Some, None}
use Rattle.std.specs.Option.{option_and_then}
use Rattle.std.specs.List.{slice_split, join_with_byte, onto_first, All}
use Rattle.std.proofs.lemmas.Bool.{cond-true, cases_Bool, ltb-true, ltb-false, le-leb, leb-true}
use Rattle.std.proofs.lemmas.List.{take-take, length-take-le}
use Rattle.std.proofs.lemmas.List.Elements.{All-head, All-tail, All-cons, All-nil}
use Rattle.std.proofs.lemmas.List.Splits.{slice_split_at, slice_split-cons_yes, slice_split-cons_no, join_with_byte-slice_split}
use Rattle.host_base.proofs.SplitLaws.{chosen}
use Rattle.host_base.specs.declared.request.Head.{Head}
use Rattle.host_base.specs.declared.limits.Limits.{Limits}
use Rattle.host_base.specs.declared.cause.Cause.{Cause}
use Rattle.host_base.specs.declared.cause.Cause.TheVariants.{HeadTooLong, TargetTooLong, TooManyFields, BadHead}
use Rattle.head_lines.specs.Lines.{Front, front_of, first_of}
use Rattle.head_lines.proofs.FrontLaws.{parts_some, front-take}
use Rattle.head_reader.specs.declared.step.HeadStep.{HeadStep}
use Rattle.head_reader.specs.declared.step.HeadStep.TheVariants.{More, Bad}
use Rattle.head_reader.specs.RequestHead.{is_space, second_word, target_part, leading_crlf, head_of, whole_or_bad, step_at_end, step_by_front, read_head}
use Rattle.head_reader.specs.HeadLaws.{IsHead, whole_head}
use Rattle.head_reader.specs.Refusals.{head_bytes, EndsWithin, HasNoSpace, HasTarget, HasLongTarget, field_lines, LongHeadsAreRefused, LongTargetsAreRefused, ManyFieldsAreRefused, BadHeadsAreRefused}
use Rattle.head_reader.proofs.ReadLaws.{read_at, whole_from_front, says_the_grammar, long_target, many_fields, at_end}

-- ---- the target of a line

-- the words that a split gives have no space
words_no_space : (line : List ℕ) → All HasNoSpace (slice_split is_space line)
words_no_space [] = All-cons HasNoSpace [] [] (All-nil (λ b. is_space b ≡ false)) (All-nil HasNoSpace)
words_no_space (x ∷ xs) =
    let later = words_no_space xs in
    let shape = parts_some is_space xs in
    elim (cases_Bool (is_space x)) [
      | inl here ↦ subst (All HasNoSpace) (sym (slice_split-cons_yes is_space x xs here))
          (All-cons HasNoSpace [] (slice_split is_space xs) (All-nil (λ b. is_space b ≡ false)) later)
      | inr other ↦
          let split : All HasNoSpace (shape.0 ∷ shape.1) = subst (All HasNoSpace) shape.2 later in
          subst (All HasNoSpace) (sym (slice_split-cons_no is_space x xs other ∙ ap (onto_first x) shape.2))
          (All-cons HasNoSpace (x ∷ shape.0) shape.1
          (All-cons (λ b. is_space b ≡ false) x shape.0 other (All-head HasNoSpace shape.0 shape.1 split))
          (All-tail HasNoSpace shape.0 shape.1 split))
    ]

target_of_line : (line target : List ℕ) → HasTarget line target → second_word (slice_split is_space line) ≡ target
target_of_line line target has =
    ap (λ (l : List ℕ). second_word (slice_split is_space l)) has.line_is
    ∙ ap second_word (slice_split_at is_space has.method 32 (target ++ 32 ∷ has.rest) has.method_is_word refl
    ∙ ap (λ (ws : List (List ℕ)). has.method ∷ ws) (slice_split_at is_space target 32 has.rest has.target_is_word refl
    ∙ ap (λ (ws : List (List ℕ)). target ∷ ws) (parts_some is_space has.rest).2))

-- where the second word is not empty, the line has it as its target
line_has_target : (line : List ℕ) → 0 < length (second_word (slice_split is_space line)) → HasTarget line (second_word (slice_split is_space line))
line_has_target line some = go (slice_split is_space line) refl some
  where
    go : (words : List (List ℕ)) → slice_split is_space line ≡ words → 0 < length (second_word words) → HasTarget line (second_word words)
    go [] is some = absurd (omega (arith, some))
    go (a ∷ []) is some = absurd (omega (arith, some))
    go (a ∷ b ∷ []) is some = absurd (omega (arith, some))
    go (a ∷ b ∷ c ∷ words) is some =
        let free : All HasNoSpace (a ∷ b ∷ c ∷ words) = subst (All HasNoSpace) is (words_no_space line) in
        record {
          method = a;
          rest = join_with_byte 32 (c ∷ words);
          line_is = sym (join_with_byte-slice_split 32 line) ∙ ap (join_with_byte 32) is;
          method_is_word = All-head HasNoSpace a (b ∷ c ∷ words) free;
          target_is_word = All-head HasNoSpace b (c ∷ words) (All-tail HasNoSpace a (b ∷ c ∷ words) free);
        }

long_from : (limits : Limits) (f : Front) → limits.target < length (target_part f.lines) → HasLongTarget limits f
long_from limits f long = (target_part f.lines, line_has_target (first_of f.lines) (omega (arith, long)), long)

long_to : (limits : Limits) (f : Front) → HasLongTarget limits f → limits.target < length (target_part f.lines)
long_to limits f has =
    omega (arith, has.2, ap (λ (w : List ℕ). length w) (target_of_line (first_of f.lines) has.0 has.1))

not_long_from : (limits : Limits) (f : Front) → length (target_part f.lines) ≤ limits.target → HasLongTarget limits f → ⊥
not_long_from limits f short has = omega (arith, short, long_to limits f has)

not_long_to : (limits : Limits) (f : Front) → (HasLongTarget limits f → ⊥) → length (target_part f.lines) ≤ limits.target
not_long_to limits f none =
    elim (chosen (ltb limits.target (length (target_part f.lines))) true false _ refl) [
      | inl long ↦ absurd (none (long_from limits f (ltb-true _ _ long.0)))
      | inr short ↦ ltb-false _ _ short.0
    ]

-- ---- a head that has ended

pub answer_at : (limits : Limits) (bytes : List ℕ) (f : Front) → EndsWithin limits bytes f
    → read_head limits bytes ≡ step_at_end limits (leading_crlf bytes + f.len) f
answer_at limits bytes f is =
    read_at limits bytes (leading_crlf bytes) refl ∙ ap (step_by_front limits (leading_crlf bytes) (length (head_bytes bytes))) is

-- the answer where no empty line ends within the limit
open_or_long : (limits : Limits) (bytes : List ℕ) (step : HeadStep) → front_of (take limits.head (head_bytes bytes)) ≡ None
    → read_head limits bytes ≡ step → step ≢ More → (limits.head ≤ length (head_bytes bytes)) × (step ≡ Bad HeadTooLong)
open_or_long limits bytes step none e other =
    elim (chosen (leb limits.head (length (head_bytes bytes))) _ _ _
    (sym (read_at limits bytes (leading_crlf bytes) refl ∙ ap (step_by_front limits (leading_crlf bytes) (length (head_bytes bytes))) none) ∙ e)) [
      | inl long ↦ (leb-true _ _ long.0, sym long.1)
      | inr short ↦ absurd (other (sym short.1))
    ]

has_ended : (limits : Limits) (bytes : List ℕ) (step : HeadStep) → read_head limits bytes ≡ step → step ≢ More → step ≢ Bad HeadTooLong
    → (f : Front) × EndsWithin limits bytes f × (step_at_end limits (leading_crlf bytes + f.len) f ≡ step)
has_ended limits bytes step e other no_limit = go (front_of (take limits.head (head_bytes bytes))) refl
  where
    go : (o : Option Front) → front_of (take limits.head (head_bytes bytes)) ≡ o
        → (f : Front) × EndsWithin limits bytes f × (step_at_end limits (leading_crlf bytes + f.len) f ≡ step)
    go None is = absurd (no_limit (open_or_long limits bytes step is e other).1)
    go (Some f) is = (f, is, sym (answer_at limits bytes f is) ∙ e)

-- of the answers at the end of a short head one is a cause
cause_of_bad : (used : ℕ) (o : Option Head) (cause : Cause) → whole_or_bad used o ≡ Bad cause → cause ≡ BadHead
cause_of_bad used None cause e = cc
cause_of_bad used (Some head) cause e = absurd (cc)

ended_is_not_long : (limits : Limits) (used : ℕ) (f : Front) → step_at_end limits used f ≡ Bad HeadTooLong → ⊥
ended_is_not_long limits used f e =
    elim (chosen (ltb limits.target (length (target_part f.lines))) _ _ _ e) [
      | inl long ↦ absurd (cc)
      | inr short ↦
          elim (chosen (ltb 101 (length f.lines)) _ _ _ short.1) [
            | inl many ↦ absurd (cc)
            | inr few ↦ let same = cause_of_bad used (head_of f.lines) HeadTooLong few.1 in absurd (cc)
          ]
    ]

pub long_heads_are_refused : LongHeadsAreRefused
long_heads_are_refused limits bytes = (λ e. go (front_of (take limits.head (head_bytes bytes))) refl e, back)
  where
    go : (o : Option Front) → front_of (take limits.head (head_bytes bytes)) ≡ o → read_head limits bytes ≡ Bad HeadTooLong
        → (front_of (take limits.head (head_bytes bytes)) ≡ None) × (limits.head ≤ length (head_bytes bytes))
    go None is e = (is, (open_or_long limits bytes (Bad HeadTooLong) is e (λ same. absurd (cc))).0)
    go (Some f) is e =
        absurd (ended_is_not_long limits (leading_crlf bytes + f.len) f (sym (answer_at limits bytes f is) ∙ e))

    back : (front_of (take limits.head (head_bytes bytes)) ≡ None) × (limits.head ≤ length (head_bytes bytes)) → read_head limits bytes ≡ Bad HeadTooLong
    back long =
        read_at limits bytes (leading_crlf bytes) refl
        ∙ ap (step_by_front limits (leading_crlf bytes) (length (head_bytes bytes))) long.0
        ∙ cond-true _ _ _ (le-leb _ _ long.1)

pub long_targets_are_refused : LongTargetsAreRefused
long_targets_are_refused limits bytes = (there, back)
  where
    long_at : (used : ℕ) (f : Front) → step_at_end limits used f ≡ Bad TargetTooLong → HasLongTarget limits f
    long_at used f e =
        elim (chosen (ltb limits.target (length (target_part f.lines))) _ _ _ e) [
          | inl long ↦ long_from limits f (ltb-true _ _ long.0)
          | inr short ↦
              elim (chosen (ltb 101 (length f.lines)) _ _ _ short.1) [
                | inl many ↦ absurd (cc)
                | inr few ↦ let same = cause_of_bad used (head_of f.lines) TargetTooLong few.1 in absurd (cc)
              ]
        ]

    there : read_head limits bytes ≡ Bad TargetTooLong → (front : Front) × EndsWithin limits bytes front × HasLongTarget limits front
    there e =
        let ended = has_ended limits bytes (Bad TargetTooLong) e (λ same. absurd (cc)) (λ same. absurd (cc)) in
        (ended.0, ended.1, long_at (leading_crlf bytes + ended.0.len) ended.0 ended.2)

    back : (front : Front) × EndsWithin limits bytes front × HasLongTarget limits front → read_head limits bytes ≡ Bad TargetTooLong
    back long =
        answer_at limits bytes long.0 long.1
        ∙ sym (long_target limits (leading_crlf bytes + long.0.len) long.0 (long_to limits long.0 long.2))

pub many_fields_are_refused : ManyFieldsAreRefused
many_fields_are_refused limits bytes = (there, back)
  where
    many_at : (used : ℕ) (f : Front) → step_at_end limits used f ≡ Bad TooManyFields → (HasLongTarget limits f → ⊥) × (100 < length (field_lines f))
    many_at used f e =
        elim (chosen (ltb limits.target (length (target_part f.lines))) _ _ _ e) [
          | inl long ↦ absurd (cc)
          | inr short ↦
              elim (chosen (ltb 101 (length f.lines)) _ _ _ short.1) [
                | inl many ↦ (
                  not_long_from limits f (ltb-false _ _ short.0),
                  omega (arith, ltb-true _ _ many.0, length-drop 1 f.lines),
                )
                | inr few ↦ let same = cause_of_bad used (head_of f.lines) TooManyFields few.1 in absurd (cc)
              ]
        ]

    there : read_head limits bytes ≡ Bad TooManyFields
        → (front : Front) × EndsWithin limits bytes front × (HasLongTarget limits front → ⊥) × (100 < length (field_lines front))
    there e =
        let ended = has_ended limits bytes (Bad TooManyFields) e (λ same. absurd (cc)) (λ same. absurd (cc)) in
        let many = many_at (leading_crlf bytes + ended.0.len) ended.0 ended.2 in
        (ended.0, ended.1, many.0, many.1)

    back : (front : Front) × EndsWithin limits bytes front × (HasLongTarget limits front → ⊥) × (100 < length (field_lines front))
        → read_head limits bytes ≡ Bad TooManyFields
    back many =
        answer_at limits bytes many.0 many.1
        ∙ sym (many_fields limits (leading_crlf bytes + many.0.len) many.0 (not_long_to limits many.0 many.2)
        (omega (arith, many.3, length-drop 1 many.0.lines)))

-- the bytes of a head that has ended have its front by themselves
own_front : (limits : Limits) (bytes : List ℕ) (f : Front) → EndsWithin limits bytes f
    → (front_of (take f.len (head_bytes bytes)) ≡ Some f) × (f.len ≡ length (take f.len (head_bytes bytes)))
own_front limits bytes f is =
    let cut = front-take (take limits.head (head_bytes bytes)) f is in
    let within : f.len ≤ limits.head = omega (arith, cut.0, length-take limits.head (head_bytes bytes)) in
    let fits : f.len ≤ length (head_bytes bytes) = omega (arith, cut.0, length-take limits.head (head_bytes bytes)) in
    (ap front_of (sym (take-take f.len limits.head (head_bytes bytes) within)) ∙ cut.1, sym (length-take-le f.len (head_bytes bytes) fits))

lines_of_a_head : (bytes : List ℕ) (f : Front) (head : Head) → front_of bytes ≡ Some f → IsHead 100 bytes head → head_of f.lines ≡ Some head
unfolding whole_head
lines_of_a_head bytes f head front is =
    elim (chosen (eqb f.len (length bytes) && leb (length f.lines) (100 + 1)) _ _ _
    (sym (ap (option_and_then (λ (k : Front). cond (eqb k.len (length bytes) && leb (length k.lines) (100 + 1)) (head_of k.lines) None)) front)
    ∙ (says_the_grammar 100 bytes head).1 is)) [
      | inl good ↦ good.1
      | inr bad ↦ absurd (cc)
    ]

pub bad_heads_are_refused : BadHeadsAreRefused
bad_heads_are_refused limits bytes = (there, back)
  where
    some_is_not_none : (head : Head) → ◌≡◌ {A = Option Head} (Some head) None → ⊥
    some_is_not_none head e = absurd (cc)

    none_of : (used : ℕ) (o : Option Head) → whole_or_bad used o ≡ Bad BadHead → o ≡ None
    none_of used None e = refl
    none_of used (Some head) e = absurd (cc)

    bad_at : (used : ℕ) (f : Front) → step_at_end limits used f ≡ Bad BadHead
        → (HasLongTarget limits f → ⊥) × (length (field_lines f) ≤ 100) × (head_of f.lines ≡ None)
    bad_at used f e =
        elim (chosen (ltb limits.target (length (target_part f.lines))) _ _ _ e) [
          | inl long ↦ absurd (cc)
          | inr short ↦
              elim (chosen (ltb 101 (length f.lines)) _ _ _ short.1) [
                | inl many ↦ absurd (cc)
                | inr few ↦ (
                  not_long_from limits f (ltb-false _ _ short.0),
                  omega (arith, ltb-false _ _ few.0, length-drop 1 f.lines),
                  none_of used (head_of f.lines) few.1,
                )
              ]
        ]

    there : read_head limits bytes ≡ Bad BadHead
        → (front : Front) × EndsWithin limits bytes front × (HasLongTarget limits front → ⊥) × (length (field_lines front) ≤ 100)
        × ((head : Head) → IsHead 100 (take front.len (head_bytes bytes)) head → ⊥)
    there e =
        let ended = has_ended limits bytes (Bad BadHead) e (λ same. absurd (cc)) (λ same. absurd (cc)) in
        let bad = bad_at (leading_crlf bytes + ended.0.len) ended.0 ended.2 in (
          ended.0,
          ended.1,
          bad.0,
          bad.1,
          λ head is. some_is_not_none head (sym (lines_of_a_head _ ended.0 head (own_front limits bytes ended.0 ended.1).0 is) ∙ bad.2),
        )

    back : (front : Front) × EndsWithin limits bytes front × (HasLongTarget limits front → ⊥) × (length (field_lines front) ≤ 100)
        × ((head : Head) → IsHead 100 (take front.len (head_bytes bytes)) head → ⊥)
        → read_head limits bytes ≡ Bad BadHead
    back bad = go (head_of f.lines) refl
      where
        f : Front
        f = bad.0

        few : length f.lines ≤ 101
        few = omega (arith, bad.3, length-drop 1 f.lines)

        go : (o : Option Head) → head_of f.lines ≡ o → read_head limits bytes ≡ Bad BadHead
        go None is =
            answer_at limits bytes f bad.1
            ∙ sym (at_end limits (leading_crlf bytes + f.len) f None (not_long_to limits f bad.2) few (sym is))
        go (Some head) is =
            let own = own_front limits bytes f bad.1 in
            absurd (bad.4 head ((says_the_grammar 100 (take f.len (head_bytes bytes)) head).0
            (whole_from_front 100 (take f.len (head_bytes bytes)) f head own.0 own.1 few is)))
