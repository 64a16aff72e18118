-- What is read of a request stays.
use Rattle.std.proofs.Common.{arith, ◌≡◌, ◌≢◌, ℕ, zero, suc, ◌+◌, ◌<◌, ◌≤◌, Bool, true, false, cond, List, [], ◌∷◌, ◌++◌, length, take, drop, refl, sym, ap, ◌∙◌, Option, Some, None, Result, Ok, Err, leb, ltb, eqb, length-append, length-drop, length-take}
use Rattle.std.specs.Prelude.{not, slice_get}
use Rattle.std.specs.List.{prefix_len}
use Rattle.std.proofs.lemmas.Bool.{cond-true, cond-false, lt-ltb, le-leb, ltb-true, leb-true}
use Rattle.std.proofs.lemmas.List.{take-append-le, drop-append-le}
use Rattle.std.proofs.lemmas.Option.{slice_get_within}
use Rattle.host_base.specs.declared.cause.Cause.{Cause}
use Rattle.host_base.specs.declared.cause.Cause.TheVariants.{BadScgi, HeadTooLong, BodyTooLong}
use Rattle.host_base.specs.declared.fields.Field.{Field}
use Rattle.host_base.specs.declared.limits.Limits.{Limits}
use Rattle.scgi_reader.specs.declared.reader.ScgiRequest.{ScgiRequest}
use Rattle.scgi_reader.specs.declared.reader.ScgiStep.TheVariants.{Whole, More}
use Rattle.scgi_reader.specs.Numbers.{is_no_digit, digits_of}
use Rattle.scgi_reader.specs.Pairs.{pairs_in, body_length}
use Rattle.scgi_reader.specs.declared.head.Head.{Head}
use Rattle.scgi_reader.specs.declared.head.Head.TheVariants as Heard
use Rattle.scgi_reader.specs.declared.head.WholeHead.{WholeHead}
use Rattle.scgi_reader.specs.Scgi.{length_at, begins_no_number, head_length, head_start, with_body, by_length, by_fields, by_byte, by_head, by_size, behind, head_of}
use Rattle.scgi_reader.specs.ScgiLaws.{HeadsStay, ReadingsStay, RequestsAreWithin, IsAlone}

-- ---- the digits at the front

abbrev digit_count : List ℕ → ℕ
digit_count s = prefix_len (λ byte. not (is_no_digit byte)) s

count_grows : (s t : List ℕ) → digit_count s ≤ digit_count (s ++ t)
count_grows [] t = omega arith
count_grows (byte ∷ s) t =
    let later = count_grows s t in
    elim (not (is_no_digit byte)) as (λ b. cond b (1 + digit_count s) 0 ≤ cond b (1 + digit_count (s ++ t)) 0) [
      | true ↦ omega arith
      | false ↦ omega arith
    ]

count_stays : (s t : List ℕ) → digit_count s < length s → digit_count (s ++ t) ≡ digit_count s
count_stays [] t below = absurd (omega arith)
count_stays (byte ∷ s) t below = by_digit (not (is_no_digit byte)) (λ less. count_stays s t less) below
  where
    by_digit : (b : Bool) → (digit_count s < length s → digit_count (s ++ t) ≡ digit_count s) → cond b (1 + digit_count s) 0 < suc (length s)
        → cond b (1 + digit_count (s ++ t)) 0 ≡ cond b (1 + digit_count s) 0
    by_digit true later less = ap (λ (n : ℕ). 1 + n) (later (omega arith))
    by_digit false later less = refl

count_within : (s : List ℕ) → digit_count s ≤ length s
count_within [] = omega arith
count_within (byte ∷ s) =
    let later = count_within s in
    elim (not (is_no_digit byte)) as (λ b. cond b (1 + digit_count s) 0 ≤ suc (length s)) [
      | true ↦ omega arith
      | false ↦ omega arith
    ]

digits_len : (s : List ℕ) → length (digits_of s) ≡ digit_count s
digits_len s = let within = count_within s in let len = length-take (digit_count s) s in grind arith

digits_stay : (s t : List ℕ) → digit_count s < length s → digits_of (s ++ t) ≡ digits_of s
digits_stay s t below =
    ap (λ (n : ℕ). take n (s ++ t)) (count_stays s t below) ∙ take-append-le (digit_count s) s t (omega (arith, count_within s))

-- ---- the length of the head

-- where the head's length is told or refused, it is so with more bytes; and where it is told the digits stay
module _ (head : ℕ) where
  by_rest : (byte : ℕ) (s t : List ℕ) → (r : List ℕ) → drop (digit_count (byte ∷ s)) (byte ∷ s) ≡ r
      → length_at head (digits_of (byte ∷ s)) r ≢ Ok None
      → (length_at head (digits_of (byte ∷ s ++ t)) (drop (length (digits_of (byte ∷ s ++ t))) (byte ∷ s ++ t)) ≡ length_at head (digits_of (byte ∷ s)) r)
      × (digit_count (byte ∷ s) < length (byte ∷ s))
  by_rest byte s t [] is known = absurd (known refl)
  by_rest byte s t (next ∷ r) is known =
      let cut = length-drop (digit_count (byte ∷ s)) (byte ∷ s) in
      let len : length (drop (digit_count (byte ∷ s)) (byte ∷ s)) ≡ suc (length r) = ap (λ (q : List ℕ). length q) is in
      let below : digit_count (byte ∷ s) < length (byte ∷ s) = omega arith in
      let same = digits_stay (byte ∷ s) t below in
      let rest : drop (length (digits_of (byte ∷ s ++ t))) (byte ∷ s ++ t) ≡ next ∷ r ++ t =
      ap (λ (ds : List ℕ). drop (length ds) (byte ∷ s ++ t)) same
      ∙ ap (λ (n : ℕ). drop n (byte ∷ s ++ t)) (digits_len (byte ∷ s))
      ∙ drop-append-le (digit_count (byte ∷ s)) (byte ∷ s) t (omega arith)
      ∙ ap (λ (q : List ℕ). q ++ t) is in (
        ap (λ (ds : List ℕ). length_at head ds (drop (length (digits_of (byte ∷ s ++ t))) (byte ∷ s ++ t))) same
            ∙ ap (length_at head (digits_of (byte ∷ s))) rest,
        below,
      )

  abbrev Stays : List ℕ → List ℕ → Type 0
  Stays s t = (head_length head (s ++ t) ≡ head_length head s) × ((n : ℕ) → head_length head s ≡ Ok (Some n) → digit_count s < length s)

  by_few : (byte : ℕ) (s t : List ℕ) → begins_no_number byte ≡ false → (b : Bool) → ltb 5 (length (digits_of (byte ∷ s))) ≡ b
      → head_length head (byte ∷ s) ≢ Ok None → Stays (byte ∷ s) t
  by_few byte s t begins true many known =
      let here : head_length head (byte ∷ s) ≡ Err HeadTooLong = cond-false _ _ _ begins ∙ cond-true _ _ _ many in
      let more = count_grows (byte ∷ s) t in
      let len = digits_len (byte ∷ s) in
      let all = digits_len (byte ∷ s ++ t) in
      let five = ltb-true _ _ many in
      let there : head_length head (byte ∷ s ++ t) ≡ Err HeadTooLong = cond-false _ _ _ begins ∙ cond-true _ _ _ (lt-ltb 5 (length (digits_of (byte ∷ s ++ t))) (omega arith)) in
      (there ∙ sym here, λ n is. absurd (cc))
  by_few byte s t begins false few known =
      let here : head_length head (byte ∷ s) ≡ length_at head (digits_of (byte ∷ s)) (drop (length (digits_of (byte ∷ s))) (byte ∷ s)) = cond-false _ _ _ begins ∙ cond-false _ _ _ few in
      let cut : drop (digit_count (byte ∷ s)) (byte ∷ s) ≡ drop (length (digits_of (byte ∷ s))) (byte ∷ s) = ap (λ (n : ℕ). drop n (byte ∷ s)) (sym (digits_len (byte ∷ s))) in
      let rest = by_rest byte s t (drop (length (digits_of (byte ∷ s))) (byte ∷ s)) cut (λ e. known (here ∙ e)) in
      let same = digits_stay (byte ∷ s) t rest.1 in
      let there : head_length head (byte ∷ s ++ t) ≡ length_at head (digits_of (byte ∷ s ++ t)) (drop (length (digits_of (byte ∷ s ++ t))) (byte ∷ s ++ t)) =
      cond-false _ _ _ begins ∙ cond-false _ _ _ (ap (λ (ds : List ℕ). ltb 5 (length ds)) same ∙ few) in
      (there ∙ rest.0 ∙ sym here, λ n is. rest.1)

  by_first : (byte : ℕ) (s t : List ℕ) → (b : Bool) → begins_no_number byte ≡ b → head_length head (byte ∷ s) ≢ Ok None → Stays (byte ∷ s) t
  by_first byte s t true begins known =
      let here : head_length head (byte ∷ s) ≡ Err BadScgi = cond-true _ _ _ begins in
      (cond-true _ _ _ begins ∙ sym here, λ n is. absurd (cc))
  by_first byte s t false begins known = by_few byte s t begins (ltb 5 (length (digits_of (byte ∷ s)))) refl known

  head_stays : (s t : List ℕ) → head_length head s ≢ Ok None → Stays s t
  head_stays [] t known = absurd (known refl)
  head_stays (byte ∷ s) t known = by_first byte s t (begins_no_number byte) refl known

-- ---- the head and the body

slice_more : (xs ys : List ℕ) (i x : ℕ) → slice_get xs i ≡ Some x → slice_get (xs ++ ys) i ≡ Some x
slice_more [] ys i x is = absurd (cc)
slice_more (y ∷ xs) ys zero x is = is
slice_more (y ∷ xs) ys (suc i) x is = slice_more xs ys i x is

-- ---- the head stays

module _ (limits : Limits) where
  byte_stays : (start n byte : ℕ) (rest t : List ℕ) → n < length rest → by_byte limits start n (rest ++ t) (Some byte) ≡ by_byte limits start n rest (Some byte)
  byte_stays start n byte rest t below =
      ap (λ (bytes : List ℕ). cond (eqb byte 44) (by_fields limits (start + n + 1) (pairs_in bytes)) (Heard.Bad BadScgi)) (take-append-le n rest t (omega arith))

  rest_stays : (start n : ℕ) (rest t : List ℕ) (o : Option ℕ) → slice_get rest n ≡ o → by_head limits start n rest ≢ Heard.More
      → by_head limits start n (rest ++ t) ≡ by_head limits start n rest
  rest_stays start n rest t None is known = absurd (known (ap (by_byte limits start n rest) is))
  rest_stays start n rest t (Some byte) is known =
      ap (by_byte limits start n (rest ++ t)) (slice_more rest t n byte is)
      ∙ byte_stays start n byte rest t (slice_get_within rest n byte is)
      ∙ sym (ap (by_byte limits start n rest) is)

  size_stays : (s t : List ℕ) (size : Result (Option ℕ) Cause) → head_length limits.head s ≡ size → Stays limits.head s t → by_size limits s size ≢ Heard.More
      → by_size limits (s ++ t) size ≡ by_size limits s size
  size_stays s t (Err cause) is stays known = refl
  size_stays s t (Ok None) is stays known = absurd (known refl)
  size_stays s t (Ok (Some n)) is stays known =
      let below = stays.1 n is in
      let start : head_start (s ++ t) ≡ head_start s = ap (λ (ds : List ℕ). length ds + 1) (digits_stay s t below) in
      let len = digits_len s in
      ap (λ (at : ℕ). by_head limits at n (drop at (s ++ t))) start
      ∙ ap (by_head limits (head_start s) n) (drop-append-le (head_start s) s t (omega arith))
      ∙ rest_stays (head_start s) n (drop (head_start s) s) t (slice_get (drop (head_start s) s) n) refl known

pub heads_stay : HeadsStay
heads_stay limits s t known =
    let stays = head_stays limits.head s t (λ e. known (ap (by_size limits s) e)) in
    ap (by_size limits (s ++ t)) stays.0 ∙ size_stays limits s t (head_length limits.head s) refl stays known

-- ---- a head is within what was heard

module _ (limits : Limits) (head : WholeHead) where
  length_used : (fields : List Field) (used : ℕ) (o : Option ℕ) → by_length limits fields used o ≡ Heard.Whole head → head.used ≡ used
  length_used fields used None is = absurd (cc)
  length_used fields used (Some n) is = by (ltb limits.body n) is
    where
      by : (b : Bool) → cond b (Heard.Bad BodyTooLong) (Heard.Whole (record { fields = fields; used = used; len = n })) ≡ Heard.Whole head → head.used ≡ used
      by true is = absurd (cc)
      by false is = let same : record { fields = fields; used = used; len = n } ≡ head = cc in ap (λ (h : WholeHead). h.used) (sym same)

  fields_used : (used : ℕ) (o : Option (List Field)) → by_fields limits used o ≡ Heard.Whole head → head.used ≡ used
  fields_used used None is = absurd (cc)
  fields_used used (Some fields) is = length_used fields used (body_length fields) is

  byte_used : (start n : ℕ) (rest : List ℕ) (o : Option ℕ) → slice_get rest n ≡ o → by_byte limits start n rest o ≡ Heard.Whole head → head.used ≤ start + length rest
  byte_used start n rest None at is = absurd (cc)
  byte_used start n rest (Some byte) at is = by (eqb byte 44) is
    where
      by : (b : Bool) → cond b (by_fields limits (start + n + 1) (pairs_in (take n rest))) (Heard.Bad BadScgi) ≡ Heard.Whole head → head.used ≤ start + length rest
      by false is = absurd (cc)
      by true is =
          let used = fields_used (start + n + 1) (pairs_in (take n rest)) is in
          let below = slice_get_within rest n byte at in
          omega arith

  size_used : (s : List ℕ) (size : Result (Option ℕ) Cause) → ((n : ℕ) → size ≡ Ok (Some n) → digit_count s < length s) → by_size limits s size ≡ Heard.Whole head
      → head.used ≤ length s
  size_used s (Err cause) known is = absurd (cc)
  size_used s (Ok None) known is = absurd (cc)
  size_used s (Ok (Some n)) known is =
      let below = known n refl in
      let digits = digits_len s in
      let cut = length-drop (head_start s) s in
      let used = byte_used (head_start s) n (drop (head_start s) s) (slice_get (drop (head_start s) s) n) refl is in
      omega arith

pub heads_are_within : (limits : Limits) (s : List ℕ) (head : WholeHead) → head_of limits s ≡ Heard.Whole head → head.used ≤ length s
heads_are_within limits s head is =
    let stays = head_stays limits.head s [] (λ e. absurd (more (ap (by_size limits s) e))) in
    size_used limits head s (head_length limits.head s) stays.1 is
  where
    more : by_size limits s (head_length limits.head s) ≡ Heard.More → ⊥
    more e = let both : Heard.Whole head ≡ Heard.More = sym is ∙ e in cc

-- ---- the request stays

body_stays : (fields : List Field) (used n : ℕ) (rest t : List ℕ) → (b : Bool) → leb n (length rest) ≡ b → with_body fields used n rest ≢ More
    → with_body fields used n (rest ++ t) ≡ with_body fields used n rest
body_stays fields used n rest t false short known = absurd (known (cond-false _ _ _ short))
body_stays fields used n rest t true long known =
    let fits = leb-true _ _ long in
    let len = length-append rest t in
    cond-true _ _ _ (le-leb n (length (rest ++ t)) (omega arith))
    ∙ ap (λ (body : List ℕ). Whole (record { fields = fields; body = body }) (used + n)) (take-append-le n rest t fits)
    ∙ sym (cond-true _ _ _ long)

module _ (limits : Limits) (s t : List ℕ) where
  behind_stays : (head : Head) → head_of limits s ≡ head → behind s head ≢ More → behind (s ++ t) head ≡ behind s head
  behind_stays Heard.More is known = absurd (known refl)
  behind_stays (Heard.Bad cause) is known = refl
  behind_stays (Heard.Whole head) is known =
      ap (with_body head.fields head.used head.len) (drop-append-le head.used s t (heads_are_within limits s head is))
      ∙ body_stays head.fields head.used head.len (drop head.used s) t (leb head.len (length (drop head.used s))) refl known

pub readings_stay : ReadingsStay
readings_stay limits s t known =
    ap (behind (s ++ t)) (heads_stay limits s t (λ e. known (ap (behind s) e))) ∙ behind_stays limits s t (head_of limits s) refl known

-- ---- a whole request is within what was heard

module _ (limits : Limits) (s : List ℕ) (request : ScgiRequest) (used : ℕ) where
  body_within : (fields : List Field) (at n : ℕ) (b : Bool) → leb n (length (drop at s)) ≡ b → at ≤ length s
      → cond b (Whole (record { fields = fields; body = take n (drop at s) }) (at + n)) More ≡ Whole request used → IsAlone limits s request used
  body_within fields at n false short below is = absurd (cc)
  body_within fields at n true long below is =
      let fits = leb-true _ _ long in
      let cut = length-drop at s in
      let size = length-take n (drop at s) in
      let whole : at + n ≡ used = cc in
      let same : record { fields = fields; body = take n (drop at s) } ≡ request = cc in
      let body : length (take n (drop at s)) ≡ length request.body = ap (λ (r : ScgiRequest). length r.body) same in
      record { within = omega arith; body = grind arith }

  head_within : (head : Head) → head_of limits s ≡ head → behind s head ≡ Whole request used → IsAlone limits s request used
  head_within Heard.More is whole = absurd (cc)
  head_within (Heard.Bad cause) is whole = absurd (cc)
  head_within (Heard.Whole head) is whole =
      body_within head.fields head.used head.len (leb head.len (length (drop head.used s))) refl (heads_are_within limits s head is) whole

pub requests_are_within : RequestsAreWithin
requests_are_within limits s request used is = head_within limits s request used (head_of limits s) refl is
