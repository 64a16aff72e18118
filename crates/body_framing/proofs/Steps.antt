-- What may follow at a place begins with a byte that may stand there.
use Rattle.std.proofs.Common.{◌≡◌, ℕ, zero, suc, ◌+◌, ◌<◌, ◌≤◌, Bool, true, false, cond, eqb, ltb, List, [], ◌∷◌, ◌++◌, length, All, sum_by, refl, sym, ap, ◌∙◌, arith, subst, length-append, inl, inr, max}
use Rattle.std.specs.Prelude.{◌⊎◌, ◌||◌}
use Rattle.std.specs.List.{flat_map, fold}
use Rattle.std.proofs.lemmas.List.Sums.{sum_by-cons}
use Rattle.std.proofs.lemmas.Bool.{cases_Bool, cond-true, cond-false, eqb-true, lt-ltb, le-leb, and_from, or_from, false≢true}
use Rattle.std.proofs.lemmas.List.Elements.{All-head, All-tail}
use Rattle.body_framing.specs.declared.place.Place.{Place}
use Rattle.body_framing.specs.declared.place.Place.TheVariants.{Size, Extension, SizeEnd, Data, DataEnd, DataLf, Trailer, TrailerEnd, End, Bad}
use Rattle.body_framing.specs.Places.{is_text, is_extension_start, after_line, after_data, after_trailer_line, place_after, is_data, is_done}
use Rattle.body_framing.specs.Chunked.{crlf, with_crlf, IsHex, IsText, IsExtension, Chunk, IsChunk, IsTrailer, chunk_bytes, data_of, with_digit}
use Rattle.body_framing.proofs.Rests.{AfterLine, AfterTrailerLine, IsAtLf, IsBody, IsInData, IsInExtension, IsInLine, IsInSize, IsLines, Rest, RestOfTrailers, joined_chunk, joined_last, joined_line}

-- ---- a step forth: what may follow at a place begins with a byte that may stand there

-- what may follow once the byte was read, where so many bytes of data may come
pub record Steps (room : ℕ) (place : Place) (b : ℕ) (s d : List ℕ) : Type 0 where
  pub going : is_done place ≡ false
  pub decoded : List ℕ
  pub decoded_is : d ≡ cond (is_data place) (b ∷ decoded) decoded
  pub follows : Rest (place_after room place b) s decoded

-- a size is no longer than the data behind it
size-le : (size : ℕ) (s d : List ℕ) → AfterLine size s d → size ≤ length d
size-le zero s d r = omega arith
size-le (suc left) s d r = omega (arith, ap length r.decoded_is, length-append r.front r.rest, r.count_is)

size_grows : (size : ℕ) (digits : List ℕ) → size ≤ fold with_digit size digits
size_grows size [] = omega arith
size_grows size (b ∷ digits) = omega (arith, size_grows (with_digit size b) digits)

start_is : (b : ℕ) → is_extension_start b ≡ true → (b ≡ 59) ⊎ ((b ≡ 32) ⊎ (b ≡ 9))
start_is b is =
    elim (cases_Bool (eqb b 59)) [
      | inl one ↦ inl (eqb-true b 59 one)
      | inr not_one ↦
          elim (cases_Bool (eqb b 32)) [
            | inl two ↦ inr (inl (eqb-true b 32 two))
            | inr not_two ↦
                elim (cases_Bool (eqb b 9)) [
                  | inl three ↦ inr (inr (eqb-true b 9 three))
                  | inr not_three ↦
                      absurd (false≢true (sym (or_from (eqb b 59) (eqb b 32 || eqb b 9) not_one (or_from (eqb b 32) (eqb b 9) not_two not_three)) ∙ is))
                ]
          ]
    ]

-- what begins an extension is no digit and no CR
start_place : (room digits size b : ℕ) → 0 < digits → is_extension_start b ≡ true → place_after room (Size digits size) b ≡ Extension size 1
start_place room digits size b some start =
    elim (start_is b start) [
      | inl one ↦ ap (place_after room (Size digits size)) one ∙ cond-true _ _ _ (lt-ltb 0 digits some)
      | inr other ↦
          elim other [
            | inl two ↦ ap (place_after room (Size digits size)) two ∙ cond-true _ _ _ (lt-ltb 0 digits some)
            | inr three ↦ ap (place_after room (Size digits size)) three ∙ cond-true _ _ _ (lt-ltb 0 digits some)
          ]
    ]

steps_at : (room : ℕ) (place next : Place) (b : ℕ) (s d d' : List ℕ) → is_done place ≡ false → d ≡ cond (is_data place) (b ∷ d') d'
    → place_after room place b ≡ next → Rest next s d' → Steps room place b s d
steps_at room place next b s d d' going is goes rest = record {
  going = going;
  decoded = d';
  decoded_is = is;
  follows = subst (λ (p : Place). Rest p s d') (sym goes) rest;
}

size_forth : (room digits size b : ℕ) (s d : List ℕ) → length d ≤ room → IsInSize digits size (b ∷ s) d → Steps room (Size digits size) b s d
size_forth room digits size b s d fits r = go r.more r.extension r.tail r.hex r.some r.few r.extends r.bytes_are r.follows
  where
    go : (more extension tail : List ℕ) → All IsHex more → 0 < digits + length more → digits + length more ≤ max digits 16 → IsExtension extension
        → b ∷ s ≡ more ++ (extension ++ (crlf ++ tail)) → AfterLine (fold with_digit size more) tail d → Steps room (Size digits size) b s d
    go (c ∷ more) extension tail hex some few extends e f =
        let whole : b ∷ s ≡ c ∷ (more ++ (extension ++ (crlf ++ tail))) = e in
        let here : b ≡ c = cc in
        let later : s ≡ more ++ (extension ++ (crlf ++ tail)) = cc in
        let room_for : with_digit size c ≤ room =
        omega (arith, size_grows (with_digit size c) more, size-le (fold with_digit (with_digit size c) more) tail d f) in
        steps_at room (Size digits size) (Size (digits + 1) (with_digit size c)) b s d d refl refl
        (ap (place_after room (Size digits size)) here
        ∙ cond-true _ _ _ (All-head IsHex c more hex) ∙ cond-true _ _ _ (lt-ltb digits 16 (omega (arith, few)))
        ∙ cond-true _ _ _ (le-leb (with_digit size c) room room_for))
        (record {
          more = more;
          extension = extension;
          tail = tail;
          hex = All-tail IsHex c more hex;
          some = omega arith;
          few = omega (arith, few);
          extends = extends;
          bytes_are = later;
          follows = f;
        })
    go [] (c ∷ extension) tail hex some few extends e f =
        let whole : b ∷ s ≡ c ∷ (extension ++ (crlf ++ tail)) = e in
        let here : b ≡ c = cc in
        let later : s ≡ extension ++ (crlf ++ tail) = cc in
        steps_at room (Size digits size) (Extension size 1) b s d d refl refl
        (start_place room digits size b (omega (arith, some)) (ap is_extension_start here ∙ extends.0))
        (record { more = extension; tail = tail; text = extends.1; few = omega (arith, extends.2); bytes_are = later; follows = f })
    go [] [] tail hex some few extends e f =
        let whole : b ∷ s ≡ 13 ∷ (10 ∷ tail) = e in
        let here : b ≡ 13 = cc in
        let later : s ≡ 10 ∷ tail = cc in
        steps_at room (Size digits size) (SizeEnd size) b s d d refl refl
        (ap (place_after room (Size digits size)) here ∙ cond-true _ _ _ (lt-ltb 0 digits (omega (arith, some))))
        (record { tail = tail; bytes_are = later; follows = f })

-- text is no CR
text_no_cr : (b : ℕ) → IsText b → eqb b 13 ≡ false
text_no_cr b text = elim (cases_Bool (eqb b 13)) [
  | inl cr ↦ let at : is_text 13 ≡ true = ap is_text (sym (eqb-true b 13 cr)) ∙ text in absurd (false≢true at)
  | inr plain ↦ plain
]

extension_forth : (room size count b : ℕ) (s d : List ℕ) → IsInExtension size count (b ∷ s) d → Steps room (Extension size count) b s d
extension_forth room size count b s d r = go r.more r.text r.few r.bytes_are
  where
    go : (more : List ℕ) → All IsText more → count + length more ≤ max count 256 → b ∷ s ≡ more ++ (crlf ++ r.tail)
        → Steps room (Extension size count) b s d
    go (c ∷ more) text few e =
        let whole : b ∷ s ≡ c ∷ (more ++ (crlf ++ r.tail)) = e in
        let here : b ≡ c = cc in
        let later : s ≡ more ++ (crlf ++ r.tail) = cc in
        let plain = All-head IsText c more text in
        steps_at room (Extension size count) (Extension size (count + 1)) b s d d refl refl
        (ap (place_after room (Extension size count)) here ∙ cond-false _ _ _ (text_no_cr c plain)
        ∙ cond-true _ _ _ (and_from (is_text c) (ltb count 256) plain (lt-ltb count 256 (omega (arith, few)))))
        (record { more = more; tail = r.tail; text = All-tail IsText c more text; few = omega (arith, few); bytes_are = later; follows = r.follows })
    go [] text few e =
        let whole : b ∷ s ≡ 13 ∷ (10 ∷ r.tail) = e in
        let here : b ≡ 13 = cc in
        let later : s ≡ 10 ∷ r.tail = cc in
        steps_at room (Extension size count) (SizeEnd size) b s d d refl refl (ap (place_after room (Extension size count)) here)
        (record { tail = r.tail; bytes_are = later; follows = r.follows })

after_line_forth : (size : ℕ) (s d : List ℕ) → AfterLine size s d → Rest (after_line size) s d
after_line_forth zero s d r = r
after_line_forth (suc left) s d r = r

data_forth : (left : ℕ) (s d : List ℕ) → IsInData left s d → Rest (after_data left) s d
data_forth zero s d r = r
data_forth (suc left) s d r = r

in_data_line : (n : ℕ) (tail d : List ℕ) → 0 < n → IsInData n tail d → AfterLine n tail d
in_data_line zero tail d some h = absurd (omega arith)
in_data_line (suc n) tail d some h = h

-- a body begins with the digits of a size line
pub body_forth : (s d : List ℕ) → IsBody s d → IsInSize 0 0 s d
body_forth s d r = go r.chunks r.each r.bytes_are r.decoded_is
  where
    go : (chunks : List Chunk) → All IsChunk chunks → s ≡ flat_map chunk_bytes chunks ++ (r.last ++ (flat_map with_crlf r.trailers ++ crlf))
        → d ≡ flat_map data_of chunks → IsInSize 0 0 s d
    go [] each e de = record {
      more = r.ends.digits;
      extension = r.ends.extension;
      tail = flat_map with_crlf r.trailers ++ crlf;
      hex = r.ends.hex;
      some = omega (arith, r.ends.some);
      few = omega (arith, r.ends.few);
      extends = r.ends.extends;
      bytes_are = e ∙ ap (λ (l : List ℕ). l ++ (flat_map with_crlf r.trailers ++ crlf)) r.ends.line_is
          ∙ joined_last r.ends.digits r.ends.extension (flat_map with_crlf r.trailers);
      follows = subst (λ (n : ℕ). AfterLine n (flat_map with_crlf r.trailers ++ crlf) d) r.ends.size_is
          (record { lines = r.trailers; each = r.lines; short = omega (arith, r.short); bytes_are = refl; none = de });
    }
    go (c ∷ chunks) each e de =
        let chunk = All-head IsChunk c chunks each in
        let sized = chunk.sized in
        let rest = r.last ++ (flat_map with_crlf r.trailers ++ crlf) in
        let tail = c.data_bytes ++ (crlf ++ (flat_map chunk_bytes chunks ++ rest)) in
        record {
          more = sized.digits;
          extension = sized.extension;
          tail = tail;
          hex = sized.hex;
          some = omega (arith, sized.some);
          few = omega (arith, sized.few);
          extends = sized.extends;
          bytes_are = e ∙ ap (λ (l : List ℕ). l ++ (c.data_bytes ++ crlf) ++ flat_map chunk_bytes chunks ++ rest) sized.line_is
              ∙ joined_chunk sized.digits sized.extension c.data_bytes (flat_map chunk_bytes chunks) rest;
          follows = subst (λ (n : ℕ). AfterLine n tail d) sized.size_is (in_data_line (length c.data_bytes) tail d chunk.some (record {
            front = c.data_bytes;
            tail = flat_map chunk_bytes chunks ++ rest;
            rest = flat_map data_of chunks;
            count_is = refl;
            bytes_are = refl;
            decoded_is = de;
            follows = record {
              chunks = chunks;
              last = r.last;
              trailers = r.trailers;
              each = All-tail IsChunk c chunks each;
              ends = r.ends;
              lines = r.lines;
              short = r.short;
              bytes_are = refl;
              decoded_is = refl;
            };
          }));
        }

lf_forth : (P : List ℕ → List ℕ → Type 0) (room : ℕ) (place next : Place) (b : ℕ) (s d : List ℕ) → is_done place ≡ false → is_data place ≡ false
    → place_after room place 10 ≡ next → ((s d : List ℕ) → P s d → Rest next s d) → IsAtLf P (b ∷ s) d → Steps room place b s d
lf_forth P room place next b s d going plain goes step r =
    let here : b ≡ 10 = cc (r.bytes_are) in
    let later : r.tail ≡ s = cc (r.bytes_are) in
    steps_at room place next b s d d going (ap (λ (t : Bool). cond t (b ∷ d) d) (sym plain)) (ap (place_after room place) here ∙ goes)
    (subst (λ (l : List ℕ). Rest next l d) later (step r.tail d r.follows))

in_data_forth : (room left b : ℕ) (s d : List ℕ) → IsInData (suc left) (b ∷ s) d → Steps room (Data left) b s d
in_data_forth room left b s d r = go r.front r.count_is r.bytes_are r.decoded_is
  where
    go : (front : List ℕ) → length front ≡ suc left → b ∷ s ≡ front ++ (crlf ++ r.tail) → d ≡ front ++ r.rest → Steps room (Data left) b s d
    go [] count e de = absurd (omega arith)
    go (c ∷ front) count e de =
        let whole : b ∷ s ≡ c ∷ (front ++ (crlf ++ r.tail)) = e in
        let here : b ≡ c = cc in
        let later : s ≡ front ++ (crlf ++ r.tail) = cc in
        steps_at room (Data left) (after_data left) b s d (front ++ r.rest) refl (de ∙ ap (λ (x : ℕ). x ∷ (front ++ r.rest)) (sym here)) refl
        (data_forth left s (front ++ r.rest) (record {
          front = front;
          tail = r.tail;
          rest = r.rest;
          count_is = omega arith;
          bytes_are = later;
          decoded_is = refl;
          follows = r.follows;
        }))

data_end_forth : (room b : ℕ) (s d : List ℕ) → IsInData 0 (b ∷ s) d → Steps room DataEnd b s d
data_end_forth room b s d r = go r.front r.count_is r.bytes_are r.decoded_is
  where
    go : (front : List ℕ) → length front ≡ 0 → b ∷ s ≡ front ++ (crlf ++ r.tail) → d ≡ front ++ r.rest → Steps room DataEnd b s d
    go (c ∷ front) count e de = absurd (omega arith)
    go [] count e de =
        let whole : b ∷ s ≡ 13 ∷ (10 ∷ r.tail) = e in
        let here : b ≡ 13 = cc in
        let later : s ≡ 10 ∷ r.tail = cc in
        steps_at room DataEnd DataLf b s d d refl refl (ap (place_after room DataEnd) here)
        (record { tail = r.tail; bytes_are = later; follows = subst (λ (l : List ℕ). IsBody r.tail l) (sym de) r.follows })

-- a byte of a trailer line
trailer_text : (room total : ℕ) (filled : Bool) (b : ℕ) → IsText b → total < 8192 → place_after room (Trailer total filled) b ≡ Trailer (total + 1) true
trailer_text room total filled b text few =
    cond-false _ _ _ (text_no_cr b text) ∙ cond-true _ _ _ (and_from (is_text b) (ltb total 8192) text (lt-ltb total 8192 few))

lines_forth : (room total b : ℕ) (s d : List ℕ) → IsLines total (b ∷ s) d → Steps room (Trailer total false) b s d
lines_forth room total b s d r = go r.lines r.each r.short r.bytes_are
  where
    go : (lines : List (List ℕ)) → All IsTrailer lines → total + sum_by length lines ≤ max total 8192 → b ∷ s ≡ flat_map with_crlf lines ++ crlf
        → Steps room (Trailer total false) b s d
    go [] each short e =
        let whole : b ∷ s ≡ 13 ∷ (10 ∷ []) = e in
        let here : b ≡ 13 = cc in
        let later : s ≡ 10 ∷ [] = cc in
        steps_at room (Trailer total false) (TrailerEnd total false) b s d d refl refl (ap (place_after room (Trailer total false)) here)
        (record { tail = []; bytes_are = later; follows = (refl, r.none) })
    go ([] ∷ lines) each short e = absurd (omega (arith, (All-head IsTrailer [] lines each).some))
    go ((c ∷ line) ∷ lines) each short e =
        let trailer = All-head IsTrailer (c ∷ line) lines each in
        let text = All-head IsText c line trailer.text in
        let sums = sum_by-cons length (c ∷ line) lines in
        let whole : b ∷ s ≡ c ∷ ((line ++ crlf) ++ flat_map with_crlf lines ++ crlf) = e in
        let here : b ≡ c = cc in
        let later : s ≡ (line ++ crlf) ++ flat_map with_crlf lines ++ crlf = cc in
        steps_at room (Trailer total false) (Trailer (total + 1) true) b s d d refl refl
        (ap (place_after room (Trailer total false)) here ∙ trailer_text room total false c text (omega arith))
        (record {
          line = line;
          tail = flat_map with_crlf lines ++ crlf;
          end = total + suc (length line);
          text = All-tail IsText c line trailer.text;
          end_is = omega arith;
          bytes_are = later ∙ joined_line line (flat_map with_crlf lines);
          short = omega arith;
          follows = record { lines = lines; each = All-tail IsTrailer (c ∷ line) lines each; short = omega arith; bytes_are = refl; none = r.none };
        })

in_line_forth : (room total b : ℕ) (s d : List ℕ) → IsInLine total (b ∷ s) d → Steps room (Trailer total true) b s d
in_line_forth room total b s d r = go r.line r.text r.end_is r.bytes_are
  where
    go : (line : List ℕ) → All IsText line → r.end ≡ total + length line → b ∷ s ≡ line ++ (crlf ++ r.tail) → Steps room (Trailer total true) b s d
    go [] text end e =
        let whole : b ∷ s ≡ 13 ∷ (10 ∷ r.tail) = e in
        let here : b ≡ 13 = cc in
        let later : s ≡ 10 ∷ r.tail = cc in
        let same : r.end ≡ total = omega arith in
        steps_at room (Trailer total true) (TrailerEnd total true) b s d d refl refl (ap (place_after room (Trailer total true)) here)
        (record { tail = r.tail; bytes_are = later; follows = subst (λ (n : ℕ). IsLines n r.tail d) same r.follows })
    go (c ∷ line) text end e =
        let whole : b ∷ s ≡ c ∷ (line ++ (crlf ++ r.tail)) = e in
        let here : b ≡ c = cc in
        let later : s ≡ line ++ (crlf ++ r.tail) = cc in
        let short = r.short in
        steps_at room (Trailer total true) (Trailer (total + 1) true) b s d d refl refl
        (ap (place_after room (Trailer total true)) here ∙ trailer_text room total true c (All-head IsText c line text) (omega arith))
        (record {
          line = line;
          tail = r.tail;
          end = r.end;
          text = All-tail IsText c line text;
          end_is = omega arith;
          bytes_are = later;
          short = omega arith;
          follows = r.follows;
        })

trailer_forth : (room total : ℕ) (filled : Bool) (b : ℕ) (s d : List ℕ) → RestOfTrailers filled total (b ∷ s) d → Steps room (Trailer total filled) b s d
trailer_forth room total true b s d r = in_line_forth room total b s d r
trailer_forth room total false b s d r = lines_forth room total b s d r

after_trailer_line_forth : (total : ℕ) (filled : Bool) (s d : List ℕ) → AfterTrailerLine filled total s d → Rest (after_trailer_line total filled) s d
after_trailer_line_forth total true s d r = r
after_trailer_line_forth total false s d r = r

-- what may follow at a place begins with a byte that may stand there
pub rest_forth : (room : ℕ) (place : Place) (b : ℕ) (s d : List ℕ) → length d ≤ room → Rest place (b ∷ s) d → Steps room place b s d
rest_forth room (Size digits size) b s d fits r = size_forth room digits size b s d fits r
rest_forth room (Extension size count) b s d fits r = extension_forth room size count b s d r
rest_forth room (SizeEnd size) b s d fits r =
    lf_forth (AfterLine size) room (SizeEnd size) (after_line size) b s d refl refl refl (after_line_forth size) r
rest_forth room (Data left) b s d fits r = in_data_forth room left b s d r
rest_forth room DataEnd b s d fits r = data_end_forth room b s d r
rest_forth room DataLf b s d fits r = lf_forth IsBody room DataLf (Size 0 0) b s d refl refl refl body_forth r
rest_forth room (Trailer total filled) b s d fits r = trailer_forth room total filled b s d r
rest_forth room (TrailerEnd total filled) b s d fits r =
    lf_forth (AfterTrailerLine filled total) room (TrailerEnd total filled) (after_trailer_line total filled) b s d refl refl refl
    (after_trailer_line_forth total filled) r
rest_forth room End b s d fits r = absurd (cc (r.0))
rest_forth room (Bad cause) b s d fits r = absurd r

-- nothing is left behind the body alone
ends_with_crlf : (xs ys : List ℕ) → [] ≡ xs ++ (13 ∷ ys) → ⊥
ends_with_crlf xs ys e = omega (arith, ap length e, length-append xs (13 ∷ ys))

pub rest_none : (place : Place) (d : List ℕ) → Rest place [] d → (place ≡ End) × (d ≡ [])
rest_none (Size digits size) d r = absurd (omega (arith, ap length r.bytes_are, length-append r.more (r.extension ++ (crlf ++ r.tail)), length-append r.extension (crlf ++ r.tail)))
rest_none (Extension size count) d r = absurd (ends_with_crlf r.more (10 ∷ r.tail) r.bytes_are)
rest_none (SizeEnd size) d r = absurd (cc (r.bytes_are))
rest_none (Data left) d r = absurd (ends_with_crlf r.front (10 ∷ r.tail) r.bytes_are)
rest_none DataEnd d r = absurd (ends_with_crlf r.front (10 ∷ r.tail) r.bytes_are)
rest_none DataLf d r = absurd (cc (r.bytes_are))
rest_none (Trailer total true) d r = absurd (ends_with_crlf r.line (10 ∷ r.tail) r.bytes_are)
rest_none (Trailer total false) d r = absurd (ends_with_crlf (flat_map with_crlf r.lines) (10 ∷ []) r.bytes_are)
rest_none (TrailerEnd total filled) d r = absurd (cc (r.bytes_are))
rest_none End d r = (refl, r.1)
rest_none (Bad cause) d r = absurd r
