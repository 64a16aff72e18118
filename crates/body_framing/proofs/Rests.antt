-- What may follow at each place of a chunked body.
use Rattle.std.proofs.Common.{◌≡◌, ℕ, zero, suc, ◌+◌, ◌*◌, ◌<◌, ◌≤◌, Bool, true, false, cond, eqb, ltb, leb, List, [], ◌∷◌, ◌++◌, length, All, sum_by, refl, sym, ap, ◌∙◌, arith, subst, append_assoc, inl, inr, max}
use Rattle.std.specs.Prelude.{◌⊎◌, ◌&&◌}
use Rattle.std.specs.List.{flat_map, fold}
use Rattle.std.specs.Char.{digit_value, is_ascii_hexdigit}
use Rattle.std.proofs.lemmas.List.Sums.{sum_by-cons}
use Rattle.std.proofs.lemmas.Bool.{eqb-true, ltb-true, and_parts}
use Rattle.std.proofs.lemmas.List.Elements.{All-cons, All-nil}
use Rattle.host_base.specs.declared.cause.Cause.TheVariants.{BadChunk}
use Rattle.body_framing.specs.declared.place.Place.{Place}
use Rattle.body_framing.specs.declared.place.Place.TheVariants.{Size, Extension, SizeEnd, Data, DataEnd, DataLf, Trailer, TrailerEnd, End, Bad}
use Rattle.body_framing.specs.Places.{is_text, is_extension_start, after_line, after_data, after_trailer_line, place_after, is_data, is_done}
use Rattle.body_framing.specs.Chunked.{crlf, with_crlf, IsHex, IsText, IsExtension, IsSizeLine, Chunk, IsChunk, IsTrailer, chunk_bytes, data_of, with_digit}

-- a chunked body of whatever length
pub record IsBody (bytes decoded : List ℕ) : Type 0 where
  pub chunks : List Chunk
  pub last : List ℕ
  pub trailers : List (List ℕ)
  pub each : All IsChunk chunks
  pub ends : IsSizeLine last 0
  pub lines : All IsTrailer trailers
  pub short : sum_by length trailers ≤ 8192
  pub bytes_are : bytes ≡ flat_map chunk_bytes chunks ++ (last ++ (flat_map with_crlf trailers ++ crlf))
  pub decoded_is : decoded ≡ flat_map data_of chunks

-- trailer lines, and the empty line behind them
pub record IsLines (total : ℕ) (bytes decoded : List ℕ) : Type 0 where
  pub lines : List (List ℕ)
  pub each : All IsTrailer lines
  pub short : total + sum_by length lines ≤ max total 8192
  pub bytes_are : bytes ≡ flat_map with_crlf lines ++ crlf
  pub none : decoded ≡ []

-- the rest of a trailer line, and what follows it
pub record IsInLine (total : ℕ) (bytes decoded : List ℕ) : Type 0 where
  pub line : List ℕ
  pub tail : List ℕ
  pub end : ℕ
  pub text : All IsText line
  pub end_is : end ≡ total + length line
  pub bytes_are : bytes ≡ line ++ (crlf ++ tail)
  pub short : end + 0 ≤ max total 8192
  pub follows : IsLines end tail decoded

abbrev pub RestOfTrailers : Bool → ℕ → List ℕ → List ℕ → Type 0
RestOfTrailers true total bytes decoded = IsInLine total bytes decoded
RestOfTrailers false total bytes decoded = IsLines total bytes decoded

-- the data of a chunk, and what follows it
pub record IsInData (count : ℕ) (bytes decoded : List ℕ) : Type 0 where
  pub front : List ℕ
  pub tail : List ℕ
  pub rest : List ℕ
  pub count_is : length front ≡ count
  pub bytes_are : bytes ≡ front ++ (crlf ++ tail)
  pub decoded_is : decoded ≡ front ++ rest
  pub follows : IsBody tail rest

-- what follows a size line
abbrev pub AfterLine : ℕ → List ℕ → List ℕ → Type 0
AfterLine zero bytes decoded = IsLines 0 bytes decoded
AfterLine (suc left) bytes decoded = IsInData (suc left) bytes decoded

-- the rest of a size line from its digits on, and what follows it
pub record IsInSize (digits size : ℕ) (bytes decoded : List ℕ) : Type 0 where
  pub more : List ℕ
  pub extension : List ℕ
  pub tail : List ℕ
  pub hex : All IsHex more
  pub some : 0 < digits + length more
  pub few : digits + length more ≤ max digits 16
  pub extends : IsExtension extension
  pub bytes_are : bytes ≡ more ++ (extension ++ (crlf ++ tail))
  pub follows : AfterLine (fold with_digit size more) tail decoded

-- the rest of a size line from within its extension on, and what follows it
pub record IsInExtension (size count : ℕ) (bytes decoded : List ℕ) : Type 0 where
  pub more : List ℕ
  pub tail : List ℕ
  pub text : All IsText more
  pub few : count + length more ≤ max count 256
  pub bytes_are : bytes ≡ more ++ (crlf ++ tail)
  pub follows : AfterLine size tail decoded

-- an LF, and what follows it
pub record IsAtLf (P : List ℕ → List ℕ → Type 0) (bytes decoded : List ℕ) : Type 0 where
  pub tail : List ℕ
  pub bytes_are : bytes ≡ 10 ∷ tail
  pub follows : P tail decoded

abbrev pub IsNothing : List ℕ → List ℕ → Type 0
IsNothing bytes decoded = (bytes ≡ []) × (decoded ≡ [])

abbrev pub AfterTrailerLine : Bool → ℕ → List ℕ → List ℕ → Type 0
AfterTrailerLine true total bytes decoded = IsLines total bytes decoded
AfterTrailerLine false total bytes decoded = IsNothing bytes decoded

-- what may follow at a place, and the data that it is
abbrev pub Rest : Place → List ℕ → List ℕ → Type 0
Rest (Size digits size) bytes decoded = IsInSize digits size bytes decoded
Rest (Extension size count) bytes decoded = IsInExtension size count bytes decoded
Rest (SizeEnd size) bytes decoded = IsAtLf (AfterLine size) bytes decoded
Rest (Data left) bytes decoded = IsInData (suc left) bytes decoded
Rest DataEnd bytes decoded = IsInData 0 bytes decoded
Rest DataLf bytes decoded = IsAtLf IsBody bytes decoded
Rest (Trailer total filled) bytes decoded = RestOfTrailers filled total bytes decoded
Rest (TrailerEnd total filled) bytes decoded = IsAtLf (AfterTrailerLine filled total) bytes decoded
Rest End bytes decoded = IsNothing bytes decoded
Rest (Bad cause) bytes decoded = ⊥

-- ---- a step back: what may follow a byte makes, with it, what may follow at its place

at_cond : (b : Bool) (p q : Place) (s d : List ℕ) → Rest (cond b p q) s d → ((b ≡ true) × Rest p s d) ⊎ ((b ≡ false) × Rest q s d)
at_cond true p q s d r = inl (refl, r)
at_cond false p q s d r = inr (refl, r)

size_end_back : (digits size : ℕ) (s d : List ℕ) → 0 < digits → IsAtLf (AfterLine size) s d → IsInSize digits size (13 ∷ s) d
size_end_back digits size s d some r = record {
  more = [];
  extension = [];
  tail = r.tail;
  hex = All-nil IsHex;
  some = omega arith;
  few = omega arith;
  extends = tt;
  bytes_are = ap (λ (l : List ℕ). 13 ∷ l) r.bytes_are;
  follows = r.follows;
}

size_extension_back : (digits size b : ℕ) (s d : List ℕ) → 0 < digits → is_extension_start b ≡ true → IsInExtension size 1 s d → IsInSize digits size (b ∷ s) d
size_extension_back digits size b s d some start r = record {
  more = [];
  extension = b ∷ r.more;
  tail = r.tail;
  hex = All-nil IsHex;
  some = omega arith;
  few = omega arith;
  extends = (start, r.text, omega (arith, r.few));
  bytes_are = ap (λ (l : List ℕ). b ∷ l) r.bytes_are;
  follows = r.follows;
}

size_digit_back : (digits size b : ℕ) (s d : List ℕ) → digits < 16 → IsHex b → IsInSize (digits + 1) (with_digit size b) s d → IsInSize digits size (b ∷ s) d
size_digit_back digits size b s d few hex r = record {
  more = b ∷ r.more;
  extension = r.extension;
  tail = r.tail;
  hex = All-cons IsHex b r.more hex r.hex;
  some = omega arith;
  few = omega (arith, r.few);
  extends = r.extends;
  bytes_are = ap (λ (l : List ℕ). b ∷ l) r.bytes_are;
  follows = r.follows;
}

size_back : (room digits size b : ℕ) (s d : List ℕ) → Rest (place_after room (Size digits size) b) s d → IsInSize digits size (b ∷ s) d
size_back room digits size b s d h =
    elim (at_cond (is_ascii_hexdigit b) _ _ s d h) [
      | inl hex ↦
          elim (at_cond (ltb digits 16) _ _ s d hex.1) [
            | inl few ↦
                elim (at_cond (leb (size * 16 + digit_value b) room) _ _ s d few.1) [
                  | inl fits ↦ size_digit_back digits size b s d (ltb-true digits 16 few.0) hex.0 fits.1
                  | inr over ↦ absurd over.1
                ]
            | inr many ↦ absurd many.1
          ]
      | inr other ↦
          elim (at_cond (ltb 0 digits) _ _ s d other.1) [
            | inl some ↦
                elim (at_cond (eqb b 13) _ _ s d some.1) [
                  | inl cr ↦
                      let r = size_end_back digits size s d (ltb-true 0 digits some.0) cr.1 in
                      subst (λ (c : ℕ). IsInSize digits size (c ∷ s) d) (sym (eqb-true b 13 cr.0)) r
                  | inr plain ↦
                      elim (at_cond (is_extension_start b) _ _ s d plain.1) [
                        | inl start ↦ size_extension_back digits size b s d (ltb-true 0 digits some.0) start.0 start.1
                        | inr none ↦ absurd none.1
                      ]
                ]
            | inr none ↦ absurd none.1
          ]
    ]

extension_back : (room size count b : ℕ) (s d : List ℕ) → Rest (place_after room (Extension size count) b) s d → IsInExtension size count (b ∷ s) d
extension_back room size count b s d h =
    elim (at_cond (eqb b 13) _ _ s d h) [
      | inl cr ↦
          record {
            more = [];
            tail = cr.1.tail;
            text = All-nil IsText;
            few = omega arith;
            bytes_are = λ i. eqb-true b 13 cr.0 i ∷ cr.1.bytes_are i;
            follows = cr.1.follows;
          }
      | inr plain ↦
          elim (at_cond (is_text b && ltb count 256) _ _ s d plain.1) [
            | inl text ↦
                let parts = and_parts (is_text b) (ltb count 256) text.0 in
                let few = ltb-true count 256 parts.1 in
                record {
                  more = b ∷ text.1.more;
                  tail = text.1.tail;
                  text = All-cons IsText b text.1.more parts.0 text.1.text;
                  few = omega (arith, text.1.few);
                  bytes_are = ap (λ (l : List ℕ). b ∷ l) text.1.bytes_are;
                  follows = text.1.follows;
                }
            | inr none ↦ absurd none.1
          ]
    ]

after_line_back : (size : ℕ) (s d : List ℕ) → Rest (after_line size) s d → AfterLine size s d
after_line_back zero s d r = r
after_line_back (suc left) s d r = r

data_back : (left : ℕ) (s d : List ℕ) → Rest (after_data left) s d → IsInData left s d
data_back zero s d r = r
data_back (suc left) s d r = r

abbrev pub line_of : List ℕ → List ℕ → List ℕ
line_of digits extension = digits ++ (extension ++ crlf)

pub joined_last : (digits extension flat : List ℕ) → line_of digits extension ++ (flat ++ crlf) ≡ digits ++ (extension ++ (crlf ++ (flat ++ crlf)))
joined_last digits extension flat = simp append_assoc

pub joined_chunk : (digits extension front flat rest : List ℕ)
    → line_of digits extension ++ (front ++ crlf) ++ flat ++ rest ≡ digits ++ (extension ++ (crlf ++ (front ++ (crlf ++ (flat ++ rest)))))
joined_chunk digits extension front flat rest = simp append_assoc

pub joined_line : (line flat : List ℕ) → (line ++ crlf) ++ flat ++ crlf ≡ line ++ (crlf ++ (flat ++ crlf))
joined_line line flat = simp append_assoc

-- the digits of a size line begin a body
pub body_back : (s d : List ℕ) → IsInSize 0 0 s d → IsBody s d
body_back s d r = go (fold with_digit 0 r.more) refl r.follows
  where
    sized : (n : ℕ) → n ≡ fold with_digit 0 r.more → IsSizeLine (line_of r.more r.extension) n
    sized n e = record {
      digits = r.more;
      extension = r.extension;
      some = omega (arith, r.some);
      few = omega (arith, r.few);
      hex = r.hex;
      extends = r.extends;
      line_is = refl;
      size_is = e;
    }

    go : (n : ℕ) → fold with_digit 0 r.more ≡ n → AfterLine n r.tail d → IsBody s d
    go zero e f = record {
      chunks = [];
      last = line_of r.more r.extension;
      trailers = f.lines;
      each = All-nil IsChunk;
      ends = sized 0 (sym e);
      lines = f.each;
      short = omega (arith, f.short);
      bytes_are = r.bytes_are ∙ ap (λ (l : List ℕ). r.more ++ (r.extension ++ (crlf ++ l))) f.bytes_are
          ∙ sym (joined_last r.more r.extension (flat_map with_crlf f.lines));
      decoded_is = f.none;
    }
    go (suc left) e f = record {
      chunks = record { line = line_of r.more r.extension; data_bytes = f.front } ∷ f.follows.chunks;
      last = f.follows.last;
      trailers = f.follows.trailers;
      each = All-cons IsChunk _ f.follows.chunks (record { some = omega (arith, f.count_is); sized = sized (length f.front) (f.count_is ∙ sym e) }) f.follows.each;
      ends = f.follows.ends;
      lines = f.follows.lines;
      short = f.follows.short;
      bytes_are = r.bytes_are
          ∙ ap (λ (l : List ℕ). r.more ++ (r.extension ++ (crlf ++ l))) (f.bytes_are ∙ ap (λ (l : List ℕ). f.front ++ (crlf ++ l)) f.follows.bytes_are)
          ∙ sym (joined_chunk r.more r.extension f.front (flat_map chunk_bytes f.follows.chunks) (f.follows.last ++ (flat_map with_crlf f.follows.trailers ++ crlf)));
      decoded_is = f.decoded_is ∙ ap (λ (l : List ℕ). f.front ++ l) f.follows.decoded_is;
    }

in_line_back : (total : ℕ) (filled : Bool) (b : ℕ) (s d : List ℕ) → IsText b → total < 8192 → IsInLine (total + 1) s d → RestOfTrailers filled total (b ∷ s) d
in_line_back total true b s d text few r = record {
  line = b ∷ r.line;
  tail = r.tail;
  end = r.end;
  text = All-cons IsText b r.line text r.text;
  end_is = omega (arith, r.end_is);
  bytes_are = ap (λ (l : List ℕ). b ∷ l) r.bytes_are;
  short = omega (arith, r.short);
  follows = r.follows;
}
in_line_back total false b s d text few r = record {
  lines = (b ∷ r.line) ∷ r.follows.lines;
  each = All-cons IsTrailer (b ∷ r.line) r.follows.lines (record { some = omega arith; text = All-cons IsText b r.line text r.text }) r.follows.each;
  short = omega (arith, sum_by-cons length (b ∷ r.line) r.follows.lines, r.follows.short, r.end_is, r.short);
  bytes_are = ap (λ (l : List ℕ). b ∷ l) (r.bytes_are ∙ ap (λ (l : List ℕ). r.line ++ (crlf ++ l)) r.follows.bytes_are ∙ sym (joined_line r.line (flat_map with_crlf r.follows.lines)));
  none = r.follows.none;
}

trailer_end_back : (total : ℕ) (filled : Bool) (s d : List ℕ) → IsAtLf (AfterTrailerLine filled total) s d → RestOfTrailers filled total (13 ∷ s) d
trailer_end_back total true s d r = record {
  line = [];
  tail = r.tail;
  end = total;
  text = All-nil IsText;
  end_is = omega arith;
  bytes_are = ap (λ (l : List ℕ). 13 ∷ l) r.bytes_are;
  short = omega arith;
  follows = r.follows;
}
trailer_end_back total false s d r = record {
  lines = [];
  each = All-nil IsTrailer;
  short = omega arith;
  bytes_are = ap (λ (l : List ℕ). 13 ∷ l) (r.bytes_are ∙ ap (λ (l : List ℕ). 10 ∷ l) r.follows.0);
  none = r.follows.1;
}

trailer_back : (room total : ℕ) (filled : Bool) (b : ℕ) (s d : List ℕ) → Rest (place_after room (Trailer total filled) b) s d
    → RestOfTrailers filled total (b ∷ s) d
trailer_back room total filled b s d h =
    elim (at_cond (eqb b 13) _ _ s d h) [
      | inl cr ↦
          let r = trailer_end_back total filled s d cr.1 in
          subst (λ (c : ℕ). RestOfTrailers filled total (c ∷ s) d) (sym (eqb-true b 13 cr.0)) r
      | inr plain ↦
          elim (at_cond (is_text b && ltb total 8192) _ _ s d plain.1) [
            | inl text ↦
                let parts = and_parts (is_text b) (ltb total 8192) text.0 in
                in_line_back total filled b s d parts.0 (ltb-true total 8192 parts.1) text.1
            | inr none ↦ absurd none.1
          ]
    ]

after_trailer_line_back : (total : ℕ) (filled : Bool) (s d : List ℕ) → Rest (after_trailer_line total filled) s d → AfterTrailerLine filled total s d
after_trailer_line_back total true s d r = r
after_trailer_line_back total false s d r = r

-- at an LF
lf_back : (P : List ℕ → List ℕ → Type 0) (place : Place) (b : ℕ) (s d : List ℕ) → ((s d : List ℕ) → Rest place s d → P s d)
    → Rest (cond (eqb b 10) place (Bad BadChunk)) s d → IsAtLf P (b ∷ s) d
lf_back P place b s d goes h =
    elim (at_cond (eqb b 10) _ _ s d h) [
      | inl here ↦ record { tail = s; bytes_are = ap (λ (c : ℕ). c ∷ s) (eqb-true b 10 here.0); follows = goes s d here.1 }
      | inr none ↦ absurd none.1
    ]

data_end_back : (b : ℕ) (s d : List ℕ) → Rest (cond (eqb b 13) DataLf (Bad BadChunk)) s d → IsInData 0 (b ∷ s) d
data_end_back b s d h =
    elim (at_cond (eqb b 13) _ _ s d h) [
      | inl here ↦
          record {
            front = [];
            tail = here.1.tail;
            rest = d;
            count_is = refl;
            bytes_are = λ i. eqb-true b 13 here.0 i ∷ here.1.bytes_are i;
            decoded_is = refl;
            follows = here.1.follows;
          }
      | inr none ↦ absurd none.1
    ]

in_data_back : (left b : ℕ) (s d : List ℕ) → IsInData left s d → IsInData (suc left) (b ∷ s) (b ∷ d)
in_data_back left b s d r = record {
  front = b ∷ r.front;
  tail = r.tail;
  rest = r.rest;
  count_is = ap suc r.count_is;
  bytes_are = ap (λ (l : List ℕ). b ∷ l) r.bytes_are;
  decoded_is = ap (λ (l : List ℕ). b ∷ l) r.decoded_is;
  follows = r.follows;
}

-- what may follow a byte makes, with it, what may follow at its place
pub rest_back : (room : ℕ) (place : Place) (b : ℕ) (s d : List ℕ) → is_done place ≡ false → Rest (place_after room place b) s d
    → Rest place (b ∷ s) (cond (is_data place) (b ∷ d) d)
rest_back room (Size digits size) b s d going h = size_back room digits size b s d h
rest_back room (Extension size count) b s d going h = extension_back room size count b s d h
rest_back room (SizeEnd size) b s d going h = lf_back (AfterLine size) (after_line size) b s d (after_line_back size) h
rest_back room (Data left) b s d going h = in_data_back left b s d (data_back left s d h)
rest_back room DataEnd b s d going h = data_end_back b s d h
rest_back room DataLf b s d going h = lf_back IsBody (Size 0 0) b s d body_back h
rest_back room (Trailer total filled) b s d going h = trailer_back room total filled b s d h
rest_back room (TrailerEnd total filled) b s d going h =
    lf_back (AfterTrailerLine filled total) (after_trailer_line total filled) b s d (after_trailer_line_back total filled) h
rest_back room End b s d going h = absurd (cc)
rest_back room (Bad cause) b s d going h = absurd (cc)
