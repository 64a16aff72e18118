-- The reading of bodies in chunks is the grammar.
use Rattle.std.proofs.Common.{◌≡◌, ◌≢◌, ℕ, zero, suc, ◌+◌, ◌-◌, ◌*◌, ◌≤◌, Bool, true, false, cond, eqb, ltb, leb, List, [], ◌∷◌, ◌++◌, length, take, drop, replicate, refl, sym, ap, ◌∙◌, arith, subst, append_assoc, append-nil, length-append, inl, inr, add-one}
use Rattle.std.specs.Prelude.{◌&&◌}
use Rattle.std.specs.Char.{digit_value, is_ascii_hexdigit}
use Rattle.std.proofs.lemmas.List.{length-take-le, take-append-drop, length-replicate, take_at}
use Rattle.std.proofs.lemmas.List.Elements.{All-nil, All-cons}
use Rattle.std.proofs.lemmas.Bool.{cases_Bool, leb-true}
use Rattle.host_base.specs.declared.cause.Cause.{Cause}
use Rattle.body_framing.specs.declared.place.Place.{Place}
use Rattle.body_framing.specs.declared.place.Place.TheVariants.{Size, Extension, SizeEnd, Data, DataEnd, DataLf, Trailer, TrailerEnd, End, Bad}
use Rattle.body_framing.specs.Places.{is_text, is_extension_start, after_other, after_line, after_data, after_trailer_line, place_after, is_data, is_done}
use Rattle.body_framing.specs.Chunked.{crlf, IsHex, IsText, IsTrailer, IsChunkedBody, Standing, after, after_all, at_start, standing_after, read_len, read_chunked, reading_at, ended, unended, refused}
use Rattle.body_framing.specs.ChunkLaws.{BodiesAreRead, BodiesAreUnique, UnendedGoOn, ReadingsStay}
use Rattle.body_framing.proofs.Runs.{standing, after_all-done, after_all-append, read_len-append, read_len-done, read_len-le, read_len-going}
use Rattle.body_framing.proofs.Rests.{IsBody, IsLines, IsInData, IsInSize, AfterLine, Rest, rest_back, body_back}
use Rattle.body_framing.proofs.Steps.{rest_forth, rest_none, body_forth}

-- ---- from what was read to what may follow

data_before : (t : Bool) (b : ℕ) (e d : List ℕ) → cond t (b ∷ (e ++ d)) (e ++ d) ≡ cond t (b ∷ e) e ++ d
data_before true b e d = refl
data_before false b e d = refl

data_behind : (t : Bool) (b : ℕ) (k e : List ℕ) → cond t (k ++ b ∷ []) k ++ e ≡ k ++ cond t (b ∷ e) e
data_behind true b k e = append_assoc k (b ∷ []) e
data_behind false b k e = refl

-- the data that bytes were read as, and what may follow at their start
pub record WasRead (s : Standing) (bytes more d : List ℕ) : Type 0 where
  pub read : List ℕ
  pub decoded_is : (after_all s bytes).decoded ≡ s.decoded ++ read
  pub rest : Rest s.place (bytes ++ more) (read ++ d)

pub was_read : (s : Standing) (bytes more d : List ℕ) → read_len s bytes ≡ length bytes → Rest (after_all s bytes).place more d → WasRead s bytes more d
unfolding after
was_read s [] more d all r = record { read = []; decoded_is = sym (append-nil s.decoded); rest = r }
was_read s (b ∷ bytes) more d all r =
    elim (cases_Bool (is_done s.place)) [
      | inl done ↦ let none = read_len-done s (b ∷ bytes) done in absurd (omega arith)
      | inr going ↦
          let here = ap (λ (x : Bool). cond x 0 (suc (read_len (after s b) bytes))) going in
          let later = was_read (after s b) bytes more d (omega arith) r in
          record {
            read = cond (is_data s.place) (b ∷ later.read) later.read;
            decoded_is = later.decoded_is ∙ data_behind (is_data s.place) b s.decoded later.read;
            rest = subst (λ (l : List ℕ). Rest s.place (b ∷ (bytes ++ more)) l) (data_before (is_data s.place) b later.read d)
                (rest_back (s.limit - length s.decoded) s.place b (bytes ++ more) (later.read ++ d) going later.rest);
          }
    ]

-- ---- from what may follow to what is read

length_data : (t : Bool) (b limit : ℕ) (k d d' : List ℕ) → d ≡ cond t (b ∷ d') d' → length k + length d ≤ limit → length (cond t (k ++ b ∷ []) k) + length d' ≤ limit
length_data true b limit k d d' is fits = omega (arith, ap length is, length-append k (b ∷ []))
length_data false b limit k d d' is fits = omega (arith, ap length is)

pub rest_runs : (s : Standing) (bytes d : List ℕ) → length s.decoded + length d ≤ s.limit → Rest s.place bytes d
    → (after_all s bytes ≡ standing s.limit End (s.decoded ++ d)) × (read_len s bytes ≡ length bytes)
unfolding after
rest_runs s [] d fits r =
    let none = rest_none s.place d r in
    (λ i. standing s.limit (none.0 i) ((sym (append-nil s.decoded) ∙ ap (λ (l : List ℕ). s.decoded ++ l) (sym none.1)) i), refl)
rest_runs s (b ∷ bytes) d fits r =
    let st = rest_forth (s.limit - length s.decoded) s.place b bytes d (omega arith) r in
    let later = rest_runs (after s b) bytes st.decoded (length_data (is_data s.place) b s.limit s.decoded d st.decoded st.decoded_is fits) st.follows in (
      later.0 ∙ ap (λ (l : List ℕ). standing s.limit End l) (data_behind (is_data s.place) b s.decoded st.decoded ∙ ap (λ (l : List ℕ). s.decoded ++ l) (sym st.decoded_is)),
      ap (λ (x : Bool). cond x 0 (suc (read_len (after s b) bytes))) st.going ∙ ap suc later.1,
    )

-- ---- bodies

body_within : (limit : ℕ) (bytes d : List ℕ) → IsBody bytes d → length d ≤ limit → IsChunkedBody limit bytes d
body_within limit bytes d r fits = record {
  chunks = r.chunks;
  last = r.last;
  trailers = r.trailers;
  each = r.each;
  ends = r.ends;
  lines = r.lines;
  short = r.short;
  bytes_are = r.bytes_are;
  decoded_is = r.decoded_is;
  within = fits;
}

some_body : (limit : ℕ) (bytes d : List ℕ) → IsChunkedBody limit bytes d → IsBody bytes d
some_body limit bytes d r = record {
  chunks = r.chunks;
  last = r.last;
  trailers = r.trailers;
  each = r.each;
  ends = r.ends;
  lines = r.lines;
  short = r.short;
  bytes_are = r.bytes_are;
  decoded_is = r.decoded_is;
}

-- a body is read, whatever follows it
pub body_read : (limit : ℕ) (bytes rest d : List ℕ) → IsChunkedBody limit bytes d → read_chunked limit (bytes ++ rest) ≡ ended d (length bytes)
unfolding read_chunked
body_read limit bytes rest d r =
    let runs = rest_runs (at_start limit) bytes d (omega (arith, r.within)) (body_forth bytes d (some_body limit bytes d r)) in
    let done : is_done (after_all (at_start limit) bytes).place ≡ true = ap (λ (t : Standing). is_done t.place) runs.0 in
    let whole : standing_after limit (bytes ++ rest) ≡ standing limit End d =
    after_all-append (at_start limit) bytes rest ∙ after_all-done (after_all (at_start limit) bytes) rest done ∙ runs.0 in
    let lens : read_len (at_start limit) (bytes ++ rest) ≡ length bytes =
    omega (arith, read_len-append (at_start limit) bytes rest, runs.1, read_len-done (after_all (at_start limit) bytes) rest done) in
    λ i. reading_at (whole i).place (whole i).decoded (lens i)

-- ---- the room for data

-- bytes of data that a place asks for
abbrev pending : Place → ℕ
pending (Size zero size) = size * 16
pending (Size (suc n) size) = size
pending (Extension size count) = size
pending (SizeEnd size) = size
pending (Data left) = suc left
pending DataEnd = 0
pending DataLf = 0
pending (Trailer total filled) = 0
pending (TrailerEnd total filled) = 0
pending End = 0
pending (Bad cause) = 0

pending_cond : (b : Bool) (p q : Place) (n : ℕ) → (b ≡ true → pending p ≤ n) → (b ≡ false → pending q ≤ n) → pending (cond b p q) ≤ n
pending_cond true p q n first second = first refl
pending_cond false p q n first second = second refl

pending_line : (size n : ℕ) → size ≤ n → pending (after_line size) ≤ n
pending_line zero n fits = omega arith
pending_line (suc left) n fits = fits

pending_data : (left : ℕ) → pending (after_data left) ≤ left
pending_data zero = omega arith
pending_data (suc left) = omega arith

pending_trailer_line : (total : ℕ) (filled : Bool) (n : ℕ) → pending (after_trailer_line total filled) ≤ n
pending_trailer_line total true n = omega arith
pending_trailer_line total false n = omega arith

pending_size : (digits size room : ℕ) → size ≤ room → pending (Size (digits + 1) size) ≤ room
pending_size digits size room within = subst (λ (n : ℕ). pending (Size n size) ≤ room) (sym (add-one digits)) within

at_least : (digits size room : ℕ) → pending (Size digits size) ≤ room → size ≤ room
at_least zero size room fits = omega arith
at_least (suc n) size room fits = fits

pending_other : (digits size b room : ℕ) → size ≤ room → pending (after_other digits size b) ≤ room
pending_other digits size b room within =
    pending_cond (ltb 0 digits) _ _ room
    (λ some. pending_cond (eqb b 13) _ _ room (λ cr. within) (λ plain. pending_cond (is_extension_start b) _ _ room (λ start. within) (λ none. omega arith)))
    (λ none. omega arith)

-- the bytes that are asked for have room behind a byte that is none of the data
next_fits : (room : ℕ) (place : Place) (b : ℕ) → is_data place ≡ false → pending place ≤ room → pending (place_after room place b) ≤ room
next_fits room (Size digits size) b plain fits =
    pending_cond (is_ascii_hexdigit b) _ _ room
    (λ hex. pending_cond (ltb digits 16) _ _ room
    (λ few. pending_cond (leb (size * 16 + digit_value b) room) _ _ room
    (λ within. pending_size digits (size * 16 + digit_value b) room (leb-true (size * 16 + digit_value b) room within)) (λ over. omega arith))
    (λ many. omega arith))
    (λ other. pending_other digits size b room (at_least digits size room fits))
next_fits room (Extension size count) b plain fits =
    pending_cond (eqb b 13) _ _ room (λ cr. fits)
    (λ plain. pending_cond (is_text b && ltb count 256) _ _ room (λ text. fits) (λ none. omega arith))
next_fits room (SizeEnd size) b plain fits = pending_cond (eqb b 10) _ _ room (λ lf. pending_line size room fits) (λ none. omega arith)
next_fits room (Data left) b plain fits = absurd (cc)
next_fits room DataEnd b plain fits = pending_cond (eqb b 13) _ _ room (λ cr. omega arith) (λ none. omega arith)
next_fits room DataLf b plain fits = pending_cond (eqb b 10) _ _ room (λ lf. omega arith) (λ none. omega arith)
next_fits room (Trailer total filled) b plain fits =
    pending_cond (eqb b 13) _ _ room (λ cr. omega arith)
    (λ plain. pending_cond (is_text b && ltb total 8192) _ _ room (λ text. omega arith) (λ none. omega arith))
next_fits room (TrailerEnd total filled) b plain fits =
    pending_cond (eqb b 10) _ _ room (λ lf. pending_trailer_line total filled room) (λ none. omega arith)
next_fits room End b plain fits = omega arith
next_fits room (Bad cause) b plain fits = omega arith

-- the bytes that are asked for have room, and so they do behind the next byte
pending_step : (room : ℕ) (place : Place) (b : ℕ) → pending place ≤ room
    → cond (is_data place) 1 0 + pending (place_after room place b) ≤ room
pending_step room (Data left) b fits = omega (arith, pending_data left)
pending_step room (Size x y) b fits = omega (arith, next_fits room (Size x y) b refl fits)
pending_step room (Extension x y) b fits = omega (arith, next_fits room (Extension x y) b refl fits)
pending_step room (SizeEnd x) b fits = omega (arith, next_fits room (SizeEnd x) b refl fits)
pending_step room DataEnd b fits = omega (arith, next_fits room DataEnd b refl fits)
pending_step room DataLf b fits = omega (arith, next_fits room DataLf b refl fits)
pending_step room (Trailer x y) b fits = omega (arith, next_fits room (Trailer x y) b refl fits)
pending_step room (TrailerEnd x y) b fits = omega (arith, next_fits room (TrailerEnd x y) b refl fits)
pending_step room End b fits = omega arith
pending_step room (Bad cause) b fits = omega arith

length_read : (t : Bool) (b : ℕ) (k : List ℕ) → length (cond t (k ++ b ∷ []) k) ≡ length k + cond t 1 0
length_read true b k = length-append k (b ∷ [])
length_read false b k = omega arith

pub room_kept : (s : Standing) (bytes : List ℕ) → length s.decoded + pending s.place ≤ s.limit
    → length (after_all s bytes).decoded + pending (after_all s bytes).place ≤ s.limit
unfolding after
room_kept s [] fits = fits
room_kept s (b ∷ bytes) fits =
    let step = pending_step (s.limit - length s.decoded) s.place b (omega arith) in
    let len = length_read (is_data s.place) b s.decoded in
    room_kept (after s b) bytes (omega arith)

pub room_at : (limit : ℕ) (bytes : List ℕ) → length (standing_after limit bytes).decoded + pending (standing_after limit bytes).place ≤ limit
room_at limit bytes = room_kept (at_start limit) bytes (omega arith)

-- ---- what each reading says of the place

pub place_ended : (place : Place) (d d' : List ℕ) (n n' : ℕ) → reading_at place d n ≡ ended d' n' → (place ≡ End) × (d ≡ d') × (n ≡ n')
place_ended End d d' n n' e = (refl, cc, cc)
place_ended (Bad cause) d d' n n' e = absurd (cc)
place_ended (Size x y) d d' n n' e = absurd (cc)
place_ended (Extension x y) d d' n n' e = absurd (cc)
place_ended (SizeEnd x) d d' n n' e = absurd (cc)
place_ended (Data x) d d' n n' e = absurd (cc)
place_ended DataEnd d d' n n' e = absurd (cc)
place_ended DataLf d d' n n' e = absurd (cc)
place_ended (Trailer x y) d d' n n' e = absurd (cc)
place_ended (TrailerEnd x y) d d' n n' e = absurd (cc)

pub place_refused : (place : Place) (d : List ℕ) (n : ℕ) (cause : Cause) → reading_at place d n ≡ refused cause → place ≡ Bad cause
place_refused End d n cause e = absurd (cc)
place_refused (Bad other) d n cause e = let same : other ≡ cause = cc in ap (λ (c : Cause). Bad c) same
place_refused (Size x y) d n cause e = absurd (cc)
place_refused (Extension x y) d n cause e = absurd (cc)
place_refused (SizeEnd x) d n cause e = absurd (cc)
place_refused (Data x) d n cause e = absurd (cc)
place_refused DataEnd d n cause e = absurd (cc)
place_refused DataLf d n cause e = absurd (cc)
place_refused (Trailer x y) d n cause e = absurd (cc)
place_refused (TrailerEnd x y) d n cause e = absurd (cc)

pub place_unended : (place : Place) (d d' : List ℕ) (n : ℕ) → reading_at place d n ≡ unended d' → (is_done place ≡ false) × (d ≡ d')
place_unended End d d' n e = absurd (cc)
place_unended (Bad cause) d d' n e = absurd (cc)
place_unended (Size x y) d d' n e = (refl, cc)
place_unended (Extension x y) d d' n e = (refl, cc)
place_unended (SizeEnd x) d d' n e = (refl, cc)
place_unended (Data x) d d' n e = (refl, cc)
place_unended DataEnd d d' n e = (refl, cc)
place_unended DataLf d d' n e = (refl, cc)
place_unended (Trailer x y) d d' n e = (refl, cc)
place_unended (TrailerEnd x y) d d' n e = (refl, cc)

pub going_place : (place : Place) (d : List ℕ) (n : ℕ) → is_done place ≡ false → reading_at place d n ≡ unended d
going_place End d n going = absurd (cc)
going_place (Bad cause) d n going = absurd (cc)
going_place (Size x y) d n going = refl
going_place (Extension x y) d n going = refl
going_place (SizeEnd x) d n going = refl
going_place (Data x) d n going = refl
going_place DataEnd d n going = refl
going_place DataLf d n going = refl
going_place (Trailer x y) d n going = refl
going_place (TrailerEnd x y) d n going = refl

-- ---- the laws

-- the bytes that were read stand alone
pub read_front : (s : Standing) (bytes : List ℕ) → (after_all s (take (read_len s bytes) bytes) ≡ after_all s bytes)
    × (read_len s (take (read_len s bytes) bytes) ≡ read_len s bytes)
read_front s [] = (refl, refl)
read_front s (b ∷ bytes) =
    elim (cases_Bool (is_done s.place)) [
      | inl done ↦
          let none = read_len-done s (b ∷ bytes) done in (
            ap (λ (n : ℕ). after_all s (take n (b ∷ bytes))) none ∙ sym (after_all-done s (b ∷ bytes) done),
            ap (λ (n : ℕ). read_len s (take n (b ∷ bytes))) none ∙ sym none,
          )
      | inr going ↦
          let here : read_len s (b ∷ bytes) ≡ suc (read_len (after s b) bytes) =
          ap (λ (x : Bool). cond x 0 (suc (read_len (after s b) bytes))) going in
          let later = read_front (after s b) bytes in (
            ap (λ (n : ℕ). after_all s (take n (b ∷ bytes))) here ∙ later.0,
            ap (λ (n : ℕ). read_len s (take n (b ∷ bytes))) here
                ∙ ap (λ (x : Bool). cond x 0 (suc (read_len (after s b) (take (read_len (after s b) bytes) bytes)))) going
                ∙ ap suc later.1 ∙ sym here,
          )
    ]

pub bodies_are_read : BodiesAreRead
unfolding read_chunked
bodies_are_read limit used bytes decoded = (there, back)
  where
    there : read_chunked limit bytes ≡ ended decoded used → (used ≤ length bytes) × IsChunkedBody limit (take used bytes) decoded
    there e =
        let s = at_start limit in
        let at = place_ended (standing_after limit bytes).place (standing_after limit bytes).decoded decoded (read_len s bytes) used e in
        let inside : used ≤ length bytes = omega (arith, read_len-le s bytes, at.2) in
        let front = read_front s bytes in
        let cut : take (read_len s bytes) bytes ≡ take used bytes = ap (λ (n : ℕ). take n bytes) at.2 in
        let same : after_all s (take used bytes) ≡ standing_after limit bytes = ap (after_all s) (sym cut) ∙ front.0 in
        let lens : read_len s (take used bytes) ≡ length (take used bytes) =
        ap (read_len s) (sym cut) ∙ front.1 ∙ at.2 ∙ sym (length-take-le used bytes inside) in
        let here : Rest (after_all s (take used bytes)).place [] [] =
        subst (λ (p : Place). Rest p [] []) (sym (ap (λ (t : Standing). t.place) same ∙ at.0)) (refl, refl) in
        let w = was_read s (take used bytes) [] [] lens here in
        let read_is : w.read ≡ decoded = sym w.decoded_is ∙ ap (λ (t : Standing). t.decoded) same ∙ at.1 in
        let whole : IsInSize 0 0 (take used bytes) decoded =
        subst (λ (l : List ℕ). IsInSize 0 0 (take used bytes) l) (append-nil w.read ∙ read_is)
        (subst (λ (l : List ℕ). IsInSize 0 0 l (w.read ++ [])) (append-nil (take used bytes)) w.rest) in (
          inside,
          body_within limit (take used bytes) decoded (body_back (take used bytes) decoded whole)
              (omega (arith, room_at limit bytes, ap length at.1)),
        )

    back : (used ≤ length bytes) × IsChunkedBody limit (take used bytes) decoded → read_chunked limit bytes ≡ ended decoded used
    back h =
        ap (read_chunked limit) (sym (take-append-drop used bytes))
        ∙ body_read limit (take used bytes) (drop used bytes) decoded h.1
        ∙ ap (ended decoded) (length-take-le used bytes h.0)

pub bodies_are_unique : BodiesAreUnique
bodies_are_unique limit bytes more bytes' more' decoded decoded' r r' same =
    let one = body_read limit bytes more decoded r in
    let two = ap (read_chunked limit) same ∙ body_read limit bytes' more' decoded' r' in
    let both : ended decoded (length bytes) ≡ ended decoded' (length bytes') = sym one ∙ two in
    let data_same : decoded ≡ decoded' = cc in
    let lens : length bytes ≡ length bytes' = cc in (
      sym (take_at bytes more (length bytes) refl) ∙ (λ i. take (lens i) (same i)) ∙ take_at bytes' more' (length bytes') refl,
      data_same,
    )

-- the place behind what was read is done
done_from : (limit : ℕ) (bytes : List ℕ) → ((decoded : List ℕ) → read_chunked limit bytes ≢ unended decoded) → is_done (standing_after limit bytes).place ≡ true
unfolding read_chunked
done_from limit bytes other =
    elim (cases_Bool (is_done (standing_after limit bytes).place)) [
      | inl done ↦ done
      | inr going ↦ absurd (other (standing_after limit bytes).decoded (going_place (standing_after limit bytes).place _ _ going))
    ]

pub readings_stay : ReadingsStay
unfolding read_chunked
readings_stay limit bytes more other =
    let done = done_from limit bytes other in
    let whole : standing_after limit (bytes ++ more) ≡ standing_after limit bytes =
    after_all-append (at_start limit) bytes more ∙ after_all-done (standing_after limit bytes) more done in
    let lens : read_len (at_start limit) (bytes ++ more) ≡ read_len (at_start limit) bytes =
    omega (arith, read_len-append (at_start limit) bytes more, read_len-done (standing_after limit bytes) more done) in
    λ i. reading_at (whole i).place (whole i).decoded (lens i)

-- ---- a body that goes on can come to its end

-- bytes that bring the body to its end
record Closes (place : Place) : Type 0 where
  more : List ℕ
  rest : List ℕ
  follows : Rest place more rest
  short : length rest ≤ pending place

last_lines : IsLines 0 crlf []
last_lines = record { lines = []; each = All-nil IsTrailer; short = omega arith; bytes_are = refl; none = refl }

last_body : IsBody (48 ∷ 13 ∷ 10 ∷ 13 ∷ 10 ∷ []) []
last_body = body_back (48 ∷ 13 ∷ 10 ∷ 13 ∷ 10 ∷ []) [] (record {
  more = 48 ∷ [];
  extension = [];
  tail = crlf;
  hex = All-cons IsHex 48 [] refl (All-nil IsHex);
  some = omega arith;
  few = omega arith;
  extends = tt;
  bytes_are = refl;
  follows = last_lines;
})

zeros_data : (count : ℕ) → IsInData count (replicate count 0 ++ (crlf ++ (48 ∷ 13 ∷ 10 ∷ 13 ∷ 10 ∷ []))) (replicate count 0 ++ [])
zeros_data count = record {
  front = replicate count 0;
  tail = 48 ∷ 13 ∷ 10 ∷ 13 ∷ 10 ∷ [];
  rest = [];
  count_is = length-replicate count 0;
  bytes_are = refl;
  decoded_is = refl;
  follows = last_body;
}

record ClosesLine (size : ℕ) : Type 0 where
  more : List ℕ
  rest : List ℕ
  follows : AfterLine size more rest
  short : length rest ≤ size

closes_line : (size : ℕ) → ClosesLine size
closes_line zero = record { more = crlf; rest = []; follows = last_lines; short = omega arith }
closes_line (suc left) = record {
  more = replicate (suc left) 0 ++ (crlf ++ (48 ∷ 13 ∷ 10 ∷ 13 ∷ 10 ∷ []));
  rest = replicate (suc left) 0 ++ [];
  follows = zeros_data (suc left);
  short = omega (arith, length-append {A = ℕ} (replicate (suc left) 0) [], length-replicate {A = ℕ} (suc left) 0);
}

no_lines : (total : ℕ) → IsLines total crlf []
no_lines total = record { lines = []; each = All-nil IsTrailer; short = omega arith; bytes_are = refl; none = refl }

closes : (place : Place) → is_done place ≡ false → Closes place
closes (Size zero size) going =
    let line = closes_line (size * 16 + 0) in
    record {
      more = 48 ∷ 13 ∷ 10 ∷ line.more;
      rest = line.rest;
      follows = record {
        more = 48 ∷ [];
        extension = [];
        tail = line.more;
        hex = All-cons IsHex 48 [] refl (All-nil IsHex);
        some = omega arith;
        few = omega arith;
        extends = tt;
        bytes_are = refl;
        follows = line.follows;
      };
      short = omega (arith, line.short);
    }
closes (Size (suc n) size) going =
    let line = closes_line size in
    record {
      more = 13 ∷ 10 ∷ line.more;
      rest = line.rest;
      follows = record {
        more = [];
        extension = [];
        tail = line.more;
        hex = All-nil IsHex;
        some = omega arith;
        few = omega arith;
        extends = tt;
        bytes_are = refl;
        follows = line.follows;
      };
      short = line.short;
    }
closes (Extension size count) going =
    let line = closes_line size in
    record {
      more = 13 ∷ 10 ∷ line.more;
      rest = line.rest;
      follows = record { more = []; tail = line.more; text = All-nil IsText; few = omega arith; bytes_are = refl; follows = line.follows };
      short = line.short;
    }
closes (SizeEnd size) going =
    let line = closes_line size in
    record { more = 10 ∷ line.more; rest = line.rest; follows = record { tail = line.more; bytes_are = refl; follows = line.follows }; short = line.short }
closes (Data left) going = record {
  more = replicate (suc left) 0 ++ (crlf ++ (48 ∷ 13 ∷ 10 ∷ 13 ∷ 10 ∷ []));
  rest = replicate (suc left) 0 ++ [];
  follows = zeros_data (suc left);
  short = omega (arith, length-append {A = ℕ} (replicate (suc left) 0) [], length-replicate {A = ℕ} (suc left) 0);
}
closes DataEnd going = record { more = _; rest = _; follows = zeros_data 0; short = omega arith }
closes DataLf going = record {
  more = 10 ∷ (48 ∷ 13 ∷ 10 ∷ 13 ∷ 10 ∷ []);
  rest = [];
  follows = record { tail = 48 ∷ 13 ∷ 10 ∷ 13 ∷ 10 ∷ []; bytes_are = refl; follows = last_body };
  short = omega arith;
}
closes (Trailer total false) going = record { more = crlf; rest = []; follows = no_lines total; short = omega arith }
closes (Trailer total true) going = record {
  more = 13 ∷ 10 ∷ crlf;
  rest = [];
  follows = record {
    line = [];
    tail = crlf;
    end = total;
    text = All-nil IsText;
    end_is = omega arith;
    bytes_are = refl;
    short = omega arith;
    follows = no_lines total;
  };
  short = omega arith;
}
closes (TrailerEnd total false) going = record { more = 10 ∷ []; rest = []; follows = record { tail = []; bytes_are = refl; follows = (refl, refl) }; short = omega arith }
closes (TrailerEnd total true) going = record {
  more = 10 ∷ crlf;
  rest = [];
  follows = record { tail = crlf; bytes_are = refl; follows = no_lines total };
  short = omega arith;
}
closes End going = absurd (cc)
closes (Bad cause) going = absurd (cc)

pub goes_on : (limit : ℕ) (bytes : List ℕ) → is_done (standing_after limit bytes).place ≡ false
    → (more : List ℕ) × ((rest : List ℕ) × IsChunkedBody limit (bytes ++ more) ((standing_after limit bytes).decoded ++ rest))
goes_on limit bytes going =
    let s = at_start limit in
    let end = closes (standing_after limit bytes).place going in
    let w = was_read s bytes end.more end.rest (read_len-going s bytes going) end.follows in
    let whole : IsInSize 0 0 (bytes ++ end.more) ((standing_after limit bytes).decoded ++ end.rest) =
    subst (λ (l : List ℕ). IsInSize 0 0 (bytes ++ end.more) (l ++ end.rest)) (sym w.decoded_is) w.rest in (
      end.more,
      (
        end.rest,
        body_within limit (bytes ++ end.more) ((standing_after limit bytes).decoded ++ end.rest) (body_back _ _ whole)
            (omega (arith, length-append (standing_after limit bytes).decoded end.rest, room_at limit bytes, end.short)),
      ),
    )

pub unended_go_on : UnendedGoOn
unfolding read_chunked
unended_go_on limit bytes decoded e =
    let at = place_unended (standing_after limit bytes).place (standing_after limit bytes).decoded decoded (read_len (at_start limit) bytes) e in
    let on = goes_on limit bytes at.0 in
    (on.0, (on.1.0, subst (λ (l : List ℕ). IsChunkedBody limit (bytes ++ on.0) (l ++ on.1.0)) at.1 on.1.1))
