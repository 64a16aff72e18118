-- What is refused, and for which cause.
use Rattle.std.proofs.Common.{◌≡◌, ℕ, zero, suc, ◌+◌, ◌-◌, ◌*◌, ◌<◌, ◌≤◌, Bool, true, false, cond, eqb, ltb, leb, List, [], ◌∷◌, ◌++◌, length, take, drop, refl, sym, ap, ◌∙◌, arith, subst, inl, inr}
use Rattle.std.specs.Prelude.{◌⊎◌, ◌&&◌}
use Rattle.std.specs.Char.{digit_value, is_ascii_hexdigit}
use Rattle.std.proofs.lemmas.List.{take-append-drop}
use Rattle.std.proofs.lemmas.Bool.{cases_Bool, cond-true, cond-false, leb-true, le-leb, false≢true}
use Rattle.host_base.specs.declared.cause.Cause.{Cause}
use Rattle.host_base.specs.declared.cause.Cause.TheVariants.{BadChunk, BodyTooLong}
use Rattle.host_base.proofs.SplitLaws.{chosen}
use Rattle.body_framing.specs.declared.place.Place.{Place}
use Rattle.body_framing.specs.declared.place.Place.TheVariants.{Size, Extension, SizeEnd, Data, DataEnd, DataLf, Trailer, TrailerEnd, End, Bad}
use Rattle.body_framing.specs.Places.{is_text, is_extension_start, after_digit, after_other, after_line, after_trailer_line, place_after, is_data, is_done}
use Rattle.body_framing.specs.Chunked.{Standing, after, after_all, at_start, standing_after, read_len, read_chunked, reading_at, ended, unended, refused}
use Rattle.body_framing.specs.ChunkLaws.{IsOpen, IsNone, IsCauseOf, RefusedAreNone}
use Rattle.body_framing.proofs.Runs.{standing, after_all-done, after_all-append}
use Rattle.body_framing.proofs.BodyLaws.{body_read, readings_stay, goes_on, place_refused}

-- ---- the first byte that can't stand

pub none_read : (limit : ℕ) (bytes : List ℕ) (cause : Cause) → read_chunked limit bytes ≡ refused cause → IsNone limit bytes
none_read limit bytes cause e more decoded used r =
    let text = bytes ++ more in
    let read : read_chunked limit text ≡ ended decoded (length (take used text)) =
    ap (read_chunked limit) (sym (take-append-drop used text)) ∙ body_read limit (take used text) (drop used text) decoded r in
    let stays : read_chunked limit text ≡ refused cause =
    readings_stay limit bytes more (λ d same. let both : refused cause ≡ unended d = sym e ∙ same in absurd (cc)) ∙ e in
    let both : refused cause ≡ ended decoded (length (take used text)) = sym stays ∙ read in
    absurd (cc)

record FirstBad (s : Standing) (bytes : List ℕ) (cause : Cause) : Type 0 where
  count : ℕ
  byte : ℕ
  inside : count < length bytes
  next : take (count + 1) bytes ≡ take count bytes ++ byte ∷ []
  going : is_done (after_all s (take count bytes)).place ≡ false
  stops : (after_all s (take (count + 1) bytes)).place ≡ Bad cause

first_bad : (s : Standing) (bytes : List ℕ) (cause : Cause) → is_done s.place ≡ false → (after_all s bytes).place ≡ Bad cause → FirstBad s bytes cause
first_bad s [] cause going bad = let both : is_done (Bad cause) ≡ false = ap is_done (sym bad) ∙ going in absurd (cc)
first_bad s (b ∷ bytes) cause going bad =
    elim (cases_Bool (is_done (after s b).place)) [
      | inl done ↦
          record {
            count = 0;
            byte = b;
            inside = omega arith;
            next = refl;
            going = going;
            stops = ap (λ (t : Standing). t.place) (sym (after_all-done (after s b) bytes done)) ∙ bad;
          }
      | inr on ↦
          let later = first_bad (after s b) bytes cause on bad in
          let more : suc later.count + 1 ≡ suc (later.count + 1) = omega arith in
          record {
            count = suc later.count;
            byte = later.byte;
            inside = omega (arith, later.inside);
            next = ap (λ (n : ℕ). take n (b ∷ bytes)) more ∙ ap (λ (l : List ℕ). b ∷ l) later.next;
            going = later.going;
            stops = ap (λ (n : ℕ). (after_all s (take n (b ∷ bytes))).place) more ∙ later.stops;
          }
    ]

-- what a byte that can't stand is refused for: the place takes it where there is more room, or takes it nowhere
abbrev IsRefusedFor : Cause → Place → ℕ → Type 0
IsRefusedFor cause place b =
    ((cause ≡ BodyTooLong) × ((least : ℕ) × ((room : ℕ) → least ≤ room → is_done (place_after room place b) ≡ false)))
    ⊎ ((cause ≡ BadChunk) × ((room : ℕ) → place_after room place b ≡ Bad BadChunk))

going_cond : (b : Bool) (p q : Place) → (is_done p ≡ false) → (b ≡ true) → is_done (cond b p q) ≡ false
going_cond b p q going is = ap is_done (cond-true b p q is) ∙ going

bad_cond : (b : Bool) (p q : Place) (cause : Cause) → cond b p q ≡ Bad cause → is_done p ≡ false → (b ≡ false) × (q ≡ Bad cause)
bad_cond true p q cause is going = let both : is_done (Bad cause) ≡ false = ap is_done (sym is) ∙ going in absurd (cc)
bad_cond false p q cause is going = (refl, is)

same_cause : (cause other : Cause) → Bad other ≡ Bad cause → cause ≡ other
same_cause cause other is = cc

-- only BadChunk comes of a choice whose branches give no other cause
by_choice : (b : Bool) (p q : Place) (cause : Cause) → (p ≡ Bad cause → cause ≡ BadChunk) → (q ≡ Bad cause → cause ≡ BadChunk)
    → cond b p q ≡ Bad cause → cause ≡ BadChunk
by_choice true p q cause first second is = first is
by_choice false p q cause first second is = second is

chunk_cause : (cause : Cause) → Bad BadChunk ≡ Bad cause → cause ≡ BadChunk
chunk_cause cause is = cc

of_other : (digits size b : ℕ) (cause : Cause) → after_other digits size b ≡ Bad cause → cause ≡ BadChunk
of_other digits size b cause is =
    by_choice (ltb 0 digits) _ _ cause
    (by_choice (eqb b 13) _ _ cause (λ e. absurd (cc (e))) (by_choice (is_extension_start b) _ _ cause (λ e. absurd (cc (e))) (chunk_cause cause)))
    (chunk_cause cause) is

of_line : (size : ℕ) (cause : Cause) → after_line size ≡ Bad cause → cause ≡ BadChunk
of_line zero cause is = absurd (cc)
of_line (suc left) cause is = absurd (cc)

of_trailer_line : (total : ℕ) (filled : Bool) (cause : Cause) → after_trailer_line total filled ≡ Bad cause → cause ≡ BadChunk
of_trailer_line total true cause is = absurd (cc)
of_trailer_line total false cause is = absurd (cc)

-- where the room decides nothing
for_chunk : (place : Place) (b room : ℕ) (cause : Cause) → ((other : ℕ) → place_after other place b ≡ place_after room place b)
    → place_after room place b ≡ Bad cause → cause ≡ BadChunk → IsRefusedFor cause place b
for_chunk place b room cause same is named = inr (named, λ other. same other ∙ is ∙ ap (λ (c : Cause). Bad c) named)

size_refused : (room digits size b : ℕ) (cause : Cause) → place_after room (Size digits size) b ≡ Bad cause → IsRefusedFor cause (Size digits size) b
size_refused room digits size b cause is =
    let hex = is_ascii_hexdigit b in
    let next = size * 16 + digit_value b in
    elim (chosen hex _ _ _ is) [
      | inl digit ↦
          elim (chosen (ltb digits 16) _ _ _ digit.1) [
            | inl few ↦
                let over = bad_cond (leb next room) _ _ cause few.1 refl in
                inl (
                  same_cause cause BodyTooLong over.1,
                  (
                    next,
                    λ larger enough.
                        ap is_done (cond-true hex _ _ digit.0 ∙ cond-true (ltb digits 16) _ _ few.0 ∙ cond-true (leb next larger) _ _ (le-leb next larger enough)),
                  ),
                )
            | inr many ↦
                inr (chunk_cause cause many.1, λ other. cond-true hex _ _ digit.0 ∙ cond-false (ltb digits 16) _ _ many.0)
          ]
      | inr other ↦
          let named = of_other digits size b cause other.1 in
          inr (named, λ larger. cond-false hex _ _ other.0 ∙ other.1 ∙ ap (λ (c : Cause). Bad c) named)
    ]

refused_for : (room : ℕ) (place : Place) (b : ℕ) (cause : Cause) → is_done place ≡ false → place_after room place b ≡ Bad cause → IsRefusedFor cause place b
refused_for room (Size digits size) b cause going is = size_refused room digits size b cause is
refused_for room (Extension size count) b cause going is =
    for_chunk (Extension size count) b room cause (λ other. refl) is
    (by_choice (eqb b 13) _ _ cause (λ e. absurd (cc (e)))
    (by_choice (is_text b && ltb count 256) _ _ cause (λ e. absurd (cc (e))) (chunk_cause cause)) is)
refused_for room (SizeEnd size) b cause going is =
    for_chunk (SizeEnd size) b room cause (λ other. refl) is (by_choice (eqb b 10) _ _ cause (of_line size cause) (chunk_cause cause) is)
refused_for room (Data zero) b cause going is = absurd (cc)
refused_for room (Data (suc left)) b cause going is = absurd (cc)
refused_for room DataEnd b cause going is =
    for_chunk DataEnd b room cause (λ other. refl) is (by_choice (eqb b 13) _ _ cause (λ e. absurd (cc (e))) (chunk_cause cause) is)
refused_for room DataLf b cause going is =
    for_chunk DataLf b room cause (λ other. refl) is (by_choice (eqb b 10) _ _ cause (λ e. absurd (cc (e))) (chunk_cause cause) is)
refused_for room (Trailer total filled) b cause going is =
    for_chunk (Trailer total filled) b room cause (λ other. refl) is
    (by_choice (eqb b 13) _ _ cause (λ e. absurd (cc (e)))
    (by_choice (is_text b && ltb total 8192) _ _ cause (λ e. absurd (cc (e))) (chunk_cause cause)) is)
refused_for room (TrailerEnd total filled) b cause going is =
    for_chunk (TrailerEnd total filled) b room cause (λ other. refl) is
    (by_choice (eqb b 10) _ _ cause (of_trailer_line total filled cause) (chunk_cause cause) is)
refused_for room End b cause going is = absurd (cc)
refused_for room (Bad other) b cause going is = absurd (cc)

-- ---- a larger limit changes nothing up to there

cond_leb : (n room larger : ℕ) (p q : Place) → room ≤ larger → is_done (cond (leb n room) p q) ≡ false → is_done q ≡ true
    → cond (leb n larger) p q ≡ cond (leb n room) p q
cond_leb n room larger p q more going done =
    elim (cases_Bool (leb n room)) [
      | inl within ↦
          let below = leb-true n room within in
          cond-true (leb n larger) p q (le-leb n larger (omega arith)) ∙ sym (cond-true (leb n room) p q within)
      | inr over ↦
          let both : is_done q ≡ false = ap is_done (sym (cond-false (leb n room) p q over)) ∙ going in
          absurd (false≢true (sym both ∙ done))
    ]

same_larger : (room larger : ℕ) (place : Place) (b : ℕ) → room ≤ larger → is_done (place_after room place b) ≡ false
    → place_after larger place b ≡ place_after room place b
same_larger room larger (Size digits size) b more going =
    elim (cases_Bool (is_ascii_hexdigit b)) [
      | inl hex ↦
          elim (cases_Bool (ltb digits 16)) [
            | inl few ↦
                let at : (r : ℕ) → place_after r (Size digits size) b ≡ after_digit r digits (size * 16 + digit_value b) =
                λ r. cond-true _ _ _ hex ∙ cond-true _ _ _ few in
                at larger ∙ cond_leb (size * 16 + digit_value b) room larger _ _ more (ap is_done (sym (at room)) ∙ going) refl ∙ sym (at room)
            | inr many ↦
                let at : (r : ℕ) → place_after r (Size digits size) b ≡ Bad BadChunk = λ r. cond-true _ _ _ hex ∙ cond-false _ _ _ many in
                at larger ∙ sym (at room)
          ]
      | inr other ↦
          let at : (r : ℕ) → place_after r (Size digits size) b ≡ after_other digits size b = λ r. cond-false _ _ _ other in
          at larger ∙ sym (at room)
    ]
same_larger room larger (Extension x y) b more going = refl
same_larger room larger (SizeEnd x) b more going = refl
same_larger room larger (Data x) b more going = refl
same_larger room larger DataEnd b more going = refl
same_larger room larger DataLf b more going = refl
same_larger room larger (Trailer x y) b more going = refl
same_larger room larger (TrailerEnd x y) b more going = refl
same_larger room larger End b more going = refl
same_larger room larger (Bad cause) b more going = refl

abbrev raised : ℕ → Standing → Standing
raised larger s = standing larger s.place s.decoded

going_before : (s : Standing) (b : ℕ) (bytes : List ℕ) → is_done (after_all (after s b) bytes).place ≡ false → is_done (after s b).place ≡ false
going_before s b bytes going =
    elim (cases_Bool (is_done (after s b).place)) [
      | inl done ↦
          let same = ap (λ (t : Standing). is_done t.place) (after_all-done (after s b) bytes done) in
          absurd (false≢true (sym going ∙ same ∙ done))
      | inr on ↦ on
    ]

pub raised_run : (larger : ℕ) (s : Standing) (bytes : List ℕ) → s.limit ≤ larger → is_done (after_all s bytes).place ≡ false
    → after_all (raised larger s) bytes ≡ raised larger (after_all s bytes)
unfolding after
raised_run larger s [] more going = refl
raised_run larger s (b ∷ bytes) more going =
    let place = same_larger (s.limit - length s.decoded) (larger - length s.decoded) s.place b (omega arith) (going_before s b bytes going) in
    let here : after (raised larger s) b ≡ raised larger (after s b) =
    ap (λ (p : Place). standing larger p (cond (is_data s.place) (s.decoded ++ b ∷ []) s.decoded)) place in
    ap (λ (t : Standing). after_all t bytes) here ∙ raised_run larger (after s b) bytes more going

-- the place behind one more byte, for a larger limit
place_raised : (limit larger : ℕ) (front : List ℕ) (b : ℕ) → limit ≤ larger → is_done (standing_after limit front).place ≡ false
    → (standing_after larger (front ++ b ∷ [])).place
    ≡ place_after (larger - length (standing_after limit front).decoded) (standing_after limit front).place b
unfolding after
place_raised limit larger front b more going =
    ap (λ (t : Standing). t.place) (after_all-append (at_start larger) front (b ∷ []))
    ∙ ap (λ (t : Standing). (after t b).place) (raised_run larger (at_start limit) front more going)

open_at : (larger : ℕ) (bytes : List ℕ) → is_done (standing_after larger bytes).place ≡ false → IsOpen larger bytes
open_at larger bytes going = let on = goes_on larger bytes going in (on.0, ((standing_after larger bytes).decoded ++ on.1.0, on.1.1))

refused_at : (larger : ℕ) (bytes : List ℕ) (cause : Cause) → (standing_after larger bytes).place ≡ Bad cause → read_chunked larger bytes ≡ refused cause
unfolding read_chunked
refused_at larger bytes cause bad = ap (λ (p : Place). reading_at p (standing_after larger bytes).decoded (read_len (at_start larger) bytes)) bad

cause_of : (limit : ℕ) (front : List ℕ) (b : ℕ) (cause : Cause) → is_done (standing_after limit front).place ≡ false
    → (standing_after limit (front ++ b ∷ [])).place ≡ Bad cause → IsCauseOf cause limit (front ++ b ∷ [])
cause_of limit front b cause going bad =
    let before = standing_after limit front in
    let here = sym (place_raised limit limit front b (omega arith) going) ∙ bad in
    elim (refused_for (limit - length before.decoded) before.place b cause going here) [
      | inl long ↦
          let larger = limit + (long.1.0 + length before.decoded) in
          let on = ap is_done (place_raised limit larger front b (omega arith) going) ∙ long.1.1 (larger - length before.decoded) (omega arith) in
          inl (long.0, (larger, open_at larger (front ++ b ∷ []) on))
      | inr nowhere ↦
          inr (
            nowhere.0,
            λ larger more.
                none_read larger (front ++ b ∷ []) BadChunk (refused_at larger (front ++ b ∷ []) BadChunk
                (place_raised limit larger front b more going ∙ nowhere.1 (larger - length before.decoded))),
          )
    ]

pub refused_are_none : RefusedAreNone
unfolding read_chunked
refused_are_none limit bytes cause e =
    let bad = place_refused (standing_after limit bytes).place (standing_after limit bytes).decoded (read_len (at_start limit) bytes) cause e in
    let f = first_bad (at_start limit) bytes cause refl bad in (
      none_read limit bytes cause e,
      (
        f.count,
        (
          record {
            inside = f.inside;
            goes = open_at limit (take f.count bytes) f.going;
            stops = none_read limit (take (f.count + 1) bytes) cause (refused_at limit (take (f.count + 1) bytes) cause f.stops);
          },
          subst (λ (l : List ℕ). IsCauseOf cause limit l) (sym f.next)
              (cause_of limit (take f.count bytes) f.byte cause f.going (ap (λ (l : List ℕ). (standing_after limit l).place) (sym f.next) ∙ f.stops)),
        ),
      ),
    )
