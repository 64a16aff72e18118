-- How a reading goes on over several bytes.
use Rattle.std.proofs.Common.{◌≡◌, ℕ, zero, suc, ◌+◌, ◌-◌, ◌<◌, ◌≤◌, Bool, true, false, cond, List, [], ◌∷◌, ◌++◌, length, take, drop, refl, sym, ap, ◌∙◌, arith, append-nil, append_assoc, zero-add, get_or, inl, inr}
use Rattle.std.proofs.lemmas.List.{take_all, length-take, take-append-le, drop-drop, length-drop, take-append-drop, nil_from_length}
use Rattle.std.proofs.lemmas.List.Sums.{fold-append}
use Rattle.std.proofs.lemmas.Bool.{cases_Bool, false≢true}
use Rattle.body_framing.specs.declared.place.Place.{Place}
use Rattle.body_framing.specs.declared.place.Place.TheVariants.{Size, Extension, SizeEnd, Data, DataEnd, DataLf, Trailer, TrailerEnd, End, Bad}
use Rattle.body_framing.specs.Places.{is_data, is_done, place_after}
use Rattle.body_framing.specs.Chunked.{Standing, after, after_all, at_start, chunk_step, read_chunked, read_len, reading_at, standing_after, step_at}
use Rattle.body_framing.specs.declared.step.ChunkStep.TheVariants as Answer

abbrev pub standing : ℕ → Place → List ℕ → Standing
standing limit place decoded = record { limit = limit; place = place; decoded = decoded }

-- ---- data

pub data_within : (limit left : ℕ) (decoded bytes : List ℕ) → length bytes ≤ left
    → after_all (standing limit (Data left) decoded) bytes ≡ standing limit (Data (left - length bytes)) (decoded ++ bytes)
unfolding after
data_within limit left decoded [] fits =
    let same : left ≡ left - 0 = omega arith in
    λ i. standing limit (Data (same i)) (sym (append-nil decoded) i)
data_within limit zero decoded (b ∷ bytes) fits = absurd (omega arith)
data_within limit (suc left) decoded (b ∷ bytes) fits =
    data_within limit left (decoded ++ b ∷ []) bytes (omega arith)
    ∙ (let same : left - length bytes ≡ suc left - length (b ∷ bytes) = omega arith in
    λ i. standing limit (Data (same i)) (append_assoc decoded (b ∷ []) bytes i))

pub data_whole : (limit left : ℕ) (decoded bytes : List ℕ) → length bytes ≡ suc left
    → after_all (standing limit (Data left) decoded) bytes ≡ standing limit DataEnd (decoded ++ bytes)
unfolding after
data_whole limit left decoded [] fits = absurd (omega arith)
data_whole limit zero decoded (b ∷ []) fits = refl
data_whole limit zero decoded (b ∷ c ∷ bytes) fits = absurd (omega arith)
data_whole limit (suc left) decoded (b ∷ bytes) fits =
    data_whole limit left (decoded ++ b ∷ []) bytes (omega arith)
    ∙ ap (λ (l : List ℕ). standing limit DataEnd l) (append_assoc decoded (b ∷ []) bytes)

-- ---- how far is read

pub read_len-done : (s : Standing) (bytes : List ℕ) → is_done s.place ≡ true → read_len s bytes ≡ 0
read_len-done s [] done = refl
read_len-done s (b ∷ bytes) done = ap (λ (d : Bool). cond d 0 (suc (read_len (after s b) bytes))) done

pub done_place : (room : ℕ) (place : Place) (b : ℕ) → is_done place ≡ true → (place_after room place b ≡ place) × (is_data place ≡ false)
done_place room End b done = (refl, refl)
done_place room (Bad cause) b done = (refl, refl)
done_place room (Size x y) b done = absurd (cc)
done_place room (Extension x y) b done = absurd (cc)
done_place room (SizeEnd x) b done = absurd (cc)
done_place room (Data x) b done = absurd (cc)
done_place room DataEnd b done = absurd (cc)
done_place room DataLf b done = absurd (cc)
done_place room (Trailer x y) b done = absurd (cc)
done_place room (TrailerEnd x y) b done = absurd (cc)

-- nothing changes behind the end
pub after-done : (s : Standing) (b : ℕ) → is_done s.place ≡ true → after s b ≡ s
unfolding after
after-done s b done =
    let same = done_place (s.limit - length s.decoded) s.place b done in
    λ i. standing s.limit (same.0 i) (cond (same.1 i) (s.decoded ++ b ∷ []) s.decoded)

pub after_all-done : (s : Standing) (bytes : List ℕ) → is_done s.place ≡ true → after_all s bytes ≡ s
after_all-done s [] done = refl
after_all-done s (b ∷ bytes) done =
    let same = after-done s b done in
    ap (λ (t : Standing). after_all t bytes) same ∙ after_all-done s bytes done

pub after_all-append : (s : Standing) (xs ys : List ℕ) → after_all s (xs ++ ys) ≡ after_all (after_all s xs) ys
after_all-append s xs ys = fold-append after s xs ys

pub read_len-append : (s : Standing) (xs ys : List ℕ) → read_len s (xs ++ ys) ≡ read_len s xs + read_len (after_all s xs) ys
read_len-append s [] ys = sym (zero-add (read_len s ys))
read_len-append s (x ∷ xs) ys =
    elim (cases_Bool (is_done s.place)) [
      | inl done ↦
          let here = read_len-done s (x ∷ xs ++ ys) done in
          let front = read_len-done s (x ∷ xs) done in
          let stays = after_all-done s (x ∷ xs) done in
          let rest : read_len (after_all s (x ∷ xs)) ys ≡ 0 = ap (λ (t : Standing). read_len t ys) stays ∙ read_len-done s ys done in
          omega arith
      | inr going ↦
          let here = ap (λ (d : Bool). cond d 0 (suc (read_len (after s x) (xs ++ ys)))) going in
          let front = ap (λ (d : Bool). cond d 0 (suc (read_len (after s x) xs))) going in
          let later = read_len-append (after s x) xs ys in
          omega arith
    ]

pub read_len-le : (s : Standing) (bytes : List ℕ) → read_len s bytes ≤ length bytes
read_len-le s [] = omega arith
read_len-le s (b ∷ bytes) =
    elim (is_done s.place) as (λ d. cond d 0 (suc (read_len (after s b) bytes)) ≤ suc (length bytes)) [
      | true ↦ omega arith
      | false ↦ let later = read_len-le (after s b) bytes in omega arith
    ]

pub limit_stays : (s : Standing) (bytes : List ℕ) → (after_all s bytes).limit ≡ s.limit
unfolding after
limit_stays s [] = refl
limit_stays s (b ∷ bytes) = limit_stays (after s b) bytes

-- what was decoded stays
pub decoded_stays : (d : List ℕ) (s : Standing) (bytes : List ℕ) → take (length d) s.decoded ≡ d → take (length d) (after_all s bytes).decoded ≡ d
unfolding after
decoded_stays d s [] kept = kept
decoded_stays d s (b ∷ bytes) kept =
    decoded_stays d (after s b) bytes (elim (is_data s.place) as (λ t. take (length d) (cond t (s.decoded ++ b ∷ []) s.decoded) ≡ d) [
      | true ↦
          let some : length d ≤ length s.decoded = omega (arith, ap length kept, length-take (length d) s.decoded) in
          take-append-le (length d) s.decoded (b ∷ []) some ∙ kept
      | false ↦ kept
    ])

-- all bytes are read up to a place where the body goes on
pub read_len-going : (s : Standing) (bytes : List ℕ) → is_done (after_all s bytes).place ≡ false → read_len s bytes ≡ length bytes
read_len-going s [] going = refl
read_len-going s (b ∷ bytes) going =
    elim (cases_Bool (is_done s.place)) [
      | inl done ↦
          let stays = after_all-done s (b ∷ bytes) done in
          absurd (false≢true (sym going ∙ ap (λ (t : Standing). is_done t.place) stays ∙ done))
      | inr on ↦
          let here = ap (λ (d : Bool). cond d 0 (suc (read_len (after s b) bytes))) on in
          let later = read_len-going (after s b) bytes going in
          omega arith
    ]

pub read_len-data : (limit left : ℕ) (decoded bytes : List ℕ) → length bytes ≤ suc left
    → read_len (standing limit (Data left) decoded) bytes ≡ length bytes
unfolding after
read_len-data limit left decoded [] fits = refl
read_len-data limit zero decoded (b ∷ []) fits = refl
read_len-data limit zero decoded (b ∷ c ∷ bytes) fits = absurd (omega arith)
read_len-data limit (suc left) decoded (b ∷ bytes) fits = ap suc (read_len-data limit left (decoded ++ b ∷ []) bytes (omega arith))

-- one byte that is none of the data
pub no_data : (place : Place) → ((left : ℕ) → place ≡ Data left → ⊥) → is_data place ≡ false
no_data (Size x y) other = refl
no_data (Extension x y) other = refl
no_data (SizeEnd x) other = refl
no_data (Data x) other = absurd (other x refl)
no_data DataEnd other = refl
no_data DataLf other = refl
no_data (Trailer x y) other = refl
no_data (TrailerEnd x y) other = refl
no_data End other = refl
no_data (Bad cause) other = refl

pub after_one : (s : Standing) (bytes : List ℕ) → 0 < length bytes → is_data s.place ≡ false
    → standing s.limit (place_after (s.limit - length s.decoded) s.place (get_or bytes 0 0)) s.decoded ≡ after_all s (take 1 bytes)
unfolding after
after_one s [] some plain = absurd (omega arith)
after_one s (b ∷ bytes) some plain =
    λ i. standing s.limit (place_after (s.limit - length s.decoded) s.place b) (cond (sym plain i) (s.decoded ++ b ∷ []) s.decoded)

pub read_len-one : (s : Standing) (bytes : List ℕ) → 0 < length bytes → is_done s.place ≡ false → read_len s (take 1 bytes) ≡ 1
read_len-one s [] some going = absurd (omega arith)
read_len-one s (b ∷ bytes) some going = ap (λ (d : Bool). cond d 0 1) going

-- ---- a reading that goes on

pub record HasRead (old now : Standing) (bytes : List ℕ) (at : ℕ) : Type 0 where
  pub within : at ≤ length bytes
  pub same : after_all now (drop at bytes) ≡ after_all old bytes
  pub count : at + read_len now (drop at bytes) ≡ read_len old bytes
  pub kept : take (length old.decoded) now.decoded ≡ old.decoded
  pub limit : now.limit ≡ old.limit

pub has_read-none : (s : Standing) (bytes : List ℕ) → HasRead s s bytes 0
has_read-none s bytes = record {
  within = omega arith;
  same = refl;
  count = zero-add (read_len s bytes);
  kept = take_all (length s.decoded) s.decoded (omega arith);
  limit = refl;
}

pub has_read-more : (old now next : Standing) (bytes rest : List ℕ) (at n : ℕ) → HasRead old now bytes at
    → rest ≡ drop at bytes → next ≡ after_all now (take n rest) → n ≤ length rest → read_len now (take n rest) ≡ n
    → HasRead old next bytes (at + n)
has_read-more old now next bytes rest at n h rest_is next_is inside counted =
    let behind : drop (at + n) bytes ≡ drop n rest = sym (drop-drop n at bytes) ∙ ap (drop n) (sym rest_is) in
    let text : rest ≡ take n rest ++ drop n rest = sym (take-append-drop n rest) in
    let goes : after_all now rest ≡ after_all next (drop n rest) =
    ap (after_all now) text ∙ after_all-append now (take n rest) (drop n rest) ∙ ap (λ (t : Standing). after_all t (drop n rest)) (sym next_is) in
    let lens : read_len now rest ≡ n + read_len next (drop n rest) =
    ap (read_len now) text ∙ read_len-append now (take n rest) (drop n rest)
    ∙ (λ i. counted i + read_len (sym next_is i) (drop n rest)) in
    record {
      within = omega (arith, h.within, ap length rest_is, length-drop at bytes);
      same = ap (after_all next) behind ∙ sym goes ∙ ap (after_all now) rest_is ∙ h.same;
      count = omega (arith, ap (read_len next) behind, lens, ap (read_len now) rest_is, h.count);
      kept = ap (λ (t : Standing). take (length old.decoded) t.decoded) next_is ∙ decoded_stays old.decoded now (take n rest) h.kept;
      limit = ap (λ (t : Standing). t.limit) next_is ∙ limit_stays now (take n rest) ∙ h.limit;
    }

-- all was read, or nothing more is
pub has_read-done : (old now : Standing) (bytes : List ℕ) (at : ℕ) → HasRead old now bytes at → is_done now.place ≡ true
    → (now ≡ after_all old bytes) × (at ≡ read_len old bytes)
has_read-done old now bytes at h done =
    (sym (after_all-done now (drop at bytes) done) ∙ h.same, omega (arith, h.count, read_len-done now (drop at bytes) done))

pub has_read-all : (old now : Standing) (bytes : List ℕ) (at : ℕ) → HasRead old now bytes at → length bytes ≤ at
    → (now ≡ after_all old bytes) × (at ≡ read_len old bytes)
has_read-all old now bytes at h end =
    let none : drop at bytes ≡ [] = nil_from_length (drop at bytes) (omega (arith, length-drop at bytes)) in
    (ap (after_all now) (sym none) ∙ h.same, omega (arith, h.count, ap (read_len now) none))

-- ---- the answer on all bytes

step_of_used : (place : Place) (decoded : List ℕ) (before used count : ℕ) → count - before ≡ used
    → step_at place used ≡ chunk_step before (reading_at place decoded count)
step_of_used End decoded before used count is = let same : used - 0 ≡ count - before = omega arith in ap (λ (n : ℕ). Answer.End n) same
step_of_used (Bad cause) decoded before used count is = refl
step_of_used (Size x y) decoded before used count is = refl
step_of_used (Extension x y) decoded before used count is = refl
step_of_used (SizeEnd x) decoded before used count is = refl
step_of_used (Data x) decoded before used count is = refl
step_of_used DataEnd decoded before used count is = refl
step_of_used DataLf decoded before used count is = refl
step_of_used (Trailer x y) decoded before used count is = refl
step_of_used (TrailerEnd x y) decoded before used count is = refl

pub standing_joined : (limit : ℕ) (fed piece : List ℕ) → after_all (standing_after limit fed) piece ≡ standing_after limit (fed ++ piece)
standing_joined limit fed piece = sym (after_all-append (at_start limit) fed piece)

pub answer_joined : (limit : ℕ) (fed piece : List ℕ) (old now : Standing) (used : ℕ) → old ≡ standing_after limit fed → now ≡ after_all old piece
    → used ≡ read_len old piece → step_at now.place used ≡ chunk_step (length fed) (read_chunked limit (fed ++ piece))
unfolding read_chunked
answer_joined limit fed piece old now used old_is now_is used_is =
    let whole : now ≡ standing_after limit (fed ++ piece) =
    now_is ∙ ap (λ (t : Standing). after_all t piece) old_is ∙ standing_joined limit fed piece in
    let lens : read_len (at_start limit) (fed ++ piece) ≡ read_len (at_start limit) fed + used =
    read_len-append (at_start limit) fed piece
    ∙ ap (λ (n : ℕ). read_len (at_start limit) fed + n) (ap (λ (t : Standing). read_len t piece) (sym old_is) ∙ sym used_is) in
    let less = read_len-le (at_start limit) fed in
    let count : read_len (at_start limit) (fed ++ piece) - length fed ≡ used =
    elim (cases_Bool (is_done (standing_after limit fed).place)) [
      | inl done ↦
          let none : used ≡ 0 = used_is ∙ ap (λ (t : Standing). read_len t piece) old_is ∙ read_len-done (standing_after limit fed) piece done in
          omega arith
      | inr going ↦
          let all = read_len-going (at_start limit) fed going in
          omega arith
    ] in
    ap (λ (t : Standing). step_at t.place used) whole
    ∙ step_of_used (standing_after limit (fed ++ piece)).place (standing_after limit (fed ++ piece)).decoded (length fed) used _ count
