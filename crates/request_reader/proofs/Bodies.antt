-- How bodies are read on.
use Rattle.std.proofs.Common.{◌≡◌, ℕ, ◌+◌, ◌-◌, true, false, leb, List, ◌++◌, length, take, drop, min, refl, sym, ap, ◌∙◌, arith, subst, length-append, inl, inr, Result, Ok, Err, OnOk, IfOk}
use Rattle.std.proofs.lemmas.List.{length-take-le, take_all, drop-append-le}
use Rattle.std.proofs.Math.Seq.{take-append-add}
use Rattle.std.proofs.lemmas.Bool.{cases_Bool, cond-true, cond-false, leb-true, leb-false, le-leb, lt-leb}
use Rattle.host_base.specs.declared.request.Framing.{Framing}
use Rattle.host_base.specs.declared.request.Framing.TheVariants.{Empty, Length, Chunked}
use Rattle.body_framing.specs.Chunked.{BodyReading, ended, unended, refused, read_chunked, Standing, after_all, at_start, standing_after, read_len, chunk_step}
use Rattle.body_framing.specs.declared.step.ChunkStep.{ChunkStep}
use Rattle.body_framing.specs.declared.step.ChunkStep.TheVariants as Told
use Rattle.body_framing.proofs.Runs.{read_len-append, read_len-going, read_len-le, standing_joined}
use Rattle.body_framing.proofs.BodyLaws.{place_ended, place_unended, read_front}
use Rattle.request_reader.specs.declared.opened.Opened.{Opened}
use Rattle.request_reader.specs.Request.{is_chunked, read_body, read_counted}
use Rattle.request_reader.specs.Reader.{IsCounted, IsInChunks, IsInBody, data_kept}
use Rattle.request_reader.specs.Opening.{with_bytes, counted_step}
use Rattle.request_reader.specs.Advance.{AdvancesTo}

-- ---- bodies of known length

-- the first n bytes, of which some were read before
pub take_on : (n left : ℕ) (read bytes : List ℕ) → left + length read ≡ n → take n (read ++ bytes) ≡ read ++ take left bytes
take_on n left read bytes is =
    let sum : n ≡ length read + left = omega arith in
    ap (λ (k : ℕ). take k (read ++ bytes)) sum ∙ take-append-add read bytes left

pub counted_on : (n : ℕ) (o : Opened) (read bytes : List ℕ) (taken count : ℕ) → IsCounted n o read taken → count ≡ min o.left (length bytes)
    → IsCounted n (with_bytes o (take count bytes)) (read ++ take count bytes) taken
counted_on n o read bytes taken count h is =
    let len : length (take count bytes) ≡ count = length-take-le count bytes (omega arith) in
    record {
      left = omega (arith, h.left, len, length-append read (take count bytes));
      kept = ap (λ (l : List ℕ). l ++ take count bytes) h.kept ∙ sym (drop-append-le taken read (take count bytes) h.some);
      some = omega (arith, h.some, length-append read (take count bytes));
    }

at_step : (limit : ℕ) (framing : Framing) (read bytes : List ℕ) (taken : ℕ) (step step' : ChunkStep) (o o' : Opened) → step ≡ step' → o ≡ o'
    → AdvancesTo limit framing read bytes taken step o → AdvancesTo limit framing read bytes taken step' o'
at_step limit framing read bytes taken step step' o o' is same a =
    subst (λ (p : Opened). AdvancesTo limit framing read bytes taken step' p) same
    (subst (λ (t : ChunkStep). AdvancesTo limit framing read bytes taken t o) is a)

pub counted_advance : (n limit : ℕ) (framing : Framing) (o : Opened) (read bytes : List ℕ) (taken : ℕ)
    → ((text : List ℕ) → read_body limit framing text ≡ read_counted n text) → ((p : Opened) → data_kept framing p ≡ p.request.body)
    → ((p : Opened) (text : List ℕ) → IsCounted n p text taken → IsInBody framing limit p text taken) → IsCounted n o read taken
    → AdvancesTo limit framing read bytes taken (counted_step o.left (length bytes)) (with_bytes o (take (min o.left (length bytes)) bytes))
counted_advance n limit framing o read bytes taken reads keeps is_body h =
    elim (cases_Bool (leb o.left (length bytes))) [
      | inl all ↦
          let within = leb-true o.left (length bytes) all in
          let count : o.left ≡ min o.left (length bytes) = omega arith in
          let on = counted_on n o read bytes taken o.left h count in
          let text = take_on n o.left read bytes h.left in
          let sum : n ≡ length read + o.left = omega (arith, h.left) in
          at_step limit framing read bytes taken (Told.End o.left) _ (with_bytes o (take o.left bytes)) _ (sym (cond-true _ _ _ all))
          (ap (λ (k : ℕ). with_bytes o (take k bytes)) count) (
            within,
            omega (arith, length-take-le o.left bytes within),
            record {
              decoded = read ++ take o.left bytes;
              reads = reads (read ++ bytes)
                  ∙ cond-true _ _ _ (le-leb n (length (read ++ bytes)) (omega (arith, h.left, length-append read bytes)))
                  ∙ (λ i. ended (text i) (sum i));
              kept = keeps (with_bytes o (take o.left bytes)) ∙ on.kept;
              body = is_body (with_bytes o (take o.left bytes)) (read ++ take o.left bytes) on;
            },
          )
      | inr some ↦
          let short = leb-false o.left (length bytes) some in
          let count : length bytes ≡ min o.left (length bytes) = omega arith in
          let on = counted_on n o read bytes taken (length bytes) h count in
          let whole = take_all (length bytes) bytes (omega arith) in
          at_step limit framing read bytes taken Told.More _ (with_bytes o (take (length bytes) bytes)) _ (sym (cond-false _ _ _ some))
          (ap (λ (k : ℕ). with_bytes o (take k bytes)) count)
          (record {
            decoded = read ++ bytes;
            reads = reads (read ++ bytes) ∙ cond-false _ _ _ (lt-leb n (length (read ++ bytes)) (omega (arith, h.left, length-append read bytes)));
            kept = keeps (with_bytes o (take (length bytes) bytes)) ∙ on.kept ∙ ap (λ (l : List ℕ). drop taken (read ++ l)) whole;
            body = is_body (with_bytes o (take (length bytes) bytes)) (read ++ take (length bytes) bytes) on;
          })
    ]

-- ---- bodies in chunks

abbrev with_chunks : Opened → Standing → Opened
with_chunks o s = record o { chunks = s }

pub chunks_advance : (limit : ℕ) (o : Opened) (read bytes : List ℕ) (taken : ℕ) (step : ChunkStep) → IsInChunks limit o read taken
    → step ≡ chunk_step (length read) (read_chunked limit (read ++ bytes))
    → AdvancesTo limit Chunked read bytes taken step (record o { chunks = after_all o.chunks bytes })
unfolding read_chunked
chunks_advance limit o read bytes taken step h step_is = go (read_chunked limit (read ++ bytes)) refl
  where
    s : Standing
    s = standing_after limit read

    stands : after_all o.chunks bytes ≡ standing_after limit (read ++ bytes)
    stands = ap (λ (t : Standing). after_all t bytes) h.stands ∙ standing_joined limit read bytes

    lens : read_len (at_start limit) (read ++ bytes) ≡ length read + read_len (standing_after limit read) bytes
    lens = read_len-append (at_start limit) read bytes ∙ ap (λ (n : ℕ). n + read_len (standing_after limit read) bytes) h.all

    at : ChunkStep → Type 0
    at told = AdvancesTo limit Chunked read bytes taken told (record o { chunks = after_all o.chunks bytes })

    go : (reading : BodyReading) → read_chunked limit (read ++ bytes) ≡ reading → at step
    go (unended d) is =
        let told : Told.More ≡ step = sym (step_is ∙ ap (chunk_step (length read)) is) in
        let place = place_unended (standing_after limit (read ++ bytes)).place _ d _ is in
        let all = read_len-going (at_start limit) (read ++ bytes) place.0 in
        let whole : read ++ take (length bytes) bytes ≡ read ++ bytes = ap (λ (l : List ℕ). read ++ l) (take_all (length bytes) bytes (omega arith)) in
        subst at told (record {
          decoded = d;
          reads = is;
          kept = ap (λ (t : Standing). t.decoded) stands ∙ place.1 ∙ ap (λ (n : ℕ). drop n d) (sym h.none_taken);
          body = subst (λ (l : List ℕ). IsInChunks limit (with_chunks o (after_all o.chunks bytes)) l taken) (sym whole) (record {
            stands = stands;
            all = all;
            plain = h.plain;
            none_left = h.none_left;
            none_taken = h.none_taken;
          });
        })
    go (ended d n) is =
        let k = read_len (standing_after limit read) bytes in
        let place = place_ended (standing_after limit (read ++ bytes)).place _ d _ n is in
        let front = read_front (standing_after limit read) bytes in
        let within = read_len-le (standing_after limit read) bytes in
        let count : n ≡ length read + k = sym place.2 ∙ lens in
        let used : n - length read ≡ k = omega arith in
        let told : Told.End k ≡ step = sym (step_is ∙ ap (chunk_step (length read)) is ∙ ap (λ (u : ℕ). Told.End u) used) in
        let len = length-take-le k bytes within in
        let more = read_len-append (at_start limit) read (take k bytes) in
        subst at told (
          within,
          h.none_left,
          record {
            decoded = d;
            reads = is ∙ ap (ended d) count;
            kept = ap (λ (t : Standing). t.decoded) stands ∙ place.1 ∙ ap (λ (m : ℕ). drop m d) (sym h.none_taken);
            body = record {
              stands = ap (λ (t : Standing). after_all t bytes) h.stands ∙ sym front.0 ∙ standing_joined limit read (take k bytes);
              all = omega (arith, more, h.all, front.1, len, length-append read (take k bytes));
              plain = h.plain;
              none_left = h.none_left;
              none_taken = h.none_taken;
            };
          },
        )
    go (refused cause) is =
        let told : Told.Bad cause ≡ step = sym (step_is ∙ ap (chunk_step (length read)) is) in
        subst at told (h.none_left, is)

-- ---- either

pub advance_counted : (limit : ℕ) (framing : Framing) (o new : Opened) (read bytes : List ℕ) (taken : ℕ) (step : ChunkStep) → is_chunked framing ≡ false
    → IsInBody framing limit o read taken → new ≡ with_bytes o (take (min o.left (length bytes)) bytes) → step ≡ counted_step o.left (length bytes)
    → AdvancesTo limit framing read bytes taken step new
advance_counted limit Empty o new read bytes taken step plain h new_is step_is =
    at_step limit Empty read bytes taken _ step _ new (sym step_is) (sym new_is)
    (counted_advance 0 limit Empty o read bytes taken (λ text. refl) (λ p. refl) (λ p text c. c) h)
advance_counted limit (Length n) o new read bytes taken step plain h new_is step_is =
    at_step limit (Length n) read bytes taken _ step _ new (sym step_is) (sym new_is)
    (counted_advance n limit (Length n) o read bytes taken (λ text. refl) (λ p. refl) (λ p text c. c) h)
advance_counted limit Chunked o new read bytes taken step plain h new_is step_is = absurd (cc)

pub chunks_stand : (limit : ℕ) (framing : Framing) (o : Opened) (read : List ℕ) (taken : ℕ) → is_chunked framing ≡ true
    → IsInBody framing limit o read taken → o.chunks ≡ standing_after limit read
chunks_stand limit Empty o read taken coded h = absurd (cc)
chunks_stand limit (Length n) o read taken coded h = absurd (cc)
chunks_stand limit Chunked o read taken coded h = h.stands

pub advance_chunks : (limit : ℕ) (framing : Framing) (o new : Opened) (read bytes : List ℕ) (taken : ℕ) (step : ChunkStep) → is_chunked framing ≡ true
    → IsInBody framing limit o read taken → new ≡ record o { chunks = after_all o.chunks bytes }
    → step ≡ chunk_step (length read) (read_chunked limit (read ++ bytes)) → AdvancesTo limit framing read bytes taken step new
advance_chunks limit Empty o new read bytes taken step coded h new_is step_is = absurd (cc)
advance_chunks limit (Length n) o new read bytes taken step coded h new_is step_is = absurd (cc)
advance_chunks limit Chunked o new read bytes taken step coded h new_is step_is =
    subst (λ (p : Opened). AdvancesTo limit Chunked read bytes taken step p) (sym new_is)
    (chunks_advance limit o read bytes taken step h step_is)

-- ---- a call's result, where it is Ok

pub on_ok : {T E : Type 0} (r : Result T E) (A : Type 0) (B C : T → Type 0) → OnOk r A → IfOk r B → ((x : T) → A → B x → C x) → IfOk r C
on_ok (Ok x) A B C a b step = step x a b
on_ok (Err e) A B C a b step = tt
