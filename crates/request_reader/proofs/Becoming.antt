-- What a reading becomes when more bytes have come.
use Rattle.std.proofs.Common.{◌≡◌, ◌≢◌, ℕ, ◌-◌, ◌≤◌, Bool, false, leb, List, ◌++◌, length, take, drop, Result, Ok, Err, refl, sym, ap, ◌∙◌, arith, subst, length-append, inl, inr}
use Rattle.std.specs.Prelude.{bytes_eq, codes}
use Rattle.std.proofs.lemmas.List.{take_all, take-append-le, take-append-drop, drop-append-le}
use Rattle.std.proofs.lemmas.Bool.{cases_Bool, cond-true, cond-false, leb-true, leb-false, le-leb}
use Rattle.host_base.specs.declared.cause.Cause.{Cause}
use Rattle.host_base.specs.declared.limits.Limits.{Limits}
use Rattle.host_base.specs.declared.request.Framing.{Framing}
use Rattle.host_base.specs.declared.request.Framing.TheVariants.{Empty, Length, Chunked}
use Rattle.host_base.specs.declared.request.Head.{Head}
use Rattle.head_reader.specs.RequestHead.{read_head}
use Rattle.head_reader.specs.declared.step.HeadStep.{HeadStep}
use Rattle.head_reader.specs.declared.step.HeadStep.TheVariants as Step
use Rattle.head_reader.proofs.ReadLaws.{answers_stay, wholes_are_heads}
use Rattle.body_framing.specs.Chunked.{BodyReading, ended, unended, refused, read_chunked, Standing, standing_after}
use Rattle.body_framing.proofs.Runs.{decoded_stays, standing_joined}
use Rattle.body_framing.proofs.BodyLaws.{place_ended, place_unended, readings_stay}
use Rattle.request_reader.specs.declared.asked.Asked.{Asked}
use Rattle.request_reader.specs.Request.{Reading, Bad, after_asked, asked_by, is_head_method, is_length, read_body, read_counted, read_request, with_body, with_read}
use Rattle.request_reader.specs.RequestLaws.{Becomes, ReadingsBecome}
use Rattle.request_reader.proofs.Bodies.{take_on}
use Rattle.request_reader.proofs.LookLaws.{method_asked}
use Rattle.request_reader.proofs.ReadingLaws.{reading_at, whole_stays}

-- ---- bodies

abbrev Grows : Framing → List ℕ → BodyReading → Type 0
Grows framing d (ended d' n) = (some : List ℕ) × (d' ≡ d ++ some)
Grows framing d (unended d') = (some : List ℕ) × (d' ≡ d ++ some)
Grows framing d (refused cause) = is_length framing ≡ false

abbrev BodyBecomes : Framing → BodyReading → BodyReading → Type 0
BodyBecomes framing (ended d n) next = next ≡ ended d n
BodyBecomes framing (unended d) next = Grows framing d next
BodyBecomes framing (refused cause) next = next ≡ refused cause

becomes_at : (framing : Framing) (a a' b b' : BodyReading) → a' ≡ a → b' ≡ b → BodyBecomes framing a b → BodyBecomes framing a' b'
becomes_at framing a a' b b' a_is b_is h =
    subst (λ (r : BodyReading). BodyBecomes framing r b') (sym a_is) (subst (λ (r : BodyReading). BodyBecomes framing a r) (sym b_is) h)

counted_becomes : (n : ℕ) (framing : Framing) (text more : List ℕ) → BodyBecomes framing (read_counted n text) (read_counted n (text ++ more))
counted_becomes n framing text more =
    elim (cases_Bool (leb n (length text))) [
      | inl all ↦
          let within = leb-true n (length text) all in
          becomes_at framing (ended (take n text) n) _ (ended (take n text) n) _ (cond-true _ _ _ all)
          (cond-true _ _ _ (le-leb n (length (text ++ more)) (omega (arith, length-append text more))) ∙ ap (λ (l : List ℕ). ended l n) (take-append-le n text more within)) refl
      | inr some ↦
          let short = leb-false n (length text) some in
          elim (cases_Bool (leb n (length (text ++ more)))) [
            | inl all ↦
                becomes_at framing (unended text) _ (ended (take n (text ++ more)) n) _ (cond-false _ _ _ some) (cond-true _ _ _ all)
                (take (n - length text) more, take_on n (n - length text) text more (omega arith))
            | inr yet ↦
                becomes_at framing (unended text) _ (unended (text ++ more)) _ (cond-false _ _ _ some) (cond-false _ _ _ yet) (more, refl)
          ]
    ]

-- what was decoded begins what is decoded later
data_grows : (limit : ℕ) (text more d : List ℕ) → (standing_after limit text).decoded ≡ d
    → (some : List ℕ) × ((standing_after limit (text ++ more)).decoded ≡ d ++ some)
data_grows limit text more d is =
    let s = standing_after limit text in
    let later = (standing_after limit (text ++ more)).decoded in
    let front : take (length d) later ≡ d =
    ap (λ (t : Standing). take (length d) t.decoded) (sym (standing_joined limit text more))
    ∙ decoded_stays d s more (ap (take (length d)) is ∙ take_all (length d) d (omega arith)) in
    (drop (length d) later, sym (take-append-drop (length d) later) ∙ ap (λ (l : List ℕ). l ++ drop (length d) later) front)

chunked_becomes : (limit : ℕ) (text more : List ℕ) → BodyBecomes Chunked (read_chunked limit text) (read_chunked limit (text ++ more))
unfolding read_chunked
chunked_becomes limit text more = go (read_chunked limit text) refl
  where
    stays : ((d : List ℕ) → read_chunked limit text ≢ unended d) → read_chunked limit (text ++ more) ≡ read_chunked limit text
    stays other = readings_stay limit text more other

    grows : (d : List ℕ) → (standing_after limit text).decoded ≡ d → (reading : BodyReading) → read_chunked limit (text ++ more) ≡ reading → Grows Chunked d reading
    grows d is (ended d' n) e =
        let place = place_ended (standing_after limit (text ++ more)).place _ d' _ n e in
        let g = data_grows limit text more d is in
        (g.0, sym place.1 ∙ g.1)
    grows d is (unended d') e =
        let place = place_unended (standing_after limit (text ++ more)).place _ d' _ e in
        let g = data_grows limit text more d is in
        (g.0, sym place.1 ∙ g.1)
    grows d is (refused cause) e = refl

    go : (reading : BodyReading) → read_chunked limit text ≡ reading → BodyBecomes Chunked (read_chunked limit text) (read_chunked limit (text ++ more))
    go (ended d n) e =
        subst (λ (r : BodyReading). BodyBecomes Chunked r (read_chunked limit (text ++ more))) (sym e)
        (stays (λ d' same. let both : ended d n ≡ unended d' = sym e ∙ same in absurd (cc)) ∙ e)
    go (refused cause) e =
        subst (λ (r : BodyReading). BodyBecomes Chunked r (read_chunked limit (text ++ more))) (sym e)
        (stays (λ d' same. let both : refused cause ≡ unended d' = sym e ∙ same in absurd (cc)) ∙ e)
    go (unended d) e =
        let place = place_unended (standing_after limit text).place _ d _ e in
        subst (λ (r : BodyReading). BodyBecomes Chunked r (read_chunked limit (text ++ more))) (sym e)
        (grows d place.1 (read_chunked limit (text ++ more)) refl)

body_becomes : (limit : ℕ) (framing : Framing) (text more : List ℕ) → BodyBecomes framing (read_body limit framing text) (read_body limit framing (text ++ more))
body_becomes limit Empty text more = counted_becomes 0 Empty text more
body_becomes limit (Length n) text more = counted_becomes n (Length n) text more
body_becomes limit Chunked text more = chunked_becomes limit text more

-- ---- requests

with_read_becomes : (used : ℕ) (bare : Bool) (asked : Asked) (a b : BodyReading) → bare ≡ bytes_eq asked.request.method (codes "HEAD")
    → BodyBecomes asked.request.framing a b → Becomes (with_read used bare asked a) (with_read used bare asked b)
with_read_becomes used bare asked (ended d n) b bare_is h = ap (with_read used bare asked) h
with_read_becomes used bare asked (refused cause) b bare_is h = ap (with_read used bare asked) h
with_read_becomes used bare asked (unended d) (ended d' n) bare_is h = ((h.0, ap (with_body asked.request) h.1), refl)
with_read_becomes used bare asked (unended d) (unended d') bare_is h = ((h.0, ap (with_body asked.request) h.1), refl)
with_read_becomes used bare asked (unended d) (refused cause) bare_is h = (h, bare_is)

reading_becomes : (a a' b b' : Reading) → a' ≡ a → b' ≡ b → Becomes a b → Becomes a' b'
reading_becomes a a' b b' a_is b_is h = subst (λ (r : Reading). Becomes r b') (sym a_is) (subst (λ (r : Reading). Becomes a r) (sym b_is) h)

pub readings_become : ReadingsBecome
readings_become limits bytes more two = go (read_head limits bytes) refl
  where
    asked_becomes : (head : Head) (used : ℕ) → used ≤ length bytes → (asked : Result Asked Cause) → asked_by limits head ≡ asked
        → Becomes (after_asked limits.body used (is_head_method head) (drop used bytes) asked) (after_asked limits.body used (is_head_method head) (drop used (bytes ++ more)) asked)
    asked_becomes head used inside (Err cause) is = refl
    asked_becomes head used inside (Ok asked) is =
        let text = drop used bytes in
        let grown : drop used (bytes ++ more) ≡ text ++ more = drop-append-le used bytes more inside in
        let method = method_asked limits head asked is in
        subst (λ (l : List ℕ). Becomes (with_read used (is_head_method head) asked (read_body limits.body asked.request.framing text))
        (with_read used (is_head_method head) asked (read_body limits.body asked.request.framing l))) (sym grown)
        (with_read_becomes used (is_head_method head) asked _ _ (ap (λ (m : List ℕ). bytes_eq m (codes "HEAD")) (sym method))
        (body_becomes limits.body asked.request.framing text more))

    go : (step : HeadStep) → read_head limits bytes ≡ step → Becomes (read_request limits bytes) (read_request limits (bytes ++ more))
    go (Step.Whole head used) is =
        let inside = (wholes_are_heads limits bytes head used is).1 in
        reading_becomes _ _ _ _ (reading_at limits bytes (Step.Whole head used) is)
        (reading_at limits (bytes ++ more) (Step.Whole head used) (whole_stays limits bytes more head used is))
        (asked_becomes head used inside (asked_by limits head) refl)
    go Step.More is =
        subst (λ (r : Reading). Becomes r (read_request limits (bytes ++ more))) (sym (reading_at limits bytes Step.More is)) tt
    go (Step.Bad cause) is =
        let later = answers_stay limits bytes more two (λ e. let both : Step.Bad cause ≡ Step.More = sym is ∙ e in absurd (cc)) ∙ is in
        reading_becomes (Bad cause false) _ (Bad cause false) _ (reading_at limits bytes (Step.Bad cause) is)
        (reading_at limits (bytes ++ more) (Step.Bad cause) later) refl

-- a fault stays, whatever follows
pub bad_stays : (limits : Limits) (bytes more : List ℕ) (cause : Cause) (bare : Bool) → 2 ≤ limits.head → read_request limits bytes ≡ Bad cause bare
    → read_request limits (bytes ++ more) ≡ Bad cause bare
bad_stays limits bytes more cause bare two is =
    subst (λ (r : Reading). Becomes r (read_request limits (bytes ++ more))) is (readings_become limits bytes more two)
