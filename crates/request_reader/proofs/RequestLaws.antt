-- Laws of the reading of requests.
use Rattle.std.proofs.Common.{◌≡◌, ℕ, ◌+◌, ◌-◌, ◌≤◌, Bool, true, false, cond, ltb, leb, ◌&&◌, List, [], ◌∷◌, ◌++◌, length, take, drop, Option, Some, None, Result, Ok, Err, is_some, refl, sym, ap, ◌∙◌, arith, subst, inl, inr}
use Rattle.std.specs.Prelude.{◌↔◌, ◌⊎◌, All, bytes_eq, codes}
use Rattle.std.specs.List.{list_any}
use Rattle.std.specs.Str.{str_eq_ignore_ascii_case}
use Rattle.std.proofs.lemmas.Slice.Eq.{bytes_eq-Decides}
use Rattle.std.proofs.lemmas.Bool.{cases_Bool, cond-true, cond-false, ltb-false, leb-true, and_parts, and_from, or_parts}
use Rattle.std.proofs.lemmas.List.{drop-append-le, drop_at, length-drop, length-take-le, nil_from_length, take_all}
use Rattle.std.proofs.lemmas.List.Elements.{All-nil, All-cons}
use Rattle.std.proofs.lemmas.List.Folds.{list_any_none}
use Rattle.host_base.specs.FieldLists.{field_words}
use Rattle.host_base.specs.declared.cause.Cause.{Cause}
use Rattle.host_base.specs.declared.limits.Limits.{Limits}
use Rattle.host_base.specs.declared.request.Framing.{Framing}
use Rattle.host_base.specs.declared.request.Framing.TheVariants.{Empty, Length, Chunked}
use Rattle.host_base.specs.declared.request.Head.{Head}
use Rattle.host_base.specs.declared.request.Request.{Request}
use Rattle.host_base.specs.declared.request.Target.{Target}
use Rattle.host_base.specs.declared.request.Version.{Version}
use Rattle.host_base.specs.declared.request.Version.TheVariants.{V10, V11}
use Rattle.host_base.proofs.SplitLaws.{chosen}
use Rattle.head_lines.specs.Lines.{front_of_parts}
use Rattle.head_reader.specs.RequestHead.{leading_crlf, read_head}
use Rattle.head_reader.specs.declared.step.HeadStep.{HeadStep}
use Rattle.head_reader.specs.declared.step.HeadStep.TheVariants as Step
use Rattle.head_reader.proofs.ReadLaws.{heads_are_read, more_is_open, two_for_whole, wholes_are_heads}
use Rattle.body_framing.specs.Chunked.{BodyReading, ended, unended, refused}
use Rattle.body_framing.specs.Framing.{framing_of}
use Rattle.body_framing.proofs.BodyLaws.{bodies_are_read}
use Rattle.script_map.specs.Targets.{target_of}
use Rattle.request_reader.specs.declared.asked.Asked.{Asked}
use Rattle.request_reader.specs.declared.fault.Fault.{Fault}
use Rattle.request_reader.specs.declared.opened.Opened.{Opened}
use Rattle.request_reader.specs.Request.{Reading, Whole, More, Bad, after_asked, asked_at, asked_by, asked_expecting, asked_framed, expects_continue, is_begun, is_head_method, is_v11, persists, read_body, read_counted, read_request, request_with, used_by, with_body, with_read}
use Rattle.request_reader.specs.Reader.{IsHeardBy}
use Rattle.request_reader.specs.RequestLaws.{BareIsHead, BegunIsMore, HeadsAreAnswered, IsBodyText, IsRequest, PersistsUnlessClosed, RestsStay, WholesAreRequests}
use Rattle.request_reader.proofs.ReadingLaws.{reading_at}

-- ---- what has begun

left_false : (a b : Bool) → (a && b) ≡ false → b ≡ true → a ≡ false
left_false true b e is = let both : true ≡ false = sym is ∙ e in absurd (cc)
left_false false b e is = refl

not_begun : (bytes : List ℕ) → is_begun bytes ≡ false → (bytes ≡ []) ⊎ ((bytes ≡ 13 ∷ []) ⊎ (bytes ≡ 13 ∷ 10 ∷ []))
not_begun bytes none =
    elim (cases_Bool (bytes_eq bytes (13 ∷ []))) [
      | inl lone ↦ inr (inl ((bytes_eq-Decides bytes (13 ∷ [])).0 lone))
      | inr other ↦
          let nothing : ltb 0 (length (drop (leading_crlf bytes) bytes)) ≡ false = left_false _ _ none (cond-false _ _ _ other) in
          let short = ltb-false 0 (length (drop (leading_crlf bytes) bytes)) nothing in
          elim (cases_Bool (bytes_eq (take 2 bytes) (13 ∷ 10 ∷ []))) [
            | inl crlf ↦
                let two : leading_crlf bytes ≡ 2 = cond-true _ _ _ crlf in
                let len : length bytes ≤ 2 = omega (arith, short, two, length-drop (leading_crlf bytes) bytes) in
                inr (inr (sym (take_all 2 bytes len) ∙ (bytes_eq-Decides (take 2 bytes) (13 ∷ 10 ∷ [])).0 crlf))
            | inr plain ↦
                let no : leading_crlf bytes ≡ 0 = cond-false _ _ _ plain in
                inl (nil_from_length bytes (omega (arith, short, no, length-drop (leading_crlf bytes) bytes)))
          ]
    ]

pub begun_is_more : BegunIsMore
begun_is_more bytes = (not_begun bytes, back)
  where
    back : (bytes ≡ []) ⊎ ((bytes ≡ 13 ∷ []) ⊎ (bytes ≡ 13 ∷ 10 ∷ [])) → is_begun bytes ≡ false
    back (inl is) = ap is_begun is
    back (inr (inl is)) = ap is_begun is
    back (inr (inr is)) = ap is_begun is

-- where nothing has begun, the head has not ended
pub unbegun_more : (limits : Limits) (bytes : List ℕ) → 2 ≤ limits.head → (bytes ≡ []) ⊎ ((bytes ≡ 13 ∷ []) ⊎ (bytes ≡ 13 ∷ 10 ∷ []))
    → read_head limits bytes ≡ Step.More
unfolding front_of_parts
unbegun_more limits bytes two (inl is) = ap (read_head limits) is ∙ (more_is_open limits []).1 (refl, omega arith)
unbegun_more limits bytes two (inr (inl is)) = ap (read_head limits) is ∙ (more_is_open limits (13 ∷ [])).1 (refl, omega arith)
unbegun_more limits bytes two (inr (inr is)) = ap (read_head limits) is ∙ (more_is_open limits (13 ∷ 10 ∷ [])).1 (refl, omega arith)

pub begun_at : (limits : Limits) (bytes : List ℕ) → 2 ≤ limits.head → (read_head limits bytes ≡ Step.More → ⊥) → true ≡ is_begun bytes
begun_at limits bytes two other =
    elim (cases_Bool (is_begun bytes)) [
      | inl is ↦ sym is
      | inr none ↦ absurd (other (unbegun_more limits bytes two (not_begun bytes none)))
    ]

-- where a head or a fault was found, a request has begun
pub heard_begun : (limits : Limits) (fault : Option Fault) (opened : Option Opened) (rest bytes : List ℕ) (taken : ℕ)
    → IsHeardBy limits fault opened rest bytes taken → (is_some opened ≡ true) ⊎ (is_some fault ≡ true) → true ≡ is_begun bytes
heard_begun limits (Some f) opened rest bytes taken h found =
    begun_at limits bytes h.lasts
    (λ e. let both : Bad f.cause f.bare ≡ More None false = sym h.is ∙ reading_at limits bytes Step.More e in absurd (cc))
heard_begun limits None (Some o) rest bytes taken h found =
    begun_at limits bytes (two_for_whole limits bytes h.head o.used h.whole)
    (λ e. let both : Step.Whole h.head o.used ≡ Step.More = sym h.whole ∙ e in absurd (cc))
heard_begun limits None None rest bytes taken h (inl found) = absurd (cc)
heard_begun limits None None rest bytes taken h (inr found) = absurd (cc)

-- ---- what persists

none_of : (test : List ℕ → Bool) (words : List (List ℕ)) → list_any test words ≡ false → All (λ word. test word ≡ false) words
none_of test [] none = All-nil (λ word. test word ≡ false)
none_of test (word ∷ words) none =
    let parts = or_parts (test word) (list_any test words) none in
    All-cons (λ w. test w ≡ false) word words parts.0 (none_of test words parts.1)

v11_alone : (version : Version) → is_v11 version ≡ true → version ≡ V11
v11_alone V10 is = absurd (cc)
v11_alone V11 is = refl

pub persists_unless_closed : PersistsUnlessClosed
persists_unless_closed request = (there, back)
  where
    closes : List ℕ → Bool
    closes = str_eq_ignore_ascii_case (codes "close")

    words : List (List ℕ)
    words = field_words (codes "Connection") request.fields

    there : persists request ≡ true → (request.version ≡ V11) × All (λ word. str_eq_ignore_ascii_case (codes "close") word ≡ false) words
    there is =
        let parts = and_parts (is_v11 request.version) (cond (list_any closes words) false true) is in
        elim (chosen (list_any closes words) false true true parts.1) [
          | inl closed ↦ absurd (cc)
          | inr kept ↦ (v11_alone request.version parts.0, none_of closes words kept.0)
        ]

    back : (request.version ≡ V11) × All (λ word. str_eq_ignore_ascii_case (codes "close") word ≡ false) words → persists request ≡ true
    back is = and_from _ _ (ap is_v11 is.0) (cond-false _ _ _ (list_any_none closes words is.1))

-- ---- a reply without a body

bare_of : (limit used : ℕ) (head_bare : Bool) (bytes : List ℕ) (asked : Result Asked Cause) (cause : Cause) (bare : Bool)
    → after_asked limit used head_bare bytes asked ≡ Bad cause bare → bare ≡ head_bare
bare_of limit used head_bare bytes (Err own) cause bare e = cc
bare_of limit used head_bare bytes (Ok asked) cause bare e = by_body (read_body limit asked.request.framing bytes) e
  where
    by_body : (reading : BodyReading) → with_read used head_bare asked reading ≡ Bad cause bare → bare ≡ head_bare
    by_body (ended d n) is = absurd (cc)
    by_body (unended d) is = absurd (cc)
    by_body (refused own) is = cc

pub bare_is_head : BareIsHead
bare_is_head limits bytes cause bare e = by_head (read_head limits bytes) refl
  where
    by_head : (step : HeadStep) → read_head limits bytes ≡ step
        → (bare ≡ true) ↔ ((head : Head) × ((used : ℕ) × ((read_head limits bytes ≡ Step.Whole head used) × (head.method ≡ codes "HEAD"))))
    by_head (Step.Whole head used) is =
        let same = bare_of limits.body used (is_head_method head) (drop used bytes) (asked_by limits head) cause bare
        (sym (reading_at limits bytes (Step.Whole head used) is) ∙ e) in
        let decides = bytes_eq-Decides head.method (codes "HEAD") in (
          λ set. (head, (used, (is, decides.0 (sym same ∙ set)))),
          λ found.
              let both : Step.Whole head used ≡ Step.Whole found.0 found.1.0 = sym is ∙ found.1.1.0 in
              let own : head ≡ found.0 = cc in
              same ∙ decides.1 (ap (λ (h : Head). h.method) own ∙ found.1.1.1),
        )
    by_head Step.More is =
        let told : More None false ≡ Bad cause bare = sym (reading_at limits bytes Step.More is) ∙ e in absurd (cc)
    by_head (Step.Bad own) is =
        let told : Bad own false ≡ Bad cause bare = sym (reading_at limits bytes (Step.Bad own) is) ∙ e in (
          λ set. absurd (cc),
          λ found. let both : Step.Bad own ≡ Step.Whole found.0 found.1.0 = sym is ∙ found.1.1.0 in absurd (cc),
        )

-- ---- heads

pub heads_are_answered : HeadsAreAnswered
heads_are_answered limits bytes more head is fits short =
    let read = heads_are_read limits bytes more head is fits short in (
      reading_at limits (bytes ++ more) (Step.Whole head (length bytes)) read.0
          ∙ ap (λ (l : List ℕ). after_asked limits.body (length bytes) (is_head_method head) l (asked_by limits head)) (drop_at bytes more (length bytes) refl),
      reading_at limits (13 ∷ 10 ∷ (bytes ++ more)) (Step.Whole head (2 + length bytes)) read.1
          ∙ ap (λ (l : List ℕ). after_asked limits.body (2 + length bytes) (is_head_method head) l (asked_by limits head))
          (drop_at (13 ∷ 10 ∷ bytes) more (2 + length bytes) (omega arith)),
    )

-- ---- whole requests

record IsAsked (limits : Limits) (head : Head) (asked : Asked) : Type 0 where
  pub target : target_of head ≡ Ok asked.request.target
  pub framing : framing_of head limits ≡ Ok asked.request.framing
  pub request : asked.request ≡ request_with head asked.request.target asked.request.framing []

asked_parts : (limits : Limits) (head : Head) (asked : Asked) → asked_by limits head ≡ Ok asked → IsAsked limits head asked
asked_parts limits head asked e = by_target (target_of head) refl e
  where
    by_due : (target : Target) (framing : Framing) (due : Result Bool Cause) → target_of head ≡ Ok target → framing_of head limits ≡ Ok framing
        → asked_expecting (request_with head target framing []) due ≡ Ok asked → IsAsked limits head asked
    by_due target framing (Ok due) at framed told =
        let own : record { request = request_with head target framing []; due = due } ≡ asked = cc in
        let aimed : target ≡ asked.request.target = ap (λ (a : Asked). a.request.target) own in
        let sized : framing ≡ asked.request.framing = ap (λ (a : Asked). a.request.framing) own in
        record {
          target = at ∙ ap (λ (t : Target). Ok t) aimed;
          framing = framed ∙ ap (λ (f : Framing). Ok f) sized;
          request = sym (ap (λ (a : Asked). a.request) own) ∙ (λ i. request_with head (aimed i) (sized i) []);
        }
    by_due target framing (Err cause) at framed told = absurd (cc)

    by_framing : (target : Target) (framing : Result Framing Cause) → target_of head ≡ Ok target → framing_of head limits ≡ framing
        → asked_framed head target framing ≡ Ok asked → IsAsked limits head asked
    by_framing target (Ok framing) at framed told = by_due target framing (expects_continue head.version head.fields framing) at framed told
    by_framing target (Err cause) at framed told = absurd (cc)

    by_target : (target : Result Target Cause) → target_of head ≡ target → asked_at limits head target ≡ Ok asked → IsAsked limits head asked
    by_target (Ok target) at told = by_framing target (framing_of head limits) at refl told
    by_target (Err cause) at told = absurd (cc)

counted_text : (len : ℕ) (text d : List ℕ) (n : ℕ) → read_counted len text ≡ ended d n → (len ≡ n) × (n ≤ length text) × (d ≡ take n text)
counted_text len text d n e =
    elim (chosen (leb len (length text)) _ _ _ e) [
      | inl all ↦
          let told : ended (take len text) len ≡ ended d n = all.1 in
          let count : len ≡ n = cc in
          let front : take len text ≡ d = cc in
          (count, omega (arith, leb-true len (length text) all.0), sym front ∙ ap (λ (k : ℕ). take k text) count)
      | inr some ↦ absurd (cc)
    ]

body_text : (limit : ℕ) (framing : Framing) (text d : List ℕ) (n : ℕ) → read_body limit framing text ≡ ended d n
    → (n ≤ length text) × IsBodyText limit framing (take n text) d
body_text limit Empty text d n e =
    let c = counted_text 0 text d n e in
    let nothing : take n text ≡ [] = ap (λ (k : ℕ). take k text) (sym c.0) in
    (c.1, (nothing, c.2 ∙ nothing))
body_text limit (Length len) text d n e =
    let c = counted_text len text d n e in
    (c.1, (length-take-le n text c.1 ∙ sym c.0, c.2))
body_text limit Chunked text d n e = (bodies_are_read limit n text d).0 e

pub wholes_are_requests : WholesAreRequests
wholes_are_requests limits bytes request used due e = by_head (read_head limits bytes) refl
  where
    by_body : (head : Head) (n : ℕ) (asked : Asked) (reading : BodyReading) → read_head limits bytes ≡ Step.Whole head n → IsAsked limits head asked
        → read_body limits.body asked.request.framing (drop n bytes) ≡ reading
        → with_read n (is_head_method head) asked reading ≡ Whole request used due → IsRequest limits bytes used request
    by_body head n asked (ended d m) is parts reads told =
        let own : with_body asked.request d ≡ request = cc in
        let sum : n + m ≡ used = cc in
        let text = body_text limits.body asked.request.framing (drop n bytes) d m reads in
        let whole = wholes_are_heads limits bytes head n is in
        let aimed : asked.request.target ≡ request.target = ap (λ (r : Request). r.target) own in
        let sized : asked.request.framing ≡ request.framing = ap (λ (r : Request). r.framing) own in
        let carried : d ≡ request.body = ap (λ (r : Request). r.body) own in
        let count : m ≡ used - n = omega arith in
        record {
          head = head;
          len = n;
          some = omega (arith, whole.0);
          ordered = omega arith;
          inside = omega (arith, text.0, whole.1, length-drop n bytes);
          reads = whole.2;
          target = parts.target ∙ ap (λ (t : Target). Ok t) aimed;
          framing = parts.framing ∙ ap (λ (f : Framing). Ok f) sized;
          body = subst (λ (f : Framing). IsBodyText limits.body f (take (used - n) (drop n bytes)) request.body) sized
              (subst (λ (b : List ℕ). IsBodyText limits.body asked.request.framing (take (used - n) (drop n bytes)) b) carried
              (subst (λ (k : ℕ). IsBodyText limits.body asked.request.framing (take k (drop n bytes)) d) count text.1));
          says = sym own ∙ ap (λ (q : Request). with_body q d) parts.request ∙ (λ i. request_with head (aimed i) (sized i) (carried i));
        }
    by_body head n asked (unended d) is parts reads told = absurd (cc)
    by_body head n asked (refused cause) is parts reads told = absurd (cc)

    by_asked : (head : Head) (n : ℕ) (asked : Result Asked Cause) → read_head limits bytes ≡ Step.Whole head n → asked_by limits head ≡ asked
        → after_asked limits.body n (is_head_method head) (drop n bytes) asked ≡ Whole request used due → IsRequest limits bytes used request
    by_asked head n (Ok asked) is asks told =
        by_body head n asked (read_body limits.body asked.request.framing (drop n bytes)) is (asked_parts limits head asked asks) refl told
    by_asked head n (Err cause) is asks told = absurd (cc)

    by_head : (step : HeadStep) → read_head limits bytes ≡ step → IsRequest limits bytes used request
    by_head (Step.Whole head n) is =
        by_asked head n (asked_by limits head) is refl (sym (reading_at limits bytes (Step.Whole head n) is) ∙ e)
    by_head Step.More is =
        let told : More None false ≡ Whole request used due = sym (reading_at limits bytes Step.More is) ∙ e in absurd (cc)
    by_head (Step.Bad cause) is =
        let told : Bad cause false ≡ Whole request used due = sym (reading_at limits bytes (Step.Bad cause) is) ∙ e in absurd (cc)

-- ---- what follows

used-le : (limits : Limits) (bytes : List ℕ) → used_by (read_request limits bytes) ≤ length bytes
used-le limits bytes = go (read_request limits bytes) refl
  where
    go : (reading : Reading) → read_request limits bytes ≡ reading → used_by reading ≤ length bytes
    go (Whole request used due) is = (wholes_are_requests limits bytes request used due is).inside
    go (More request due) is = omega arith
    go (Bad cause bare) is = omega arith

pub rests_stay : RestsStay
rests_stay limits bytes more = drop-append-le (used_by (read_request limits bytes)) bytes more (used-le limits bytes)
