-- Whether a reply to a request has no body, however much of the request was read.
use Rattle.std.proofs.Common.{◌≡◌, ◌≢◌, ℕ, ◌+◌, ◌-◌, ◌<◌, Bool, true, false, List, [], ◌∷◌, ◌++◌, length, take, drop, Option, Some, None, Result, Ok, Err, refl, sym, ap, ◌∙◌, subst, arith, take-append-drop, inl, inr}
use Rattle.std.specs.Prelude.{bytes_eq, codes, nat_le, ◌==◌, ◌&&◌, zero, suc, ◌⊎◌, if◌then◌else◌}
use Rattle.std.specs.Option.{option_and_then}
use Rattle.std.proofs.lemmas.Bool.{cases_Bool, false≢true}
use Rattle.std.proofs.lemmas.List.{drop-take, take-take}
use Rattle.std.proofs.lemmas.Slice.Eq.{bytes_eq-Decides}
use Rattle.host_base.specs.declared.cause.Cause.{Cause}
use Rattle.host_base.specs.declared.limits.Limits.{Limits}
use Rattle.host_base.specs.declared.request.Head.{Head}
use Rattle.host_base.specs.declared.request.Request.{Request}
use Rattle.head_lines.specs.Lines.{Front, front_of}
use Rattle.head_reader.specs.HeadLaws.{IsHead, whole_head}
use Rattle.head_reader.specs.RequestHead.{head_of, leading_crlf, most_fields, read_head}
use Rattle.head_reader.specs.declared.step.HeadStep.{HeadStep}
use Rattle.head_reader.specs.declared.step.HeadStep.TheVariants as Step
use Rattle.head_reader.proofs.ReadLaws.{answers_stay, more_is_open, says_the_grammar, two_for_whole, wholes_are_heads}
use Rattle.body_framing.specs.Chunked.{BodyReading, ended, unended, refused}
use Rattle.request_reader.specs.declared.asked.Asked.{Asked}
use Rattle.request_reader.specs.declared.fault.Fault.{Fault}
use Rattle.request_reader.specs.declared.opened.Opened.{Opened}
use Rattle.request_reader.specs.Reader.{IsHeardBy}
use Rattle.request_reader.specs.Request.{Reading, Whole, More, Bad, after_asked, asked_by, is_head_method, read_body, read_request, with_read}
use Rattle.request_reader.proofs.LookLaws.{method_asked}
use Rattle.request_reader.proofs.ReadingLaws.{reading_at}
use Rattle.trace_model.specs.Readings.{headed, is_bare, is_head_request}
use Rattle.exchange_request.specs.Knows.{KnowsRequest, StandsBy, bare_by, bare_of, is_bare_head, is_refused, reading_of}
use Rattle.exchange_request.specs.declared.found.Manner.{Manner}
use Rattle.exchange_request.specs.declared.incoming.Incoming.{Incoming}

-- ---- by the head at the front of all bytes

same_head : (limits : Limits) (bytes : List ℕ) → is_bare_head (read_head limits bytes) ≡ is_bare (read_request limits bytes)
same_head limits bytes = by_head (read_head limits bytes) refl
  where
    by_body : (used : ℕ) (head : Head) (asked : Asked) (reading : BodyReading) → asked.request.method ≡ head.method
        → is_head_method head ≡ is_bare (with_read used (is_head_method head) asked reading)
    by_body used head asked (ended d n) own = ap (λ (m : List ℕ). bytes_eq m (codes "HEAD")) (sym own)
    by_body used head asked (unended d) own = ap (λ (m : List ℕ). bytes_eq m (codes "HEAD")) (sym own)
    by_body used head asked (refused cause) own = refl

    by_asked : (used : ℕ) (head : Head) (answer : Result Asked Cause) → asked_by limits head ≡ answer
        → is_head_method head ≡ is_bare (after_asked limits.body used (is_head_method head) (drop used bytes) answer)
    by_asked used head (Err cause) is = refl
    by_asked used head (Ok asked) is = by_body used head asked (read_body limits.body asked.request.framing (drop used bytes)) (method_asked limits head asked is)

    by_head : (step : HeadStep) → read_head limits bytes ≡ step → is_bare_head step ≡ is_bare (read_request limits bytes)
    by_head (Step.Whole head used) is =
        by_asked used head (asked_by limits head) refl ∙ sym (ap is_bare (reading_at limits bytes (Step.Whole head used) is))
    by_head Step.More is = sym (ap is_bare (reading_at limits bytes Step.More is))
    by_head (Step.Bad cause) is = sym (ap is_bare (reading_at limits bytes (Step.Bad cause) is))

-- ---- the head stays at the front of what is kept

-- a leading CRLF stays where bytes are cut behind it
leading_cut : (bytes : List ℕ) (used : ℕ) → leading_crlf bytes < used → leading_crlf (take used bytes) ≡ leading_crlf bytes
leading_cut bytes zero within = absurd (omega arith)
leading_cut [] (suc zero) within = refl
leading_cut (a ∷ bytes) (suc zero) within =
    elim (cases_Bool (bytes_eq (take 2 (a ∷ bytes)) (13 ∷ 10 ∷ []))) [
      | inl is ↦
          let two : leading_crlf (a ∷ bytes) ≡ 2 = ap (λ (b : Bool). if b then 2 else 0) is in
          absurd (omega (arith, within, two))
      | inr other ↦
          ap (λ (b : Bool). if b then 2 else 0) (one_byte (cases_Bool (bytes_eq (a ∷ []) (13 ∷ 10 ∷ [])))) ∙ sym (ap (λ (b : Bool). if b then 2 else 0) other)
    ]
  where
    one_byte : (bytes_eq (a ∷ []) (13 ∷ 10 ∷ []) ≡ true) ⊎ (bytes_eq (a ∷ []) (13 ∷ 10 ∷ []) ≡ false) → bytes_eq (a ∷ []) (13 ∷ 10 ∷ []) ≡ false
    one_byte (inl is) = let same : a ∷ [] ≡ 13 ∷ 10 ∷ [] = (bytes_eq-Decides (a ∷ []) (13 ∷ 10 ∷ [])).0 is in absurd (cc)
    one_byte (inr other) = other
leading_cut bytes (suc (suc n)) within =
    ap (λ (l : List ℕ). if bytes_eq l (13 ∷ 10 ∷ []) then 2 else 0) (take-take 2 (suc (suc n)) bytes (omega arith))

-- a text with no empty line is no head
open_head : (room : ℕ) (text : List ℕ) (head : Head) → IsHead room text head → front_of text ≡ None → ⊥
unfolding whole_head
open_head room text head is none =
    let whole : whole_head room text ≡ Some head = (says_the_grammar room text head).1 is in
    let both : None ≡ Some head =
    sym (ap (option_and_then (λ (f : Front). if f.len == length text && nat_le (length f.lines) (room + 1) then head_of f.lines else None)) none) ∙ whole in
    absurd (cc)

head_kept : (limits : Limits) (bytes behind : List ℕ) (head : Head) (used : ℕ) → read_head limits bytes ≡ Step.Whole head used
    → read_head limits (take used bytes ++ behind) ≡ Step.Whole head used
head_kept limits bytes behind head used e =
    let two = two_for_whole limits bytes head used e in
    let w = wholes_are_heads limits bytes head used e in
    let before : ℕ = leading_crlf bytes in
    let same : leading_crlf (take used bytes) ≡ before = leading_cut bytes used w.0 in
    let split : before + (used - before) ≡ used = omega (arith, w.0) in
    let text : drop (leading_crlf (take used bytes)) (take used bytes) ≡ take (used - before) (drop before bytes) =
    ap (λ (n : ℕ). drop n (take used bytes)) same ∙ (ap (λ (n : ℕ). drop before (take n bytes)) (sym split) ∙ drop-take before (used - before) bytes) in
    let answered : read_head limits (take used bytes) ≢ Step.More =
    λ open_yet. open_head most_fields (take (used - before) (drop before bytes)) head w.2
    (subst (λ (l : List ℕ). front_of l ≡ None) text ((more_is_open limits (take used bytes)).0 open_yet).0) in
    answers_stay limits (take used bytes) behind two answered
    ∙ (sym (answers_stay limits (take used bytes) (drop used bytes) two answered)
    ∙ (ap (λ (l : List ℕ). read_head limits l) (take-append-drop used bytes) ∙ e))

-- ---- by what is known

bare_heard : (limits : Limits) (fault : Option Fault) (opened : Option Opened) (rest bytes : List ℕ) (taken : ℕ) → is_refused (read_request limits bytes) ≡ false
    → IsHeardBy limits fault opened rest bytes taken → is_bare_head (read_head limits rest) ≡ is_bare (read_request limits bytes)
bare_heard limits None None rest bytes taken served h = ap (λ (l : List ℕ). is_bare_head (read_head limits l)) h.0 ∙ same_head limits bytes
bare_heard limits None (Some o) rest bytes taken served h =
    ap (λ (l : List ℕ). is_bare_head (read_head limits l)) h.rest_is
    ∙ (ap is_bare_head (head_kept limits bytes h.behind h.head o.used h.whole ∙ sym h.whole) ∙ same_head limits bytes)
bare_heard limits (Some f) opened rest bytes taken served h = absurd (false≢true (sym served ∙ ap is_refused h.is))

bare_headed : (reading : Reading) (request : Request) → headed reading ≡ Some request → is_head_request (Some request) ≡ is_bare reading
bare_headed (Whole r used due) request is = ap is_head_request (sym is)
bare_headed (More r due) request is = ap is_head_request (sym is)
bare_headed (Bad cause bare) request is = absurd (cc)

-- Unless its bytes are refused, whatever was found in them.
pub bare_known : (i : Incoming) (bytes : List ℕ) (taken : ℕ) → KnowsRequest i bytes taken → is_refused (reading_of i bytes) ≡ false → bare_of i ≡ is_bare (reading_of i bytes)
bare_known i bytes taken k served = by_stage i.manner i.whole k.stands
  where
    by_stage : (manner : Option Manner) (whole : Bool) → StandsBy i manner whole bytes taken → bare_by i manner ≡ is_bare (reading_of i bytes)
    by_stage None false h =
        subst (λ (l : Limits). is_bare_head (read_head l i.reader.rest) ≡ is_bare (read_request l bytes)) k.limits
        (bare_heard i.reader.limits i.reader.fault i.reader.opened i.reader.rest bytes 0
        (subst (λ (l : Limits). is_refused (read_request l bytes) ≡ false) (sym k.limits) served) h.heard)
    by_stage None true h = absurd h
    by_stage (Some manner) false h = ap (λ (m : Manner). m.head_only) h.manner_is ∙ bare_headed (reading_of i bytes) h.request h.head
    by_stage (Some manner) true h = ap (λ (m : Manner). m.head_only) h.manner_is ∙ bare_headed (reading_of i bytes) h.request (ap headed h.is)
