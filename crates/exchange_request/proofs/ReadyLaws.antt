-- What a reading of an exchange's bytes tells of its request.
use Rattle.std.proofs.Common.{◌≡◌, ℕ, ◌≤◌, Bool, true, false, List, [], drop, Option, Some, None, Result, Ok, Err, refl, sym, ap, ◌∙◌}
use Rattle.std.proofs.Common.{inl, inr}
use Rattle.std.proofs.lemmas.Bool.{cond-true, cond-false}
use Rattle.host_base.proofs.SplitLaws.{chosen}
use Rattle.host_base.specs.declared.cause.Cause.{Cause}
use Rattle.host_base.specs.declared.limits.Limits.{Limits}
use Rattle.host_base.specs.declared.request.Framing.{Framing}
use Rattle.host_base.specs.declared.request.Head.{Head}
use Rattle.host_base.specs.declared.request.Request.{Request}
use Rattle.host_base.specs.declared.request.Target.{Target}
use Rattle.head_reader.specs.RequestHead.{read_head}
use Rattle.head_reader.specs.declared.step.HeadStep.{HeadStep}
use Rattle.head_reader.specs.declared.step.HeadStep.TheVariants as Step
use Rattle.body_framing.specs.Chunked.{BodyReading, ended, unended, refused}
use Rattle.body_framing.specs.Framing.{framing_of}
use Rattle.script_map.specs.Targets.{target_of}
use Rattle.request_reader.specs.declared.asked.Asked.{Asked}
use Rattle.request_reader.specs.declared.step.ReqStep.TheVariants as Answer
use Rattle.request_reader.specs.Request.{Reading, Whole, More, Bad, after_asked, asked_at, asked_expecting, asked_framed, early_of, early_so_far, expects_continue, if_length as early_if, is_begun, is_length, is_head_method, read_body, read_request, request_with, step_of, with_body, with_read, without_taken}
use Rattle.request_reader.proofs.ReadingLaws.{reading_at}
use Rattle.request_reader.proofs.RequestLaws.{begun_at}
use Rattle.trace_model.specs.Readings.{headed, if_length, startable}
use Rattle.exchange_request.specs.Due.{due_by, due_of}

-- ---- 100 Continue

-- it is due by the request itself
pub whole_due : (limits : Limits) (bytes : List ℕ) (request : Request) (used : ℕ) (due : Bool) → read_request limits bytes ≡ Whole request used due
    → due_of request ≡ due
whole_due limits bytes request used due e = by_head (read_head limits bytes) refl
  where
    by_body : (n : ℕ) (bare : Bool) (asked : Asked) (reading : BodyReading) → due_of asked.request ≡ asked.due
        → with_read n bare asked reading ≡ Whole request used due → due_of request ≡ due
    by_body n bare asked (ended d m) own told =
        let same : with_body asked.request d ≡ request = cc in
        let is : asked.due ≡ due = cc in
        sym (ap due_of same) ∙ own ∙ is
    by_body n bare asked (unended d) own told = absurd (cc)
    by_body n bare asked (refused cause) own told = absurd (cc)

    by_due : (n : ℕ) (bare : Bool) (head : Head) (target : Target) (framing : Framing) (answer : Result Bool Cause)
        → expects_continue head.version head.fields framing ≡ answer
        → after_asked limits.body n bare (drop n bytes) (asked_expecting (request_with head target framing []) answer) ≡ Whole request used due
        → due_of request ≡ due
    by_due n bare head target framing (Ok own) is told =
        by_body n bare (record { request = request_with head target framing []; due = own })
        (read_body limits.body framing (drop n bytes)) (ap due_by is) told
    by_due n bare head target framing (Err cause) is told = absurd (cc)

    by_framing : (n : ℕ) (bare : Bool) (head : Head) (target : Target) (framing : Result Framing Cause)
        → after_asked limits.body n bare (drop n bytes) (asked_framed head target framing) ≡ Whole request used due → due_of request ≡ due
    by_framing n bare head target (Ok framing) told =
        by_due n bare head target framing (expects_continue head.version head.fields framing) refl told
    by_framing n bare head target (Err cause) told = absurd (cc)

    by_target : (n : ℕ) (bare : Bool) (head : Head) (target : Result Target Cause)
        → after_asked limits.body n bare (drop n bytes) (asked_at limits head target) ≡ Whole request used due → due_of request ≡ due
    by_target n bare head (Ok target) told = by_framing n bare head target (framing_of head limits) told
    by_target n bare head (Err cause) told = absurd (cc)

    by_head : (step : HeadStep) → read_head limits bytes ≡ step → due_of request ≡ due
    by_head (Step.Whole head n) is =
        by_target n (is_head_method head) head (target_of head) (sym (reading_at limits bytes (Step.Whole head n) is) ∙ e)
    by_head Step.More is =
        let told : More None false ≡ Whole request used due = sym (reading_at limits bytes Step.More is) ∙ e in absurd (cc)
    by_head (Step.Bad cause) is =
        let told : Bad cause false ≡ Whole request used due = sym (reading_at limits bytes (Step.Bad cause) is) ∙ e in absurd (cc)

-- ---- what has begun

-- where the head is whole, a request has begun
pub headed_begun : (limits : Limits) (bytes : List ℕ) (request : Request) → 2 ≤ limits.head → headed (read_request limits bytes) ≡ Some request
    → true ≡ is_begun bytes
headed_begun limits bytes request two is =
    begun_at limits bytes two
    (λ e. let both : None ≡ Some request = sym (ap headed (reading_at limits bytes Step.More e)) ∙ is in absurd (cc))

-- ---- what a reader answers

pub record AnswersWhole (taken : ℕ) (answered : Request) (reading : Reading) : Type 0 where
  pub request : Request
  pub used : ℕ
  pub due : Bool
  pub is : reading ≡ Whole request used due
  pub left : answered ≡ without_taken taken request

pub answers_whole : (taken : ℕ) (answered : Request) (reading : Reading) → Answer.Whole answered ≡ step_of taken reading → AnswersWhole taken answered reading
answers_whole taken answered (Whole request used due) e = record { request = request; used = used; due = due; is = refl; left = cc }
answers_whole taken answered (More request due) e = absurd (cc)
answers_whole taken answered (Bad cause bare) e = absurd (cc)

pub record AnswersMore (due : Bool) (reading : Reading) : Type 0 where
  pub request : Option Request
  pub is : reading ≡ More request due

pub answers_more : (taken : ℕ) (due : Bool) (reading : Reading) → Answer.More due ≡ step_of taken reading → AnswersMore due reading
answers_more taken due (Whole request used own) e = absurd (cc)
answers_more taken due (More request own) e =
    let same : own ≡ due = cc in record { request = request; is = ap (λ (b : Bool). More request b) same }
answers_more taken due (Bad cause bare) e = absurd (cc)

pub answers_bad : (taken : ℕ) (cause : Cause) (bare : Bool) (reading : Reading) → Answer.Bad cause bare ≡ step_of taken reading → reading ≡ Bad cause bare
answers_bad taken cause bare (Whole request used due) e = absurd (cc)
answers_bad taken cause bare (More request due) e = absurd (cc)
answers_bad taken cause bare (Bad own own_bare) e =
    let same : own ≡ cause = cc in
    let same_bare : own_bare ≡ bare = cc in
    λ i. Bad (same i) (same_bare i)

-- a request that can be served before it has ended
pub record AnswersEarly (taken : ℕ) (answered : Request) (reading : Option Request) : Type 0 where
  pub request : Request
  pub is : reading ≡ Some request
  pub long : is_length request.framing ≡ true
  pub left : answered ≡ without_taken taken request

by_length : (taken : ℕ) (answered request : Request) → early_if taken request ≡ Some answered → AnswersEarly taken answered (Some request)
by_length taken answered request e =
    elim (chosen (is_length request.framing) (Some (without_taken taken request)) None (Some answered) e) [
      | inl long ↦ let told = long.1 in record { request = request; is = refl; long = long.0; left = cc }
      | inr short ↦ let told = short.1 in absurd (cc)
    ]

answers_early : (taken : ℕ) (answered : Request) (request : Option Request) → early_so_far taken request ≡ Some answered → AnswersEarly taken answered request
answers_early taken answered None e = absurd (cc)
answers_early taken answered (Some request) e = by_length taken answered request e

-- where more is to come
pub early_more : (taken : ℕ) (answered : Request) (request : Option Request) (due : Bool) (reading : Reading) → reading ≡ More request due
    → Some answered ≡ early_of taken reading → AnswersEarly taken answered request
early_more taken answered request due reading is e = answers_early taken answered request (sym (e ∙ ap (early_of taken) is))

none_early : (request : Option Request) → early_so_far 0 request ≡ None → if_length request ≡ None
none_early None e = refl
none_early (Some request) e =
    elim (chosen (is_length request.framing) (Some (without_taken 0 request)) None None e) [
      | inl long ↦ let told = long.1 in absurd (cc)
      | inr short ↦ cond-false _ _ _ short.0
    ]

-- .. and none can be served
pub unready_more : (request : Option Request) (due : Bool) (reading : Reading) → reading ≡ More request due → None ≡ early_of 0 reading → if_length request ≡ None
unready_more request due reading is e = none_early request (sym (e ∙ ap (early_of 0) is))

-- a request of known length that is not whole can be served
pub startable_more : (request : Option Request) (due : Bool) (reading : Reading) (r : Request) → reading ≡ More request due → request ≡ Some r
    → is_length r.framing ≡ true → startable reading ≡ Some r
startable_more request due reading r is some long = ap startable is ∙ ap if_length some ∙ cond-true _ _ _ long
