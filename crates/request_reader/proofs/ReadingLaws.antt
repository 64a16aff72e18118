-- What is read as a request.
use Rattle.std.proofs.Common.{◌≡◌, ℕ, Bool, List, [], ◌++◌, drop, Ok, Err, refl, sym, ap, ◌∙◌, arith, subst}
use Rattle.host_base.specs.declared.cause.Cause.{Cause}
use Rattle.host_base.specs.declared.limits.Limits.{Limits}
use Rattle.host_base.specs.declared.request.Head.{Head}
use Rattle.head_reader.specs.RequestHead.{read_head}
use Rattle.head_reader.specs.declared.step.HeadStep.{HeadStep}
use Rattle.head_reader.specs.declared.step.HeadStep.TheVariants as Step
use Rattle.head_reader.proofs.ReadLaws.{answers_stay, two_for_whole, wholes_are_heads}
use Rattle.body_framing.specs.Chunked.{BodyReading}
use Rattle.request_reader.specs.declared.asked.Asked.{Asked}
use Rattle.request_reader.specs.declared.start.Start.{Start}
use Rattle.request_reader.specs.declared.start.Start.TheVariants as Found
use Rattle.request_reader.specs.Request.{Bad, after_asked, after_head, asked_by, is_head_method, read_body, read_request, with_read}
use Rattle.request_reader.specs.Advance.{AdvancesTo}
use Rattle.request_reader.specs.Starts.{IsStart, StartsAs}

pub reading_at : (limits : Limits) (bytes : List ℕ) (step : HeadStep) → read_head limits bytes ≡ step → read_request limits bytes ≡ after_head limits bytes step
unfolding read_request
reading_at limits bytes step is = ap (after_head limits bytes) is

-- a head that is refused
pub reading_refused : (limits : Limits) (bytes : List ℕ) (head : Head) (used : ℕ) (cause : Cause) → read_head limits bytes ≡ Step.Whole head used
    → asked_by limits head ≡ Err cause → read_request limits bytes ≡ Bad cause (is_head_method head)
reading_refused limits bytes head used cause is refused_for =
    reading_at limits bytes (Step.Whole head used) is
    ∙ ap (after_asked limits.body used (is_head_method head) (drop used bytes)) refused_for

-- a request, by its body
pub reading_asked : (limits : Limits) (bytes : List ℕ) (head : Head) (used : ℕ) (asked : Asked) (reading : BodyReading)
    → read_head limits bytes ≡ Step.Whole head used → asked_by limits head ≡ Ok asked → read_body limits.body asked.request.framing (drop used bytes) ≡ reading
    → read_request limits bytes ≡ with_read used (is_head_method head) asked reading
reading_asked limits bytes head used asked reading is asks reads =
    reading_at limits bytes (Step.Whole head used) is
    ∙ ap (after_asked limits.body used (is_head_method head) (drop used bytes)) asks
    ∙ ap (with_read used (is_head_method head) asked) reads

pub started : (limits : Limits) (bytes rest : List ℕ) (head : Head) (used : ℕ) (start : Start) → read_head limits bytes ≡ Step.Whole head used
    → rest ≡ drop used bytes → StartsAs limits head used rest start → IsStart limits bytes start
started limits bytes rest head used Found.More is rest_is s = absurd s
started limits bytes rest head used (Found.Fault f) is rest_is s =
    reading_refused limits bytes head used f.cause is s.cause ∙ ap (λ (b : Bool). Bad f.cause b) (sym s.bare)
started limits bytes rest head used (Found.Opened o step) is rest_is s =
    record {
      head = head;
      inside = omega (arith, (wholes_are_heads limits bytes head used is).1, s.head_len);
      whole = is ∙ ap (λ (n : ℕ). Step.Whole head n) (sym s.head_len);
      opens = record {
        head_len = refl;
        asks = s.asks;
        advances = subst (λ (l : List ℕ). AdvancesTo limits.body o.request.framing [] l 0 step o)
            (rest_is ∙ ap (λ (n : ℕ). drop n bytes) (sym s.head_len)) s.advances;
      };
    }

-- ---- what follows

-- a whole head stays, whatever follows
pub whole_stays : (limits : Limits) (bytes more : List ℕ) (head : Head) (used : ℕ) → read_head limits bytes ≡ Step.Whole head used
    → read_head limits (bytes ++ more) ≡ Step.Whole head used
whole_stays limits bytes more head used is =
    answers_stay limits bytes more (two_for_whole limits bytes head used is) (λ open_yet. let both : Step.Whole head used ≡ Step.More = sym is ∙ open_yet in absurd (cc)) ∙ is
