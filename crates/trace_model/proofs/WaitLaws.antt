-- What waits while too much waits to be sent.
use Rattle.std.proofs.Common.{◌≡◌, ℕ, Bool, true, false, List, refl, ap, ◌∙◌}
use Rattle.std.specs.Prelude.{◌&&◌, ◌||◌, not, ◌==◌}
use Rattle.host_base.specs.declared.launch.Launch.{Launch}
use Rattle.host_base.specs.declared.site.Site.{Site}
use Rattle.host_trace.specs.declared.items.Act.TheVariants.{Write, Start}
use Rattle.host_trace.specs.declared.items.Item.TheVariants.{Out}
use Rattle.host_trace.specs.Account.{has_unsettled}
use Rattle.host_trace.specs.Projections.{is_pending_high, stopped, shut}
use Rattle.trace_child.specs.Words.{implies}
use Rattle.trace_model.specs.Answer.{stage}
use Rattle.trace_model.specs.Answers.{begins_in_turn}
use Rattle.trace_model.specs.Demands.{is_live, may_go_on, must_begin, must_hear, hears_request, hears_body, hears_text, is_ready, waits_its_turn}
use Rattle.trace_model.specs.Exchange.{Exchange, pushed, all_of, has_final}
use Rattle.trace_model.specs.Launches.{is_right_start, is_launch, launch_at}
use Rattle.trace_model.specs.ModelLaws.{WaitsForRoom}

and_none : (a : Bool) → (a && false) ≡ false
and_none true = refl
and_none false = refl

none_goes_on : (c : ℕ) (e : Exchange) → is_pending_high (all_of e) c ≡ true → may_go_on c e ≡ false
none_goes_on c e high = ap (λ (b : Bool). not b && not (has_unsettled e.items c)) high

no_start : (site : Site) (c : ℕ) (e : Exchange) (k d j hop : ℕ) (launch : Launch) → is_pending_high (all_of e) c ≡ true → is_right_start site c e (Start k d j hop launch) ≡ false
no_start site c e k d j hop launch high =
    ap (λ (b : Bool). j == e.number && is_launch launch (launch_at site c e hop (stage site c e)) && b && not e.closed && not (stopped (all_of e)) && not (shut (all_of e) c)) (none_goes_on c e high)
    ∙ ap (λ (b : Bool). b && not e.closed && not (stopped (all_of e)) && not (shut (all_of e) c)) (and_none (j == e.number && is_launch launch (launch_at site c e hop (stage site c e))))

no_answer_begins : (site : Site) (c : ℕ) (e : Exchange) (d : ℕ) (bytes : List ℕ) → is_pending_high (all_of e) c ≡ true → waits_its_turn (stage site c e) ≡ true
    → has_final site c e ≡ false → has_final site c (pushed e (Out (Write d bytes))) ≡ true → begins_in_turn site c e (Write d bytes) ≡ false
no_answer_begins site c e d bytes high waits unbegun begins =
    (λ i. implies (not (unbegun i) && begins i && waits i) (none_goes_on c e high i))

no_question : (site : Site) (c : ℕ) (e : Exchange) → is_pending_high (all_of e) c ≡ true → must_hear site c e ≡ false
no_question site c e high =
    ap (λ (b : Bool). is_live c (all_of e) && not b && (hears_request site c e || hears_body site c e (stage site c e) || hears_text site c e)) high
    ∙ ap (λ (b : Bool). b && (hears_request site c e || hears_body site c e (stage site c e) || hears_text site c e)) (and_none (is_live c (all_of e)))

nothing_is_to_begin : (site : Site) (c : ℕ) (e : Exchange) → is_pending_high (all_of e) c ≡ true → must_begin site c e ≡ false
nothing_is_to_begin site c e high =
    ap (λ (b : Bool). is_live c (all_of e) && not b && is_ready (stage site c e)) high
    ∙ ap (λ (b : Bool). b && is_ready (stage site c e)) (and_none (is_live c (all_of e)))

pub waits_for_room : (site : Site) (c : ℕ) (e : Exchange) → is_pending_high (all_of e) c ≡ true → WaitsForRoom site c e
waits_for_room site c e high = record {
  start = λ k d j hop launch. no_start site c e k d j hop launch high;
  answer = λ d bytes waits unbegun begins. no_answer_begins site c e d bytes high waits unbegun begins;
  question = no_question site c e high;
  begins = nothing_is_to_begin site c e high;
}
