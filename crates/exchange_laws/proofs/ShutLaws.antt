-- Of a connection that is shut nothing is demanded; and 100 Continue.
use Rattle.std.proofs.Common.{◌≡◌, Bool, true, false, [], refl, sym, ap, ◌∙◌}
use Rattle.std.specs.Prelude.{◌&&◌, not, if◌then◌else◌, nat_eq}
use Rattle.std.specs.List.{list_any, starts_with}
use Rattle.std.proofs.lemmas.Bool.{false≢true, or_parts}
use Rattle.std.proofs.lemmas.List.Folds.{list_any-append}
use Rattle.host_trace.specs.Kinds.{is_accepted, is_shut}
use Rattle.host_trace.specs.Projections.{shut}
use Rattle.trace_child.specs.Words.{implies}
use Rattle.trace_model.specs.Demands.{is_live, must_continue}
use Rattle.trace_model.specs.Exchange.{all_of, continue_text, reading, written}
use Rattle.trace_model.specs.Readings.{is_due}
use Rattle.exchange_laws.specs.Asks.{ContinuesAreGiven, ShutsDemandNothing}
use Rattle.exchange_laws.specs.Unanswered.{is_awaited}
use Rattle.exchange_laws.proofs.AskLaws.{shut_asks}
use Rattle.exchange_laws.proofs.RestLaws.{no_demand, shut_keeps}
use Rattle.exchange_laws.proofs.UnansweredLaws.{awaited_was}

pub shuts_demand_nothing : ShutsDemandNothing
shuts_demand_nothing site c e dead =
    let keeps = shut_keeps site c e dead in
    record {
      begins_then = keeps.begins_then;
      answers_then = keeps.answers_then;
      hops_then = keeps.hops_then;
      streams_then = keeps.streams_then;
      continues_then = no_demand (must_continue site c e) (starts_with nat_eq (written c e) continue_text) (ap (λ b. b && is_due (reading site c e)) dead);
      asks_none = shut_asks site c e dead;
    }

not_true : (b : Bool) → not b ≡ true → b ≡ false
not_true true is = absurd (false≢true is)
not_true false is = refl

first_true : (a b : Bool) → (a && b) ≡ true → a ≡ true
first_true true b is = refl
first_true false b is = is

second_true : (a b : Bool) → (a && b) ≡ true → b ≡ true
second_true true b is = is
second_true false b is = absurd (false≢true is)

three : (a b d : Bool) → a ≡ false → b ≡ false → d ≡ true → (not a && not b && d) ≡ true
three true b d first second third = absurd (false≢true (sym first))
three false true d first second third = absurd (false≢true (sym second))
three false false d first second third = third

pub continues_are_given : ContinuesAreGiven
continues_are_given site c e unclosed let_on = go (must_continue site c e) refl
  where
    before_open : is_live c (all_of e) ≡ true → shut e.before c ≡ false
    before_open live =
        (or_parts (shut e.before c) (shut e.items c)
        (sym (list_any-append (is_shut c) e.before e.items)
        ∙ not_true (shut (all_of e) c) (second_true (list_any is_accepted (all_of e)) (not (shut (all_of e) c)) live))).0

    stands : must_continue site c e ≡ true → starts_with nat_eq (written c e) continue_text ≡ true
    stands must =
        let live : is_live c (all_of e) ≡ true = first_true (is_live c (all_of e)) (is_due (reading site c e)) must in
        let awaited : is_awaited site c e ≡ true =
        three e.closed (shut e.before c) (is_due (reading site c e)) (unclosed live) (before_open live)
        (second_true (is_live c (all_of e)) (is_due (reading site c e)) must) in
        ap (λ (b : Bool). starts_with nat_eq (written c e) (if b then continue_text else [])) (sym (awaited_was site c e awaited)) ∙ let_on

    go : (b : Bool) → must_continue site c e ≡ b → implies (must_continue site c e) (starts_with nat_eq (written c e) continue_text) ≡ true
    go true must = ap (λ b. implies b (starts_with nat_eq (written c e) continue_text)) must ∙ stands must
    go false none = no_demand (must_continue site c e) (starts_with nat_eq (written c e) continue_text) none
