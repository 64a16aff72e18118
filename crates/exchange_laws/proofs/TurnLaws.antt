-- An answer begins no sooner than it may.
use Rattle.std.proofs.Common.{◌≡◌, ℕ, Bool, true, false, List, [], ◌∷◌, refl, ap, subst}
use Rattle.std.specs.Prelude.{◌&&◌, not}
use Rattle.std.proofs.lemmas.Bool.{false≢true, and_left, and_right}
use Rattle.host_base.specs.declared.site.Site.{Site}
use Rattle.host_trace.specs.declared.items.Act.TheVariants.{Write}
use Rattle.host_trace.specs.declared.items.Item.TheVariants.{Out}
use Rattle.trace_child.specs.Words.{implies, is_filled}
use Rattle.trace_model.specs.Answer.{stage}
use Rattle.trace_model.specs.Answers.{begins_in_turn}
use Rattle.trace_model.specs.Demands.{may_go_on, waits_its_turn}
use Rattle.trace_model.specs.Exchange.{Exchange, continue_text, has_final, pushed}
use Rattle.trace_model.specs.Legs.{Leg}
use Rattle.exchange_stage.specs.declared.stage.Leg.{Leg as Held}
use Rattle.exchange_stage.specs.declared.stage.Stage.{Stage}
use Rattle.exchange_stage.specs.declared.stage.Stage.TheVariants as At
use Rattle.exchange_laws.specs.Unanswered.{IsUnanswered}
use Rattle.exchange_laws.specs.OfRun.{IsHanded, IsReady, leg_held}
use Rattle.exchange_laws.specs.StageIs.{StageIs}
use Rattle.exchange_laws.specs.Items.{is_unanswered}
use Rattle.exchange_laws.specs.Rules.{WritesComeInTurn}
use Rattle.exchange_laws.proofs.RestLaws.{no_demand}
use Rattle.exchange_laws.proofs.RunLaws.{last_runs}
use Rattle.exchange_laws.proofs.UnansweredLaws.{unanswered_unbegun}
use Rattle.exchange_laws.proofs.WriteLaws.{continues_then_written}

unanswered_at : (site : Site) (c : ℕ) (e : Exchange) (legs : List Leg) (continued looked closing : Bool) (more : List ℕ) (s : Stage)
    → StageIs site c e legs continued looked closing more s → is_unanswered s ≡ true → IsUnanswered site c e continued
unanswered_at site c e legs continued looked closing more (At.Starting held launch body whole) is so = absurd (false≢true so)
unanswered_at site c e legs continued looked closing more (At.Running held) is so = absurd (false≢true so)
unanswered_at site c e legs continued looked closing more (At.Finishing text closes) is so = absurd (false≢true so)
unanswered_at site c e legs continued looked closing more At.Answered is so = absurd (false≢true so)
unanswered_at site c e legs continued looked closing more At.Silent is so = absurd (false≢true so)
unanswered_at site c e legs continued looked closing more _ is so = is.0.unanswered

-- a Write at a stage that waits for no turn
in_turn : (site : Site) (c : ℕ) (e : Exchange) (bytes : List ℕ) → waits_its_turn (stage site c e) ≡ false → begins_in_turn site c e (Write c bytes) ≡ true
in_turn site c e bytes none =
    no_demand (not (has_final site c e) && has_final site c (pushed e (Out (Write c bytes))) && waits_its_turn (stage site c e)) (may_go_on c e)
    (and_right (not (has_final site c e) && has_final site c (pushed e (Out (Write c bytes)))) (waits_its_turn (stage site c e)) none)

-- a Write that is none of the final answer
not_final : (site : Site) (c : ℕ) (e : Exchange) (bytes : List ℕ) → has_final site c (pushed e (Out (Write c bytes))) ≡ false → begins_in_turn site c e (Write c bytes) ≡ true
not_final site c e bytes none =
    no_demand (not (has_final site c e) && has_final site c (pushed e (Out (Write c bytes))) && waits_its_turn (stage site c e)) (may_go_on c e)
    (and_left (not (has_final site c e) && has_final site c (pushed e (Out (Write c bytes)))) (waits_its_turn (stage site c e))
    (and_right (not (has_final site c e)) (has_final site c (pushed e (Out (Write c bytes)))) none))

-- where it may go on, or doesn't wait
may_in_turn : (site : Site) (c : ℕ) (e : Exchange) (bytes : List ℕ) → implies (waits_its_turn (stage site c e)) (may_go_on c e) ≡ true
    → begins_in_turn site c e (Write c bytes) ≡ true
may_in_turn site c e bytes may = go (not (has_final site c e) && has_final site c (pushed e (Out (Write c bytes)))) (waits_its_turn (stage site c e)) (may_go_on c e) may
  where
    go : (first waits m : Bool) → implies waits m ≡ true → implies (first && waits) m ≡ true
    go true waits m is = is
    go false waits m is = refl

part_in_turn : (site : Site) (c : ℕ) (e : Exchange) (legs : List Leg) (continued looked closing : Bool) (more : List ℕ) (held : Held) (text : List ℕ)
    → held.text ≡ text → is_filled text ≡ true → StageIs site c e legs continued looked closing more (At.Running held) → waits_its_turn (stage site c e) ≡ false
part_in_turn site c e legs continued looked closing more held [] same some is = absurd (false≢true some)
part_in_turn site c e legs continued looked closing more held (byte ∷ bytes) same some is =
    let handed : IsHanded site c e (leg_held held is.0.child) is.0.asked is.0.told is.0.stood is.0.untold more held.ticked (byte ∷ bytes) held.reply =
    subst (λ t. IsReady site c e (leg_held held is.0.child) is.0.asked is.0.told is.0.ticked is.0.stood is.0.untold more held.ticked t held.reply) same is.0.ready in
    ap waits_its_turn (last_runs site c e legs (leg_held held is.0.child) is.0.last handed.goes_on)

pub writes_come_in_turn : WritesComeInTurn
writes_come_in_turn site c e legs continued looked closing more s two is = record {
  continues_then = λ so none due.
      not_final site c e continue_text
      (unanswered_unbegun site c (pushed e (Out (Write c continue_text))) true
      (continues_then_written site c e due (subst (λ b. IsUnanswered site c e b) none (unanswered_at site c e legs continued looked closing more s is so))));
  part = λ held at some.
      in_turn site c e held.text
      (part_in_turn site c e legs continued looked closing more held held.text refl some (subst (λ t. StageIs site c e legs continued looked closing more t) at is));
  rest = λ text closes at.
      may_in_turn site c e text (subst (λ t. StageIs site c e legs continued looked closing more t) at is).0.turn;
}
