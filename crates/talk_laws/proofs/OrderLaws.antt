-- The order of acts once the accept text stands.
use Rattle.std.proofs.Common.{◌≡◌, ◌≤◌, ℕ, Bool, true, false, List, [], ◌∷◌, ◌++◌, Option, Some, None, refl, sym, ap, subst, ◌∙◌, append_assoc, arith}
use Rattle.std.specs.Prelude.{◌&&◌, ◌||◌, nat_le, if◌then◌else◌, not}
use Rattle.std.proofs.lemmas.Bool.{and_parts, le-leb, leb-true, and_from}
use Rattle.host_base.specs.declared.request.Request.{Request}
use Rattle.host_base.specs.declared.site.Mapped.{Mapped}
use Rattle.host_base.specs.declared.site.Site.{Site}
use Rattle.host_trace.specs.declared.items.Act.{Act}
use Rattle.host_trace.specs.declared.items.Act.TheVariants.{EndInput, Feed, Kill, Release, Says, WantChild, Write}
use Rattle.host_trace.specs.declared.items.Item.TheVariants.{Out}
use Rattle.host_trace.specs.Account.{has_unsettled}
use Rattle.host_trace.specs.Kinds.{bytes_written}
use Rattle.host_trace.specs.Told.{when}
use Rattle.trace_child.specs.Words.{is_filled}
use Rattle.trace_model.specs.Exchange.{Exchange, pushed}
use Rattle.trace_model.specs.Exchanges.{next_by, next_of}
use Rattle.trace_model.specs.Form.{begins_anew, ends_the_wait, is_ordered, is_refused, rank}
use Rattle.trace_model.specs.Answer.{stage}
use Rattle.trace_model.specs.Steps.{each_act_from}
use Rattle.child_core.specs.Due.{acting as run_acting, acting, feed_given, feeding, input_given, is_ask_due, is_feed_due, is_input_due, is_kill_due, is_release_due, kill_given, piece_of, release_given}
use Rattle.child_core.specs.View.{View as Run}
use Rattle.child_core.proofs.ActLaws.{and_false}
use Rattle.conn_laws.proofs.QuietLaws.{act_breaks_none}
use Rattle.talk_core.specs.Acting.{closing}
use Rattle.talk_laws.specs.Form.{AreUnwritten, GreetedComeOn, TalkActsRise, WelcomesAreOrdered, each_keeps, rises}
use Rattle.talk_laws.specs.Welcome.{IsGreeted}
use Rattle.talk_laws.proofs.AcceptLaws.{accepted_are_welcomed}
use Rattle.talk_laws.proofs.GreetedLaws.{greeted_unended, items_leave_greeted}
use Rattle.talk_laws.proofs.OpeningLaws.{greeted_then}
use Rattle.talk_laws.proofs.RuleLaws.{stage_now}

module _ (site : Site) (c : ℕ) (continued : Bool) (value : List ℕ) (request : Request) (mapped : Mapped) (two : 2 ≤ site.limits.head) where
  still : (e : Exchange) (act : Act) → IsGreeted site c e continued value request mapped → bytes_written c (Out act) ≡ []
      → IsGreeted site c (pushed e (Out act)) continued value request mapped
  still e act g none =
      items_leave_greeted site c e (Out act) continued value request mapped two refl none (act_breaks_none site c e act ∙ g.accepted.unbroken) g

  goes_on : (e : Exchange) (act : Act) → IsGreeted site c (pushed e (Out act)) continued value request mapped → next_of site c e (Out act) ≡ pushed e (Out act)
  goes_on e act g = ap (next_by site c (pushed e (Out act))) (greeted_unended site c (pushed e (Out act)) continued value request mapped g)

  -- the order doesn't begin anew
  none_anew : (e : Exchange) (act : Act) → is_refused (stage site c e) ≡ false → IsGreeted site c (pushed e (Out act)) continued value request mapped → begins_anew site c e act ≡ false
  none_anew e act other g =
      ap (λ b. b || ends_the_wait site c e act) (greeted_unended site c (pushed e (Out act)) continued value request mapped g)
      ∙ ap (λ b. has_unsettled e.items c && not (has_unsettled (pushed e (Out act)).items c) && b) other ∙ and_false _

  each_on : (rule : Exchange → Act → Bool) (acts : List Act) (e : Exchange) → AreUnwritten c acts → IsGreeted site c e continued value request mapped
      → each_act_from site c rule e acts ≡ each_keeps rule e acts
  each_on rule [] e none g = refl
  each_on rule (act ∷ acts) e none g =
      let then_g = still e act g none.0 in
      ap (λ d. rule e act && each_act_from site c rule d acts) (goes_on e act then_g)
      ∙ ap (λ b. rule e act && b) (each_on rule acts (pushed e (Out act)) none.1 then_g)

  order_on : (acts : List Act) (e : Exchange) (least : ℕ) → AreUnwritten c acts → IsGreeted site c e continued value request mapped
      → is_ordered site c e least acts ≡ rises least acts
  order_on [] e least none g = refl
  order_on (act ∷ acts) e least none g =
      let then_g = still e act g none.0 in
      ap (λ d. nat_le least (rank act) && is_ordered site c d (if begins_anew site c e act then 0 else rank act) acts) (goes_on e act then_g)
      ∙ ap (λ (b : Bool). nat_le least (rank act) && is_ordered site c (pushed e (Out act)) (if b then 0 else rank act) acts)
      (none_anew e act (ap is_refused (stage_now site c e continued value request mapped g)) then_g)
      ∙ ap (λ b. nat_le least (rank act) && b) (order_on acts (pushed e (Out act)) (rank act) none.1 then_g)

pub greeted_come_on : GreetedComeOn
greeted_come_on site c e continued value request mapped acts two none g = record {
  each = λ rule. each_on site c continued value request mapped two rule acts e none g;
  order = λ least. order_on site c continued value request mapped two acts e least none g;
}

pub welcomes_are_ordered : WelcomesAreOrdered
welcomes_are_ordered site c e legs continued text launch acts two none w =
    let g = greeted_then site c e legs continued text launch w in
    let on = goes_on site c continued w.value w.request w.mapped two e (Write c text) g in
    let way = (accepted_are_welcomed site c e w.value w.request w.mapped w.accepted).stage_is in
    record {
      each = λ rule.
          ap (λ d. rule e (Write c text) && each_act_from site c rule d acts) on
          ∙ ap (λ b. rule e (Write c text) && b) (each_on site c continued w.value w.request w.mapped two rule acts (pushed e (Out (Write c text))) none g);
      order =
          ap (λ d. nat_le 0 0 && is_ordered site c d (if begins_anew site c e (Write c text) then 0 else 0) acts) on
          ∙ ap (λ (b : Bool). nat_le 0 0 && is_ordered site c (pushed e (Out (Write c text))) (if b then 0 else 0) acts)
          (none_anew site c continued w.value w.request w.mapped two e (Write c text) (ap is_refused way) g)
          ∙ order_on site c continued w.value w.request w.mapped two acts (pushed e (Out (Write c text))) 0 none g;
    }

-- ---- the places of a talk's acts

lower : (low high : ℕ) (acts : List Act) → low ≤ high → rises high acts ≡ true → rises low acts ≡ true
lower low high [] le is = refl
lower low high (act ∷ acts) le is =
    let p = and_parts (nat_le high (rank act)) (rises (rank act) acts) is in
    let up : high ≤ rank act = leb-true high (rank act) p.0 in
    and_from (nat_le low (rank act)) (rises (rank act) acts) (le-leb low (rank act) (omega (arith, le, up))) p.1

one_more : (low high : ℕ) (b : Bool) (act : Act) (acts : List Act) → low ≤ high → rank act ≡ high → rises high acts ≡ true → rises low (when b act ++ acts) ≡ true
one_more low high false act acts le at is = lower low high acts le is
one_more low high true act acts le at is =
    and_from (nat_le low (rank act)) (rises (rank act) acts) (le-leb low (rank act) (omega (arith, le, at))) (ap (λ n. rises n acts) at ∙ is)

close_then : (c : ℕ) (code : Option ℕ) (acts : List Act) → rises 3 acts ≡ true → rises 2 (closing c code ++ acts) ≡ true
close_then c None acts is = lower 2 3 acts (omega arith) is
close_then c (Some code) acts is = is

child_rises : (may : Bool) (v : Run) (tail : List Act) → rises 8 tail ≡ true → rises 3 (run_acting may v ++ tail) ≡ true
unfolding acting
child_rises may v tail is =
    let v1 = feed_given v in
    let v2 = input_given v1 in
    let v3 = kill_given v2 in
    let v4 = release_given v3 in
    let w1 = feeding v in
    let w2 = when (is_input_due v1) (EndInput v.number) in
    let w3 = when (is_kill_due v2) (Kill v.number) in
    let w4 = when (is_release_due v3) (Release v.number) in
    let w5 = when (is_ask_due may v4) (WantChild v.number) in
    let r5 = one_more 7 8 (is_ask_due may v4) (WantChild v.number) tail (omega arith) refl is in
    let r4 = one_more 6 7 (is_release_due v3) (Release v.number) (w5 ++ tail) (omega arith) refl r5 in
    let r3 = one_more 5 6 (is_kill_due v2) (Kill v.number) (w4 ++ (w5 ++ tail)) (omega arith) refl r4 in
    let r2 = one_more 4 5 (is_input_due v1) (EndInput v.number) (w3 ++ (w4 ++ (w5 ++ tail))) (omega arith) refl r3 in
    subst (λ l. rises 3 l ≡ true) (sym (regroup w1 w2 w3 w4 w5 tail))
    (one_more 3 4 (is_feed_due v) (Feed v.number (piece_of v)) (w2 ++ (w3 ++ (w4 ++ (w5 ++ tail)))) (omega arith) refl r2)
  where
    regroup : (a b d f g tail : List Act) → (a ++ b ++ d ++ f ++ g) ++ tail ≡ a ++ (b ++ (d ++ (f ++ (g ++ tail))))
    regroup a b d f g tail =
        append_assoc (((a ++ b) ++ d) ++ f) g tail ∙ append_assoc ((a ++ b) ++ d) f (g ++ tail) ∙ append_assoc (a ++ b) d (f ++ (g ++ tail)) ∙ append_assoc a b (d ++ (f ++ (g ++ tail)))

pub talk_acts_rise : TalkActsRise
talk_acts_rise may t v tail is =
    subst (λ l. rises 0 l ≡ true) (sym (append_assoc (when (is_filled t.texts) (Says t.conn t.texts)) (closing t.conn t.code) (run_acting may v ++ tail)))
    (one_more 0 2 (is_filled t.texts) (Says t.conn t.texts) (closing t.conn t.code ++ (run_acting may v ++ tail)) (omega arith) refl
    (close_then t.conn t.code (run_acting may v ++ tail) (child_rises may v tail is)))
