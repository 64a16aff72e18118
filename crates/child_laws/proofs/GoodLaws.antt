-- All rules on a child, by what a step did to it.
use Rattle.std.proofs.Common.{◌≡◌, ℕ, ◌+◌, Bool, true, false, List, [], ◌∷◌, ◌++◌, refl, sym, ap, subst, ◌∙◌, append-nil, arith}
use Rattle.std.specs.Prelude.{not, ◌&&◌, ◌==◌}
use Rattle.std.proofs.lemmas.Bool.{false≢true, and_from, eq-eqb}
use Rattle.host_base.specs.declared.site.Site.{Site}
use Rattle.host_trace.specs.declared.items.Act.{Act}
use Rattle.host_trace.specs.declared.items.Item.{Item}
use Rattle.host_trace.specs.declared.items.Item.TheVariants.{Out}
use Rattle.host_trace.specs.Kinds.{names_child, is_end_input, is_kill, is_release, is_want_child}
use Rattle.host_trace.specs.Projections.{child_wanted, input_ended, killed, output_ended}
use Rattle.trace_child.specs.Run.{Run}
use Rattle.trace_child.specs.Words.{given, once}
use Rattle.trace_child.specs.ChildActs.{child_acts}
use Rattle.trace_child.specs.ChildDemands.{must_end_input, must_kill, must_release, must_ask}
use Rattle.trace_child.specs.ChildGood.{ChildGood}
use Rattle.child_core.specs.Due.{is_at_rest, wants_input_end, wants_kill, wants_release, wants_output}
use Rattle.child_core.specs.Knows.{KnowsRun, one_if}
use Rattle.child_core.specs.Setting.{Setting, run_in}
use Rattle.child_core.specs.View.{View}
use Rattle.child_core.specs.Walk.{Deserved}
use Rattle.child_core.proofs.EndLaws.{good_at_end, rests_of, end_input_is, kill_is, release_is, ask_is}
use Rattle.trace_model.specs.Exchange.{Exchange}
use Rattle.trace_model.specs.Legs.{Leg, run_of}
use Rattle.child_laws.specs.Setting.{setting}
use Rattle.child_laws.specs.Legs.{SameRun}
use Rattle.child_laws.specs.Children.{KnowsLeg, SettledLeg}
use Rattle.child_laws.specs.Step.{Counted, Dealt, was}
use Rattle.child_laws.proofs.SettingLaws.{setting_is}
use Rattle.child_laws.proofs.DealtLaws.{given_other, spared_of, settled_rests}

once_is : (g : ℕ) (i new wants : Bool) → one_if new ≡ one_if i + g → (wants && not new) ≡ false → (i ≡ false → new ≡ true → wants ≡ true) → (g == once (wants && not i)) ≡ true
once_is g true true wants e rest deserved = rw (gone wants) (eq-eqb g 0 (omega arith))
  where
    gone : (w : Bool) → (w && false) ≡ false
    gone true = refl
    gone false = refl
once_is g true false wants e rest deserved = absurd (omega arith)
once_is g false true wants e rest deserved = rw (deserved refl refl) (eq-eqb g 1 (omega arith))
once_is g false false true e rest deserved = absurd (cc)
once_is g false false false e rest deserved = eq-eqb g 0 (omega arith)

due_once : (g : ℕ) (i new wants must : Bool) → must ≡ wants → one_if new ≡ one_if i + g → (wants && not new) ≡ false → (i ≡ false → new ≡ true → wants ≡ true) → (g == once (must && not i)) ≡ true
due_once g i new wants must m count rest deserved = rw m (once_is g i new wants count rest deserved)

-- the child of a run to which nothing is due, and to which only what is wanted was given
pub good_child : (s : Setting) (room : Bool) (v : View) (L heard : List Item) (acts : List Act) → KnowsRun false s v L → is_at_rest room v ≡ true → Deserved room (was heard v) v → Counted heard acts v
    → ChildGood (run_in s v) room heard acts L
good_child s room v L heard acts k rest d n =
    let r = rests_of room v rest in
    let nothing : Deserved room v v = record {
      input = λ o t. absurd (false≢true (sym o ∙ t));
      kill = λ o t. absurd (false≢true (sym o ∙ t));
      release = λ o t. absurd (false≢true (sym o ∙ t));
      ask = λ o t. absurd (false≢true (sym o ∙ t));
    } in
    let base : ChildGood (run_in s v) room L [] L = subst (ChildGood (run_in s v) room L []) (append-nil L)
    (good_at_end false room s v L [] k tt (subst (KnowsRun false s v) (sym (append-nil L)) k) rest nothing) in
    record {
      account = base.account;
      bodies = base.bodies;
      acts_due = and_from _ _ (and_from _ _ (and_from _ _
          (due_once (given (is_end_input v.number) acts) (input_ended heard v.number) v.input_ended (wants_input_end v) (must_end_input (run_in s v) L) (end_input_is false s v L k) n.input r.input d.input)
          (due_once (given (is_kill v.number) acts) (killed heard v.number) v.killed (wants_kill v) (must_kill (run_in s v) L) (kill_is false s v L k) n.kill r.kill d.kill))
          (due_once (given (is_release v.number) acts) (output_ended heard v.number) v.output_ended (wants_release v) (must_release (run_in s v) L) (release_is false s v L k) n.release r.release d.release))
          (due_once (given (is_want_child v.number) acts) (child_wanted heard v.number) v.asked (wants_output room v) (must_ask (run_in s v) room L) (ask_is false s v L k room) n.ask r.ask d.ask);
      feeds = base.feeds;
      handles_decided = base.handles_decided;
      lingers = base.lingers;
      stops = base.stops;
    }

pub same_run : (site : Site) (c : ℕ) (e : Exchange) (was now : Leg) → SameRun was now → run_of site c e was ≡ run_of site c e now
same_run site c e was now s =
    ap (λ k. record (run_of site c e was) { child = k }) (sym s.child)
    ∙ (ap (λ kind. record (run_of site c e was) { child = now.child; kind = kind }) (sym s.kind)
    ∙ hops was.hop now.hop s.hop)
  where
    hops : (a b : ℕ) → b ≡ a → run_of site c e (record was { child = now.child; kind = now.kind; hop = a }) ≡ run_of site c e (record was { child = now.child; kind = now.kind; hop = b })
    hops a b same = ap (λ h. run_of site c e (record was { child = now.child; kind = now.kind; hop = h })) (sym same)

-- .. of a leg
pub good_leg : (site : Site) (c : ℕ) (e : Exchange) (leg now : Leg) (room : Bool) (v : View) (heard : List Item) (acts : List Act) → SameRun leg now → KnowsLeg site c e false leg v → is_at_rest room v ≡ true
    → Deserved room (was heard v) v → Counted heard acts v → ChildGood (run_of site c e now) room heard acts e.items
good_leg site c e leg now room v heard acts same k rest d n =
    subst (λ run. ChildGood run room heard acts e.items) (setting_is site c e leg v k.is ∙ same_run site c e leg now same)
    (good_child (setting site c e leg.hop) room v e.items heard acts k.knows rest d n)

-- .. that is settled, with room or without
pub good_settled : (site : Site) (c : ℕ) (e : Exchange) (leg now : Leg) (heard : List Item) (acts : List Act) → SameRun leg now → SettledLeg (Dealt heard acts) site c e leg → (room : Bool)
    → ChildGood (run_of site c e now) room heard acts e.items
good_settled site c e leg now heard acts same s room =
    good_leg site c e leg now room s.view heard acts same s.known (settled_rests room s.view s.more.apart s.settled) (s.more.deserved room) s.more.counted

-- an act that names another child leaves it so
acts_stay : (run : Run) (room : Bool) (heard : List Item) (acts : List Act) (a : Act) (items : List Item) → names_child run.child (Out a) ≡ false → child_acts run room heard (acts ++ a ∷ []) items ≡ child_acts run room heard acts items
acts_stay run room heard acts a items e =
    let o = spared_of run.child a e in
    rw (
      given_other (is_end_input run.child) acts a o.input,
      given_other (is_kill run.child) acts a o.kill,
      given_other (is_release run.child) acts a o.release,
      given_other (is_want_child run.child) acts a o.ask,
    ) refl

pub good_stays : (run : Run) (room : Bool) (heard : List Item) (acts : List Act) (a : Act) (items : List Item) → names_child run.child (Out a) ≡ false → ChildGood run room heard acts items
    → ChildGood run room heard (acts ++ a ∷ []) items
good_stays run room heard acts a items e g = record {
  account = g.account;
  bodies = g.bodies;
  acts_due = acts_stay run room heard acts a items e ∙ g.acts_due;
  feeds = g.feeds;
  handles_decided = g.handles_decided;
  lingers = g.lingers;
  stops = g.stops;
}
