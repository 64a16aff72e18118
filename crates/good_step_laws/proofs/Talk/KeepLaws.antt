-- The acts of a step are of the connection and its child alone, and start none.
use Rattle.std.proofs.Common.{◌≡◌, ℕ, ◌==◌, ◌&&◌, ◌||◌, Bool, true, false, not, List, [], ◌∷◌, ◌++◌, Option, Some, None, if◌then◌else◌, refl, sym, ap, ◌∙◌, subst}
use Rattle.std.specs.List.{list_any}
use Rattle.std.proofs.lemmas.Bool.{and_from, and_right, eq-eqb, or_left, or_from}
use Rattle.host_trace.specs.declared.items.Act.{Act}
use Rattle.host_trace.specs.declared.items.Act.TheVariants.{CloseWs, EndInput, Feed, Kill, Release, Says, Shut, Start, Upgrade, WantChild, WantClient, Write}
use Rattle.host_trace.specs.declared.items.Event.{Event}
use Rattle.host_trace.specs.declared.items.Item.TheVariants.{Out}
use Rattle.host_trace.specs.declared.items.Why.{Why}
use Rattle.host_trace.specs.declared.items.Why.TheVariants as Why
use Rattle.host_trace.specs.Told.{when}
use Rattle.own_traces.specs.Whose.{are_of, has, is_of, kids_after, next_after, next_child, with_child}
use Rattle.trace_child.specs.Words.{is_filled}
use Rattle.trace_model.specs.Between.{is_full, turns_away}
use Rattle.child_core.specs.Calls.{ended}
use Rattle.child_core.specs.declared.ending.Ending.TheVariants.{Dropped}
use Rattle.child_core.specs.Due.{Due, Path, acting as run_acting, given}
use Rattle.child_core.specs.View.{View as Run}
use Rattle.child_core.proofs.MemoryLaws.{acting-due}
use Rattle.conn_flags.specs.View.{is_live}
use Rattle.talk_core.specs.Acting.{acting, closing}
use Rattle.talk_core.specs.View.{View as Talk}
use Rattle.good_step_laws.proofs.Http.FullLaws.{none_given}
use Rattle.talk_conn.specs.declared.conn.TalkConn.{TalkConn}
use Rattle.talk_conn.specs.Parts.{acts_acted, acts_asked, acts_said, acts_shut, is_ask_due, may_want, why_of}
use Rattle.talk_conn.specs.Step.{Steps}
use Rattle.talk_conn.specs.View.{IsTalk, number_of, run_of}
use Rattle.talk_conn.proofs.KeptLaws.{Kept, first_kept, last_kept, second_kept, steps_keep, third_kept}
use Rattle.host_trace.specs.Decider.{is_websocket}
use Rattle.good_step_laws.specs.Talk.Laws.{Keeps}

-- ---- each act

-- it is of connection c, or of its child k, which runs
abbrev pub Fair : ℕ → ℕ → Act → Type 0
Fair c k (WantClient d) = d ≡ c
Fair c k (Says d texts) = d ≡ c
Fair c k (CloseWs d code) = d ≡ c
Fair c k (Shut d why) = (d ≡ c) × (is_full why ≡ false)
Fair c k (Feed d bytes) = d ≡ k
Fair c k (EndInput d) = d ≡ k
Fair c k (WantChild d) = d ≡ k
Fair c k (Kill d) = d ≡ k
Fair c k (Release d) = d ≡ k
Fair c k _ = ⊥

abbrev pub AreFair : ℕ → ℕ → List Act → Type 0
AreFair c k [] = Unit {0}
AreFair c k (act ∷ acts) = Fair c k act × AreFair c k acts

pub fair_append : (c k : ℕ) (xs ys : List Act) → AreFair c k xs → AreFair c k ys → AreFair c k (xs ++ ys)
fair_append c k [] ys a b = b
fair_append c k (x ∷ xs) ys a b = (a.0, fair_append c k xs ys a.1 b)

record Plain (c k : ℕ) (act : Act) : Type 0 where
  child : (ks : List ℕ) → with_child ks c (Out act) ≡ ks
  next : (n : ℕ) → next_child n (Out act) ≡ n
  mine : (ks : List ℕ) (n : ℕ) → has ks k ≡ true → is_of c ks n (Out act) ≡ true
  spares : (d : ℕ) → turns_away d (Out act) ≡ false

and_false : (b : Bool) → (b && false) ≡ false
and_false true = refl
and_false false = refl

plain : (c k : ℕ) (act : Act) → Fair c k act → Plain c k act
plain c k (WantClient d) f = record { child = λ ks. refl; next = λ n. refl; mine = λ ks n it. or_left (c == d) _ (eq-eqb c d (sym f)); spares = λ d. refl }
plain c k (Says d texts) f = record { child = λ ks. refl; next = λ n. refl; mine = λ ks n it. or_left (c == d) _ (eq-eqb c d (sym f)); spares = λ d. refl }
plain c k (CloseWs d code) f = record { child = λ ks. refl; next = λ n. refl; mine = λ ks n it. or_left (c == d) _ (eq-eqb c d (sym f)); spares = λ d. refl }
plain c k (Shut d why) f = record {
  child = λ ks. refl;
  next = λ n. refl;
  mine = λ ks n it. or_left (c == d) _ (eq-eqb c d (sym f.0));
  spares = λ e. ap (λ (b : Bool). e == d && b) f.1 ∙ and_false (e == d);
}
plain c k (Feed d bytes) f = record { child = λ ks. refl; next = λ n. refl; mine = λ ks n it. ap (has ks) f ∙ it; spares = λ d. refl }
plain c k (EndInput d) f = record { child = λ ks. refl; next = λ n. refl; mine = λ ks n it. ap (has ks) f ∙ it; spares = λ d. refl }
plain c k (WantChild d) f = record { child = λ ks. refl; next = λ n. refl; mine = λ ks n it. ap (has ks) f ∙ it; spares = λ d. refl }
plain c k (Kill d) f = record { child = λ ks. refl; next = λ n. refl; mine = λ ks n it. ap (has ks) f ∙ it; spares = λ d. refl }
plain c k (Release d) f = record { child = λ ks. refl; next = λ n. refl; mine = λ ks n it. ap (has ks) f ∙ it; spares = λ d. refl }
plain c k _ f = absurd f

-- ---- all acts

pub fair_next : (c k : ℕ) (acts : List Act) → AreFair c k acts → (n : ℕ) → next_after n acts ≡ n
fair_next c k [] f n = refl
fair_next c k (act ∷ acts) f n = ap (λ (m : ℕ). next_after m acts) ((plain c k act f.0).next n) ∙ fair_next c k acts f.1 n

pub fair_kids : (c k : ℕ) (acts : List Act) → AreFair c k acts → (ks : List ℕ) → kids_after ks c acts ≡ ks
fair_kids c k [] f ks = refl
fair_kids c k (act ∷ acts) f ks = ap (λ (l : List ℕ). kids_after l c acts) ((plain c k act f.0).child ks) ∙ fair_kids c k acts f.1 ks

pub fair_are : (c k : ℕ) (acts : List Act) → AreFair c k acts → (ks : List ℕ) (n : ℕ) → has ks k ≡ true → are_of c ks n acts ≡ true
fair_are c k [] f ks n it = refl
fair_are c k (act ∷ acts) f ks n it =
    let p = plain c k act f.0 in
    and_from (is_of c ks n (Out act)) _ (p.mine ks n it)
    (ap (λ (l : List ℕ). are_of c l (next_child n (Out act)) acts) (p.child ks) ∙ (ap (λ (m : ℕ). are_of c ks m acts) (p.next n) ∙ fair_are c k acts f.1 ks n it))

fair_spares : (c k : ℕ) (acts : List Act) → AreFair c k acts → (d : ℕ) → list_any (λ (act : Act). turns_away d (Out act)) acts ≡ false
fair_spares c k [] f d = refl
fair_spares c k (act ∷ acts) f d = or_from (turns_away d (Out act)) _ ((plain c k act f.0).spares d) (fair_spares c k acts f.1 d)

-- ---- those of a step

talk_fair : (c k : ℕ) (t : Talk) → t.conn ≡ c → AreFair c k (acting t)
talk_fair c k t is = fair_append c k (when (is_filled t.texts) (Says t.conn t.texts)) (closing t.conn t.code) (says (is_filled t.texts)) (closes t.code)
  where
    says : (b : Bool) → AreFair c k (when b (Says t.conn t.texts))
    says true = (is, tt)
    says false = tt

    closes : (code : Option ℕ) → AreFair c k (closing t.conn code)
    closes None = tt
    closes (Some code) = (is, tt)

path_fair : (c k : ℕ) (may : Bool) (v : Run) (acts : List Act) → v.number ≡ k → Path may v acts → AreFair c k acts
path_fair c k may v [] is p = tt
path_fair c k may v (act ∷ acts) is p = (one act p.0, path_fair c k may (given v act) acts is p.1)
  where
    one : (act : Act) → Due may v act → Fair c k act
    one (Feed d bytes) due = due.0 ∙ is
    one (EndInput d) due = due.0 ∙ is
    one (Kill d) due = due.0 ∙ is
    one (Release d) due = due.0 ∙ is
    one (WantChild d) due = due.0 ∙ is
    one _ due = absurd due

run_fair : (c k : ℕ) (may : Bool) (v : Run) → v.number ≡ k → AreFair c k (run_acting may v)
run_fair c k may v is = path_fair c k may v (run_acting may v) is (acting-due may v).path

shut_fair : (c k d : ℕ) (live lost stopped gone over : Bool) → d ≡ c
    → AreFair c k (acts_shut d (if not live then None else (if lost then Some Why.NoMemory else (if stopped then Some Why.Stopped else (if gone then Some Why.Gone else (if over then Some Why.Done else None))))))
shut_fair c k d false lost stopped gone over is = tt
shut_fair c k d true true stopped gone over is = ((is, refl), tt)
shut_fair c k d true false true gone over is = ((is, refl), tt)
shut_fair c k d true false false true over is = ((is, refl), tt)
shut_fair c k d true false false false true is = ((is, refl), tt)
shut_fair c k d true false false false false is = tt

asks_fair : (c k d : ℕ) (due : Bool) → d ≡ c → AreFair c k (acts_asked d due)
asks_fair c k d true is = (is, tt)
asks_fair c k d false is = tt

module _ (old new : TalkConn) (ev : Event) (acts : List Act) (is_talk : IsTalk old) (w : Steps old ev acts new) where
  abbrev c : ℕ
  c = number_of old

  abbrev k : ℕ
  k = (run_of old).number

  said_fair : (b : Bool) → AreFair c k (acts_said b w.first)
  said_fair true = talk_fair c k w.first.talk ((first_kept old new ev acts w).conn ∙ is_talk.number)
  said_fair false = tt

  acted_fair : (b : Bool) → AreFair c k (acts_acted b w.second)
  acted_fair true = run_fair c k (may_want w.second) w.second.run (second_kept old new ev acts w).last_child
  acted_fair false = run_fair c k (may_want w.second) (ended w.second.run Dropped) (second_kept old new ev acts w).last_child

  pub step_fair : AreFair c k acts
  step_fair =
      subst (λ (l : List Act). AreFair c k l) (sym w.acts_are)
      (fair_append c k (acts_said w.said w.first ++ acts_acted w.fed w.second) (acts_shut w.third.flags.c (why_of w.third) ++ acts_asked w.last.flags.c (is_ask_due w.last))
      (fair_append c k (acts_said w.said w.first) (acts_acted w.fed w.second) (said_fair w.said) (acted_fair w.fed))
      (fair_append c k (acts_shut w.third.flags.c (why_of w.third)) (acts_asked w.last.flags.c (is_ask_due w.last))
      (shut_fair c k w.third.flags.c (is_live w.third.flags) w.third.lost w.third.flags.stopped w.third.flags.gone w.third.talk.over (third_kept old new ev acts w).number)
      (asks_fair c k w.last.flags.c (is_ask_due w.last) (last_kept old new ev acts w).number)))

  pub step_keeps : Keeps old new acts
  step_keeps =
      let kept = steps_keep old new ev acts w in
      record {
        site = kept.site;
        number = kept.number;
        last_child = kept.last_child;
        is_talk = record { kind = ap is_websocket kept.kind ∙ is_talk.kind; number = kept.conn ∙ (is_talk.number ∙ sym kept.number) };
        next = λ n. fair_next c k acts step_fair n;
        stays = λ d. none_given d acts (fair_spares c k acts step_fair d);
        kids = λ ks. fair_kids c k acts step_fair ks;
        are = λ ks n it. fair_are c k acts step_fair ks n it;
      }
