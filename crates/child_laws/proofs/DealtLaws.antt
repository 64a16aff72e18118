-- What the acts of a step did to one child.
use Rattle.std.proofs.Common.{◌≡◌, ℕ, ◌+◌, Bool, true, false, List, [], ◌∷◌, ◌++◌, Option, Some, None, refl, sym, ap, ◌∙◌, add-zero, arith}
use Rattle.std.specs.Prelude.{if◌then◌else◌, not, ◌&&◌, ◌||◌, ◌==◌, is_some}
use Rattle.std.proofs.lemmas.Bool.{false≢true, and_parts, not-true}
use Rattle.std.proofs.lemmas.Grind.{common_steps}
use Rattle.host_trace.specs.declared.items.Act.{Act}
use Rattle.host_trace.specs.declared.items.Item.{Item}
use Rattle.host_trace.specs.declared.items.Item.TheVariants.{Out}
use Rattle.host_trace.specs.First.{or_else}
use Rattle.host_trace.specs.Kinds.{names_child, is_end_input, is_kill, is_release, is_want_child}
use Rattle.host_trace.specs.Projections.{child_wanted, input_ended, killed, output_ended}
use Rattle.host_trace.proofs.FirstLaws.{count_by-push}
use Rattle.trace_child.specs.Words.{given, is_filled}
use Rattle.child_core.specs.declared.ending.Ending.TheVariants.{Dropped}
use Rattle.child_core.specs.declared.ending.Outcome.{Outcome}
use Rattle.child_core.specs.declared.ending.Outcome.TheVariants as Ended
use Rattle.child_core.specs.View.{View, plain, noted, asked_by, is_other}
use Rattle.child_core.specs.Calls.{ended, is_settled}
use Rattle.child_core.specs.Due.{acted, is_at_rest, is_fed_whole, is_left_alone, has_lingered, is_ask_due, is_feed_due, is_input_due, is_kill_due, is_release_due, wants_kill, wants_output}
use Rattle.child_core.specs.Knows.{one_if}
use Rattle.child_core.specs.Setting.{Setting}
use Rattle.child_core.specs.Walk.{Deserved, MayAct}
use Rattle.child_core.proofs.ActLaws.{acted-deserved, acted-rest}
use Rattle.child_core.proofs.WordLaws.{contra, end_input_names, kill_names, output_names, want_names}
use Rattle.child_laws.specs.Step.{Counted, Turn, waiting, begun, served, TurnIs, was}
use Rattle.child_laws.specs.Moves.{may_lose}

-- ---- counts

given_push : (test : Item → Bool) (acts : List Act) (a : Act) → given test (acts ++ a ∷ []) ≡ given test acts + (if test (Out a) then 1 else 0)
given_push test acts a = count_by-push (λ (act : Act). test (Out act)) acts a

pub given_other : (test : Item → Bool) (acts : List Act) (a : Act) → test (Out a) ≡ false → given test (acts ++ a ∷ []) ≡ given test acts
given_other test acts a e = given_push test acts a ∙ (ap (λ (b : Bool). given test acts + (if b then 1 else 0)) e ∙ add-zero _)

-- an act that names another child, or none
pub record Spared (k : ℕ) (a : Act) : Type 0 where
  pub input : is_end_input k (Out a) ≡ false
  pub kill : is_kill k (Out a) ≡ false
  pub release : is_release k (Out a) ≡ false
  pub ask : is_want_child k (Out a) ≡ false

pub spared_of : (k : ℕ) (a : Act) → names_child k (Out a) ≡ false → Spared k a
spared_of k a e = record {
  input = contra (is_end_input k (Out a)) (names_child k (Out a)) (end_input_names k (Out a)) e;
  kill = contra (is_kill k (Out a)) (names_child k (Out a)) (kill_names k (Out a)) e;
  release = contra (is_release k (Out a)) (names_child k (Out a)) (λ is. output_names k (Out a) is) e;
  ask = contra (is_want_child k (Out a)) (names_child k (Out a)) (want_names k (Out a)) e;
}

pub counted_push : (heard : List Item) (acts : List Act) (a : Act) (v : View) → names_child v.number (Out a) ≡ false → Counted heard acts v → Counted heard (acts ++ a ∷ []) v
counted_push heard acts a v e k =
    let o = spared_of v.number a e in
    record {
      input = k.input ∙ ap (λ n. one_if (input_ended heard v.number) + n) (sym (given_other (is_end_input v.number) acts a o.input));
      kill = k.kill ∙ ap (λ n. one_if (killed heard v.number) + n) (sym (given_other (is_kill v.number) acts a o.kill));
      release = k.release ∙ ap (λ n. one_if (output_ended heard v.number) + n) (sym (given_other (is_release v.number) acts a o.release));
      ask = k.ask ∙ ap (λ n. one_if (child_wanted heard v.number) + n) (sym (given_other (is_want_child v.number) acts a o.ask));
    }

one_more : (t i : Bool) (h g : ℕ) → (t ≡ true → i ≡ false) → one_if i ≡ h + g → one_if (t || i) ≡ h + (g + (if t then 1 else 0))
one_more true true h g new e = absurd (false≢true (sym (new refl)))
one_more true false h g new e = omega arith
one_more false i h g new e = let z = add-zero g in omega (arith, e, z)

one_ask : (t old : Bool) (h g : ℕ) → (t ≡ true → old ≡ false) → one_if old ≡ h + g → one_if (asked_by t false old) ≡ h + (g + (if t then 1 else 0))
one_ask true true h g new e = absurd (false≢true (sym (new refl)))
one_ask true false h g new e = omega arith
one_ask false old h g new e = let z = add-zero g in omega (arith, e, z)

or_end : (b : Bool) → (b || false) ≡ b
or_end true = refl
or_end false = refl

-- an act that may be given to it
pub counted_act : (heard : List Item) (acts : List Act) (a : Act) (c : ℕ) (early : Bool) (s : Setting) (v : View) (L : List Item) → MayAct early s v L a → Counted heard acts v
    → Counted heard (acts ++ a ∷ []) (noted c v plain (Out a))
counted_act heard acts a c early s v L m k = record {
  input = ap (λ b. one_if (b || v.input_ended)) (or_end (is_end_input v.number (Out a)))
      ∙ (one_more (is_end_input v.number (Out a)) v.input_ended (one_if (input_ended heard v.number)) (given (is_end_input v.number) acts) m.input k.input
      ∙ ap (λ n. one_if (input_ended heard v.number) + n) (sym (given_push (is_end_input v.number) acts a)));
  kill = one_more (is_kill v.number (Out a)) v.killed (one_if (killed heard v.number)) (given (is_kill v.number) acts) m.kill k.kill
      ∙ ap (λ n. one_if (killed heard v.number) + n) (sym (given_push (is_kill v.number) acts a));
  release = one_more (is_release v.number (Out a)) v.output_ended (one_if (output_ended heard v.number)) (given (is_release v.number) acts) m.release k.release
      ∙ ap (λ n. one_if (output_ended heard v.number) + n) (sym (given_push (is_release v.number) acts a));
  ask = one_ask (is_want_child v.number (Out a)) v.asked (one_if (child_wanted heard v.number)) (given (is_want_child v.number) acts) m.admits.asks k.ask
      ∙ ap (λ n. one_if (child_wanted heard v.number) + n) (sym (given_push (is_want_child v.number) acts a));
}

-- what ends a run changes none of this
pub counted_ended : (heard : List Item) (acts : List Act) (v : View) → Counted heard acts v → Counted heard acts (ended v Dropped)
counted_ended heard acts v k = record { input = k.input; kill = k.kill; release = k.release; ask = k.ask }

pub counted_list : (heard : List Item) (acts : List Act) (v : View) → Counted heard acts (ended v Dropped) → Counted heard acts v
counted_list heard acts v k = record { input = k.input; kill = k.kill; release = k.release; ask = k.ask }

-- ---- a settled child

abbrev pub Apart : View → Type 0
Apart v = v.started ≡ true → v.refused ≡ false

pub record Done (v : View) : Type 0 where
  pub exited : v.exited ≡ true
  pub input : v.input_ended ≡ true
  pub output : v.output_ended ≡ true

pub done_of : (v : View) → Apart v → is_settled v ≡ true → v.started ≡ true → Done v
done_of v apart settled on =
    let rest : (v.exited && v.input_ended && v.output_ended) ≡ true = ap (λ b. b || v.exited && v.input_ended && v.output_ended) (sym (apart on)) ∙ settled in
    let p = and_parts (v.exited && v.input_ended) v.output_ended rest in
    let q = and_parts v.exited v.input_ended p.0 in
    record { exited = q.0; input = q.1; output = p.1 }

-- nothing is due for it
rests_by : (st d x i o f u h fw ot al li kd m ak : Bool) → (st ≡ true → x ≡ true) → (st ≡ true → i ≡ true) → (st ≡ true → o ≡ true)
    → not ((st && not d && not x && not i && f && u) || ((st && (d || h || not x && fw)) && not i) || ((st && not x && (ot || al || li)) && not kd) || ((st && x && (ot || al || kd)) && not o) || ((st && not d && not kd && not o && m) && not ak)) ≡ true
rests_by false d x i o f u h fw ot al li kd m ak ex inp out = refl
rests_by true d x i o f u h fw ot al li kd m ak ex inp out = rw (ex refl, inp refl, out refl) (go d f u h fw ot al kd m ak)
  where
    go : (d f u h fw ot al kd m ak : Bool) → not ((not d && false && false && f && u) || ((d || h || false && fw) && false) || false || ((ot || al || kd) && false) || (not d && not kd && false && m && not ak)) ≡ true
    go d f u h fw ot al kd m ak = grind (arith, common_steps)

pub settled_rests : (may : Bool) (v : View) → Apart v → is_settled v ≡ true → is_at_rest may v ≡ true
settled_rests may v apart settled =
    rests_by v.started (is_some v.outcome) v.exited v.input_ended v.output_ended (is_filled v.unfed) (v.untaken == 0) v.hung_up (is_fed_whole v) (is_other v.outcome) (is_left_alone v) (has_lingered v) v.killed may v.asked
    (λ on. (done_of v apart settled on).exited) (λ on. (done_of v apart settled on).input) (λ on. (done_of v apart settled on).output)

-- ---- what was done is wanted

abbrev pub Fair : List Item → View → Type 0
Fair heard v = (may : Bool) → Deserved may (was heard v) v

pub untouched_fair : (heard : List Item) (v : View) → was heard v ≡ v → Fair heard v
untouched_fair heard v e may = record {
  input = λ o n. absurd (false≢true (sym o ∙ (ap (λ (w : View). w.input_ended) e ∙ n)));
  kill = λ o n. absurd (false≢true (sym o ∙ (ap (λ (w : View). w.killed) e ∙ n)));
  release = λ o n. absurd (false≢true (sym o ∙ (ap (λ (w : View). w.output_ended) e ∙ n)));
  ask = λ o n. absurd (false≢true (sym o ∙ (ap (λ (w : View). w.asked) e ∙ n)));
}

wants_started : (a b : Bool) → (a && b) ≡ true → a ≡ true
wants_started a b e = (and_parts a b e).0

-- a settled child was not killed in the step, nor asked
kill_open : (v : View) → Apart v → is_settled v ≡ true → wants_kill v ≡ true → ⊥
kill_open v apart settled e =
    let p = and_parts (v.started && not v.exited) _ e in
    let q = and_parts v.started (not v.exited) p.0 in
    false≢true (sym (not-true _ q.1) ∙ (done_of v apart settled q.0).exited)

ask_open : (may : Bool) (v : View) → Apart v → is_settled v ≡ true → wants_output may v ≡ true → ⊥
ask_open may v apart settled e =
    let p = and_parts (v.started && not (is_some v.outcome) && not v.killed && not v.output_ended) may e in
    let q = and_parts (v.started && not (is_some v.outcome) && not v.killed) (not v.output_ended) p.0 in
    let r = and_parts (v.started && not (is_some v.outcome)) (not v.killed) q.0 in
    let t = and_parts v.started (not (is_some v.outcome)) r.0 in
    false≢true (sym (not-true _ q.1) ∙ (done_of v apart settled t.0).output)

pub settled_fair : (heard : List Item) (may : Bool) (v : View) → Apart v → is_settled v ≡ true → Deserved may (was heard v) v → Fair heard v
settled_fair heard may v apart settled d other = record {
  input = d.input;
  kill = d.kill;
  release = d.release;
  ask = λ o n. absurd (ask_open may v apart settled (d.ask o n));
}

some_ended : (o : Option Outcome) → is_some (or_else o (Some Ended.Dropped)) ≡ true
some_ended (Some d) = refl
some_ended None = refl

released_ended : (o : Option Outcome) (h z kd : Bool) → (is_other o || (h && not (is_some o) && z) || kd) ≡ true
    → (is_other (or_else o (Some Ended.Dropped)) || (h && not (is_some (or_else o (Some Ended.Dropped))) && z) || kd) ≡ true
released_ended (Some d) h z kd e = e
released_ended None h z kd e = refl

released_list : (o : Option Outcome) (h z kd : Bool) → is_some o ≡ true → (is_other (or_else o (Some Ended.Dropped)) || (h && not (is_some (or_else o (Some Ended.Dropped))) && z) || kd) ≡ true
    → (is_other o || (h && not (is_some o) && z) || kd) ≡ true
released_list (Some d) h z kd some e = e
released_list None h z kd some e = absurd (false≢true some)

pub dropped_fair : (heard : List Item) (may : Bool) (v : View) → Apart v → is_settled v ≡ true → Deserved may (was heard v) v → Fair heard (ended v Dropped)
dropped_fair heard may v apart settled d other = record {
  input = λ o n. rw (wants_started v.started _ (d.input o n), some_ended v.outcome) refl;
  kill = λ o n. absurd (kill_open v apart settled (d.kill o n));
  release = λ o n.
      let p = and_parts (v.started && v.exited) (is_other v.outcome || is_left_alone v || v.killed) (d.release o n) in
      rw (p.0, released_ended v.outcome v.hung_up (v.linger_left == 0) v.killed p.1) refl;
  ask = λ o n. absurd (ask_open may v apart settled (d.ask o n));
}

-- what was wanted of a run that was ended is wanted of the one in the list, which is decided
pub list_fair : (heard : List Item) (may : Bool) (v : View) → is_some v.outcome ≡ true → Apart v → is_settled v ≡ true → Deserved may (was heard (ended v Dropped)) (ended v Dropped) → Fair heard v
list_fair heard may v decided apart settled d other = record {
  input = λ o n. rw (wants_started v.started _ (d.input o n), decided) refl;
  kill = λ o n. absurd (kill_open (ended v Dropped) apart settled (d.kill o n));
  release = λ o n.
      let p = and_parts (v.started && v.exited) (is_other (ended v Dropped).outcome || is_left_alone (ended v Dropped) || v.killed) (d.release o n) in
      rw (p.0, released_list v.outcome v.hung_up (v.linger_left == 0) v.killed decided p.1) refl;
  ask = λ o n. absurd (ask_open may (ended v Dropped) apart settled (d.ask o n));
}

-- ---- turns

pub turn_fair : (heard : List Item) (turn : Turn) (v : View) → TurnIs heard turn v → (may : Bool) × Deserved may (was heard v) v
turn_fair heard waiting v t = (false, untouched_fair heard v t false)
turn_fair heard begun v t = (false, untouched_fair heard v t.0 false)
turn_fair heard (served may) v t = (may, t.0)

pub turn_dropped : (heard : List Item) (turn : Turn) (v : View) → Apart v → may_lose turn (Some v) ≡ true → TurnIs heard turn v → TurnIs heard turn (ended v Dropped)
turn_dropped heard waiting v apart m t = ap (λ w. ended w Dropped) t
turn_dropped heard begun v apart m t = (ap (λ w. ended w Dropped) t.0, t.1)
turn_dropped heard (served may) v apart m t = (dropped_fair heard may v apart m t.0 may, settled_rests may (ended v Dropped) apart m)

-- what was due is given
pub turn_served : (heard : List Item) (may : Bool) (v : View) → was heard v ≡ v → TurnIs heard (served may) (acted may v)
unfolding acted
turn_served heard may v e =
    let d : Deserved may v (acted may v) = acted-deserved may v in (
      record {
        input = λ o n. d.input (ap (λ (w : View). w.input_ended) (sym e) ∙ o) n;
        kill = λ o n. d.kill (ap (λ (w : View). w.killed) (sym e) ∙ o) n;
        release = λ o n. d.release (ap (λ (w : View). w.output_ended) (sym e) ∙ o) n;
        ask = λ o n. d.ask (ap (λ (w : View). w.asked) (sym e) ∙ o) n;
      },
      acted-rest may v,
    )

-- ---- with room or without

pub unstarted_rests : (may : Bool) (v : View) → v.started ≡ false → is_at_rest may v ≡ true
unstarted_rests may v off =
    rests_by v.started (is_some v.outcome) v.exited v.input_ended v.output_ended (is_filled v.unfed) (v.untaken == 0) v.hung_up (is_fed_whole v) (is_other v.outcome) (is_left_alone v) (has_lingered v) v.killed may v.asked
    (λ on. absurd (false≢true (sym off ∙ on))) (λ on. absurd (false≢true (sym off ∙ on))) (λ on. absurd (false≢true (sym off ∙ on)))

no_asking : (st d kd o m : Bool) → d ≡ true → (st && not d && not kd && not o && m) ≡ false
no_asking true true kd o m e = refl
no_asking false true kd o m e = refl
no_asking st false kd o m e = absurd (false≢true e)

pub decided_rests : (may other : Bool) (v : View) → is_some v.outcome ≡ true → is_at_rest may v ≡ true → is_at_rest other v ≡ true
decided_rests may other v d e =
    ap (λ b. not (is_feed_due v || is_input_due v || is_kill_due v || is_release_due v || b)) (none other ∙ sym (none may)) ∙ e
  where
    none : (m : Bool) → is_ask_due m v ≡ false
    none m = ap (λ b. b && not v.asked) (no_asking v.started (is_some v.outcome) v.killed v.output_ended m d)

pub decided_fair : (heard : List Item) (may other : Bool) (v : View) → is_some v.outcome ≡ true → Deserved may (was heard v) v → Deserved other (was heard v) v
decided_fair heard may other v d f = record {
  input = f.input;
  kill = f.kill;
  release = f.release;
  ask = λ o n. absurd (false≢true (sym (no_asking v.started (is_some v.outcome) v.killed v.output_ended may d) ∙ f.ask o n));
}
