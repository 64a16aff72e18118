-- Rules on each act of a step, and on the exchanges that ended in it.
use Rattle.std.proofs.Common.{◌≡◌, ℕ, Bool, true, false, List, [], ◌∷◌, ◌++◌, map, refl, sym, ap, ◌∙◌}
use Rattle.std.specs.List.{list_all}
use Rattle.std.proofs.lemmas.Bool.{and_from}
use Rattle.host_base.specs.declared.site.Site.{Site}
use Rattle.host_trace.specs.declared.items.Act.{Act}
use Rattle.host_trace.specs.declared.items.Act.TheVariants.{Write}
use Rattle.host_trace.specs.declared.items.Item.TheVariants.{Out}
use Rattle.trace_model.specs.Answers.{begins_in_turn}
use Rattle.trace_model.specs.Exchange.{Exchange, continue_text, pushed}
use Rattle.trace_model.specs.Exchanges.{ended_after, ended_by, following, has_ended, next_by}
use Rattle.trace_model.specs.Launches.{is_right_start}
use Rattle.trace_model.specs.Replies.{is_silent_once_closed}
use Rattle.trace_model.specs.Steps.{each_act_from}
use Rattle.trace_model.specs.Talks.{is_right_talk_act}
use Rattle.exchange_laws.proofs.RestLaws.{silent_by_open}
use Rattle.child_laws.proofs.OverLaws.{new_unended}
use Rattle.conn_laws.specs.Moves.{AreInStep, Move, acts_of, continues, gives, moved, settles}
use Rattle.http_step_laws.specs.Laws.{may_be_given_at}
use Rattle.http_step_laws.specs.Standing.{AreRight, IsRight}

-- where it has ended, the one that follows
abbrev pub next : Site → ℕ → Exchange → Exchange
next site c e = next_by site c e (has_ended site c e)

pub next_on : (site : Site) (c : ℕ) (e : Exchange) → has_ended site c e ≡ false → next site c e ≡ e
next_on site c e on = ap (λ (b : Bool). next_by site c e b) on

pub next_over : (site : Site) (c : ℕ) (e : Exchange) → has_ended site c e ≡ true → next site c e ≡ next site c (following site c e)
next_over site c e over = ap (λ (b : Bool). next_by site c e b) over ∙ sym (next_on site c (following site c e) (new_unended site c (following site c e) refl))

-- a rule that each act keeps where it is given holds of each act
module _ (site : Site) (c : ℕ) (rule : Exchange → Act → Bool) where
  abbrev Keeps : Exchange → List Move → Type 0
  Keeps e [] = Unit {0}
  Keeps e (gives act ∷ moves) = (rule e act ≡ true) × Keeps (pushed e (Out act)) moves
  Keeps e (continues d ∷ moves) = (rule e (Write d continue_text) ≡ true) × Keeps (pushed e (Out (Write d continue_text))) moves
  Keeps e (settles ending ∷ moves) = Keeps (following site c e) moves

  each_kept : (e : Exchange) (moves : List Move) → AreInStep site c e moves → Keeps e moves → each_act_from site c rule (next site c e) (acts_of moves) ≡ true
  each_kept e [] a k = refl
  each_kept e (gives act ∷ moves) a k =
      ap (λ (d : Exchange). each_act_from site c rule d (act ∷ acts_of moves)) (next_on site c e a.0) ∙ and_from _ _ k.0 (each_kept (pushed e (Out act)) moves a.1 k.1)
  each_kept e (continues d ∷ moves) a k =
      ap (λ (f : Exchange). each_act_from site c rule f (Write d continue_text ∷ acts_of moves)) (next_on site c e a.0)
      ∙ and_from _ _ k.0 (each_kept (pushed e (Out (Write d continue_text))) moves a.2 k.1)
  each_kept e (settles ending ∷ moves) a k =
      ap (λ (d : Exchange). each_act_from site c rule d (acts_of moves)) (next_over site c e a.0.over) ∙ each_kept (following site c e) moves a.1 k

-- .. so does each that is right where it is given, and that 100 Continue keeps
module _ (site : Site) (c : ℕ) (rule : Exchange → Act → Bool) (kept : (e : Exchange) (act : Act) → IsRight site c e act → rule e act ≡ true)
    (let_on : (e : Exchange) (d : ℕ) → begins_in_turn site c e (Write d continue_text) ≡ true → rule e (Write d continue_text) ≡ true) where
  keeps_right : (e : Exchange) (moves : List Move) → AreRight site c e moves → Keeps site c rule e moves
  keeps_right e [] r = tt
  keeps_right e (gives act ∷ moves) r = (kept e act r.0, keeps_right (pushed e (Out act)) moves r.1)
  keeps_right e (continues d ∷ moves) r = (let_on e d r.0, keeps_right (pushed e (Out (Write d continue_text))) moves r.1)
  keeps_right e (settles ending ∷ moves) r = keeps_right (following site c e) moves r.1

  each_right : (e : Exchange) (moves : List Move) → AreInStep site c e moves → AreRight site c e moves → each_act_from site c rule (next site c e) (acts_of moves) ≡ true
  each_right e moves a r = each_kept site c rule e moves a (keeps_right e moves r)

-- Each act is right.
pub record EachRight (site : Site) (c : ℕ) (d : Exchange) (acts : List Act) : Type 0 where
  pub launches : each_act_from site c (is_right_start site c) d acts ≡ true
  pub in_turn : each_act_from site c (begins_in_turn site c) d acts ≡ true
  pub upgrades : each_act_from site c (is_right_talk_act site c) d acts ≡ true
  pub givings : each_act_from site c may_be_given_at d acts ≡ true

pub acts_right : (site : Site) (c : ℕ) (e : Exchange) (moves : List Move) → AreInStep site c e moves → AreRight site c e moves → EachRight site c (next site c e) (acts_of moves)
acts_right site c e moves a r = record {
  launches = each_right site c (is_right_start site c) (λ d act is. is.start) (λ d k is. refl) e moves a r;
  in_turn = each_right site c (begins_in_turn site c) (λ d act is. is.in_turn) (λ d k is. is) e moves a r;
  upgrades = each_right site c (is_right_talk_act site c) (λ d act is. is.upgrade) (λ d k is. refl) e moves a r;
  givings = each_right site c may_be_given_at (λ d act is. is.may) (λ d k is. refl) e moves a r;
}

-- .. and of those that ended none follows an answer that closes.
pub ended_silent : (site : Site) (c : ℕ) (e : Exchange) (moves : List Move) → AreInStep site c e moves → AreRight site c e moves → has_ended site c (moved site c e moves) ≡ false
    → list_all (is_silent_once_closed c) (ended_by e (has_ended site c e) ++ ended_after site c (next site c e) (map Out (acts_of moves))) ≡ true
ended_silent site c e [] a r on = ap (λ (b : Bool). list_all (is_silent_once_closed c) (ended_by e b ++ [])) on
ended_silent site c e (gives act ∷ moves) a r on =
    ap (λ (b : Bool). list_all (is_silent_once_closed c) (ended_by e b ++ ended_after site c (next_by site c e b) (Out act ∷ map Out (acts_of moves)))) a.0
    ∙ ended_silent site c (pushed e (Out act)) moves a.1 r.1 on
ended_silent site c e (continues d ∷ moves) a r on =
    ap (λ (b : Bool). list_all (is_silent_once_closed c) (ended_by e b ++ ended_after site c (next_by site c e b) (Out (Write d continue_text) ∷ map Out (acts_of moves)))) a.0
    ∙ ended_silent site c (pushed e (Out (Write d continue_text))) moves a.2 r.1 on
ended_silent site c e (settles ending ∷ moves) a r on =
    ap (λ (b : Bool). list_all (is_silent_once_closed c) (ended_by e b ++ ended_after site c (next_by site c e b) (map Out (acts_of moves)))) a.0.over
    ∙ and_from _ _ (silent_by_open c e r.0)
    (sym (ap (λ (b : Bool). list_all (is_silent_once_closed c) (ended_by (following site c e) b ++ ended_after site c (next_by site c (following site c e) b) (map Out (acts_of moves))))
    (new_unended site c (following site c e) refl)) ∙ ended_silent site c (following site c e) moves a.1 r.1 on)
