-- The places of acts along the moves of a step.
use Rattle.std.proofs.Common.{◌≡◌, ◌≤◌, ℕ, Bool, true, false, List, [], ◌∷◌, ◌++◌, refl, sym, ap, ◌∙◌, arith}
use Rattle.std.specs.Prelude.{◌&&◌, ◌||◌, nat_le, if◌then◌else◌, not}
use Rattle.std.proofs.lemmas.Bool.{and_from, le-leb}
use Rattle.host_base.specs.declared.site.Site.{Site}
use Rattle.host_trace.specs.declared.items.Act.{Act}
use Rattle.host_trace.specs.declared.items.Act.TheVariants.{Write}
use Rattle.host_trace.specs.declared.items.Item.TheVariants.{Out}
use Rattle.host_trace.specs.Account.{has_unsettled}
use Rattle.trace_model.specs.Answer.{stage, Walk}
use Rattle.trace_model.specs.Exchange.{Exchange, continue_text, pushed}
use Rattle.trace_model.specs.Exchanges.{following, has_ended}
use Rattle.trace_model.specs.Form.{begins_anew, ends_the_wait, is_ordered, is_refused, rank}
use Rattle.conn_laws.specs.Quiet.{is_plain}
use Rattle.conn_laws.proofs.QuietLaws.{act_quiet, walk-quiet}
use Rattle.conn_laws.specs.Moves.{AreInStep, Move, acts_of, continues, gives, moved, settles}
use Rattle.http_conn.specs.Parts.{gives_all}
use Rattle.http_step_laws.proofs.ActWords.{next, next_on, next_over}

-- ---- along moves

-- the least place of what comes next
abbrev pub least_after : Site → ℕ → Exchange → Act → ℕ
least_after site c e act = if begins_anew site c e act then 0 else rank act

abbrev pub AreOrdered : Site → ℕ → Exchange → ℕ → List Move → Type 0
AreOrdered site c e least [] = Unit {0}
AreOrdered site c e least (gives act ∷ moves) = (least ≤ rank act) × AreOrdered site c (pushed e (Out act)) (least_after site c e act) moves
AreOrdered site c e least (continues d ∷ moves) =
    (least ≤ 0) × AreOrdered site c (pushed e (Out (Write d continue_text))) (least_after site c e (Write d continue_text)) moves
AreOrdered site c e least (settles ending ∷ moves) = AreOrdered site c (following site c e) least moves

abbrev pub least_then : Site → ℕ → Exchange → ℕ → List Move → ℕ
least_then site c e least [] = least
least_then site c e least (gives act ∷ moves) = least_then site c (pushed e (Out act)) (least_after site c e act) moves
least_then site c e least (continues d ∷ moves) =
    least_then site c (pushed e (Out (Write d continue_text))) (least_after site c e (Write d continue_text)) moves
least_then site c e least (settles ending ∷ moves) = least_then site c (following site c e) least moves

-- the model's exchanges are those of the moves
pub ordered_acts : (site : Site) (c : ℕ) (e : Exchange) (least : ℕ) (moves : List Move) → AreInStep site c e moves → AreOrdered site c e least moves
    → is_ordered site c (next site c e) least (acts_of moves) ≡ true
ordered_acts site c e least [] a o = refl
ordered_acts site c e least (gives act ∷ moves) a o =
    ap (λ (d : Exchange). is_ordered site c d least (act ∷ acts_of moves)) (next_on site c e a.0)
    ∙ and_from (nat_le least (rank act)) _ (le-leb least (rank act) o.0) (ordered_acts site c (pushed e (Out act)) (least_after site c e act) moves a.1 o.1)
ordered_acts site c e least (continues d ∷ moves) a o =
    ap (λ (f : Exchange). is_ordered site c f least (Write d continue_text ∷ acts_of moves)) (next_on site c e a.0)
    ∙ and_from (nat_le least 0) _ (le-leb least 0 o.0)
    (ordered_acts site c (pushed e (Out (Write d continue_text))) (least_after site c e (Write d continue_text)) moves a.2 o.1)
ordered_acts site c e least (settles ending ∷ moves) a o =
    ap (λ (d : Exchange). is_ordered site c d least (acts_of moves)) (next_over site c e a.0.over) ∙ ordered_acts site c (following site c e) least moves a.1 o

pub ordered_together : (site : Site) (c : ℕ) (e : Exchange) (least : ℕ) (xs ys : List Move) → AreOrdered site c e least xs
    → AreOrdered site c (moved site c e xs) (least_then site c e least xs) ys → AreOrdered site c e least (xs ++ ys)
ordered_together site c e least [] ys a b = b
ordered_together site c e least (gives act ∷ xs) ys a b = (a.0, ordered_together site c (pushed e (Out act)) (least_after site c e act) xs ys a.1 b)
ordered_together site c e least (continues d ∷ xs) ys a b =
    (a.0, ordered_together site c (pushed e (Out (Write d continue_text))) (least_after site c e (Write d continue_text)) xs ys a.1 b)
ordered_together site c e least (settles ending ∷ xs) ys a b = ordered_together site c (following site c e) least xs ys a b

pub least_together : (site : Site) (c : ℕ) (e : Exchange) (least : ℕ) (xs ys : List Move)
    → least_then site c e least (xs ++ ys) ≡ least_then site c (moved site c e xs) (least_then site c e least xs) ys
least_together site c e least [] ys = refl
least_together site c e least (gives act ∷ xs) ys = least_together site c (pushed e (Out act)) (least_after site c e act) xs ys
least_together site c e least (continues d ∷ xs) ys = least_together site c (pushed e (Out (Write d continue_text))) (least_after site c e (Write d continue_text)) xs ys
least_together site c e least (settles ending ∷ xs) ys = least_together site c (following site c e) least xs ys

pub in_step_parts : (site : Site) (c : ℕ) (e : Exchange) (xs ys : List Move) → AreInStep site c e (xs ++ ys) → AreInStep site c (moved site c e xs) ys
in_step_parts site c e [] ys a = a
in_step_parts site c e (gives act ∷ xs) ys a = in_step_parts site c (pushed e (Out act)) xs ys a.1
in_step_parts site c e (continues d ∷ xs) ys a = in_step_parts site c (pushed e (Out (Write d continue_text))) xs ys a.2
in_step_parts site c e (settles ending ∷ xs) ys a = in_step_parts site c (following site c e) xs ys a.1

-- ---- where the count begins anew

-- It has, where the exchange has ended, and where a refusal waits for no child.
pub record IsFresh (site : Site) (c : ℕ) (least : ℕ) (e : Exchange) : Type 0 where
  pub ended : has_ended site c e ≡ true → least ≡ 0
  pub waits : is_refused (stage site c e) ≡ true → has_unsettled e.items c ≡ false → least ≡ 0

pub fresh_zero : (site : Site) (c : ℕ) (least : ℕ) (e : Exchange) → least ≡ 0 → IsFresh site c least e
fresh_zero site c least e zero = record { ended = λ over. zero; waits = λ refused settled. zero }

anew : (b : Bool) (n : ℕ) → b ≡ true → (if b then 0 else n) ≡ 0
anew b n is = ap (λ (x : Bool). if x then 0 else n) is

either : (a b : Bool) → b ≡ true → (a || b) ≡ true
either true b e = refl
either false b e = e

three : (a b d : Bool) → a ≡ true → b ≡ false → d ≡ true → (a && not b && d) ≡ true
three a b d p q r = and_from (a && not b) d (and_from a (not b) p (ap not q)) r

-- an act of a child that was not settled before it
pub fresh_after : (site : Site) (c : ℕ) (e : Exchange) (act : Act) → is_plain act ≡ true → has_unsettled e.items c ≡ true
    → IsFresh site c (least_after site c e act) (pushed e (Out act))
fresh_after site c e act plain unsettled = record {
  ended = λ over. anew (begins_anew site c e act) (rank act) (ap (λ (b : Bool). b || ends_the_wait site c e act) over);
  waits = λ refused settled.
      anew (begins_anew site c e act) (rank act)
      (either (has_ended site c (pushed e (Out act))) (ends_the_wait site c e act)
      (three (has_unsettled e.items c) (has_unsettled (pushed e (Out act)).items c) (is_refused (stage site c e)) unsettled settled (sym (ap is_refused same) ∙ refused)));
}
  where
    same : stage site c (pushed e (Out act)) ≡ stage site c e
    same = ap (λ (w : Walk). w.stage) (walk-quiet site c e (Out act) (act_quiet site c e act plain))

-- ---- places that rise

-- the acts come in the order of their places, none before `low` and none behind `high`
abbrev pub Climbs : ℕ → ℕ → List Act → Type 0
Climbs low high [] = low ≤ high
Climbs low high (act ∷ acts) = (low ≤ rank act) × Climbs (rank act) high acts

pub climbs_lower : (low mid high : ℕ) (acts : List Act) → low ≤ mid → Climbs mid high acts → Climbs low high acts
climbs_lower low mid high [] le c = omega (arith, le, c)
climbs_lower low mid high (act ∷ acts) le c = (omega (arith, le, c.0), c.1)

pub climbs_append : (low mid high : ℕ) (xs ys : List Act) → Climbs low mid xs → Climbs mid high ys → Climbs low high (xs ++ ys)
climbs_append low mid high [] ys a b = climbs_lower low mid high ys a b
climbs_append low mid high (act ∷ xs) ys a b = (a.0, climbs_append (rank act) mid high xs ys a.1 b)

pub record Climbed (site : Site) (c : ℕ) (e : Exchange) (least high : ℕ) (acts : List Act) : Type 0 where
  pub ordered : AreOrdered site c e least (gives_all acts)
  pub top : least_then site c e least (gives_all acts) ≤ high

pub least_low : (b : Bool) (n : ℕ) → (if b then 0 else n) ≤ n
least_low true n = omega arith
least_low false n = omega arith

pub climbs_ordered : (site : Site) (c : ℕ) (acts : List Act) (e : Exchange) (least low high : ℕ) → least ≤ low → Climbs low high acts → Climbed site c e least high acts
climbs_ordered site c [] e least low high le k = record { ordered = tt; top = omega (arith, le, k) }
climbs_ordered site c (act ∷ acts) e least low high le k =
    let rest : Climbed site c (pushed e (Out act)) (least_after site c e act) high acts =
    climbs_ordered site c acts (pushed e (Out act)) (least_after site c e act) (rank act) high (least_low (begins_anew site c e act) (rank act)) k.1 in
    record { ordered = (omega (arith, le, k.0), rest.ordered); top = rest.top }
