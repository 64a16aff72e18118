-- Rules on the acts of a step.
use Rattle.std.proofs.Common.{◌≡◌, ℕ, ◌≤◌, Bool, true, false, List, [], ◌∷◌, ◌++◌, map, refl, sym, ap, subst, ◌∙◌, arith, le_trans}
use Rattle.std.specs.Prelude.{◌&&◌, nat_le}
use Rattle.std.proofs.lemmas.Bool.{and_parts, leb-true}
use Rattle.std.proofs.lemmas.List.{append_assoc, append-nil}
use Rattle.host_trace.specs.declared.items.Act.{Act}
use Rattle.host_trace.specs.declared.items.Item.{Item}
use Rattle.host_trace.specs.declared.items.Item.TheVariants.{Out}
use Rattle.host_trace.specs.Trace.{Step}
use Rattle.trace_model.specs.Form.{rank}
use Rattle.trace_model.specs.Steps.{heard_of}
use Rattle.front_rules.specs.Acts.{each_act, each_act_from, are_ordered}
use Rattle.front_rules.specs.RuleLaws.{RulesJoin, EachKeeps, OrdersRise}

and_assoc : (x y z : Bool) → (x && (y && z)) ≡ ((x && y) && z)
and_assoc true y z = refl
and_assoc false y z = refl

pub rules_join : RulesJoin
rules_join rule front [] ys = ap (λ L. each_act_from rule L ys) (sym (append-nil front))
rules_join rule front (x ∷ xs) ys =
    ap (λ b. rule front x && b) (rules_join rule (front ++ Out x ∷ []) xs ys)
    ∙ ap (λ L. rule front x && (each_act_from rule (front ++ Out x ∷ []) xs && each_act_from rule L ys)) (append_assoc front (Out x ∷ []) (map Out xs))
    ∙ and_assoc (rule front x) (each_act_from rule (front ++ Out x ∷ []) xs) (each_act_from rule (front ++ (Out x ∷ map Out xs)) ys)

pub each_keeps : EachKeeps
each_keeps rule s xs ys act kept are =
    let whole : each_act_from rule (heard_of s) (xs ++ act ∷ ys) ≡ true = ap (each_act_from rule (heard_of s)) (sym are) ∙ kept in
    let parts = and_parts (each_act_from rule (heard_of s) xs) (each_act_from rule (heard_of s ++ map Out xs) (act ∷ ys)) (sym (rules_join rule (heard_of s) xs (act ∷ ys)) ∙ whole) in
    (and_parts (rule (heard_of s ++ map Out xs) act) (each_act_from rule ((heard_of s ++ map Out xs) ++ Out act ∷ []) ys) parts.1).0

-- ---- order

least_below : (least : ℕ) (ys zs : List Act) (b : Act) → are_ordered least (ys ++ (b ∷ zs)) ≡ true → least ≤ rank b
least_below least [] zs b ordered = leb-true least (rank b) (and_parts (nat_le least (rank b)) (are_ordered (rank b) zs) ordered).0
least_below least (y ∷ ys) zs b ordered =
    let parts = and_parts (nat_le least (rank y)) (are_ordered (rank y) (ys ++ (b ∷ zs))) ordered in
    le_trans (leb-true least (rank y) parts.0) (least_below (rank y) ys zs b parts.1)

pub orders_rise : OrdersRise
orders_rise least [] ys zs a b ordered =
    least_below (rank a) ys zs b (and_parts (nat_le least (rank a)) (are_ordered (rank a) (ys ++ (b ∷ zs))) ordered).1
orders_rise least (x ∷ xs) ys zs a b ordered =
    orders_rise (rank x) xs ys zs a b (and_parts (nat_le least (rank x)) (are_ordered (rank x) (xs ++ (a ∷ (ys ++ (b ∷ zs))))) ordered).1
