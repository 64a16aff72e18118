-- What holds of the rules that both fronts keep.
use Rattle.std.specs.Prelude.{ℕ, Bool, true, false, ◌&&◌, List, [], ◌∷◌, ◌++◌, ◌≡◌, ◌≤◌, map}
use Rattle.host_trace.specs.declared.items.Act.{Act}
use Rattle.host_trace.specs.declared.items.Item.{Item}
use Rattle.host_trace.specs.declared.items.Item.TheVariants.{Out}
use Rattle.host_trace.specs.Account.{settled}
use Rattle.host_trace.specs.Projections.{children}
use Rattle.host_trace.specs.Trace.{Step, end_of}
use Rattle.own_traces.specs.Whose.{has}
use Rattle.trace_model.specs.Form.{rank}
use Rattle.trace_model.specs.Steps.{heard_of}
use Rattle.front_rules.specs.Acts.{each_act, each_act_from, are_ordered, children_in}

-- ---- acts

-- A rule on each act is the rule on the first ones, and then on those that follow.
abbrev pub RulesJoin : Type 0
RulesJoin = (rule : List Item → Act → Bool) (front : List Item) (xs ys : List Act)
    → each_act_from rule front (xs ++ ys) ≡ (each_act_from rule front xs && each_act_from rule (front ++ map Out xs) ys)

-- .. so where it is kept in a step, every act of it keeps the rule after what stands before the act
abbrev pub EachKeeps : Type 0
EachKeeps = (rule : List Item → Act → Bool) (s : Step) (xs ys : List Act) (act : Act) → each_act rule s ≡ true → s.acts ≡ xs ++ act ∷ ys
    → rule (heard_of s ++ map Out xs) act ≡ true

-- In acts in order none stands before one with a lower place.
abbrev pub OrdersRise : Type 0
OrdersRise = (least : ℕ) (xs ys zs : List Act) (a b : Act) → are_ordered least (xs ++ (a ∷ (ys ++ (b ∷ zs)))) ≡ true → rank a ≤ rank b

-- ---- children

-- The rules on children are for each child of the connection that was not settled before the step, and no other.
abbrev pub ChildrenAreTold : Type 0
ChildrenAreTold = (c k : ℕ) (s : Step) → settled s.before k ≡ false → has (children_in c s) k ≡ has (children (end_of s) c) k
