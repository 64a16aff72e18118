-- The rules on the acts of a step that both fronts keep. `c` is a connection, and `s` a step of its items.
use Rattle.std.specs.Prelude.{ℕ, Bool, true, not, ◌&&◌, nat_le, List, [], ◌∷◌, ◌++◌, filter}
use Rattle.host_trace.specs.declared.items.Act.{Act}
use Rattle.host_trace.specs.declared.items.Act.TheVariants.{Write}
use Rattle.host_trace.specs.declared.items.Item.{Item}
use Rattle.host_trace.specs.declared.items.Item.TheVariants.{Out}
use Rattle.host_trace.specs.Account.{settled}
use Rattle.host_trace.specs.Projections.{children, upgraded}
use Rattle.host_trace.specs.Trace.{Step, end_of}
use Rattle.trace_child.specs.Words.{is_filled}
use Rattle.trace_model.specs.Demands.{is_live}
use Rattle.trace_model.specs.Form.{may_come, rank}
use Rattle.trace_model.specs.Steps.{heard_of}

-- each act keeps the rule, which looks at what stands before it
abbrev pub each_act_from : (List Item → Act → Bool) → List Item → List Act → Bool
each_act_from rule front [] = true
each_act_from rule front (act ∷ acts) = rule front act && each_act_from rule (front ++ Out act ∷ []) acts

abbrev pub each_act : (List Item → Act → Bool) → Step → Bool
each_act rule s = each_act_from rule (heard_of s) s.acts

-- ---- when an act may stand

-- A whole answer may be as long as an output may be: how much waits to be sent is no matter here.
abbrev pub may_stand : ℕ → List Item → Act → Bool
may_stand c L (Write d bytes) = is_live c L && not (upgraded L c) && is_filled bytes
may_stand c L act = may_come L act

abbrev pub form : ℕ → Step → Bool
form c s = each_act (may_stand c) s

-- ---- in which order the acts come

abbrev pub are_ordered : ℕ → List Act → Bool
are_ordered least [] = true
are_ordered least (act ∷ acts) = nat_le least (rank act) && are_ordered (rank act) acts

abbrev pub order : Step → Bool
order s = are_ordered 0 s.acts

-- ---- for whom the rules on children hold

-- the children that were not settled before the step
abbrev pub children_in : ℕ → Step → List ℕ
children_in c s = filter (λ k. not (settled s.before k)) (children (end_of s) c)
