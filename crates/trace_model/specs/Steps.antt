-- The exchanges of a step of a connection, and rules on its acts, each after what stands before it.
use Rattle.std.specs.Prelude.{ℕ, Bool, true, ◌&&◌, List, [], ◌∷◌, ◌++◌, map}
use Rattle.host_base.specs.declared.site.Site.{Site}
use Rattle.host_trace.specs.declared.items.Act.{Act}
use Rattle.host_trace.specs.declared.items.Item.{Item}
use Rattle.host_trace.specs.declared.items.Item.TheVariants.{In, Out}
use Rattle.host_trace.specs.Trace.{Step, end_of}
use Rattle.trace_model.specs.Exchange.{Exchange}
use Rattle.trace_model.specs.Exchanges.{current, next_of, ended_after}

-- the items with the event of the step, before its acts
abbrev pub heard_of : Step → List Item
heard_of s = s.before ++ In s.event ∷ []

abbrev pub items_of : Step → List Item
items_of s = In s.event ∷ map Out s.acts

-- the exchange that goes on at the end of a step, and those that ended within it
abbrev pub goes_on : Site → ℕ → Step → Exchange
goes_on site c s = current site c (end_of s)

abbrev pub ended_in : Site → ℕ → Step → List Exchange
ended_in site c s = ended_after site c (current site c s.before) (items_of s)

-- all exchanges of the step: a rule on what must hold at its end holds of those that ended within it too
abbrev pub exchanges_in : Site → ℕ → Step → List Exchange
exchanges_in site c s = ended_in site c s ++ goes_on site c s ∷ []

-- each act keeps the rule, where the exchange is the one that goes on before it
abbrev pub each_act_from : Site → ℕ → (Exchange → Act → Bool) → Exchange → List Act → Bool
each_act_from site c rule e [] = true
each_act_from site c rule e (act ∷ acts) = rule e act && each_act_from site c rule (next_of site c e (Out act)) acts

abbrev pub each_act : Site → ℕ → (Exchange → Act → Bool) → Step → Bool
each_act site c rule s = each_act_from site c rule (current site c (heard_of s)) s.acts
