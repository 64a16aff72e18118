-- The rules that a trace breaks, by name.
use Rattle.std.specs.Prelude.{ℕ, zero, suc, Bool, List, [], ◌++◌, codes}
use Rattle.std.specs.List.{list_all, flat_map}
use Rattle.host_base.specs.declared.site.Site.{Site}
use Rattle.host_trace.specs.declared.items.Item.{Item}
use Rattle.host_trace.specs.Projections.{accepted_count, own}
use Rattle.host_trace.specs.Trace.{Step, steps, end_of}
use Rattle.trace_child.specs.ChildGood.{is_child_good}
use Rattle.trace_model.specs.Demands.{has_room}
use Rattle.trace_model.specs.Good.{begins_with_event}
use Rattle.trace_model.specs.Steps.{heard_of}
use Rattle.trace_model.specs.Verdict.{name_if_broken, broken_between}
use Rattle.scgi_model.specs.Request.{run_of}
use Rattle.front_rules.specs.Acts.{form, order, children_in}
use Rattle.scgi_model.specs.Rules.{replies, launches, begins, wants, shuts}

abbrev pub is_good_child : Site → ℕ → Step → ℕ → Bool
is_good_child site c s k = is_child_good (run_of site c (end_of s) k) (has_room c (end_of s)) (heard_of s) s.acts (end_of s)

abbrev pub broken_in : Site → ℕ → Step → List (List ℕ)
broken_in site c s =
    name_if_broken (codes "replies") (replies site c (end_of s))
    ++ name_if_broken (codes "launches") (launches site c s)
    ++ name_if_broken (codes "begins") (begins site c (end_of s))
    ++ name_if_broken (codes "wants") (wants site c s)
    ++ name_if_broken (codes "shuts") (shuts site c s)
    ++ name_if_broken (codes "form") (form c s)
    ++ name_if_broken (codes "order") (order s)
    ++ name_if_broken (codes "children") (list_all (is_good_child site c s) (children_in c s))

abbrev pub broken_below : Site → List Item → ℕ → List (List ℕ)
broken_below site T zero = []
broken_below site T (suc c) = broken_below site T c ++ flat_map (broken_in site c) (steps (own T c))

abbrev pub broken_by : Site → List Item → List (List ℕ)
broken_by site T =
    name_if_broken (codes "begun") (begins_with_event T) ++ flat_map (broken_between site) (steps T) ++ broken_below site T (accepted_count T)
