-- The rules as tests with their names: which of them a step, a connection's items or a trace breaks.
use Rattle.std.specs.Prelude.{ℕ, zero, suc, Bool, true, false, List, [], ◌∷◌, ◌++◌, codes}
use Rattle.std.specs.List.{list_all, flat_map}
use Rattle.host_base.specs.declared.site.Site.{Site}
use Rattle.host_trace.specs.declared.items.Item.{Item}
use Rattle.host_trace.specs.Projections.{accepted_count, own}
use Rattle.host_trace.specs.Trace.{Step, steps, end_of}
use Rattle.trace_child.specs.ChildGood.{is_child_good}
use Rattle.trace_model.specs.Answer.{legs}
use Rattle.trace_model.specs.Answers.{answers, begins_in_turn}
use Rattle.trace_model.specs.Begins.{begins}
use Rattle.trace_model.specs.Between.{numbers, owners, slots}
use Rattle.trace_model.specs.Continues.{continues_then}
use Rattle.trace_model.specs.Demands.{has_room}
use Rattle.trace_model.specs.Exchange.{Exchange}
use Rattle.trace_model.specs.Form.{comes_in_form, order}
use Rattle.trace_model.specs.Good.{begins_with_event}
use Rattle.trace_model.specs.Hears.{hears}
use Rattle.trace_model.specs.Hops.{hops}
use Rattle.trace_model.specs.Launches.{is_right_start}
use Rattle.trace_model.specs.Legs.{Leg, run_of}
use Rattle.trace_model.specs.Replies.{replies, replies_end}
use Rattle.trace_model.specs.Says.{says}
use Rattle.trace_model.specs.Shuts.{shuts}
use Rattle.trace_model.specs.Steps.{goes_on, exchanges_in, heard_of, each_act}
use Rattle.trace_model.specs.Stops.{stops}
use Rattle.trace_model.specs.Streams.{streams, begins_no_sooner}
use Rattle.trace_model.specs.TakesNoMemory.{takes_no_memory}
use Rattle.trace_model.specs.Talks.{is_right_talk_act, upgrades, talks}
use Rattle.trace_model.specs.Wants.{wants}

-- a rule, and whether it is kept
pub record Kept : Type 0 where
  pub rule : List ℕ
  pub kept : Bool

abbrev pub kept_by : List ℕ → Bool → Kept
kept_by rule kept = record { rule = rule; kept = kept }

abbrev pub name_if_broken : List ℕ → Bool → List (List ℕ)
name_if_broken rule true = []
name_if_broken rule false = rule ∷ []

abbrev pub broken_of : Kept → List (List ℕ)
broken_of k = name_if_broken k.rule k.kept

-- ---- a connection

abbrev pub is_leg_good : Site → ℕ → Step → Exchange → Leg → Bool
is_leg_good site c s e leg = is_child_good (run_of site c e leg) (has_room c (end_of s)) (heard_of s) s.acts e.items

abbrev pub are_legs_good : Site → ℕ → Step → Exchange → Bool
are_legs_good site c s e = list_all (is_leg_good site c s e) (legs site c e)

-- e is the exchange that goes on at the step's end, and `es` are all exchanges of the step
abbrev pub rules_at : Site → ℕ → Step → Exchange → List Exchange → List Kept
rules_at site c s e es =
    kept_by (codes "replies") (replies site c e)
    ∷ kept_by (codes "replies_end") (replies_end c es)
    ∷ kept_by (codes "launches") (each_act site c (is_right_start site c) s)
    ∷ kept_by (codes "talk_acts") (each_act site c (is_right_talk_act site c) s)
    ∷ kept_by (codes "upgrades") (upgrades site c e)
    ∷ kept_by (codes "talks") (talks site c e)
    ∷ kept_by (codes "shuts") (shuts site c s)
    ∷ kept_by (codes "wants") (wants site c s)
    ∷ kept_by (codes "form") (each_act site c comes_in_form s)
    ∷ kept_by (codes "order") (order site c s)
    ∷ kept_by (codes "begins") (begins site c e)
    ∷ kept_by (codes "answers") (answers site c e)
    ∷ kept_by (codes "in_turn") (each_act site c (begins_in_turn site c) s)
    ∷ kept_by (codes "hops") (hops site c e)
    ∷ kept_by (codes "hears") (hears site c e)
    ∷ kept_by (codes "continues") (continues_then site c e)
    ∷ kept_by (codes "says") (says site c e)
    ∷ kept_by (codes "stops") (stops c e)
    ∷ kept_by (codes "streams") (streams site c e)
    ∷ kept_by (codes "no_sooner") (begins_no_sooner site c e)
    ∷ kept_by (codes "takes_no_memory") (takes_no_memory site c s)
    ∷ kept_by (codes "children") (list_all (are_legs_good site c s) es)
    ∷ []

abbrev pub broken_in_step : Site → ℕ → Step → List (List ℕ)
broken_in_step site c s = flat_map broken_of (rules_at site c s (goes_on site c s) (exchanges_in site c s))

-- the rules that are broken by these items of connection c, step by step
abbrev pub broken_for : Site → ℕ → List Item → List (List ℕ)
broken_for site c L = flat_map (broken_in_step site c) (steps L)

-- ---- the whole trace

abbrev pub broken_between : Site → Step → List (List ℕ)
broken_between site s =
    name_if_broken (codes "numbers") (numbers s) ++ name_if_broken (codes "owners") (owners s) ++ name_if_broken (codes "slots") (slots site s)

abbrev pub broken_below : Site → List Item → ℕ → List (List ℕ)
broken_below site T zero = []
broken_below site T (suc c) = broken_below site T c ++ broken_for site c (own T c)

-- the rules that a trace breaks; none where it is good
abbrev pub broken_by : Site → List Item → List (List ℕ)
broken_by site T =
    name_if_broken (codes "begun") (begins_with_event T) ++ flat_map (broken_between site) (steps T) ++ broken_below site T (accepted_count T)
