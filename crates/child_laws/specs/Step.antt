-- What the acts of a step do to the children, from act to act.
use Rattle.std.specs.Prelude.{ℕ, Bool, true, false, ◌+◌, ◌≡◌, ◌≤◌, List, ◌++◌, map, Option, Some, None}
use Rattle.std.specs.List.{list_any, AllByRecursion}
use Rattle.host_base.specs.declared.site.Site.{Site}
use Rattle.host_trace.specs.declared.items.Act.{Act}
use Rattle.host_trace.specs.declared.items.Item.{Item}
use Rattle.host_trace.specs.declared.items.Item.TheVariants.{Out}
use Rattle.host_trace.specs.Kinds.{names_child, is_end_input, is_kill, is_release, is_want_child}
use Rattle.host_trace.specs.Projections.{child_wanted, input_ended, killed, output_ended}
use Rattle.trace_child.specs.ChildGood.{ChildGood}
use Rattle.trace_child.specs.Words.{given}
use Rattle.child_core.specs.Due.{is_at_rest}
use Rattle.child_core.specs.Knows.{one_if}
use Rattle.child_core.specs.View.{View}
use Rattle.child_core.specs.Walk.{Deserved}
use Rattle.trace_model.specs.Answer.{legs}
use Rattle.trace_model.specs.Exchange.{Exchange, all_of}
use Rattle.trace_model.specs.Legs.{Leg, run_of}
use Rattle.child_laws.specs.Children.{KnowsRuns}

-- ---- one child

-- the view with what acts may change as it was once the step's event was heard
abbrev pub was : List Item → View → View
was heard v = record v {
  input_ended = input_ended heard v.number;
  killed = killed heard v.number;
  output_ended = output_ended heard v.number;
  asked = child_wanted heard v.number;
}

-- the acts so far hold as many of each kind for the child as tells what became of it since
pub record Counted (heard : List Item) (acts : List Act) (v : View) : Type 0 where
  pub input : one_if v.input_ended ≡ one_if (input_ended heard v.number) + given (is_end_input v.number) acts
  pub kill : one_if v.killed ≡ one_if (killed heard v.number) + given (is_kill v.number) acts
  pub release : one_if v.output_ended ≡ one_if (output_ended heard v.number) + given (is_release v.number) acts
  pub ask : one_if v.asked ≡ one_if (child_wanted heard v.number) + given (is_want_child v.number) acts

-- .. and what they did to it is wanted, with room or without
pub record Dealt (heard : List Item) (acts : List Act) (v : View) : Type 0 where
  pub counted : Counted heard acts v
  pub deserved : (may : Bool) → Deserved may (was heard v) v
  pub apart : v.started ≡ true → v.refused ≡ false

-- ---- the last child

-- Nothing was given to it in this step; or it was started in it, and nothing was given to it; or what was due for it was
-- given, with room or without.
pub data Turn : Type 0 where
  waiting begun : Turn
  served : Bool → Turn

abbrev pub TurnIs : List Item → Turn → View → Type 0
TurnIs heard waiting v = was heard v ≡ v
TurnIs heard begun v = (was heard v ≡ v) × (v.started ≡ false)
TurnIs heard (served may) v = Deserved may (was heard v) v × (is_at_rest may v ≡ true)

abbrev pub LastIs : List Item → List Act → Turn → Option View → Type 0
LastIs heard acts turn None = Unit {0}
LastIs heard acts turn (Some v) = Counted heard acts v × TurnIs heard turn v

-- ---- exchanges that ended in the step

-- all rules on the child hold, with room or without, and it is named before the exchange that goes on
pub record LegOver (site : Site) (c : ℕ) (heard : List Item) (acts : List Act) (before : List Item) (e : Exchange) (leg : Leg) : Type 0 where
  pub named : list_any (names_child leg.child) before ≡ true
  pub good : (room : Bool) → ChildGood (run_of site c e leg) room heard acts e.items

abbrev pub LegsOver : Site → ℕ → List Item → List Act → List Item → Exchange → Type 0
LegsOver site c heard acts before e = AllByRecursion (LegOver site c heard acts before e) (legs site c e)

-- ---- the step so far

-- `heard` are the connection's items with the step's event, `acts` those of the step so far; e goes on, and these are over
pub record DealsWith (site : Site) (c : ℕ) (heard : List Item) (acts : List Act) (e : Exchange) (over : List Exchange) (early : Bool) (turn : Turn) (next : ℕ) (ls : List Leg) (run : Option View) : Type 0 where
  pub items : all_of e ≡ heard ++ map Out acts
  pub fresh : (k : ℕ) → next ≤ k → list_any (names_child k) (all_of e) ≡ false
  pub runs : KnowsRuns (Dealt heard acts) site c e early ls run
  pub last : LastIs heard acts turn run
  pub ended : AllByRecursion (LegsOver site c heard acts e.before) over
