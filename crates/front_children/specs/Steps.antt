-- A step of a connection whose child is known, over the items of any list.
use Rattle.std.specs.Prelude.{ℕ, Bool, false, List, [], ◌∷◌, ◌++◌, ◌≡◌, map}
use Rattle.std.specs.List.{AllByRecursion}
use Rattle.host_base.specs.declared.launch.Launch.{Launch}
use Rattle.host_trace.specs.declared.items.Act.{Act}
use Rattle.host_trace.specs.declared.items.Act.TheVariants.{Start}
use Rattle.host_trace.specs.declared.items.Item.{Item}
use Rattle.host_trace.specs.declared.items.Item.TheVariants.{In, Out}
use Rattle.host_trace.specs.declared.items.Event.TheVariants.{WsBinary}
use Rattle.host_trace.specs.Decider.{is_websocket}
use Rattle.child_core.specs.declared.ending.Ending.TheVariants.{Refused}
use Rattle.child_core.specs.Calls.{ended}
use Rattle.trace_child.specs.ChildGood.{ChildGood}
use Rattle.child_core.specs.View.{View}
use Rattle.child_core.specs.Due.{acting, acted}
use Rattle.child_core.specs.Setting.{Setting, run_in}
use Rattle.child_core.specs.Knows.{KnowsRun}
use Rattle.child_core.specs.Laws.{IsStill}
use Rattle.child_core.specs.Tells.{concerns}

-- acts that don't name the child, and don't end its connection for want of memory
abbrev pub AreApart : ℕ → ℕ → List Act → Type 0
AreApart c k acts = AllByRecursion (λ act. concerns c k (Out act) ≡ false) acts

-- `H` are the items with the step's event. The acts that are due for the child are given, and others before and after them.
pub record IsGoodStep (s : Setting) (may : Bool) (v : View) (H : List Item) (acts : List Act) : Type 0 where
  pub good : ChildGood (run_in s (acted may v)) may H acts (H ++ map Out acts)
  pub knows : KnowsRun false s (acted may v) (H ++ map Out acts)

abbrev pub StepsAreGood : Type 0
StepsAreGood = (s : Setting) → IsStill s → (may : Bool) (v : View) (H : List Item) (before after : List Act) → KnowsRun false s v H
    → AreApart s.conn v.number before → AreApart s.conn v.number after → IsGoodStep s may v H (before ++ (acting may v ++ after))

-- The child is started in the step: nothing of it stood before, and nothing else is done with it.
abbrev pub StartsAreGood : Type 0
StartsAreGood = (s : Setting) → IsStill s → (may : Bool) (v : View) (H : List Item) (before after : List Act) (c j hop : ℕ) (launch : Launch)
    → KnowsRun false s v (H ++ map Out (before ++ Start v.number c j hop launch ∷ [])) → v.started ≡ false
    → AreApart s.conn v.number before → AreApart s.conn v.number after
    → ChildGood (run_in s v) may H (before ++ (Start v.number c j hop launch ∷ after)) (H ++ map Out (before ++ (Start v.number c j hop launch ∷ after)))

-- A run that is ended by its client sees what ends a talk: it is decided with no answer, and what lingers lingers on.
abbrev pub AbortsAreKnown : Type 0
AbortsAreKnown = (s : Setting) (v : View) (L : List Item) → is_websocket v.kind ≡ false → s.offered (L ++ In (WsBinary s.conn) ∷ []) ≡ s.offered L
    → KnowsRun false s v L → KnowsRun false s (ended v Refused) (L ++ In (WsBinary s.conn) ∷ [])
