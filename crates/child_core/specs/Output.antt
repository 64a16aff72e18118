-- What a run holds of its child's output.
use Rattle.std.specs.Prelude.{ℕ, Bool, true, false, not, ◌||◌, List, [], ◌∷◌, ◌++◌, ◌≡◌, map}
use Rattle.std.specs.List.{list_any}
use Rattle.host_base.specs.declared.launch.Launch.{Launch}
use Rattle.host_base.specs.declared.site.ScriptKind.{ScriptKind}
use Rattle.host_trace.specs.declared.items.Act.{Act}
use Rattle.host_trace.specs.declared.items.Act.TheVariants.{Start}
use Rattle.host_trace.specs.declared.items.Item.{Item}
use Rattle.host_trace.specs.declared.items.Item.TheVariants.{Out}
use Rattle.host_trace.specs.Kinds.{names_child}
use Rattle.host_trace.specs.Projections.{child_out}
use Rattle.child_core.specs.declared.ending.Ending.{Ending}
use Rattle.child_core.specs.View.{View, Note, noted, is_output, drops_output}
use Rattle.child_core.specs.Calls.{ended, drained}
use Rattle.child_core.specs.Setting.{Setting}
use Rattle.child_core.specs.Walk.{walked}
use Rattle.child_core.specs.Laws.{just_begun}

-- `handed` was drained of it, and the rest is kept, where there was room (`lost`: there was none for a piece) and the
-- output is still of use
pub record HoldsOutput (lost : Bool) (v : View) (handed : List ℕ) (L : List Item) : Type 0 where
  pub rest : List ℕ
  pub front : handed ++ rest ≡ child_out L v.number
  pub kept : lost ≡ false → drops_output v.kind v.outcome ≡ false → v.output ≡ rest
  pub dropped : drops_output v.kind v.outcome ≡ true → v.output ≡ []

abbrev pub StartsHold : Type 0
StartsHold = (s : Setting) (k : ℕ) (kind : ScriptKind) (body : List ℕ) (whole : Bool) (d j hop : ℕ) (launch : Launch) (L : List Item)
    → list_any (names_child k) L ≡ false
    → HoldsOutput false (just_begun s k kind body whole) [] (L ++ Out (Start k d j hop launch) ∷ [])

abbrev pub ItemsHold : Type 0
ItemsHold = (lost : Bool) (c : ℕ) (v : View) (handed : List ℕ) (L : List Item) (n : Note) (x : Item) → HoldsOutput lost v handed L
    → HoldsOutput (lost || not n.found) (noted c v n x) handed (L ++ x ∷ [])

abbrev pub ActsHold : Type 0
ActsHold = (lost : Bool) (s : Setting) (v : View) (handed : List ℕ) (L : List Item) (acts : List Act) → HoldsOutput lost v handed L
    → HoldsOutput lost (walked s v acts) handed (L ++ map Out acts)

abbrev pub DrainsHold : Type 0
DrainsHold = (v : View) (handed : List ℕ) (L : List Item) → HoldsOutput false v handed L → HoldsOutput false (drained v) (handed ++ v.output) L

-- Once its connection ends it nothing that was lost is missed, unless the end of its output decided it.
abbrev pub EndsHold : Type 0
EndsHold = (lost : Bool) (v : View) (handed : List ℕ) (L : List Item) (ending : Ending) → (lost ≡ true → is_output v.outcome ≡ false)
    → HoldsOutput lost v handed L → HoldsOutput false (ended v ending) handed L

abbrev pub HoldsBehind : Type 0
HoldsBehind = (lost : Bool) (v : View) (handed : List ℕ) (before L : List Item) → list_any (names_child v.number) before ≡ false
    → HoldsOutput lost v handed L → HoldsOutput lost v handed (before ++ L)

-- What was drained and what is kept are the whole output.
abbrev pub OutputIsWhole : Type 0
OutputIsWhole = (v : View) (handed : List ℕ) (L : List Item) → HoldsOutput false v handed L → drops_output v.kind v.outcome ≡ false
    → handed ++ v.output ≡ child_out L v.number
