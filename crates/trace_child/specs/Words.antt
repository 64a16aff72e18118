-- Small words that the rules are said in.
use Rattle.std.specs.Prelude.{ℕ, Bool, true, false, ◌&&◌, List, [], ◌∷◌, ◌++◌, count_by, if◌then◌else◌}
use Rattle.host_trace.specs.declared.items.Act.{Act}
use Rattle.host_trace.specs.declared.items.Item.{Item}
use Rattle.host_trace.specs.declared.items.Item.TheVariants.{Out}

-- where the first holds, so does the second
abbrev pub implies : Bool → Bool → Bool
implies true second = second
implies false second = true

-- something stands in a list
abbrev pub is_filled : {X : Type 0} → List X → Bool
is_filled [] = false
is_filled (x ∷ items) = true

-- the items before the first that passes, or all
abbrev pub until : {X : Type 0} → (X → Bool) → List X → List X
until test [] = []
until test (x ∷ items) = if test x then [] else x ∷ until test items

-- each item passes, where the test looks at what stands before it too
abbrev pub each_from : {X : Type 0} → (List X → X → Bool) → List X → List X → Bool
each_from test before [] = true
each_from test before (x ∷ items) = test before x && each_from test (before ++ x ∷ []) items

abbrev pub each : {X : Type 0} → (List X → X → Bool) → List X → Bool
each test items = each_from test [] items

-- how many of these acts are of a kind
abbrev pub given : (Item → Bool) → List Act → ℕ
given test acts = count_by (λ act. test (Out act)) acts

-- one where it is so, else none
abbrev pub once : Bool → ℕ
once so = if so then 1 else 0
