-- The first item of a list such that something holds of it.
use Rattle.std.specs.Prelude.{Bool, List, [], ◌∷◌, ◌++◌, Option, Some, None, if◌then◌else◌}

-- what comes after the first item that passes
abbrev pub since : {X : Type 0} → (X → Bool) → List X → List X
since test [] = []
since test (x ∷ items) = if test x then items else since test items

-- the first item that passes
abbrev pub first : {X : Type 0} → (X → Bool) → List X → Option X
first test [] = None
first test (x ∷ items) = if test x then Some x else first test items

-- the front that ends with the first item that passes, where the test looks at what stands before the item too
abbrev pub first_front_from : {X : Type 0} → (List X → X → Bool) → List X → List X → Option (List X)
first_front_from test before [] = None
first_front_from test before (x ∷ items) =
    if test before x then Some (before ++ x ∷ []) else first_front_from test (before ++ x ∷ []) items

abbrev pub first_front : {X : Type 0} → (List X → X → Bool) → List X → Option (List X)
first_front test items = first_front_from test [] items

-- the last item
abbrev pub last_of : {X : Type 0} → List X → Option X
last_of [] = None
last_of (x ∷ []) = Some x
last_of (x ∷ y ∷ items) = last_of (y ∷ items)

-- the first of two, where there is one
abbrev pub or_else : {X : Type 0} → Option X → Option X → Option X
or_else (Some x) other = Some x
or_else None other = other
