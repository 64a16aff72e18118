-- Whose an item is, and a run of acts that are of one connection alone.
use Rattle.std.specs.Prelude.{ℕ, suc, zero, Bool, true, false, List, [], ◌∷◌, ◌++◌, ◌==◌, ◌&&◌, ◌||◌, ◌+◌, ◌≡◌, ◌≤◌, if◌then◌else◌}
use Rattle.std.specs.List.{list_any}
use Rattle.host_trace.specs.declared.items.Act.{Act}
use Rattle.host_trace.specs.declared.items.Act.TheVariants.{Start}
use Rattle.host_trace.specs.declared.items.Item.{Item}
use Rattle.host_trace.specs.declared.items.Item.TheVariants.{Out}
use Rattle.host_trace.specs.Kinds.{names, is_accepted, is_tick, is_stop}
use Rattle.host_trace.specs.Projections.{names_one_of, children, start_count}

abbrev pub is_a_start : Item → Bool
is_a_start (Out (Start k c j hop launch)) = true
is_a_start _ = false

-- an item that names neither a connection nor a child
abbrev pub is_common : Item → Bool
is_common x = is_accepted x || is_tick x || is_stop x

-- k is one of these children
abbrev pub has : List ℕ → ℕ → Bool
has ks k = list_any (λ j. j == k) ks

-- x is of connection c alone, whose children so far are `ks`, where the next child has number n
abbrev pub is_of : ℕ → List ℕ → ℕ → Item → Bool
is_of c ks n (Out (Start k d j hop launch)) = c == d && n == k
is_of c ks n x = names c x || names_one_of ks x

-- ---- after an item

-- the children of c
abbrev pub with_child : List ℕ → ℕ → Item → List ℕ
with_child ks c (Out (Start k d j hop launch)) = if c == d then ks ++ k ∷ [] else ks
with_child ks c _ = ks

-- the number of the next child
abbrev pub next_child : ℕ → Item → ℕ
next_child n (Out (Start k d j hop launch)) = n + 1
next_child n _ = n

-- ---- acts

-- they are of connection c alone
abbrev pub are_of : ℕ → List ℕ → ℕ → List Act → Bool
are_of c ks n [] = true
are_of c ks n (a ∷ acts) = is_of c ks n (Out a) && are_of c (with_child ks c (Out a)) (next_child n (Out a)) acts

abbrev pub next_after : ℕ → List Act → ℕ
next_after n [] = n
next_after n (a ∷ acts) = next_after (next_child n (Out a)) acts

abbrev pub kids_after : List ℕ → ℕ → List Act → List ℕ
kids_after ks c [] = ks
kids_after ks c (a ∷ acts) = kids_after (with_child ks c (Out a)) c acts

-- ---- between connections

-- the numbers below n, rising
abbrev pub numbers_below : ℕ → List ℕ
numbers_below zero = []
numbers_below (suc n) = numbers_below n ++ n ∷ []

-- after `front`, each act is of some connection, from `low` on and in rising order up to `high`
abbrev pub Rises : List Item → ℕ → List Act → ℕ → Type 0
Rises front low [] high = low ≤ high
Rises front low (a ∷ acts) high =
    (c : ℕ) × (low ≤ c) × (is_of c (children front c) (start_count front) (Out a) ≡ true) × Rises (front ++ Out a ∷ []) c acts high
