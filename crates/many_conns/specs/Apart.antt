-- Which connection has which child, and how a table follows.
use Rattle.std.specs.Prelude.{ℕ, true, List, [], ◌∷◌, ◌≡◌, ◌≤◌, ◌<◌, Option, Some, None, if◌then◌else◌, sum_by}
use Rattle.std.specs.List.{All}
use Rattle.host_base.specs.declared.site.Site.{Site}
use Rattle.child_table.specs.declared.table.Table.{Table}
use Rattle.child_table.specs.Held.{owner_of, table_len}
use Rattle.many_conns.specs.Kind.{Kind}
use Rattle.many_conns.specs.Kept.{is_child, one_if}
use Rattle.many_conns.specs.Lists.{AreRising}

-- the first connection of whose child, as `f` has it, this is the number
abbrev pub owner_by : {C : Type 0} → Kind C → (C → Option ℕ) → List C → ℕ → Option ℕ
owner_by K f [] k = None
owner_by K f (x ∷ xs) k = if is_child (f x) k then Some (K.number_of x) else owner_by K f xs k

-- .. whose unsettled child is k
abbrev pub owner_in : {C : Type 0} → Kind C → List C → ℕ → Option ℕ
owner_in K xs k = owner_by K K.unsettled_child_of xs k

abbrev pub kid_count : {C : Type 0} → Kind C → C → ℕ
kid_count K x = one_if (K.unsettled_child_of x)

-- no two have one child
abbrev pub AreApart : {C : Type 0} → Kind C → List C → Type 0
AreApart K [] = Unit {0}
AreApart K (x ∷ xs) = ((k : ℕ) → is_child (K.last_child_of x) k ≡ true → owner_by K K.last_child_of xs k ≡ None) × AreApart K xs

-- the connections lie by rising number, and the table has exactly their unsettled children, with their owners
pub record AreSound {C : Type 0} (K : Kind C) (site : Site) (xs : List C) (accepted n : ℕ) (table : Table) : Type 0 where
  pub rising : AreRising K xs
  pub known : All (λ x. K.number_of x < accepted) xs
  pub sites : All (λ x. K.site_of x ≡ site) xs
  pub apart : AreApart K xs
  pub below : (k : ℕ) → n ≤ k → owner_by K K.last_child_of xs k ≡ None
  pub owners : (k : ℕ) → owner_of table k ≡ owner_in K xs k
  pub len : table_len table ≡ sum_by (kid_count K) xs
