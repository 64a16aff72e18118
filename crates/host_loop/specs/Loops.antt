-- One loop of several: what it begins with, and what is so of its trace where that is told.
use Rattle.std.specs.Prelude.{ℕ, List, [], ◌∷◌, ◌≡◌, ◌⊎◌, Option, Some, Bool, true, false}
use Rattle.host_base.specs.declared.site.Site.{Site}
use Rattle.host_trace.specs.declared.items.Item.{Item}
use Rattle.many_conns.specs.declared.connection.Connection.{Ghosts}
use Rattle.host_core.specs.declared.core_state.Core.{Core}
use Rattle.host_core.specs.Owners.{Sound, served}
use Rattle.host_core.specs.Stands.{Stands}
use Rattle.host_loop.specs.Served.{Served}
use Rattle.host_loop.specs.declared.serve.LoopEnd.{LoopEnd}
use Rattle.host_loop.specs.declared.serve.LoopEnd.TheVariants.{Done, Spent, NoMemory}

-- a core of the site that has heard nothing
pub record HasHeardNothing {C : Type 0} {G : Ghosts C} (site : Site) (core : Core C G) : Type 0 where
  pub stands : Stands core []
  pub sound : Sound core
  pub site_is : served core ≡ site
  pub accepted : core.accepted ≡ 0

-- nothing was heard or done
abbrev pub IsFresh : Option (List Item) → Type 0
IsFresh told = (T : List Item) → told ≡ Some T → T ≡ []

-- where it is told, this is so of it
abbrev pub WhereTold : (List Item → Type 0) → Option (List Item) → Type 0
WhereTold P told = (T : List Item) → told ≡ Some T → P T

-- where it tells now, it told before
abbrev pub WasTold : Option (List Item) → Option (List Item) → Type 0
WasTold before after = (T : List Item) → after ≡ Some T → (U : List Item) × (before ≡ Some U)

-- its loop came to its end, or used its turns
abbrev pub HasEnded : ℕ → List Item → Type 0
HasEnded turns T = Served turns Done T ⊎ Served turns Spent T

-- this is promised of the trace, and its loop ended so
pub record WasServed (Promise : List Item → Type 0) (turns : ℕ) (end : LoopEnd) (told : Option (List Item)) : Type 0 where
  pub good : WhereTold Promise told
  pub served : WhereTold (Served turns end) told

-- the loop ran
abbrev pub is_ended : LoopEnd → Bool
is_ended Done = true
is_ended Spent = true
is_ended NoMemory = false

-- P holds of some element
abbrev pub IsAny : {X : Type 0} → (X → Type 0) → List X → Type 0
IsAny P [] = ⊥
IsAny P (x ∷ xs) = P x ⊎ IsAny P xs
