-- What the loops of a world give back to it.
use Rattle.std.specs.Prelude.{ℕ, List, [], ◌++◌, ◌≡◌, Option, Some, length}
use Rattle.std.specs.List.{AllByRecursion}
use Rattle.host_trace.specs.declared.items.Item.{Item}
use Rattle.host_loop.specs.Loops.{HasEnded, IsAny}
use Rattle.host_loop.specs.Served.{Served}
use Rattle.host_loop.specs.declared.serve.LoopEnd.{LoopEnd}
use Rattle.host_loop.specs.declared.serve.LoopEnd.TheVariants.{Done, Spent, NoMemory}
use Rattle.host_loop.specs.declared.world.WorldEnd.{WorldEnd}
use Rattle.host_loop.specs.declared.world.WorldEnd.TheVariants.{Refused, Unentered, Ended}

-- every loop came to its end; some loop used its turns, and each of the others did or came to its end; nothing was heard
abbrev pub AreEnded : ℕ → LoopEnd → List (List Item) → Type 0
AreEnded turns Done Ts = AllByRecursion (Served turns Done) Ts
AreEnded turns Spent Ts = IsAny (Served turns Spent) Ts × AllByRecursion (HasEnded turns) Ts
AreEnded turns NoMemory Ts = AllByRecursion (λ T. T ≡ []) Ts

-- one trace for each loop was given back in this call, of each of which this is so
pub record GaveLoops (Promise : List Item → Type 0) (turns loops : ℕ) (end : LoopEnd) (before : Option (List (List Item))) (now : List (List Item)) : Type 0 where
  pub was : List (List Item)
  pub added : List (List Item)
  pub told : before ≡ Some was
  pub grew : now ≡ was ++ added
  pub count : length added ≡ loops
  pub good : AllByRecursion Promise added
  pub ended : AreEnded turns end added

abbrev pub GivesLoops : (List Item → Type 0) → ℕ → ℕ → WorldEnd → Option (List (List Item)) → Option (List (List Item)) → Type 0
GivesLoops Promise turns loops (Ended end) before after = (now : List (List Item)) → after ≡ Some now → GaveLoops Promise turns loops end before now
GivesLoops Promise turns loops Refused before after = after ≡ before
GivesLoops Promise turns loops Unentered before after = after ≡ before
