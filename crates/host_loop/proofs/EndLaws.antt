-- A loop that ran came to its end or used its turns.
use Rattle.std.proofs.Common.{◌≡◌, ℕ, List, Option, true, inl, inr}
use Rattle.host_trace.specs.declared.items.Item.{Item}
use Rattle.host_loop.specs.Loops.{HasEnded, WhereTold, is_ended}
use Rattle.host_loop.specs.Served.{Served}
use Rattle.host_loop.specs.declared.serve.LoopEnd.{LoopEnd}
use Rattle.host_loop.specs.declared.serve.LoopEnd.TheVariants.{Done, Spent, NoMemory}

pub has_ended : (turns : ℕ) (end : LoopEnd) (told : Option (List Item)) → is_ended end ≡ true → WhereTold (Served turns end) told → WhereTold (HasEnded turns) told
has_ended turns Done told ran served = λ T is. inl (served T is)
has_ended turns Spent told ran served = λ T is. inr (served T is)
has_ended turns NoMemory told ran served = absurd (cc)
