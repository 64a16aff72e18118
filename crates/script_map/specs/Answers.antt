-- How a call's result stands to the answer that a definition gives.
use Rattle.std.specs.Prelude.{◌≡◌, Result, Ok, Err, ⊤}
use Rattle.host_base.specs.declared.cause.Cause.{Cause}
use Rattle.host_base.specs.declared.memory.Refusal.{Refusal}
use Rattle.host_base.specs.declared.memory.Refusal.TheVariants as Refused

-- the result is the answer, or no memory was found
abbrev pub IsAnswer : {A : Type 0} → Result A Cause → Result A Refusal → Type 0
IsAnswer answer (Ok value) = answer ≡ Ok value
IsAnswer answer (Err (Refused.Cause cause)) = answer ≡ Err cause
IsAnswer answer (Err Refused.NoMemory) = ⊤
