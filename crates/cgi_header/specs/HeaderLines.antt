-- The first line of a text, and how a call's result stands to a cause.
use Rattle.std.specs.Prelude.{◌≡◌, ℕ, List, ◌++◌, Option, Some, None, Result, Ok, Err, ⊤}
use Rattle.host_base.specs.declared.cause.Cause.{Cause}
use Rattle.host_base.specs.declared.memory.Refusal.{Refusal}
use Rattle.host_base.specs.declared.memory.Refusal.TheVariants as Refused
use Rattle.head_lines.specs.Lines.{HasNoLf, with_lf, without_cr}

-- the text is a line, which without its end is this one, and then the rest
pub record IsCutLine (text line rest : List ℕ) : Type 0 where
  pub part : List ℕ
  pub whole : text ≡ with_lf part ++ rest
  pub no_lf : HasNoLf part
  pub is : without_cr part ≡ line

-- the refusal is for the cause, or no memory was found
abbrev pub IsRefusal : Option Cause → Refusal → Type 0
IsRefusal fault (Refused.Cause cause) = fault ≡ Some cause
IsRefusal fault Refused.NoMemory = ⊤

-- where there is no cause the result is Ok with this fact, else it is refused for it
abbrev pub Answers : {A : Type 0} → Option Cause → (A → Type 0) → Result A Refusal → Type 0
Answers fault P (Ok value) = (fault ≡ None) × P value
Answers fault P (Err refusal) = IsRefusal fault refusal
