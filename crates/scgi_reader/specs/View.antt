-- What is known of a request that is heard piece by piece.
use Rattle.std.specs.Prelude.{ℕ, List, [], Option, Some, None, ◌≡◌, ◌≤◌, length}
use Rattle.host_base.specs.declared.limits.Limits.{Limits}
use Rattle.scgi_reader.specs.declared.head.WholeHead.{WholeHead}
use Rattle.scgi_reader.specs.declared.head.Head.{Head}
use Rattle.scgi_reader.specs.declared.head.Head.TheVariants.{Whole, More, Bad}
use Rattle.scgi_reader.specs.Scgi.{head_of}

-- the limits that it is read by, and the bytes so far
pub record View : Type 0 where
  pub limits : Limits
  pub bytes : List ℕ

abbrev pub unheard : Limits → View
unheard limits = record { limits = limits; bytes = [] }

-- the head that was read, if it was, is that of the bytes
abbrev pub IsRead : Limits → List ℕ → Option WholeHead → Type 0
IsRead limits bytes None = Unit {0}
IsRead limits bytes (Some head) = head_of limits bytes ≡ Whole head

-- a whole head has no more bytes than were heard
abbrev pub IsWithin : List ℕ → Head → Type 0
IsWithin bytes More = Unit {0}
IsWithin bytes (Bad cause) = Unit {0}
IsWithin bytes (Whole head) = head.used ≤ length bytes
