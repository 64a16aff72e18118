-- What a book answers to a start. A ticket is seen as its number, a full book as the number of children that ran.
use Rattle.std.specs.Prelude.{ℕ, ◌≡◌, Bool, true, false, ⊤}
use Rattle.child_book.specs.declared.ticket.Admit.{Admit}
use Rattle.child_book.specs.declared.ticket.Admit.TheVariants.{Granted, Full}

-- the book was full
abbrev pub is_full : Admit → Bool
is_full (Granted number) = false
is_full (Full seen) = true

-- how many tickets it gives
abbrev pub granted : Admit → ℕ
granted (Granted number) = 1
granted (Full seen) = 0

-- a ticket that is given has this number
abbrev pub HasNumber : ℕ → Admit → Type 0
HasNumber n (Granted number) = number ≡ n
HasNumber n (Full seen) = ⊤

-- a full book was seen with so many children
abbrev pub HasSeen : ℕ → Admit → Type 0
HasSeen n (Granted number) = ⊤
HasSeen n (Full seen) = seen ≡ n
