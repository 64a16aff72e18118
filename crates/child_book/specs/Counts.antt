-- What a book of children counts.
use Rattle.std.specs.Prelude.{ℕ, ◌+◌, ◌%◌, ◌^◌, ◌<◌, ◌≤◌, ◌≡◌, ◌≢◌}

-- how many children run and may run, and how many tickets were given and spent so far, both modulo 2^64
pub record Counts : Type 0 where
  pub running : ℕ
  pub cap : ℕ
  pub starts : ℕ
  pub reaps : ℕ

abbrev pub counts_of : ℕ → ℕ → ℕ → ℕ → Counts
counts_of running cap starts reaps = record { running = running; cap = cap; starts = starts; reaps = reaps }

-- what was started runs or was reaped, and no more run than may
pub record Balances (book : Counts) : Type 0 where
  pub balance : (book.running + book.reaps) % 2 ^ 64 ≡ book.starts
  pub capped : book.running ≤ book.cap

abbrev pub SameButCap : Counts → Counts → Type 0
SameButCap old new = (new.running ≡ old.running) × (new.starts ≡ old.starts) × (new.reaps ≡ old.reaps)

-- A ticket's number is how many were given before it, modulo 2^64.
abbrev pub TicketsDiffer : Type 0
TicketsDiffer = (before later : ℕ) → before < later → later < before + 2 ^ 64 → before % 2 ^ 64 ≢ later % 2 ^ 64
