-- What is written, and what the characters that are left will be shown as, is the shown text.
use Rattle.std.proofs.Common.{◌≡◌, List, ℕ, ◌++◌, IsUtf8}
use Rattle.std.specs.Fmt.{HasWritten, IsPlainFormatter}
use Rattle.shown_text.specs.Shown.{shown}
use Rattle.shown_text.proofs.shown.ShownDisplay.fmt.Given as goal

abbrev pub invariant-loop-c : goal.invariant-loop-c
invariant-loop-c g l =
    IsUtf8 l.rest.rest.now
    × (IsPlainFormatter l.fn.f
    → (done : List ℕ) × HasWritten g.W.Write.write_str_gives l.fn.f done l.f × (done ++ shown l.rest.rest.now ≡ shown l.fn.self.0.now))
