-- The digits that are left make the number of all.
use Rattle.std.proofs.Common.{◌≡◌, ◌<◌, ◌^◌, drop}
use Rattle.std.specs.List.{fold}
use Rattle.body_framing.specs.Framing.{number_of, with_decimal}
use Rattle.body_framing.proofs.lengths.number_of.Given as goal

abbrev pub invariant-loop-byte : goal.invariant-loop-byte
invariant-loop-byte l = (fold with_decimal l.number (drop l.byte-index l.digits) ≡ number_of l.digits) × (l.number < 2 ^ 64)
