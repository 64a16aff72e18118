use Rattle.std.proofs.Common.{◌≡◌, ◌++◌, flat_map, take}
use Rattle.log_line.specs.Line.{shown_byte}
use Rattle.log_line.proofs.line.push_shown.Given as goal

-- the bytes so far follow what was there
abbrev pub invariant-loop-byte : goal.invariant-loop-byte
invariant-loop-byte l = l.line ≡ l.initial.line ++ flat_map shown_byte (take l.byte-index l.text)
