use Rattle.std.proofs.Common.{◌≡◌, ◌++◌, take}
use Rattle.std.specs.Prelude.{encode_utf8, string_bytes}
use Rattle.std.specs.List.{flat_map}
use Rattle.meta_variables.proofs.text.push_latin1.Given as goal

abbrev pub invariant-loop-byte : goal.invariant-loop-byte
invariant-loop-byte l = string_bytes l.text ≡ string_bytes l.initial.text ++ flat_map encode_utf8 (take l.byte-index l.bytes)
