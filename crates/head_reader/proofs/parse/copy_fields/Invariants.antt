use Rattle.std.proofs.Common.{◌≡◌, map, take}
use Rattle.head_reader.specs.HeadSpans.{field_at}
use Rattle.head_reader.proofs.parse.copy_fields.Given as goal

abbrev pub invariant-loop-span : goal.invariant-loop-span
invariant-loop-span l = l.fields ≡ map (field_at l.bytes) (take l.span-index l.spans)
