use Rattle.std.proofs.Common.{◌≡◌, ◌-◌, ◌^◌, min, length, flat_map, take}
use Rattle.reply_writer.specs.Spelling.{field_line}
use Rattle.reply_writer.proofs.text.fields_len.Given as goal

-- the field lines so far
abbrev pub invariant-loop-field : goal.invariant-loop-field
invariant-loop-field l = l.len ≡ min (length (flat_map field_line (take l.field-index l.fields))) (2 ^ 64 - 1)
