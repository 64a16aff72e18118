use Rattle.std.proofs.Common.{◌≡◌, ◌++◌, flat_map, take}
use Rattle.reply_writer.specs.Spelling.{field_line}
use Rattle.reply_writer.proofs.text.push_fields.Given as goal

-- the field lines so far follow what was there
abbrev pub invariant-loop-field : goal.invariant-loop-field
invariant-loop-field l = l.text ≡ l.initial.text ++ flat_map field_line (take l.field-index l.fields)
