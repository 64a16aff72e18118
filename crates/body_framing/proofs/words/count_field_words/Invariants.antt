-- The words counted so far and those of the lines that are left are those of the field.
use Rattle.std.proofs.Common.{◌≡◌, ◌+◌, ◌≤◌, length, min, drop}
use Rattle.host_base.specs.FieldLists.{field_words}
use Rattle.body_framing.proofs.words.count_field_words.Given as goal

abbrev pub invariant-loop-field : goal.invariant-loop-field
invariant-loop-field l =
    (l.count ≤ 2) × (min 2 (l.count + length (field_words l.name (drop l.field-index l.fields))) ≡ min 2 (length (field_words l.name l.fields)))
