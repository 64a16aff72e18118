-- The fields so far that are handed on are copied.
use Rattle.std.proofs.Common.{◌≡◌, take, filter}
use Rattle.reply_kinds.specs.Kind.{is_handed_on}
use Rattle.reply_kinds.proofs.reply.copy_fields.Given as goal

abbrev pub invariant-loop-field : goal.invariant-loop-field
invariant-loop-field l = l.copy ≡ filter is_handed_on (take l.field-index l.fields)
