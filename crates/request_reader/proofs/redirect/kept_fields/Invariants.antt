-- The field lines that are kept of those so far.
use Rattle.std.proofs.Common.{◌≡◌, filter, take}
use Rattle.request_reader.specs.Request.{is_kept}
use Rattle.request_reader.proofs.redirect.kept_fields.Given as goal

abbrev pub invariant-loop-field : goal.invariant-loop-field
invariant-loop-field l = l.kept ≡ filter is_kept (take l.field-index l.fields)
