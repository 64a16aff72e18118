use Rattle.std.proofs.Common.{◌≡◌, take}
use Rattle.std.specs.Prelude.{string_bytes}
use Rattle.host_base.specs.FieldLists.{values_named}
use Rattle.meta_variables.specs.Variables.{joined_values}
use Rattle.meta_variables.proofs.text.joined_values.Given as goal

abbrev pub invariant-loop-field : goal.invariant-loop-field
invariant-loop-field l = string_bytes l.text ≡ joined_values l.separator (values_named l.name (take l.field-index l.fields))
